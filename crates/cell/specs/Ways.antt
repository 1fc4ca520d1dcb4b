-- How a turn goes, as the code says it and as the definition does.
use Rattle.std.specs.Prelude.{ℕ, Some, None, Option}
use Rattle.answer.specs.declared.turn.Kind.{Kind}
use Rattle.answer.specs.declared.turn.Turn.{Turn}
use Rattle.model.specs.Limits.{idle_length}
use Rattle.model.specs.Lists.{Credit, Extra}
use Rattle.model.specs.Session.{Frame}
use Rattle.model.specs.Turn.{Way as TheWay, by_right, by_allowance, by_credit, unclaimed, by_extra}
use Rattle.model.specs.Turn.{idle}
use Rattle.cell.specs.declared.decide.Way.{Way}
use Rattle.cell.specs.declared.decide.Way.TheVariants.{ByRight, ByAllowance, HandedOn, Unclaimed}
use Rattle.cell.specs.declared.decide.Way.TheVariants.{Idle}

abbrev pub way_as : Way → TheWay
way_as ByRight = by_right
way_as ByAllowance = by_allowance
way_as (HandedOn Credit q) = by_credit q.number
way_as (HandedOn Extra q) = by_extra q.number
way_as Unclaimed = unclaimed
way_as Idle = idle

-- the place that a turn is handed on to
abbrev pub handed_to : TheWay → Option ℕ
handed_to by_right = None
handed_to by_allowance = None
handed_to (by_credit q) = Some q
handed_to unclaimed = None
handed_to (by_extra q) = Some q
handed_to idle = None

-- what is answered of the turn of place c in which the one at q sends a frame
abbrev pub turn_with : ℕ → ℕ → Frame → Kind → Turn
turn_with c q f k = record {
  chosen = c;
  sent = Some (record { sender = q; tag = f.tag });
  length = f.length;
  kind = k;
}

-- and of one in which nobody sends
abbrev pub idle_turn : ℕ → Turn
idle_turn c = record { chosen = c; sent = None; length = idle_length; kind = Kind.Idle }
