-- What stands in an out-struct after a call: the answer, or after a refusal what stood there
-- before.
use Rattle.std.specs.Prelude.{ℕ, Some, None, Ok, Err, Option, Result}
use Rattle.answer.specs.Names.{kind_byte}
use Rattle.answer.specs.declared.refusal.Refusal.{Refusal}
use Rattle.answer.specs.declared.turn.Answer.{Answer}
use Rattle.answer.specs.declared.turn.Answer.TheVariants.{Done, Turn as Turned}
use Rattle.answer.specs.declared.turn.Sent.{Sent}
use Rattle.answer.specs.declared.turn.Turn.{Turn}
use Rattle.cell.specs.declared.questions.Standing.{Standing}
use Rattle.model.specs.Session.{Frame}
use Rattle.base_unit.specs.Numbers.{flag}
use Rattle.base_unit.specs.declared.outs.FrameOut.{FrameOut}
use Rattle.base_unit.specs.declared.outs.StandingOut.{StandingOut}
use Rattle.base_unit.specs.declared.outs.TurnOut.{TurnOut}

abbrev pub left : {X Y : Type 0} → (X → Y) → Result X Refusal → Y → Y
left out (Ok x) before = out x
left out (Err why) before = before

-- without a sender, sender and tag are 0
abbrev pub sent_out : Turn → Option Sent → TurnOut
sent_out t None = record {
  tag = 0;
  length = t.length;
  chosen = t.chosen;
  sent = 0;
  sender = 0;
  kind = kind_byte t.kind;
}
sent_out t (Some s) = record {
  tag = s.tag;
  length = t.length;
  chosen = t.chosen;
  sent = 1;
  sender = s.sender;
  kind = kind_byte t.kind;
}

abbrev pub turn_out : Turn → TurnOut
turn_out t = sent_out t t.sent

abbrev pub turn_left : Result Answer Refusal → TurnOut → TurnOut
turn_left (Ok Done) before = before
turn_left (Ok (Turned t)) before = turn_out t
turn_left (Err why) before = before

abbrev pub standing_out : Standing → StandingOut
standing_out s = record {
  virtual_time = s.virtual_time;
  lag = s.lag;
  allowance = s.allowance;
  waiting = s.waiting;
  rate = s.rate;
  price = s.price;
  good = flag s.good;
  active = flag s.active;
}

abbrev pub standing_left : Result Standing Refusal → StandingOut → StandingOut
standing_left = left standing_out

abbrev pub frame_out : Option Frame → FrameOut
frame_out None = record { tag = 0; length = 0; there = 0 }
frame_out (Some f) = record { tag = f.tag; length = f.length; there = 1 }

abbrev pub frame_left : Result (Option Frame) Refusal → FrameOut → FrameOut
frame_left = left frame_out
