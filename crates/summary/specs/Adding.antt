-- What a cell's turns add up to.
use Rattle.std.specs.Prelude.{ℕ, Some, None, Ok, Err, Option, Result}
use Rattle.answer.specs.declared.refusal.Refusal.{Refusal}
use Rattle.answer.specs.declared.turn.Answer.{Answer}
use Rattle.answer.specs.declared.turn.Answer.TheVariants.{Done, Turn as Turned}
use Rattle.answer.specs.declared.turn.Kind.{Kind}
use Rattle.answer.specs.declared.turn.Kind.TheVariants.{Normal, Credit, Kept, Extra, Idle}
use Rattle.answer.specs.declared.turn.Sent.{Sent}
use Rattle.answer.specs.declared.turn.Turn.{Turn}
use Rattle.summary.specs.Counting.{plus}
use Rattle.summary.specs.declared.turns.Turns.{Turns}

abbrev pub none : Turns
none = record { normal = 0; credit = 0; kept = 0; extra = 0; idle = 0; bytes = 0 }

abbrev pub one_more : Kind → Turns → Turns
one_more Normal t = record t { normal = plus t.normal 1 }
one_more Credit t = record t { credit = plus t.credit 1 }
one_more Kept t = record t { kept = plus t.kept 1 }
one_more Extra t = record t { extra = plus t.extra 1 }
one_more Idle t = record t { idle = plus t.idle 1 }

-- bytes that somebody sent
abbrev pub with_bytes : Option Sent → ℕ → Turns → Turns
with_bytes None bytes t = t
with_bytes (Some s) bytes t = record t { bytes = plus t.bytes bytes }

abbrev pub turns_after : Result Answer Refusal → Turns → Turns
turns_after (Ok (Turned turn)) t = with_bytes turn.sent turn.length (one_more turn.kind t)
turns_after (Ok Done) t = t
turns_after (Err why) t = t
