-- The line of an event in words: its number, the call with what came of it, and the note in brackets.
use Rattle.std.specs.Prelude.{ℕ, List, [], ◌∷◌, ◌++◌, codes, decimal, Some, None, Ok, Err, Option, Result}
use Rattle.answer.specs.Names.{refusal_message}
use Rattle.answer.specs.declared.fault.Fault.{Fault}
use Rattle.answer.specs.declared.refusal.Refusal.{Refusal}
use Rattle.answer.specs.declared.turn.Answer.{Answer}
use Rattle.answer.specs.declared.turn.Answer.TheVariants.{Done, Turn as Turned}
use Rattle.answer.specs.declared.turn.Kind.{Kind}
use Rattle.answer.specs.declared.turn.Kind.TheVariants.{Normal, Credit, Kept, Extra, Idle}
use Rattle.answer.specs.declared.turn.Sent.{Sent}
use Rattle.answer.specs.declared.turn.Turn.{Turn}
use Rattle.record.specs.Layout.{Contents}
use Rattle.record.specs.declared.letter.Letter.{Letter}
use Rattle.record.specs.declared.letter.Letter.TheVariants.{O, C, A, G, B, T}

-- ---- a call

abbrev pub placed : ℕ → List ℕ → List ℕ
placed place words = codes "place " ++ (decimal place ++ words)

abbrev pub opening_words : ℕ → ℕ → List ℕ
opening_words place rate = placed place (codes ": open at rate " ++ decimal rate)

abbrev pub arrival_words : ℕ → ℕ → ℕ → List ℕ
arrival_words place bytes tag =
    placed place (codes ": a frame of " ++ (decimal bytes ++ (codes " bytes, tag " ++ decimal tag)))

abbrev pub call_words : Letter → Contents → List ℕ
call_words O c = opening_words c.place c.value
call_words C c = placed c.place (codes ": close")
call_words A c = arrival_words c.place c.length c.value
call_words G c = placed c.place (codes ": its channel is good")
call_words B c = placed c.place (codes ": its channel is bad")
call_words T c = codes "a turn"

-- ---- what came of it

abbrev pub kind_words : Kind → List ℕ
kind_words Normal = codes " in its own turn (n)"
kind_words Credit = codes " in another's turn, paid back (c)"
kind_words Kept = codes " in its own turn, which it keeps (k)"
kind_words Extra = codes " in another's turn (x)"
kind_words Idle = codes " (i)"

abbrev pub sent_words : Option Sent → ℕ → List ℕ
sent_words None bytes = codes "nobody sent for " ++ (decimal bytes ++ codes " bytes")
sent_words (Some s) bytes =
    codes "place " ++ (decimal s.sender ++ (codes " sent " ++ (decimal bytes ++ (codes " bytes of tag " ++ decimal s.tag))))

abbrev pub turn_words : Turn → List ℕ
turn_words t = placed t.chosen (codes ": turn: " ++ (sent_words t.sent t.length ++ kind_words t.kind))

abbrev pub told_words : Contents → Result Answer Refusal → List ℕ
told_words c (Ok (Turned t)) = turn_words t
told_words c (Ok Done) = call_words c.letter c ++ codes ": ok"
told_words c (Err why) = call_words c.letter c ++ (codes ": " ++ refusal_message why)

-- ---- the lines

abbrev pub note_words : List ℕ → List ℕ
note_words note = codes " [" ++ (note ++ codes "]\n")

abbrev pub event_words : ℕ → Contents → Result Answer Refusal → List ℕ
event_words number c r = decimal number ++ (codes " " ++ (told_words c r ++ note_words c.note))

abbrev pub fault_words : Fault → List ℕ
fault_words f =
    decimal f.«record» ++ (codes " no event: " ++ (refusal_message f.refusal
    ++ (codes ", byte " ++ (decimal f.byte ++ 10 ∷ []))))
