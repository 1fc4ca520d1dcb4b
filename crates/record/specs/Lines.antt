-- The line that tells of a record: its number, its letter, the result and the note, with single spaces, and a newline last.
-- Where no event was read, `?` stands for the letter, and there is no note.
use Rattle.std.specs.Prelude.{ℕ, if◌then◌else◌, List, [], ◌∷◌, ◌++◌, length, take, Some, None, Ok, Err, codes, decimal, Option, Result, nat_lt}
use Rattle.answer.specs.Names.{code, kind_byte}
use Rattle.answer.specs.Numbers.{number_of}
use Rattle.answer.specs.declared.refusal.Refusal.{Refusal}
use Rattle.answer.specs.declared.refusal.Refusal.TheVariants.{BufferTooShort}
use Rattle.answer.specs.declared.turn.Answer.{Answer}
use Rattle.answer.specs.declared.turn.Answer.TheVariants.{Done, Turn as Given}
use Rattle.answer.specs.declared.turn.Sent.{Sent}
use Rattle.answer.specs.declared.turn.Turn.{Turn}
use Rattle.record.specs.declared.layout.TheConstants.{LINE, NOTE_LENGTH}
use Rattle.record.specs.Letters.{byte_of}
use Rattle.record.specs.Layout.{Contents}

-- the sender and the tag, or that there is none
abbrev pub sent_text : Option Sent → List ℕ
sent_text None = codes "-/-"
sent_text (Some s) = decimal s.sender ++ (codes "/" ++ decimal s.tag)

-- chosen/sender/tag/length/kind
abbrev pub turn_text : Turn → List ℕ
turn_text t =
    decimal t.chosen ++ (codes "/" ++ (sent_text t.sent ++ (codes "/"
    ++ (decimal t.length ++ (codes "/" ++ (kind_byte t.kind ∷ []))))))

abbrev pub refusal_text : Refusal → List ℕ
refusal_text why = codes "E" ++ decimal (number_of why)

abbrev pub result_text : Result Answer Refusal → List ℕ
result_text (Ok Done) = codes "ok"
result_text (Ok (Given t)) = turn_text t
result_text (Err why) = refusal_text why

abbrev pub newline : List ℕ
newline = 10 ∷ []

-- number, letter and result
abbrev pub head_text : ℕ → ℕ → Result Answer Refusal → List ℕ
head_text number letter result = decimal number ++ (codes " " ++ (letter ∷ (codes " " ++ result_text result)))

-- of a note that is longer than eight bytes, the first eight
abbrev pub line_text : ℕ → Contents → Result Answer Refusal → List ℕ
line_text number c result = head_text number (byte_of c.letter) result ++ (codes " " ++ (take NOTE_LENGTH c.note ++ newline))

abbrev pub fault_text : ℕ → Refusal → List ℕ
fault_text number why = head_text number (code "?") (Err why) ++ newline

-- what a call for a line answers: its length, if there is room for the longest
abbrev pub lining : List ℕ → List ℕ → Result ℕ Refusal
lining text out = if nat_lt (length out) LINE then Err BufferTooShort else Ok (length text)
