-- Which text is which command.
use Rattle.std.specs.Prelude.{ℕ, ◌^◌, Bool, true, nat_lt, ◌==◌, if◌then◌else◌, List, [], ◌∷◌, length, codes, Some, None, Ok, Err, Option, Result}
use Rattle.std.specs.Str.{bytes_eq}
use Rattle.answer.specs.Names.{code}
use Rattle.chooser.specs.declared.entry.ListKind.{ListKind}
use Rattle.chooser.specs.declared.entry.ListKind.TheVariants.{Credit, Extra}
use Rattle.record.specs.declared.call.Call.TheVariants.{Open, Close, Arrive, Good, Bad, Turn}
use Rattle.console.specs.Words.{Words, number, word, words_in}
use Rattle.console.specs.declared.command.Command.{Command}
use Rattle.console.specs.declared.command.Command.TheVariants.{Call, Session, Frame, Mark, Booked, Turns, Keep, Count, Help, Quit}
use Rattle.console.specs.declared.command.Unknown.{Unknown}

infixl 10 ◌>>=◌
abbrev pub ◌>>=◌ : {A B : Type 0} → Option A → (A → Option B) → Option B
None >>= f = None
(Some x) >>= f = f x

-- a number below a limit
abbrev pub number_in : ℕ → List ℕ → Option ℕ
number_in limit word = do
  n ← number word
  if nat_lt n limit then Some n else None

abbrev pub place_in : List ℕ → Option ℕ
place_in word = number_in (2 ^ 8) word

-- a verb alone
abbrev pub alone : List ℕ → Option Command
alone verb =
    if bytes_eq verb (codes "turn") then Some (Call Turn) else
    (if bytes_eq verb (codes "mark") then Some Mark else
    (if bytes_eq verb (codes "booked") then Some Booked else
    (if bytes_eq verb (codes "turns") then Some Turns else
    (if bytes_eq verb (codes "keep") then Some Keep else
    (if bytes_eq verb (codes "help") then Some Help else
    (if bytes_eq verb (codes "quit") then Some Quit else None))))))

-- a verb and a place
abbrev pub of_place : List ℕ → ℕ → Option Command
of_place verb place =
    if bytes_eq verb (codes "close") then Some (Call (Close place)) else
    (if bytes_eq verb (codes "good") then Some (Call (Good place)) else
    (if bytes_eq verb (codes "bad") then Some (Call (Bad place)) else
    (if bytes_eq verb (codes "session") then Some (Session place) else None)))

-- a verb, a place and a number
abbrev pub of_number : List ℕ → ℕ → ℕ → Option Command
of_number verb place n =
    if bytes_eq verb (codes "open") then Some (Call (Open place n)) else
    (if bytes_eq verb (codes "frame") then Some (Frame place n) else None)

abbrev pub list_named : List ℕ → Option ListKind
list_named word =
    if bytes_eq word (codes "credit") then Some Credit else
    (if bytes_eq word (codes "extra") then Some Extra else None)

-- a count of a list, for a place
abbrev pub counting : List ℕ → List ℕ → Option Command
counting list place = do
  l ← list_named list
  p ← place_in place
  Some (Count l p)

abbrev pub booking : List ℕ → List ℕ → List ℕ → Option Command
booking verb place rest = do
  p ← place_in place
  n ← number rest
  of_number verb p n

abbrev pub arriving : List ℕ → List ℕ → List ℕ → Option Command
arriving place size tag = do
  p ← place_in place
  s ← number_in (2 ^ 16) size
  t ← number tag
  Some (Call (Arrive p s t))

abbrev pub with_one : List ℕ → List ℕ → Option Command
with_one verb place = place_in place >>= of_place verb

abbrev pub with_two : List ℕ → List ℕ → List ℕ → Option Command
with_two verb first second =
    if bytes_eq verb (codes "count") then counting first second else booking verb first second

abbrev pub with_three : List ℕ → List ℕ → List ℕ → List ℕ → Option Command
with_three verb first second third =
    if bytes_eq verb (codes "arrive") then arriving first second third else None

-- a verb and the words behind it, up to the first that is not there
abbrev pub command_of : Words → Option Command
command_of w =
    if length w.first == 0 then alone w.verb else
    (if length w.second == 0 then with_one w.verb w.first else
    (if length w.third == 0 then with_two w.verb w.first w.second else
    with_three w.verb w.first w.second w.third))

-- a line whose first word is not there, or begins with #
abbrev pub is_comment : List ℕ → Bool
is_comment [] = true
is_comment (b ∷ bs) = b == code "#"

abbrev pub understood : Option Command → Result (Option Command) Unknown
understood (Some command) = Ok (Some command)
understood None = Err (record {})

abbrev pub reading : List ℕ → Result (Option Command) Unknown
reading line = if is_comment (word line) then Ok None else understood (words_in line >>= command_of)
