-- What stands on a job sheet, and when one is due.
use Rattle.std.specs.Prelude.{ℕ, zero, suc, ◌%◌, ◌^◌, ◌-◌, Bool, false, if◌then◌else◌, ◌&&◌, ℤ, List, [], ◌++◌, codes, decimal}
use Rattle.std.specs.Prelude.{Some, None, Ok, Err, Option, Result, ◌==◌, nat_lt}
use Rattle.std.specs.Fmt.{format_spec, styled_decimal, styled_signed_decimal, styled_text}
use Rattle.std.specs.Int.NonZero.{non_zero_u64_get}
use Rattle.std.specs.declared.num.NonZeroU64.{NonZeroU64}
use Rattle.answer.specs.declared.refusal.Refusal.{Refusal}
use Rattle.cell.specs.Asked.{standings}
use Rattle.cell.specs.declared.questions.Standing.{Standing}
use Rattle.model.specs.Calls.{asked}
use Rattle.model.specs.Cell.{Cell}
use Rattle.model.specs.Limits.{places}
use Rattle.model.specs.Table.{booked_total}
use Rattle.record.specs.Lines.{newline}
use Rattle.joblags.specs.Balances.{balance_of, balance_word}
use Rattle.joblags.specs.declared.sheet.Head.{Head}
use Rattle.joblags.specs.declared.sheet.Line.{Line}

-- after every so many records, counted from 1; never if nothing is said
abbrev pub is_due : Option NonZeroU64 → ℕ → Bool
is_due None number = false
is_due (Some every) number = nat_lt 0 number && number % non_zero_u64_get every == 0

abbrev pub head_of : {C : Type 0} → ℕ → Cell C → Head
head_of after x = record { after = after; mark = x.mark; booked = booked_total x.table; turns = x.turns }

-- a line for an open place, and none for another
abbrev pub line_of : ℕ → Result Standing Refusal → Option Line
line_of place (Ok s) = Some (record { place = place; standing = s })
line_of place (Err why) = None

-- ---- in words

abbrev pub head_words : Head → List ℕ
head_words h =
    codes "after record " ++ (decimal h.after ++ (codes " mark " ++ (decimal h.mark
    ++ (codes " booked " ++ (decimal h.booked ++ (codes " turns " ++ decimal h.turns))))))

-- so wide, at the right end or at the left, and spaces before or after
abbrev pub at_right : ℕ → ℕ → List ℕ
at_right width n = styled_decimal (format_spec 32 3 0 width (2 ^ 64 - 1)) n

abbrev pub signed_at_right : ℕ → ℤ → List ℕ
signed_at_right width z = styled_signed_decimal (format_spec 32 3 0 width (2 ^ 64 - 1)) z

abbrev pub at_left : ℕ → List ℕ → List ℕ
at_left width text = styled_text (format_spec 32 1 0 width (2 ^ 64 - 1)) text

-- where and what a session is, and how far it is
abbrev pub session_words : ℕ → ℕ → ℕ → List ℕ
session_words place rate time =
    codes "place " ++ (at_right 2 place ++ (codes " rate " ++ (at_right 6 rate
    ++ (codes " time " ++ at_right 16 time))))

-- what it is owed, its channel, and how many frames wait
abbrev pub channel_word : Bool → List ℕ
channel_word good = if good then codes "good" else codes "bad"

abbrev pub waiting_words : ℤ → Bool → ℕ → List ℕ
waiting_words lag good waiting =
    codes "lag " ++ (signed_at_right 11 lag ++ (codes " " ++ (at_left 5 (balance_word (balance_of lag))
    ++ (codes " channel " ++ (at_left 4 (channel_word good)
    ++ (codes " waiting " ++ at_right 2 waiting))))))

abbrev pub line_words : Line → List ℕ
line_words l =
    session_words l.place l.standing.rate l.standing.virtual_time
    ++ (codes " " ++ waiting_words l.standing.lag l.standing.good l.standing.waiting)

-- the line of a place, and nothing for one that is not open
abbrev pub row_words : Option Line → List ℕ
row_words None = []
row_words (Some l) = line_words l ++ newline

-- the lines of the first n places
unfoldable pub rows_words : {C : Type 0} → Cell C → ℕ → List ℕ
rows_words x zero = []
rows_words x (suc n) = rows_words x n ++ row_words (line_of n (standings (asked x n)))

-- how a cell stands after so many records
abbrev pub sheet_words : {C : Type 0} → ℕ → Cell C → List ℕ
sheet_words after x = head_words (head_of after x) ++ (newline ++ rows_words x places)
