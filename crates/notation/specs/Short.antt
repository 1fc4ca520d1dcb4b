-- The short form of an event: the letter of its record, the numbers that the letter uses, and the note
-- where one is given.
use Rattle.std.specs.Prelude.{ℕ, ◌-◌, List, ◌++◌, codes, decimal, length, replicate}
use Rattle.answer.specs.Names.{code}
use Rattle.record.specs.declared.call.Call.{Call}
use Rattle.record.specs.declared.call.Call.TheVariants.{Open, Close, Arrive, Good, Bad, Turn}
use Rattle.record.specs.declared.layout.TheConstants.{NOTE_LENGTH}

abbrev pub short_words : Call → List ℕ
short_words (Open place rate) = codes "O " ++ (decimal place ++ (codes " " ++ decimal rate))
short_words (Close place) = codes "C " ++ decimal place
short_words (Arrive place size tag) =
    codes "A " ++ (decimal place ++ (codes " " ++ (decimal size ++ (codes " " ++ decimal tag))))
short_words (Good place) = codes "G " ++ decimal place
short_words (Bad place) = codes "B " ++ decimal place
short_words Turn = codes "T"

-- the note where none is given
abbrev pub no_note : List ℕ
no_note = codes "--------"

-- a note that was given in eight bytes or fewer
abbrev pub filled : List ℕ → List ℕ
filled given = given ++ replicate (NOTE_LENGTH - length given) (code " ")
