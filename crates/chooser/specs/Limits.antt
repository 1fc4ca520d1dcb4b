-- The numbers that bound a cell and what a chooser hears of it.
use Rattle.std.specs.Prelude.{ℕ}
use Rattle.chooser.specs.declared.TheConstants.{PLACES, LONGEST, MOST_TURNS}

-- places, numbered from 0
abbrev pub places : ℕ
places = PLACES

-- bytes of the longest frame
abbrev pub longest : ℕ
longest = LONGEST

-- turns that one cell accepts
abbrev pub most_turns : ℕ
most_turns = MOST_TURNS
