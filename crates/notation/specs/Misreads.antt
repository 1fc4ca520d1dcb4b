-- What a misread says to people.
use Rattle.std.specs.Prelude.{ℕ, List, codes}
use Rattle.notation.specs.declared.misread.Misread.{Misread}
use Rattle.notation.specs.declared.misread.Misread.TheVariants.{NoCall, NoNote}

abbrev pub misread_words : Misread → List ℕ
misread_words NoCall = codes "no call, neither in words, as `place 0 closes`, nor short, as `C 0`"
misread_words NoNote =
    codes "no note, neither eight printable bytes in brackets nor, behind `C 0`, eight at most"
