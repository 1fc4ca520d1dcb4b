-- The six letters that a record can begin with, each by the byte that it is written as.
use Rattle.std.specs.Prelude.{ℕ, if◌then◌else◌, List, [], ◌∷◌, Some, None, Option, ◌==◌}
use Rattle.answer.specs.Names.{code}
use Rattle.record.specs.declared.letter.Letter.{Letter}
use Rattle.record.specs.declared.letter.Letter.TheVariants.{O, C, A, G, B, T}

abbrev pub byte_of : Letter → ℕ
byte_of O = code "O"
byte_of C = code "C"
byte_of A = code "A"
byte_of G = code "G"
byte_of B = code "B"
byte_of T = code "T"

abbrev pub among : List Letter → ℕ → Option Letter
among [] byte = None
among (l ∷ ls) byte = if byte == byte_of l then Some l else among ls byte

-- the letter that a byte is, if it is one of the six
abbrev pub letter_of : ℕ → Option Letter
letter_of byte = among (O ∷ C ∷ A ∷ G ∷ B ∷ T ∷ []) byte
