-- One more row continues what was printed.
use Rattle.std.proofs.Common.{◌≡◌, ℕ, ◌+◌, List, ◌++◌, Option, add-one, slice_index_or, subst}
use Rattle.std.specs.Io.KnownBytes.{Appends}
use Rattle.std.proofs.KnownBytes.{Appends-trans}
use Rattle.summary.specs.Getting.{nothing}
use Rattle.summary.specs.Table.{row_text, rows_text}
use Rattle.summary.specs.declared.got.Got.{Got}
use Rattle.summary.specs.declared.sums.Sums.{Sums}

pub rows_more : (s : Sums) (k : ℕ) (g : Got) (a b c : Option (List ℕ)) → g ≡ slice_index_or s.places k nothing
    → Appends a b (rows_text s k) → Appends b c (row_text s.turns.bytes k g) → Appends a c (rows_text s (k + 1))
unfolding rows_text
rows_more s k g a b c e p q =
    rw (add-one k) (Appends-trans a b c (rows_text s k) (row_text s.turns.bytes k (slice_index_or s.places k nothing)) p
    (subst (λ (h : Got). Appends b c (row_text s.turns.bytes k h)) e q))
