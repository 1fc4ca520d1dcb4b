-- The line of one more place, if it is open.
use Rattle.std.proofs.Common.{◌≡◌, ℕ, ◌+◌, List, ◌++◌, Option, None, Some, refl, ap, sym, ◌∙◌, append_assoc, append-nil, add-one}
use Rattle.cell.specs.Asked.{standings}
use Rattle.model.specs.Calls.{asked}
use Rattle.model.specs.Cell.{Cell}
use Rattle.joblags.specs.Sheets.{line_of, row_words, rows_words}
use Rattle.joblags.specs.declared.sheet.Line.{Line}

pub nothing_more : (words : List ℕ) (row : Option Line) → ((line : Line) → row ≡ Some line → ⊥) → words ≡ words ++ row_words row
nothing_more words None shut = sym (append-nil words)
nothing_more words (Some line) shut = absurd (shut line refl)

module _ {C : Type 0} (x : Cell C) where
  next_row : (n : ℕ) → rows_words x (n + 1) ≡ rows_words x n ++ row_words (line_of n (standings (asked x n)))
  unfolding rows_words
  next_row n = ap (rows_words x) (add-one n)

  pub one_row : (head line : List ℕ) (n : ℕ)
      → (head ++ (line ++ rows_words x n)) ++ row_words (line_of n (standings (asked x n))) ≡ head ++ (line ++ rows_words x (n + 1))
  one_row head line n =
      append_assoc head (line ++ rows_words x n) (row_words (line_of n (standings (asked x n))))
      ∙ ap (λ (l : List ℕ). head ++ l) (append_assoc line (rows_words x n) (row_words (line_of n (standings (asked x n)))) ∙ ap (λ (l : List ℕ). line ++ l) (sym (next_row n)))

  pub no_row : (head line : List ℕ) → head ++ line ≡ head ++ (line ++ rows_words x 0)
  unfolding rows_words
  no_row head line = simp append-nil
