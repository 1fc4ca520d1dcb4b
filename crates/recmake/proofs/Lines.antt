-- Line by line: what is made so far, and which line is next.
use Rattle.std.proofs.Common.{◌≡◌, ℕ, zero, suc, ◌+◌, ◌<◌, ◌≤◌, true, List, [], ◌∷◌, ◌++◌, length, map, take, drop, get_or, Bor, refl, sym, ap, ◌∙◌, arith}
use Rattle.std.proofs.lemmas.Bool.{and_from}
use Rattle.std.proofs.lemmas.Grind.{flat_map-append}
use Rattle.std.proofs.lemmas.List.{append-nil, length-map, map-append}
use Rattle.std.proofs.lemmas.List.FromFn.{get_or-enumerate_from, length-enumerate_from}
use Rattle.std.proofs.lemmas.List.Folds.{list_all-append}
use Rattle.std.proofs.Math.Seq.{split_at}
use Rattle.std.specs.List.{enumerate_from}
use Rattle.std.specs.Result.{is_ok}
use Rattle.notation.specs.Reading.{reading}
use Rattle.recmake.specs.declared.unmade.Unmade.{Unmade}
use Rattle.recmake.specs.declared.unmade.Unmade.TheVariants.{Line, Memory, TooMany}
use Rattle.recmake.specs.Making.{Leaves, Makes, Stops, are_read, record_of, records_of}

pub makes_none : (bytes : List ℕ) → bytes ≡ [] → Makes [] bytes
unfolding are_read records_of
makes_none bytes e = record { read = refl; whole = e; few = omega (arith, ap length e) }

pub makes_more : (lines : List (List ℕ)) (line bytes more : List ℕ) → Makes lines bytes → is_ok (reading line) ≡ true → more ≡ bytes ++ record_of line → length more ≤ 16000000 → Makes (lines ++ line ∷ []) more
unfolding are_read records_of
makes_more lines line bytes more made ok added few = record {
  read = list_all-append (λ l. is_ok (reading l)) lines (line ∷ []) ∙ and_from _ _ made.read (and_from _ _ ok refl);
  whole = added ∙ (ap (λ (b : List ℕ). b ++ record_of line) made.whole ∙ sym (flat_map-append record_of lines (line ∷ []) ∙ ap (λ (b : List ℕ). records_of lines ++ b) (append-nil (record_of line))));
  few = few;
}

pub stops : (lines before : List (List ℕ)) (line : List ℕ) (behind : List (List ℕ)) (number : ℕ) (bytes : List ℕ) (why : Unmade) → lines ≡ before ++ line ∷ behind → number ≡ length before + 1 → Makes before bytes → Leaves number (reading line) (length bytes) why → Stops lines why
stops lines before line behind number bytes Memory stands counted made leaves = tt
stops lines before line behind number bytes (Line at why) stands counted made leaves =
    (line, bytes, record { before = before; behind = behind; stands = stands; counted = leaves.0 ∙ counted; made = made }, leaves.1)
stops lines before line behind number bytes (TooMany at) stands counted made leaves =
    (line, bytes, leaves.2, record { before = before; behind = behind; stands = stands; counted = leaves.0 ∙ counted; made = made }, leaves.1, leaves.3)

-- ---- numbered lines

abbrev pub Item : Type 0
Item = ℕ × Bor (List ℕ)

-- an item as its number and its line
abbrev pub shown : Item → ℕ × List ℕ
shown item = (item.0, item.1.now)

abbrev pub lines_in : List Item → List (List ℕ)
lines_in items = map (λ x. x.1.now) items

abbrev second : ℕ × List ℕ → List ℕ
second p = p.1

seconds_shown : (items : List Item) → map second (map shown items) ≡ lines_in items
seconds_shown [] = refl
seconds_shown (x ∷ xs) = ap (λ (t : List (List ℕ)). x.1.now ∷ t) (seconds_shown xs)

seconds_taken : (n k : ℕ) (lines : List (List ℕ)) → map second (take k (enumerate_from n lines)) ≡ take k lines
seconds_taken n zero [] = refl
seconds_taken n zero (x ∷ xs) = refl
seconds_taken n (suc k) [] = refl
seconds_taken n (suc k) (x ∷ xs) = ap (λ (t : List (List ℕ)). x ∷ t) (seconds_taken (n + 1) k xs)

seconds_all : (n : ℕ) (lines : List (List ℕ)) → map second (enumerate_from n lines) ≡ lines
seconds_all n [] = refl
seconds_all n (x ∷ xs) = ap (λ (t : List (List ℕ)). x ∷ t) (seconds_all (n + 1) xs)

-- at the end all lines were gone over
pub all_lines : (items : List Item) (lines : List (List ℕ)) → map shown items ≡ enumerate_from 0 lines → lines_in items ≡ lines
all_lines items lines e = sym (seconds_shown items) ∙ (ap (map second) e ∙ seconds_all 0 lines)

-- before that, the next one stands behind those so far, and has their count for its number
pub next_line : (items : List Item) (lines : List (List ℕ)) (item : Item) → map shown items ≡ take (length items) (enumerate_from 0 lines) → (length items < length (enumerate_from 0 lines)) × (shown item ≡ get_or (enumerate_from 0 lines) (length items) (shown item)) → (item.0 ≡ length (lines_in items)) × (lines ≡ lines_in items ++ item.1.now ∷ drop (suc (length items)) lines)
next_line items lines item taken turn =
    let below : length items < length lines = omega (arith, length-enumerate_from 0 lines, turn.0) in
    let at : shown item ≡ (0 + length items, get_or lines (length items) item.1.now) = turn.1 ∙ get_or-enumerate_from 0 lines (length items) (shown item) below in
    let so_far : lines_in items ≡ take (length items) lines = sym (seconds_shown items) ∙ (ap (map second) taken ∙ seconds_taken 0 (length items) lines) in
    let number : item.0 ≡ 0 + length items = ap (λ (p : ℕ × List ℕ). p.0) at in
    let line : item.1.now ≡ get_or lines (length items) item.1.now = ap second at in (
      omega (arith, number, length-map items (λ (x : Item). x.1.now)),
      split_at lines (length items) item.1.now below ∙ (ap (λ (t : List (List ℕ)). t ++ get_or lines (length items) item.1.now ∷ drop (suc (length items)) lines) (sym so_far)
          ∙ ap (λ (l : List ℕ). lines_in items ++ l ∷ drop (suc (length items)) lines) (sym line)),
    )

pub one_more : (items : List Item) (item : Item) → lines_in (items ++ item ∷ []) ≡ lines_in items ++ item.1.now ∷ []
one_more items item = map-append (λ (x : Item). x.1.now) items (item ∷ [])
