-- Notes: which are printable, and that a note that was written is read again, and a note that is read was written so.
use Rattle.std.proofs.Common.{◌≡◌, ℕ, zero, suc, ◌+◌, ◌-◌, ◌<◌, ◌≤◌, Bool, true, cond, eqb, not, ◌||◌, ◌&&◌, nat_lt, nat_le, List, [], ◌∷◌, ◌++◌, length, take, drop, Some, None, inl, inr, codes, refl, sym, ap, subst, ◌∙◌, arith, length-append, length-drop, length-take}
use Rattle.std.proofs.lemmas.Bool.{and_from, and_parts, cases_Bool, eq-eqb, eqb-true, le-leb, leb-true}
use Rattle.std.proofs.lemmas.List.{drop_at, length-replicate, take-append-drop, take_at}
use Rattle.std.proofs.lemmas.List.Folds.{list_all-append}
use Rattle.std.proofs.lemmas.Option.{cond_some, same_Some}
use Rattle.std.specs.Prelude.{replicate}
use Rattle.std.specs.List.{list_all, position_from}
use Rattle.std.specs.Option.{is_some}
use Rattle.record.specs.Writing.{is_note}
use Rattle.notation.specs.Front.{◌>>=◌, after}
use Rattle.notation.specs.Reading.{bracketed, given, is_printable}
use Rattle.notation.specs.Short.{filled, no_note}
use Rattle.notation.specs.Texts.{GivesNote}
use Rattle.notation.specs.Words.{note_words}
use Rattle.notation.proofs.Fronts.{after_takes, bind_some, stops}

pub all_pass : (p : ℕ → Bool) (i : ℕ) (bytes : List ℕ) → list_all (λ b. not (p b)) bytes ≡ not (is_some (position_from p i bytes))
all_pass p i [] = refl
all_pass p i (b ∷ bs) =
    elim (cases_Bool (p b)) [
      | inl t ↦ rw t refl
      | inr f ↦ rw f (all_pass p (i + 1) bs)
    ]

pub empty_is : (bytes : List ℕ) → length bytes ≡ 0 → bytes ≡ []
empty_is [] e = refl
empty_is (b ∷ bs) e = absurd (omega arith)

pub too_short : (start : List ℕ) → length start < 8 → after (codes "]") (drop 8 start) ≡ None
unfolding after
too_short start short = rw (empty_is (drop 8 start) (omega (arith, length-drop 8 start))) refl

-- ---- what was written is read again, and what is read was written so

outside : ℕ → Bool
outside b = nat_lt b 32 || nat_lt 126 b

printable_is : (bytes : List ℕ) → list_all (λ b. not (outside b)) bytes ≡ is_printable bytes
unfolding outside
printable_is bytes = all_pass outside 8 bytes

printable_front : (a b : List ℕ) → is_printable (a ++ b) ≡ true → is_printable a ≡ true
printable_front a b e =
    sym (printable_is a) ∙ (and_parts (list_all (λ x. not (outside x)) a) (list_all (λ x. not (outside x)) b) (sym (list_all-append (λ x. not (outside x)) a b) ∙ (printable_is (a ++ b) ∙ e))).0

spaces_pass : (n : ℕ) → list_all (λ b. not (outside b)) (replicate n 32) ≡ true
unfolding outside
spaces_pass zero = refl
spaces_pass (suc n) = spaces_pass n

printable_filled : (bytes : List ℕ) → is_printable bytes ≡ true → is_printable (filled bytes) ≡ true
printable_filled bytes e =
    sym (printable_is (filled bytes)) ∙ (list_all-append (λ x. not (outside x)) bytes (replicate (8 - length bytes) 32)
    ∙ and_from _ _ (printable_is bytes ∙ e) (spaces_pass (8 - length bytes)))

pub bracketed_again : (note : List ℕ) → is_note note ≡ true → bracketed (note_words note) ≡ Some note
unfolding bracketed after
bracketed_again note is =
    let both = and_parts (eqb (length note) 8) (is_printable note) is in
    let eight : length note ≡ 8 = eqb-true (length note) 8 both.0 in
    rw (drop_at note (codes "]") 8 eight, take_at note (codes "]") 8 eight, both.1) refl

note_whole : (text start end note : List ℕ) → text ≡ codes " [" ++ start → drop 8 start ≡ codes "]" ++ end → length end ≡ 0 → is_printable (take 8 start) ≡ true → take 8 start ≡ note → (text ≡ note_words note) × (is_note note ≡ true)
note_whole text start end note first last none printable is =
    let tail : drop 8 start ≡ codes "]" = last ∙ ap (λ (t : List ℕ). codes "]" ++ t) (empty_is end none) in
    let one : length (drop 8 start) ≡ 1 = ap length tail in
    let eight : length (take 8 start) ≡ 8 = omega (arith, length-take 8 start, length-drop 8 start) in
    let parts : start ≡ note ++ codes "]" = sym (take-append-drop 8 start) ∙ (ap (λ (t : List ℕ). t ++ drop 8 start) is ∙ ap (λ (t : List ℕ). note ++ t) tail) in
    (first ∙ ap (λ (t : List ℕ). codes " [" ++ t) parts, subst (λ (t : List ℕ). is_note t ≡ true) is (and_from _ _ (eq-eqb _ 8 eight) printable))

pub bracketed_takes : (text note : List ℕ) → bracketed text ≡ Some note → (text ≡ note_words note) × (is_note note ≡ true)
unfolding bracketed
bracketed_takes text note e =
    let start = bind_some (after (codes " [") text) (λ s. after (codes "]") (drop 8 s) >>= λ t. cond (eqb (length t) 0 && is_printable (take 8 s)) (Some (take 8 s)) None) note e in
    let end = bind_some (after (codes "]") (drop 8 start.0)) (λ t. cond (eqb (length t) 0 && is_printable (take 8 start.0)) (Some (take 8 start.0)) None) note start.2 in
    let some = cond_some (eqb (length end.0) 0 && is_printable (take 8 start.0)) (take 8 start.0) note end.2 in
    let tests = and_parts (eqb (length end.0) 0) (is_printable (take 8 start.0)) some.0 in
    note_whole text start.0 end.0 note (after_takes (codes " [") text start.0 start.1) (after_takes (codes "]") (drop 8 start.0) end.0 end.1) (eqb-true (length end.0) 0 tests.0) tests.1 some.1

pub given_again : (text note : List ℕ) → GivesNote text note → is_note note ≡ true → given text ≡ Some note
unfolding given after
given_again text note (inl h) is = rw (h.0, h.1) refl
given_again text note (inr h) is =
    let short : nat_le (length h.0) 8 ≡ true = le-leb _ _ h.1 in
    let printable : is_printable h.0 ≡ true = printable_front h.0 (replicate (8 - length h.0) 32) (subst (λ (t : List ℕ). is_printable t ≡ true) h.3 (and_parts _ _ is).1) in
    rw (h.2, short, printable, h.3) refl

pub given_takes : (text note : List ℕ) → given text ≡ Some note → GivesNote text note × (is_note note ≡ true)
unfolding given
given_takes [] note e = let is : no_note ≡ note = same_Some no_note note e in (inl (refl, sym is), subst (λ (t : List ℕ). is_note t ≡ true) is refl)
given_takes (b ∷ bs) note e =
    let found = bind_some (after (codes " ") (b ∷ bs)) (λ t. cond (nat_le (length t) 8 && is_printable t) (Some (filled t)) None) note e in
    let some = cond_some (nat_le (length found.0) 8 && is_printable found.0) (filled found.0) note found.2 in
    let tests = and_parts (nat_le (length found.0) 8) (is_printable found.0) some.0 in
    let short : length found.0 ≤ 8 = leb-true _ _ tests.0 in
    let eight : length (filled found.0) ≡ 8 = omega (arith, length-append found.0 (replicate (8 - length found.0) 32), length-replicate {A = ℕ} (8 - length found.0) 32) in (
      inr (found.0, short, after_takes (codes " ") (b ∷ bs) found.0 found.1, sym some.1),
      subst (λ (t : List ℕ). is_note t ≡ true) some.1 (and_from _ _ (eq-eqb _ 8 eight) (printable_filled found.0 tests.1)),
    )

-- no number goes on into what gives a note
pub note_stops : (text note : List ℕ) → GivesNote text note → stops text ≡ true
note_stops text note (inl h) = rw h.0 refl
note_stops text note (inr h) = rw h.2 refl
