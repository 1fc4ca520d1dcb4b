-- One more frame or place continues what was printed.
use Rattle.std.proofs.Common.{◌≡◌, ℕ, suc, ◌+◌, List, ◌++◌, Option, Result, Ok, Err, OnOk, subst, add-one}
use Rattle.std.specs.Io.KnownBytes.{Appends}
use Rattle.std.proofs.KnownBytes.{Appends-trans}
use Rattle.answer.specs.declared.refusal.Refusal.{Refusal}
use Rattle.chooser.specs.declared.entry.ListKind.{ListKind}
use Rattle.model.specs.Cell.{Cell}
use Rattle.model.specs.Session.{Frame}
use Rattle.states.specs.Texts.{frame_text, frames_text, line_of_place, places_text}

pub frames_more : (ask : ℕ → Result (Option Frame) Refusal) (i : ℕ) (f : Result (Option Frame) Refusal)
    (a b c : Option (List ℕ)) → f ≡ ask i
    → Appends a b (frames_text ask i) → Appends b c (frame_text f) → Appends a c (frames_text ask (i + 1))
unfolding frames_text
frames_more ask i f a b c e p q =
    rw (add-one i) (Appends-trans a b c (frames_text ask i) (frame_text (ask i)) p
    (subst (λ (r : Result (Option Frame) Refusal). Appends b c (frame_text r)) e q))

pub places_more : {C : Type 0} (figure : C → ListKind → ℕ → ℕ) (x : Cell C) (k : ℕ) (a b c : Option (List ℕ))
    → Appends a b (places_text figure x k) → Appends b c (line_of_place figure x k) → Appends a c (places_text figure x (k + 1))
unfolding places_text
places_more figure x k a b c p q =
    rw (add-one k) (Appends-trans a b c (places_text figure x k) (line_of_place figure x k) p q)

-- two texts and then a third, if that is written
pub then_two : {X E : Type 0} (r : Result X E) (a b c d : Option (List ℕ)) (s t u : List ℕ)
    → Appends a b s → Appends b c t → OnOk r (Appends c d u) → OnOk r (Appends a d (s ++ (t ++ u)))
then_two (Ok x) a b c d s t u p q h = Appends-trans a b d s (t ++ u) p (Appends-trans b c d t u q h)
then_two (Err e) a b c d s t u p q h = tt
