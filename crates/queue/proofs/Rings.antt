-- A ring as a list: what a frame put in or taken out does to it.
use Rattle.std.proofs.Common.{◌≡◌, ℕ, zero, suc, ◌+◌, ◌-◌, ◌%◌, ◌<◌, ◌≢◌, List, [], ◌∷◌, ◌++◌, length, get_or, set, Some, refl, ap, ◌∙◌, add-one, arith, get_or-set_other, get_or-set_same}
use Rattle.std.specs.List.{slice_get}
use Rattle.queue.specs.Ring.{around, held, no_frame}
use Rattle.queue.specs.declared.TheConstants.{ROOM}
use Rattle.queue.specs.declared.frame.Frame.{Frame}
use Rattle.queue.specs.declared.ring.Ring.{Ring}

length_around : (xs : List Frame) (h n : ℕ) → length (around xs h n) ≡ n
length_around xs h zero = refl
length_around xs h (suc n) = ap suc (length_around xs ((h + 1) % ROOM) n)

pub length_held : (r : Ring) → length (held r) ≡ r.count
unfolding held
length_held r = length_around r.frames r.head r.count

pub nth_around : (xs : List Frame) (h n i : ℕ) → h < ROOM → i < n → slice_get (around xs h n) i ≡ Some (get_or xs ((h + i) % ROOM) no_frame)
nth_around xs h zero i l b = absurd (omega arith)
nth_around xs h (suc n) zero l b = ap (λ (k : ℕ). Some (get_or xs k no_frame)) (omega arith)
nth_around xs h (suc n) (suc i) l b =
    let same : ((h + 1) % ROOM + i) % ROOM ≡ (h + suc i) % ROOM = omega arith in
    nth_around xs ((h + 1) % ROOM) n i (omega arith) (omega arith) ∙ ap (λ (k : ℕ). Some (get_or xs k no_frame)) same

-- a write elsewhere is not seen
around_set : (xs : List Frame) (p : ℕ) (f : Frame) (h n : ℕ) → h < ROOM → ((k : ℕ) → k < n → (h + k) % ROOM ≢ p) → around (set xs p f) h n ≡ around xs h n
around_set xs p f h zero l apart = refl
around_set xs p f h (suc n) l apart =
    let here : h ≢ p = λ e. apart 0 (omega arith) (omega (arith, e)) in
    let there : (k : ℕ) → k < n → ((h + 1) % ROOM + k) % ROOM ≢ p = λ k b e. apart (k + 1) (omega arith) (omega (arith, e)) in
    let l' : (h + 1) % ROOM < ROOM = omega arith in
    rw (get_or-set_other, around_set xs p f ((h + 1) % ROOM) n l' there)

around_more : (xs : List Frame) (h n : ℕ) → h < ROOM → around xs h (suc n) ≡ around xs h n ++ get_or xs ((h + n) % ROOM) no_frame ∷ []
around_more xs h zero l = ap (λ k. get_or xs k no_frame ∷ []) (omega arith)
around_more xs h (suc n) l =
    let l' : (h + 1) % ROOM < ROOM = omega arith in
    let same : ((h + 1) % ROOM + n) % ROOM ≡ (h + suc n) % ROOM = omega arith in
    let after : ℕ → List Frame = λ k. get_or xs h no_frame ∷ around xs ((h + 1) % ROOM) n ++ get_or xs k no_frame ∷ [] in
    ap (λ r. get_or xs h no_frame ∷ r) (around_more xs ((h + 1) % ROOM) n l') ∙ ap after same

pub around_push : (xs : List Frame) (h n : ℕ) (f : Frame) → length xs ≡ ROOM → h < ROOM → n < ROOM →
    around (set xs ((h + n) % ROOM) f) h (n + 1) ≡ around xs h n ++ f ∷ []
around_push xs h n f e l b =
    let p : (h + n) % ROOM < length xs = omega arith in
    let apart : (k : ℕ) → k < n → (h + k) % ROOM ≢ (h + n) % ROOM = λ k c d. omega arith in
    rw (add-one, around_more (set xs ((h + n) % ROOM) f) h n l, get_or-set_same, around_set xs ((h + n) % ROOM) f h n l apart)

pub around_take : (xs : List Frame) (h n : ℕ) → 0 < n → around xs h n ≡ get_or xs h no_frame ∷ around xs ((h + 1) % ROOM) (n - 1)
around_take xs h zero some = absurd (omega arith)
around_take xs h (suc n) some = ap (λ (k : ℕ). get_or xs h no_frame ∷ around xs ((h + 1) % ROOM) k) (omega arith)

-- for the goals of a ring's functions
pub ruleset rings = (length_held, nth_around, around_push, around_take)
