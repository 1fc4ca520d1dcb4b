-- What is taken of an input piece by piece.
use Rattle.std.proofs.Common.{◌≡◌, ℕ, ◌+◌, ◌≤◌, List, ◌++◌, Option, length, take, drop, sym, ap, ◌∙◌, subst, ◌-◌, le_refl, drop_at, length-drop, length-take-le, take_all, arith}
use Rattle.std.specs.Io.KnownBytes.{Appends, Consumes, Keeps}
use Rattle.std.proofs.KnownBytes.{Appends-trans, Consumes-kept, Consumes-trans}
use Rattle.recording.specs.Taking.{TakesSome}
use Rattle.std.proofs.lemmas.Slice.{take-put_mid_below}
use borrow.Rule.Slice.PartMut.{put_mid, post_of}
use lib.Seq.{take-add, take-append-le}

-- a piece that is written after what was there continues it
continued : (at room n : ℕ) (xs ys : List ℕ) → at ≤ length xs → n ≤ length ys
    → take (at + n) (put_mid at room xs ys) ≡ take at xs ++ take n ys
continued at room n xs ys within fits =
    let post = post_of at room xs in
    take-add at n (put_mid at room xs ys)
    ∙ ap (λ l. l ++ take n (drop at (put_mid at room xs ys))) (take-put_mid_below at room xs ys at (le_refl _) within)
    ∙ ap (λ l. take at xs ++ take n l) (drop_at (take at xs) (ys ++ post) at (length-take-le at xs within))
    ∙ ap (λ l. take at xs ++ l) (take-append-le n ys post fits)

-- so one more piece that is taken is taken in order
pub taken_more : (before between after : Option (List ℕ)) (at room n : ℕ) (xs ys : List ℕ) → at ≤ length xs → n ≤ length ys
    → Consumes before between (take at xs) → Consumes between after (take n ys)
    → Consumes before after (take (at + n) (put_mid at room xs ys))
taken_more before between after at room n xs ys within fits first second =
    subst (Consumes before after) (sym (continued at room n xs ys within fits))
    (Consumes-trans before between after (take at xs) (take n ys) first second)

-- all that is behind a place
rest_of : (at : ℕ) (xs : List ℕ) → take (length xs - at) (drop at xs) ≡ drop at xs
rest_of at xs = take_all (length xs - at) (drop at xs) (omega (arith, length-drop at xs))

-- one more piece that is written continues what was
pub put_more : (before between after : Option (List ℕ)) (at n : ℕ) (xs : List ℕ) → at ≤ length xs
    → n ≤ length (take (length xs - at) (drop at xs))
    → Appends before between (take at xs) → Appends between after (take n (take (length xs - at) (drop at xs)))
    → (at + n ≤ length xs) × Appends before after (take (at + n) xs)
put_more before between after at n xs inside fits first second =
    let short : n ≤ length (drop at xs) = subst (λ (l : List ℕ). n ≤ length l) (rest_of at xs) fits in
    let piece : Appends between after (take n (drop at xs)) = subst (λ (l : List ℕ). Appends between after (take n l)) (rest_of at xs) second in (
      omega (arith, length-drop at xs),
      subst (Appends before after) (sym (take-add at n xs)) (Appends-trans before between after (take at xs) (take n (drop at xs)) first piece),
    )

-- what was taken before a read that took nothing
pub taken_some : (before between after : Option (List ℕ)) (at : ℕ) (bytes : List ℕ) → Consumes before between (take at bytes) → Keeps between after
    → at ≤ 16 → at ≤ length bytes → TakesSome before after
taken_some before between after at bytes first kept small inside =
    (take at bytes, Consumes-kept before between after (take at bytes) first kept, omega (arith, length-take-le at bytes inside))
