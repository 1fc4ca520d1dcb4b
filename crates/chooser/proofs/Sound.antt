-- What a sound offer says of each place, and how entries are shown to be sound.
use Rattle.std.proofs.Common.{◌≡◌, ℕ, zero, suc, ◌*◌, ◌<◌, ◌≤◌, true, false, List, [], ◌∷◌, length, get_or, set, replicate, ℤ, pos, negsuc, nat_abs, ltb, Some, sym, refl, ap, ◌∙◌, subst, ⊎_elim, mul-le-mul_right, one-mul, zero-mul, arith}
use Rattle.std.proofs.lemmas.List.{length-set, length-replicate, get_or_past}
use Rattle.std.proofs.lemmas.Bool.{and_parts, and_from, eqb-true, eq-eqb, leb-true, le-leb, cases_Bool, cond-true, cond-false}
use Rattle.std.proofs.lemmas.Option.{cond_some}
use Rattle.chooser.specs.declared.entry.Entry.{Entry}
use Rattle.chooser.specs.Offers.{unoffered, offered, lag_bound, is_unoffered, is_booked, sound_entry, all_sound, sound, nobody, entry_at, offered_at}

-- ---- entries
zero_lag : (z : ℤ) → nat_abs z ≡ 0 → z ≡ pos 0
zero_lag (pos n) e = ap pos e
zero_lag (negsuc n) e = absurd (omega arith)

unoffered_is : (e : Entry) → e.offered ≡ false → is_unoffered e ≡ true → e ≡ unoffered
unoffered_is e off t =
    let p = and_parts _ _ t in
    let q = and_parts _ _ p.1 in
    let lag = zero_lag e.lag (eqb-true _ _ p.0) in
    let rate = eqb-true _ _ q.0 in
    let price = eqb-true _ _ q.1 in
    λ i. record { offered = off i; lag = lag i; rate = rate i; price = price i }

pub price_bound : (rate price : ℕ) → rate * price ≡ 720720 → price ≤ 720720
price_bound zero price e = let z : ◌≡◌ {A = ℕ} 0 720720 = sym (zero-mul price) ∙ e in absurd (omega arith)
price_bound (suc r) price e =
    let one : 1 ≤ suc r = omega arith in
    let m : 1 * price ≤ suc r * price = mul-le-mul_right price one in
    omega (arith, one-mul price)

pub offered_sound : (lag : ℤ) (rate price : ℕ)
    → rate * price ≡ 720720 → nat_abs lag ≤ lag_bound → sound_entry (offered lag rate price) ≡ true
offered_sound lag rate price exact near =
    and_from _ _ (eq-eqb (rate * price) 720720 exact) (le-leb (nat_abs lag) lag_bound near)

-- what every sound entry says, offered or not
pub record Booked (e : Entry) : Type 0 where
  pub exact : e.rate * e.price ≡ 720720
  pub price : e.price ≤ 720720
  pub near : nat_abs e.lag ≤ lag_bound

booked_from : (e : Entry) → is_booked e ≡ true → Booked e
booked_from e t =
    let p = and_parts _ _ t in
    let exact = eqb-true _ _ p.0 in
    record { exact = exact; price = price_bound e.rate e.price exact; near = leb-true _ _ p.1 }

quiet : (e : Entry) → sound_entry e ≡ true → e.offered ≡ false → e ≡ unoffered
quiet e s f = unoffered_is e f (sym (cond-false e.offered (is_booked e) (is_unoffered e) f) ∙ s)

pub booked : (e : Entry) → sound_entry e ≡ true → Booked e
booked e s =
    ⊎_elim
    (λ t. booked_from e (sym (cond-true e.offered (is_booked e) (is_unoffered e) t) ∙ s))
    (λ f. subst Booked (sym (quiet e s f)) (booked_from unoffered refl))
    (cases_Bool e.offered)

-- ---- lists of entries
all_sound_at : (es : List Entry)
    → all_sound es ≡ true → (i : ℕ) → sound_entry (get_or es i unoffered) ≡ true
unfolding all_sound
all_sound_at [] s i = refl
all_sound_at (e ∷ es) s zero = (and_parts _ _ s).0
all_sound_at (e ∷ es) s (suc i) = all_sound_at es (and_parts _ _ s).1 i

all_sound_from : (es : List Entry)
    → ((i : ℕ) → i < length es → sound_entry (get_or es i unoffered) ≡ true) → all_sound es ≡ true
unfolding all_sound
all_sound_from [] h = refl
all_sound_from (e ∷ es) h = and_from _ _ (h 0 (omega arith)) (all_sound_from es (λ i lt. h (suc i) (omega arith)))

all_sound_set : (es : List Entry) (i : ℕ) (e : Entry)
    → all_sound es ≡ true → sound_entry e ≡ true → all_sound (set es i e) ≡ true
unfolding all_sound
all_sound_set [] i e s t = refl
all_sound_set (x ∷ es) zero e s t = and_from _ _ t (and_parts _ _ s).1
all_sound_set (x ∷ es) (suc i) e s t =
    let p = and_parts _ _ s in
    and_from _ _ p.0 (all_sound_set es i e p.1 t)

all_unoffered : (n : ℕ) → all_sound (replicate n unoffered) ≡ true
unfolding all_sound
all_unoffered zero = refl
all_unoffered (suc n) = all_unoffered n

-- 64 sound entries are a sound offer
pub sound_from : (es : List Entry) → length es ≡ 64
    → ((i : ℕ) → i < 64 → sound_entry (get_or es i unoffered) ≡ true) → sound es ≡ true
sound_from es sized h =
    and_from _ _ (eq-eqb _ _ sized) (all_sound_from es (λ i lt. h i (omega arith)))

pub sound_nobody : sound nobody ≡ true
sound_nobody = and_from _ _ (eq-eqb _ _ (length-replicate 64 unoffered)) (all_unoffered 64)

module _ (es : List Entry) (s : sound es ≡ true) where
  pub sized : length es ≡ 64
  sized = eqb-true _ _ (and_parts _ _ s).0

  pub sound_at : (place : ℕ) → sound_entry (get_or es place unoffered) ≡ true
  sound_at = all_sound_at es (and_parts _ _ s).1

  -- rate times price is the link, and the lag is near, whether the place is offered or not
  pub said_at : (place : ℕ) → Booked (get_or es place unoffered)
  said_at place = booked (get_or es place unoffered) (sound_at place)

  pub booked_at : (place : ℕ) (e : Entry) → entry_at es place ≡ Some e → Booked e
  booked_at place e is = subst Booked (cond_some (ltb place 64) _ _ is).1 (said_at place)

  -- the entry of a place that is not offered has lag 0, rate 1 and its price
  pub unoffered_at : (place : ℕ)
      → offered_at es place ≡ false → get_or es place unoffered ≡ unoffered
  unoffered_at place f = quiet (get_or es place unoffered) (sound_at place) f

  -- an offered place is one of the 64
  pub nobody_past : (place : ℕ) → 64 ≤ place → offered_at es place ≡ false
  nobody_past place h = ap (λ e. e.offered) (get_or_past es place unoffered (omega (arith, sized)))

  -- one entry set to a sound one
  pub sound_set : (place : ℕ) (e : Entry) → sound_entry e ≡ true → sound (set es place e) ≡ true
  sound_set place e t =
      let sound = all_sound_set es place e (and_parts _ _ s).1 t in
      and_from _ _ (eq-eqb _ _ (length-set es place e ∙ sized)) sound
