-- The counts of a new one stay low, so that the stop makes no difference.
use Rattle.std.proofs.Common.{◌≡◌, ℕ, zero, suc, ◌+◌, ◌*◌, ◌/◌, ◌≤◌, true, cond, ltb, List, [], ◌∷◌, get_or, set, replicate, Some, None, Option, sym, refl, ap, ◌∙◌, ⊎_elim, mul_comm, mul-le-mul, arith}
use Rattle.std.proofs.lemmas.Bool.{and_parts, cases_Bool, cond-false, cond_both, leb-true}
use Rattle.tariff.specs.Tariff.{in_tariff}
use Rattle.tariff.proofs.Wholes.{factored}
use Rattle.chooser.specs.declared.entry.Entry.{Entry}
use Rattle.chooser.specs.declared.entry.ListKind.{ListKind}
use Rattle.chooser.specs.declared.entry.ListKind.TheVariants.{Credit, Extra}
use Rattle.chooser.specs.Tellings.{Telling, served, joined, cleared, told, told_all, serving, servings}
use Rattle.chooser.specs.Offers.{sound}
use Rattle.chooser.specs.Meaning.{Meaning}
use Rattle.chooser.proofs.Meant.{if_sound_both}
use Rattle.chooser.proofs.Sound.{price_bound}
use Rattle.least_served.specs.declared.counts.LeastServed.{LeastServed}
use Rattle.least_served.specs.Served.{unserved, count_at, with_count, least_served, raised, joined_count}
use Rattle.least_served.specs.Served.{stopped, countable, after_served, after_joined, after_cleared}
use Rattle.least_served.specs.Meaning.{least_served_meaning}
use Rattle.least_served.specs.Stops.{CountsLow, NoStop, CountsStayLow, NeverStops}

-- no count is above b
abbrev pub Within : ℕ → LeastServed → Type 0
Within b c = (list : ListKind) (place : ℕ) → count_at c list place ≤ b

-- the most that a serving adds
abbrev pub most : ℕ
most = 1536 * 720720

set_low : (b : ℕ) (xs : List ℕ) (p v : ℕ) → v ≤ b → ((j : ℕ) → get_or xs j 0 ≤ b) → (i : ℕ) → get_or (set xs p v) i 0 ≤ b
set_low b [] p v h low i = low i
set_low b (x ∷ xs) zero v h low zero = h
set_low b (x ∷ xs) zero v h low (suc i) = low (suc i)
set_low b (x ∷ xs) (suc p) v h low zero = low 0
set_low b (x ∷ xs) (suc p) v h low (suc i) = set_low b xs p v h (λ j. low (suc j)) i

zeros_low : (n i : ℕ) → get_or (replicate n 0) i 0 ≤ 0
zeros_low zero i = omega arith
zeros_low (suc n) zero = omega arith
zeros_low (suc n) (suc i) = zeros_low n i

pub unserved_low : Within 0 unserved
unserved_low Credit place = zeros_low 64 place
unserved_low Extra place = zeros_low 64 place

with_count_low : (b : ℕ) (c : LeastServed) (list : ListKind) (place n : ℕ) → n ≤ b → Within b c → Within b (with_count c list place n)
with_count_low b c Credit place n h low Credit = set_low b c.credit place n h (low Credit)
with_count_low b c Credit place n h low Extra = low Extra
with_count_low b c Extra place n h low Credit = low Credit
with_count_low b c Extra place n h low Extra = set_low b c.extra place n h (low Extra)

within_more : (b d : ℕ) (c : LeastServed) → b ≤ d → Within b c → Within d c
within_more b d c h low list place = let k = low list place in omega arith

raised_low : (b : ℕ) (c : LeastServed) (list : ListKind) (n : ℕ) (r : Option ℕ) → n ≤ b → Within b c → raised c list n r ≤ b
raised_low b c list n None h low = h
raised_low b c list n (Some first) h low = let k = low list first in omega arith

pub joined_low : (b : ℕ) (c : LeastServed) (list : ListKind) (place : ℕ) (es : List Entry) → Within b c → Within b (after_joined c list place es)
joined_low b c list place es low =
    cond_both (ltb place 64) (with_count c list place (joined_count c list place es)) c (Within b)
    (λ _. with_count_low b c list place _ (raised_low b c list (count_at c list place) (least_served c list es) (low list place) low) low)
    (λ _. low)

pub cleared_low : (b : ℕ) (c : LeastServed) (place : ℕ) → Within b c → Within b (after_cleared c place)
cleared_low b c place low =
    cond_both (ltb place 64) (with_count (with_count c Credit place 0) Extra place 0) c (Within b)
    (λ _. with_count_low b (with_count c Credit place 0) Extra place 0 (omega arith) (with_count_low b c Credit place 0 (omega arith) low))
    (λ _. low)

price_low : (price : ℕ) → in_tariff price ≡ true → price ≤ 720720
price_low price t = price_bound (720720 / price) price (mul_comm (720720 / price) price ∙ factored price t)

added_low : (place length price : ℕ) → countable place length price ≡ true → length * price ≤ most
added_low place length price t =
    let p = and_parts _ _ (and_parts _ _ t).1 in
    mul-le-mul (leb-true length 1536 p.0) (price_low price p.1)

pub served_low : (b : ℕ) (c : LeastServed) (list : ListKind) (place length price : ℕ) → Within b c
    → Within (most + b) (after_served stopped c list place length price)
served_low b c list place length price low =
    let own : count_at c list place ≤ b = low list place in
    cond_both (countable place length price) (with_count c list place (stopped (count_at c list place + length * price))) c (Within (most + b))
    (λ t.
    let more = added_low place length price t in
    with_count_low (most + b) c list place _ (omega arith) (within_more b (most + b) c (omega arith) low))
    (λ _. within_more b (most + b) c (omega arith) low)

-- while no count can be past 2^63 - 1, the stop makes no difference
pub served_exact : (b : ℕ) (c : LeastServed) (list : ListKind) (place length price : ℕ) → Within b c → most + b ≤ 9223372036854775807
    → after_served stopped c list place length price ≡ after_served (λ n. n) c list place length price
served_exact b c list place length price low far =
    ⊎_elim
    (λ t.
    let own = low list place in
    let more = added_low place length price t in
    let same : stopped (count_at c list place + length * price) ≡ count_at c list place + length * price = omega arith in
    ap (λ n. cond (countable place length price) (with_count c list place n) c) same)
    (λ f. cond-false (countable place length price) _ c f ∙ sym (cond-false (countable place length price) _ c f))
    (cases_Bool (countable place length price))

-- ---- any telling, and any list of them, where a join raises no count above the largest
abbrev pub JoinsLow : (LeastServed → ListKind → ℕ → List Entry → LeastServed) → Type 0
JoinsLow join =
    (b : ℕ) (c : LeastServed) (list : ListKind) (place : ℕ) (es : List Entry)
    → Within b c → Within b (join c list place es)

module _ (pick : LeastServed → ListKind → List Entry → Option ℕ)
    (join : LeastServed → ListKind → ℕ → List Entry → LeastServed) (h : JoinsLow join) where
  abbrev pub joining : (ℕ → ℕ) → Meaning LeastServed
  joining stop =
      record { pick = pick; served = after_served stop; joined = join; cleared = after_cleared }

  told_low : (n : ℕ) (c : LeastServed) (t : Telling)
      → Within (most * n) c → Within (most * (serving t + n)) (told (joining stopped) c t)
  told_low n c (served list place length price) low =
      within_more (most + most * n) (most * (1 + n)) _ (omega arith)
      (served_low (most * n) c list place length price low)
  told_low n c (joined list place es) low =
      within_more (most * n) (most * (0 + n)) _ (omega arith) (h (most * n) c list place es low)
  told_low n c (cleared place) low =
      within_more (most * n) (most * (0 + n)) _ (omega arith) (cleared_low (most * n) c place low)

  told_exact : (n : ℕ) (c : LeastServed) (t : Telling)
      → Within (most * n) c → serving t + n ≤ 2000000000
      → told (joining stopped) c t ≡ told (joining (λ m. m)) c t
  told_exact n c (served list place length price) low few =
      served_exact (most * n) c list place length price low (omega arith)
  told_exact n c (joined list place es) low few = refl
  told_exact n c (cleared place) low few = refl

  told_all_low : (n : ℕ) (c : LeastServed) (ts : List Telling)
      → Within (most * n) c → Within (most * (servings ts + n)) (told_all (joining stopped) c ts)
  told_all_low n c [] low = within_more (most * n) (most * (0 + n)) c (omega arith) low
  told_all_low n c (t ∷ ts) low =
      within_more (most * (servings ts + (serving t + n))) (most * (serving t + servings ts + n)) _
      (omega arith)
      (told_all_low (serving t + n) (told (joining stopped) c t) ts (told_low n c t low))

  told_all_exact : (n : ℕ) (c : LeastServed) (ts : List Telling)
      → Within (most * n) c → servings ts + n ≤ 2000000000
      → told_all (joining stopped) c ts ≡ told_all (joining (λ m. m)) c ts
  told_all_exact n c [] low few = refl
  told_all_exact n c (t ∷ ts) low few =
      told_all_exact (serving t + n) (told (joining stopped) c t) ts (told_low n c t low)
      (omega arith)
      ∙ ap (λ x. told_all (joining (λ m. m)) x ts) (told_exact n c t low (omega arith))

  pub counts_low : CountsLow joining
  counts_low ts list place =
      let low = told_all_low 0 unserved ts unserved_low list place in omega arith

  pub no_stop : NoStop joining
  no_stop ts few = told_all_exact 0 unserved ts unserved_low (omega arith)

-- a list that is not sound changes nothing
sound_joins_low : JoinsLow least_served_meaning.joined
sound_joins_low b c list place es low =
    if_sound_both (Within b) c (λ o. after_joined c list place o.entries) low
    (λ o. joined_low b c list place o.entries low) es (sound es) refl

pub counts_stay_low : CountsStayLow
counts_stay_low = record {
  as_meant = counts_low least_served_meaning.pick least_served_meaning.joined sound_joins_low;
  of_any_list = counts_low least_served after_joined joined_low;
}

pub never_stops : NeverStops
never_stops = record {
  as_meant = no_stop least_served_meaning.pick least_served_meaning.joined sound_joins_low;
  of_any_list = no_stop least_served after_joined joined_low;
}
