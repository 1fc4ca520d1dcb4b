-- Whose turn it is, and who sends in it: every offer that a cell makes is sound, so each pick is
-- one of those offered.
use Rattle.std.proofs.Common.{◌≡◌, ℕ, zero, suc, ◌+◌, ◌*◌, ◌<◌, ◌≤◌, Bool, true, false, not, ◌&&◌}
use Rattle.std.proofs.Common.{eqb, leb, ◌⊎◌, List, [], ◌∷◌, length, ℤ, pos, negsuc, ◌+ℤ◌, nat_abs}
use Rattle.std.proofs.Common.{Some, None, Option, sym, refl, ap, ◌∙◌, inl, inr, arith}
use borrow.Author.Differences.{ints}
use Rattle.std.proofs.lemmas.Bool.{both_ways, and_parts, and_from, eq-eqb, le-leb, cases_lt}
use Rattle.tariff.specs.Tariff.{link}
use Rattle.chooser.specs.Offers.{lag_bound, offered_at, PicksOffered, sound_entry, all_sound, sound}
use Rattle.model.specs.Limits.{places}
use Rattle.model.specs.Session.{Session, vacant, able, leads, lags, above_zero, below_zero}
use Rattle.model.specs.Table.{Table, at, total, totalℤ, chosen, total_owed}
use Rattle.model.specs.Lists.{ListKind, Credit, Extra, stands_in, entry, entry_of, offer, stayed}
use Rattle.chooser.specs.Meaning.{Meaning, Lawful}
use Rattle.model.specs.Turn.{Way, by_right, by_allowance, by_credit, unclaimed, by_extra, idle, way}
use Rattle.model.specs.Cell.{Cell}
use Rattle.model.specs.Calls.{decide}
use Rattle.model.proofs.Tables.{at_past, at_le_total}
use Rattle.model.proofs.Ledger.{Book, Ordered}
use Rattle.model.proofs.Share.{least_reached, active_booked, able_active}
use Rattle.model.proofs.Chosen.{chosen_next}

-- ---- who sends

entry_offered : (b : Bool) (s : Session) → (entry b s).offered ≡ b
entry_offered true s = refl
entry_offered false s = refl

not_vacant : (l : ListKind) → false ≡ stands_in l vacant
not_vacant Credit = refl
not_vacant Extra = refl

-- an offer offers exactly those in the list
pub offered_is : (l : ListKind) (t : Table) (j : ℕ) →
    offered_at (offer l t) j ≡ stands_in l (at t j)
unfolding at
offered_is l [] j = not_vacant l
offered_is l (s ∷ t) zero = entry_offered (stands_in l s) s
offered_is l (s ∷ t) (suc j) = offered_is l t j

-- what each way says of the chosen session s and of the sender
abbrev pub Rightly : Table → Session → Way → Type 0
Rightly t s by_right = able s ≡ true
Rightly t s by_allowance = able s ≡ true
Rightly t s unclaimed = able s ≡ true
Rightly t s (by_credit q) =
    (able (at t q) ≡ true) × (lags (at t q) ≡ true) × (able s ≡ true → leads s ≡ true)
Rightly t s (by_extra q) = (able (at t q) ≡ true) × (able s ≡ false)
Rightly t s idle = (j : ℕ) → able (at t j) ≡ false

neither : (a l : Bool) → (a && l) ≡ false → (a && not l) ≡ false → a ≡ false
neither true true e f = e
neither true false e f = f
neither false l e f = refl

rightly : (t : Table) (s : Session) (a l b : Bool) (p q : Option ℕ) → able s ≡ a → leads s ≡ l →
    PicksOffered (offer Credit t) p → PicksOffered (offer Extra t) q → Rightly t s (way a l b p q)
rightly t s true false b p q e f g h = e
rightly t s true true true p q e f g h = e
rightly t s true true false (Some j) q e f g h =
    let r = and_parts (able (at t j)) (lags (at t j)) (sym (offered_is Credit t j) ∙ g) in (r.0, r.1, λ _. f)
rightly t s true true false None q e f g h = e
rightly t s false l b (Some j) q e f g h =
    let r = and_parts (able (at t j)) (lags (at t j)) (sym (offered_is Credit t j) ∙ g) in (r.0, r.1, λ a. absurd (both_ways (able s) e a))
rightly t s false l b None (Some j) e f g h =
    let r = and_parts (able (at t j)) (not (lags (at t j))) (sym (offered_is Extra t j) ∙ h) in (r.0, e)
rightly t s false l b None None e f g h =
    λ j. neither (able (at t j)) (lags (at t j)) (sym (offered_is Credit t j) ∙ g j) (sym (offered_is Extra t j) ∙ h j)

-- ---- offers are sound

sides : (t : Table) →
    totalℤ (λ s. s.lag) t +ℤ pos (total (λ s. below_zero s.lag) t) ≡ pos (total_owed t)
unfolding total totalℤ
sides [] = refl
sides (s ∷ t) =
    by s.lag (totalℤ (λ s. s.lag) t) (total (λ s. below_zero s.lag) t) (total_owed t) (sides t)
  where
    by : (z y : ℤ) (a b : ℕ) → y +ℤ pos a ≡ pos b →
        (z +ℤ y) +ℤ pos (below_zero z + a) ≡ pos (above_zero z + b)
    by (pos n) y a b e = omega (arith, ints)
    by (negsuc n) y a b e = omega (arith, ints)

abs_within : (z : ℤ) (n : ℕ) → above_zero z ≤ n → below_zero z ≤ n → nat_abs z ≤ n
abs_within (pos k) n a b = a
abs_within (negsuc k) n a b = b

-- no lag is further from zero than all lagging sessions together are owed
pub lag_within : (t : Table) (j : ℕ) → totalℤ (λ s. s.lag) t ≡ pos 0 →
    nat_abs (at t j).lag ≤ total_owed t
lag_within t j e = by (cases_lt j (length t))
  where
    by : (j < length t) ⊎ (length t ≤ j) → nat_abs (at t j).lag ≤ total_owed t
    by (inr l) = omega (arith, ap (λ (s : Session). nat_abs s.lag) (at_past t j l))
    by (inl l) =
        let b = at_le_total (λ s. below_zero s.lag) t j l in
        let c = sides t in
        let f : total (λ s. below_zero s.lag) t ≡ total_owed t = omega (arith, ints) in
        abs_within (at t j).lag (total_owed t) (at_le_total (λ s. above_zero s.lag) t j l) (omega arith)

length_offer : (l : ListKind) (t : Table) → length (offer l t) ≡ length t
length_offer l [] = refl
length_offer l (s ∷ t) = ap suc (length_offer l t)

length_stayed : (l : ListKind) (bs : List Bool) (t : Table) → length bs ≡ length t →
    length (stayed l bs t) ≡ length t
unfolding stayed
length_stayed l [] [] e = refl
length_stayed l [] (s ∷ t) e = e
length_stayed l (b ∷ bs) [] e = refl
length_stayed l (b ∷ bs) (s ∷ t) e = ap suc (length_stayed l bs t (omega arith))

-- whoever is able may be offered
abbrev Offerable : Session → Type 0
Offerable s = (b : Bool) → (b ≡ true → able s ≡ true) → sound_entry (entry b s) ≡ true

line_able : (l : ListKind) (s : Session) → stands_in l s ≡ true → able s ≡ true
line_able Credit s e = (and_parts (able s) (lags s) e).0
line_able Extra s e = (and_parts (able s) (not (lags s)) e).0

all_offer : (l : ListKind) (t : Table) → ((j : ℕ) → Offerable (at t j)) →
    all_sound (offer l t) ≡ true
unfolding at all_sound
all_offer l [] h = refl
all_offer l (s ∷ t) h =
    and_from (sound_entry (entry_of l s)) (all_sound (offer l t)) (h 0 (stands_in l s) (line_able l s))
    (all_offer l t (λ j. h (suc j)))

all_stayed : (l : ListKind) (bs : List Bool) (t : Table) → ((j : ℕ) → Offerable (at t j)) →
    all_sound (stayed l bs t) ≡ true
unfolding at all_sound stayed
all_stayed l [] t h = refl
all_stayed l (b ∷ bs) [] h = refl
all_stayed l (b ∷ bs) (s ∷ t) h =
    and_from (sound_entry (entry (b && stands_in l s) s)) (all_sound (stayed l bs t))
    (h 0 (b && stands_in l s) (λ e. line_able l s (and_parts b (stands_in l s) e).1)) (all_stayed l bs t (λ j. h (suc j)))

module _ {C : Type 0} (x : Cell C) (o : Ordered x) where
  offerable : (j : ℕ) → Offerable (at x.table j)
  offerable j false h = refl
  offerable j true h =
      let s = at x.table j in
      let r = o.book.draft.rows j in
      and_from (eqb (s.rate * s.price) link) (leb (nat_abs s.lag) lag_bound)
      (eq-eqb (s.rate * s.price) link (r.priced (active_booked x.mark s r (able_active x.mark s r (h refl)))))
      (le-leb (nat_abs s.lag) lag_bound (omega (arith, lag_within x.table j o.book.draft.balance, o.owing, o.few)))

  pub sound_offer : (l : ListKind) → sound (offer l x.table) ≡ true
  sound_offer l =
      and_from (eqb (length (offer l x.table)) places) (all_sound (offer l x.table))
      (eq-eqb (length (offer l x.table)) places (length_offer l x.table ∙ o.book.draft.size)) (all_offer l x.table offerable)

  pub sound_stayed : (l : ListKind) (bs : List Bool) → length bs ≡ places →
      sound (stayed l bs x.table) ≡ true
  sound_stayed l bs e =
      and_from (eqb (length (stayed l bs x.table)) places) (all_sound (stayed l bs x.table))
      (eq-eqb (length (stayed l bs x.table)) places (length_stayed l bs x.table (e ∙ sym o.book.draft.size) ∙ o.book.draft.size))
      (all_stayed l bs x.table offerable)

pub decides : {C : Type 0} (M : Meaning C) → Lawful M → (x : Cell C) (c : ℕ) → Ordered x →
    Rightly x.table (at x.table c) (decide M x.chooser x.table c)
decides M law x c f =
    rightly x.table (at x.table c) (able (at x.table c)) (leads (at x.table c)) _ _ _ refl refl
    (law x.chooser Credit (offer Credit x.table) (sound_offer x f Credit))
    (law x.chooser Extra (offer Extra x.table) (sound_offer x f Extra))

-- the chosen session is active and at the mark
pub record Chosen (m : ℕ) (t : Table) (c : ℕ) : Type 0 where
  pub inside : c < length t
  pub active : (at t c).active ≡ true
  pub level : (at t c).virtual_time ≡ m

pub chosen_is : (m : ℕ) (t : Table) (c : ℕ) → Book m t → chosen t ≡ Some c → Chosen m t c
chosen_is m t c b e =
    let n = chosen_next t c e in
    let k = least_reached t m (b.lowest c n.active) in
    record {
      inside =
          n.inside;
      active = n.active;
      level = omega
          (arith, n.least k.0 k.2, k.3, (b.draft.rows c).ahead n.active);
    }
