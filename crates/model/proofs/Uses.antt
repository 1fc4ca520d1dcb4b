-- What a program over the definition needs of it: sound offers, how large each number can get in
-- the midst of a turn, and shares that change nothing.
use Rattle.std.proofs.Common.{◌≡◌, ℕ, ◌+◌, ◌-◌, ◌*◌, ◌/◌, ◌<◌, ◌≤◌, Bool, true, List, [], ◌∷◌}
use Rattle.std.proofs.Common.{length, ℤ, nat_abs, Some, refl, ap, ◌∙◌, ap₂, le_trans, zero-mul}
use Rattle.std.proofs.Common.{arith}
use native.Mathlib.Nat.{div-zero, zero-div}
use lib.IntN.{+ℤ_idr}
use Rattle.chooser.specs.Offers.{lag_bound, sound}
use Rattle.model.specs.Limits.{places, longest, most_turns}
use Rattle.model.specs.Session.{Session, with_lag}
use Rattle.model.specs.Table.{Table, at, chosen}
use Rattle.model.specs.Lists.{ListKind, stayed}
use Rattle.chooser.specs.Meaning.{Meaning, Lawful}
use Rattle.model.specs.Turn.{sender, length_of, owed, turned}
use Rattle.model.specs.Departures.{active_rate, part, share}
use Rattle.model.specs.Cell.{Cell}
use Rattle.model.specs.Calls.{decide}
use Rattle.model.specs.Sound.{Books, Midway, Sound}
use Rattle.model.proofs.Departures.{midway_of}
use Rattle.model.proofs.Senders.{lag_within, sound_stayed, decides, chosen_is}
use Rattle.model.proofs.Turn.{way_fits, way_draft, way_owes}
use Rattle.model.proofs.Books.{ordered_of}

-- ---- offers

module _ {keep mark turns : ℕ} {t : Table} (b : Books keep mark turns t) where
  abbrev bare : Cell (Unit {0})
  bare = record { keep = keep; mark = mark; turns = turns; table = t; chooser = tt }

  pub stayed_sound : (l : ListKind) (bs : List Bool) → length bs ≡ places →
      sound (stayed l bs t) ≡ true
  stayed_sound l bs e = sound_stayed bare (ordered_of bare b) l bs e

  -- ---- numbers after a call

  pub lag_low : (j : ℕ) → nat_abs (at t j).lag ≤ longest * turns
  lag_low j = le_trans (lag_within t j b.balance) b.owing

-- ---- the turn of the chosen session

module _ {C : Type 0} (M : Meaning C) (law : Lawful M) (x : Cell C) (b : Sound x) (c : ℕ) (e : chosen x.table ≡ Some c) where
  pub turn_length : length_of x.table (sender c (decide M x.chooser x.table c)) ≤ longest
  turn_length = way_fits x.mark x.table c (decide M x.chooser x.table c) (ordered_of x b).book.draft (decides M law x c (ordered_of x b))

  -- the table before the departures
  pub turn_midway : x.turns < most_turns →
      Midway lag_bound (turned x.keep x.table c (length_of x.table (sender c (decide M x.chooser x.table c))) (decide M x.chooser x.table c))
  turn_midway m =
      let o = ordered_of x b in
      let k = chosen_is x.mark x.table c o.book e in
      let w = decide M x.chooser x.table c in
      let n = length_of x.table (sender c w) in
      midway_of x.mark lag_bound (turned x.keep x.table c n w)
      (way_draft x.keep x.mark n x.table c w k (decides M law x c o) o.book.draft turn_length)
      (omega (arith, way_owes x.keep x.mark n x.table c w k (decides M law x c o), b.owing, turn_length))

-- ---- departures

owed_none : (n : ℕ) (s : Session) → n ≡ 0 → owed n s ≡ s
owed_none n s e = ap (λ (k : ℕ). owed k s) e ∙ ap (λ (z : ℤ). with_lag z s) (+ℤ_idr s.lag)

-- nothing is handed out if nothing was owed, and if nobody is left
pub share_nothing : (r c : ℕ) (t : Table) → share 0 r c t ≡ t
unfolding share
share_nothing r c [] = refl
share_nothing r c (s ∷ t) = ap₂ (λ (s : Session) (t : Table). s ∷ t) (owed_none _ s none) (share_nothing r (c + active_rate s) t)
  where
    none : part 0 r (c + active_rate s) - part 0 r c ≡ 0
    none = ap (λ (k : ℕ). k / r - part 0 r c) (zero-mul (c + active_rate s)) ∙ omega (arith, zero-div r)

pub share_nobody : (lag c : ℕ) (t : Table) → share lag 0 c t ≡ t
unfolding share
share_nobody lag c [] = refl
share_nobody lag c (s ∷ t) =
    ap₂ (λ (s : Session) (t : Table). s ∷ t) (owed_none _ s (omega (arith, div-zero (lag * (c + active_rate s)))))
    (share_nobody lag (c + active_rate s) t)
