-- The books are a single fact: what a struct carries of them can be read again.
use Rattle.std.proofs.Common.{◌≡◌, ℕ, List, [], ◌∷◌, ap}
use native.Mathlib.Bridge.{le_prop}
use native.Mathlib.Decide.{ℕ_discrete}
use mathlib.Core.Bool.{Bool-set}
use mathlib.Core.List.{is_set}
use mathlib.Core.HLevel.{Unit-prop, Π_prop, →_prop, ×_prop, hedberg}
use mathlib.Core.Logic.{∥∥₁_elim}
use lib.IntN.{ℤ_set}
use Rattle.std.specs.List.{AllByRecursion}
use Rattle.model.specs.Session.{Frame, Session}
use Rattle.model.specs.Table.{Table, at}
use Rattle.model.specs.Sound.{Fits, Orderly, Books, InOrder}

ℕ_set : IsSet ℕ
ℕ_set = hedberg ℕ_discrete

-- a field that is a set has one proof that it is equal
abbrev same : {R X : Type 0} → IsSet X → (f : R → X) (s t : R) (p q : s ≡ t) → ap f p ≡ ap f q
same h f s t p q = h (f s) (f t) (ap f p) (ap f q)

frame_set : IsSet Frame
frame_set f g p q i j = record {
  tag = same ℕ_set (λ f. f.tag) f g p q i j;
  length = same ℕ_set (λ f. f.length) f g p q i j;
}

session_set : IsSet Session
session_set s t p q i j = record {
  booked = same Bool-set (λ s. s.booked) s t p q i j;
  rate = same ℕ_set (λ s. s.rate) s t p q i j;
  price = same ℕ_set (λ s. s.price) s t p q i j;
  virtual_time = same ℕ_set (λ s. s.virtual_time) s t p q i j;
  lag = same ℤ_set (λ s. s.lag) s t p q i j;
  allowance = same ℤ_set (λ s. s.allowance) s t p q i j;
  good = same Bool-set (λ s. s.good) s t p q i j;
  active = same Bool-set (λ s. s.active) s t p q i j;
  queue = same (is_set frame_set) (λ s. s.queue) s t p q i j;
}

fits_prop : (f : Frame) → IsProp (Fits f)
fits_prop f = ×_prop le_prop le_prop

frames_prop : (q : List Frame) → IsProp (AllByRecursion Fits q)
frames_prop [] = Unit-prop
frames_prop (f ∷ q) = ×_prop (fits_prop f) (frames_prop q)

orderly_prop : (mark turns : ℕ) (s : Session) → IsProp (Orderly mark turns s)
orderly_prop mark turns s a b i = record {
  priced = →_prop (ℕ_set _ _) a.priced b.priced i;
  bare = →_prop (session_set _ _) a.bare b.bare i;
  status = Bool-set _ _ a.status b.status i;
  quiet = →_prop (ℤ_set _ _) a.quiet b.quiet i;
  near = le_prop a.near b.near i;
  early = le_prop a.early b.early i;
  modest = le_prop a.modest b.modest i;
  frames = frames_prop s.queue a.frames b.frames i;
  room = le_prop a.room b.room i;
}

books_prop : (keep mark turns : ℕ) (t : Table) → IsProp (Books keep mark turns t)
books_prop keep mark turns t a b i = record {
  size = ℕ_set _ _ a.size b.size i;
  rows = Π_prop (λ j. orderly_prop mark turns (at t j)) a.rows b.rows i;
  rates = le_prop a.rates b.rates i;
  balance = ℤ_set _ _ a.balance b.balance i;
  owing = le_prop a.owing b.owing i;
  lowest = Π_prop (λ v. →_prop (ℕ_set _ _)) a.lowest b.lowest i;
  early = le_prop a.early b.early i;
  few = le_prop a.few b.few i;
  modest = le_prop a.modest b.modest i;
}

pub books : {keep mark turns : ℕ} {t : Table} → InOrder keep mark turns t → Books keep mark turns t
books {keep} {mark} {turns} {t} o = ∥∥₁_elim o (books_prop keep mark turns t) (λ b. b)
