-- Why a turn goes to whom it goes, said of chooser and table just before it by the kind of its
-- answer; and the debt that it leaves.
use Rattle.std.specs.Prelude.{◌≡◌, ℕ, Bool, true, false, not, ◌&&◌, pos, ◌+ℤ◌, ◌-ℤ◌, Some, None}
use Rattle.std.specs.Prelude.{Option, option_map, ◌≢◌, int_le}
use Rattle.answer.specs.declared.turn.Kind.{Kind}
use Rattle.answer.specs.declared.turn.Kind.TheVariants.{Normal, Credit as OnCredit, Kept}
use Rattle.answer.specs.declared.turn.Kind.TheVariants.{Extra as OnExtra, Idle}
use Rattle.answer.specs.declared.turn.Sent.{Sent}
use Rattle.model.specs.Session.{Session, able, leads}
use Rattle.model.specs.Table.{Table, at}
use Rattle.chooser.specs.Meaning.{Meaning}
use Rattle.model.specs.Lists.{ListKind, Credit, Extra, stands_in, picked_from}

-- it leads, and its allowance is below 0
abbrev pub overdrawn : Session → Bool
overdrawn s = leads s && not (int_le (pos 0) s.allowance)

abbrev pub NobodyIn : ListKind → Table → Type 0
NobodyIn list t = (j : ℕ) → stands_in list (at t j) ≡ false

abbrev pub sender_of : Option Sent → Option ℕ
sender_of o = option_map (λ s. s.sender) o

-- the sender stands in a list
abbrev pub StandsIn : ListKind → Table → Option ℕ → Type 0
StandsIn list t None = ⊥
StandsIn list t (Some q) = stands_in list (at t q) ≡ true

module _ {C : Type 0} (M : Meaning C) (c : C) (t : Table) where
  -- the sender is the chooser's pick from what a list offers, and stands in that list
  abbrev pub PickedFrom : ListKind → Option ℕ → Type 0
  PickedFrom list o = (o ≡ picked_from M c list t) × StandsIn list t o

  -- Of the chosen place k and the sender, if there is one. The chosen sends while it is able and
  -- not overdrawn. Otherwise the chooser's pick of those who are owed sends, if anybody owed is
  -- able; only then an able chosen keeps its turn, and only if it cannot, the chooser's pick of
  -- those who are owed nothing sends.
  abbrev pub Reason : ℕ → Option ℕ → Kind → Type 0
  Reason k o Normal = (o ≡ Some k) × (able (at t k) ≡ true) × (overdrawn (at t k) ≡ false)
  Reason k o OnCredit = PickedFrom Credit o × ((able (at t k) && not (overdrawn (at t k))) ≡ false)
  Reason k o Kept =
      (o ≡ Some k) × (able (at t k) ≡ true) × (overdrawn (at t k) ≡ true) × NobodyIn Credit t
  Reason k o OnExtra = PickedFrom Extra o × (able (at t k) ≡ false) × NobodyIn Credit t
  Reason k o Idle = (o ≡ None) × NobodyIn Credit t × NobodyIn Extra t

-- Between tables t and u, n bytes were sent by o in the turn of place c. If another sent them, the
-- chosen is owed them and the sender has had them; no other lag moves.
abbrev pub Debt : ℕ → ℕ → Option ℕ → Table → Table → Type 0
Debt c n None t u = (i : ℕ) → (at u i).lag ≡ (at t i).lag
Debt c n (Some q) t u =
    (c ≡ q → (i : ℕ) → (at u i).lag ≡ (at t i).lag) ×
    ((c ≢ q) →
    ((at u c).lag ≡ (at t c).lag +ℤ pos n) ×
    ((at u q).lag ≡ (at t q).lag -ℤ pos n) ×
    ((i : ℕ) → (c ≢ i) → (q ≢ i) → (at u i).lag ≡ (at t i).lag))
