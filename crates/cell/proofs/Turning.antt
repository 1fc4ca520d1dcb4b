-- Rows written one after another, as sessions that change.
use Rattle.std.proofs.Common.{◌≡◌, ℕ, set, IfSome, sym, ap, ◌∙◌, subst}
use Rattle.chooser.specs.declared.place.Place.{Place}
use Rattle.model.proofs.Tables.{at_is, change_is, at_other}
use Rattle.model.specs.Lists.{ListKind, Credit, Extra}
use Rattle.model.specs.Session.{Session}
use Rattle.model.specs.Table.{Table, at, change}
use Rattle.model.specs.Turn.{hands_on, takes_up, turned}
use Rattle.cell.specs.Ways.{way_as, handed_to}
use Rattle.cell.specs.declared.decide.Way.{Way}
use Rattle.cell.specs.declared.decide.Way.TheVariants.{HandedOn}

-- reading a session and changing it, as on a list
pub ruleset on_lists = (at_is, change_is)

-- a session that is written as it is made of the one at its place
made_there : (t : Table) (i : ℕ) (f : Session → Session) → set t i (f (at t i)) ≡ change t i f
made_there t i f = ap (λ (s : Session). set t i (f s)) (at_is t i) ∙ sym (change_is t i f)

-- of two places
two_made : (t : Table) (i j : ℕ) (f g : Session → Session) → (i ≡ j → ⊥) →
    set (set t i (f (at t i))) j (g (at t j)) ≡ change (change t i f) j g
two_made t i j f g n =
    ap (λ (u : Table). set u j (g (at t j))) (made_there t i f)
    ∙ ap (λ (s : Session). set (change t i f) j (g s)) (sym (at_other t i j f n))
    ∙ made_there (change t i f) j g

-- a turn that is handed on from the chosen place to another, both as they were found
handed : (keep n : ℕ) (t : Table) (chosen other : Place) (l : ListKind) → IfSome (handed_to (way_as (HandedOn l other))) (λ q. chosen.number ≡ q → ⊥) →
    set (set t chosen.number (hands_on keep n (at t chosen.number))) other.number (takes_up n (at t other.number))
    ≡ turned keep t chosen.number n (way_as (HandedOn l other))
handed keep n t chosen other Credit apart = two_made t chosen.number other.number (hands_on keep n) (takes_up n) apart
handed keep n t chosen other Extra apart = two_made t chosen.number other.number (hands_on keep n) (takes_up n) apart

pub handed_left : (keep n : ℕ) (t : Table) (chosen other a b : Place) (l : ListKind) (way : Way) (r s : Session) → way ≡ HandedOn l other →
    a ≡ chosen → b ≡ other → r ≡ at t chosen.number → s ≡ at t other.number → IfSome (handed_to (way_as way)) (λ q. chosen.number ≡ q → ⊥) →
    set (set t a.number (hands_on keep n r)) b.number (takes_up n s) ≡ turned keep t chosen.number n (way_as way)
handed_left keep n t chosen other a b l way r s is x y d e apart =
    (λ i. set (set t (x i).number (hands_on keep n (d i))) (y i).number (takes_up n (e i)))
    ∙ handed keep n t chosen other l (subst (λ (w : Way). IfSome (handed_to (way_as w)) (λ q. chosen.number ≡ q → ⊥)) is apart)
    ∙ sym (ap (λ (w : Way). turned keep t chosen.number n (way_as w)) is)
