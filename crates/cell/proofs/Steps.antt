-- A call that changes one place: what it leaves by the definition is what the code puts there and
-- settles.
use Rattle.std.proofs.Common.{◌≡◌, ℕ, Bool, List, [], ◌∷◌, set, Some, None, Ok, Err, Option, Result}
use Rattle.std.proofs.Common.{sym, refl, ap, ◌∙◌, subst, arith}
use Rattle.std.proofs.lemmas.Result.{err_from_is_err_and}
use Rattle.std.specs.Result.{IsErrAnd}
use Rattle.answer.specs.declared.refusal.Refusal.{Refusal}
use Rattle.answer.specs.declared.turn.Answer.{Answer}
use Rattle.answer.specs.declared.turn.Answer.TheVariants.{Done}
use Rattle.chooser.specs.Meaning.{Meaning, meant}
use Rattle.chooser.specs.Offers.{PicksOffered}
use Rattle.chooser.specs.Tellings.{Telling, cleared, told_all}
use Rattle.chooser.specs.declared.Chooser.{Ghosts}
use Rattle.chooser.specs.declared.offer.Offer.{Offer}
use Rattle.model.proofs.Books.{step_sound}
use Rattle.model.proofs.Meant.{lawful}
use Rattle.model.proofs.Order.{books}
use Rattle.model.proofs.Tables.{at_is, change_is}
use Rattle.model.proofs.Tellings.{told_all-append}
use Rattle.model.specs.Calls.{Call, opening, closing, arrival, report, refusal, unless, arrived}
use Rattle.model.specs.Calls.{Outcome, changed, accepted, outcome, step, answer_to, cell_after}
use Rattle.model.specs.Cell.{Cell, mark_after, all_joins, settled}
use Rattle.model.specs.Lists.{ListKind}
use Rattle.model.specs.Session.{Frame, Session, vacant, fresh, with_good}
use Rattle.model.specs.Sound.{Sound}
use Rattle.model.specs.Table.{Table, at, change}
use Rattle.tariff.specs.Tariff.{price_of}
use Rattle.cell.specs.View.{cell_of}
use Rattle.cell.specs.declared.schedule.Schedule.{Schedule}
use Rattle.cell.specs.Found.{with_session, BooksInOrder}
use Rattle.cell.specs.Plans.{plan}

-- ---- a plan, taken apart

pub planned : {X : Type 0} (o : Option Refusal) (s t : X) → Ok t ≡ unless o s → (o ≡ None) × (t ≡ s)
planned None s t e = (refl, cc)
planned (Some why) s t e = let z : ◌≡◌ {A = ℕ} 0 1 = cc in absurd (omega arith)

pub not_planned : {X : Type 0} (o : Option Refusal) (s : X) (why : Refusal) → Err why ≡ unless o s → o ≡ Some why
not_planned None s why e = let z : ◌≡◌ {A = ℕ} 0 1 = cc in absurd (omega arith)
not_planned (Some reason) s why e = let same : reason ≡ why = cc in ap Some same

-- putting a session at a place, or changing the one there into it
change_to : (t : Table) (k : ℕ) (f : Session → Session) (s : Session) → s ≡ f (at t k) → change t k (λ _. s) ≡ change t k f
change_to t k f s e =
    change_is t k (λ _. s) ∙ ap (set t k) (e ∙ ap f (at_is t k)) ∙ sym (change_is t k f)

module _ {C : Type 0} (M : Meaning C) (x : Cell C) where
  abbrev with_chooser : C → Cell C
  with_chooser c = record x { chooser = c }

  -- session s at place k, the chooser being c before it is told of joins
  abbrev left : ℕ → Session → C → Cell C
  left k s c = with_session M (with_chooser c) k s

  -- what the definition makes of a call: its answer, and the cell that it leaves
  abbrev pub Makes : Call → Result Answer Refusal → Cell C → Type 0
  Makes call r y = record { answer : r ≡ answer_to M x call; after : y ≡ cell_after M x call }

  pub makes_of : (call : Call) (o : Outcome M) → step M x call ≡ o → Makes call o.answer o.cell
  makes_of call o is = record { answer = sym (ap (λ (o : Outcome M). o.answer) is); after = sym (ap (λ (o : Outcome M). o.cell) is) }

  accepts : (call : Call) → refusal x call ≡ None → step M x call ≡ accepted M x call
  unfolding step
  accepts call e = ap (outcome M x call) e

  refuses : (call : Call) (why : Refusal) → refusal x call ≡ Some why → step M x call ≡ record { cell = x; answer = Err why }
  unfolding step
  refuses call why e = ap (outcome M x call) e

  -- what it is told first, and then of joins
  told_first : (u : Table) (ts : List Telling) →
      settled M (with_chooser (told_all M x.chooser ts)) u x.turns [] ≡ settled M x u x.turns ts
  unfolding settled
  told_first u ts =
      ap (λ (c : C). record {
        keep = x.keep;
        mark = mark_after x.mark x.table u;
        turns = x.turns;
        table = u;
        chooser = c;
      }) (sym (told_all-append M ts (all_joins x.table u) x.chooser))

  changed_to : (place : ℕ) (f : Session → Session) (k : ℕ) (s : Session) (ts : List Telling) (d : C) →
      k ≡ place → s ≡ f (at x.table place) → d ≡ told_all M x.chooser ts →
      left k s d ≡ (changed M x place f ts).cell
  changed_to place f k s ts d p e h =
      (λ i. left (p i) s (h i))
      ∙ ap (λ (u : Table). settled M (with_chooser (told_all M x.chooser ts)) u x.turns []) (change_to x.table place f s e)
      ∙ told_first (change x.table place f) ts

  makes : (call : Call) (place : ℕ) (f : Session → Session) (k : ℕ) (s : Session) (ts : List Telling) (d : C) →
      accepted M x call ≡ changed M x place f ts → (k ≡ place → d ≡ told_all M x.chooser ts) →
      Ok (k, s) ≡ plan x call place (f (at x.table place)) → Makes call (Ok Done) (left k s d)
  makes call place f k s ts d is h e =
      let p = planned (refusal x call) (place, f (at x.table place)) (k, s) e in
      let here = ap (λ p. p.0) p.1 in
      let m = makes_of call _ (accepts call p.0 ∙ is) in
      record { answer = m.answer; after = changed_to place f k s ts d here (ap (λ p. p.1) p.1) (h here) ∙ m.after }

  -- a refused call answers why, and leaves the cell as it was
  module _ {X Y : Type 0} (reads : Result Y Refusal → Result Answer Refusal) (err : (why : Refusal) → reads (Err why) ≡ Err why) where
    pub refused : (call : Call) (p : X) (why : Refusal) → Err why ≡ unless (refusal x call) p →
        (r : Result Y Refusal) → IsErrAnd r (λ y. y ≡ why) → Makes call (reads r) x
    refused call p why e r h =
        let m = makes_of call _ (refuses call why (not_planned (refusal x call) p why e)) in
        let is = err_from_is_err_and r h in
        record { answer = ap reads (is.1 ∙ ap Err is.2) ∙ err why ∙ m.answer; after = m.after }

-- a schedule has its books in order, and so has what a call leaves of it and its chooser
pub in_order : {C : Type 0} (g : Ghosts C) → ((c : C) (l : ListKind) (o : Offer) → PicksOffered o.entries (g.pick c l o)) → (s : Schedule) (c : C)
    (call : Call) (r : Result Answer Refusal) (y : Cell C) → Makes (meant g) (cell_of s c) call r y → BooksInOrder y
in_order g picks s c call r y m =
    let sound = step_sound (meant g) (lawful g picks) (cell_of s c) call (books s.ordered) in
    ∣ subst Sound (sym m.after) sound ∣₁

-- ---- each call, of a cell with these parts

module _ {C : Type 0} (M : Meaning C) (keep mark turns : ℕ) (t : Table) (c : C) where
  abbrev cell : Cell C
  cell = record { keep = keep; mark = mark; turns = turns; table = t; chooser = c }

  pub opens : (place rate k : ℕ) (s : Session) (d : C) → Ok (k, s) ≡ plan cell (opening place rate) place (fresh rate (price_of rate)) →
      d ≡ M.cleared c k → Makes M cell (opening place rate) (Ok Done) (left M cell k s d)
  unfolding accepted
  opens place rate k s d e h =
      makes M cell (opening place rate) place (λ _. fresh rate (price_of rate)) k s (cleared place ∷ []) d refl (λ p. h ∙ ap (M.cleared c) p) e

  pub closes : (place k : ℕ) (s : Session) → Ok (k, s) ≡ plan cell (closing place) place vacant → Makes M cell (closing place) (Ok Done) (left M cell k s c)
  unfolding accepted
  closes place k s = makes M cell (closing place) place (λ _. vacant) k s [] c refl (λ _. refl)

  pub arrives : (place : ℕ) (f : Frame) (k : ℕ) (s : Session) → Ok (k, s) ≡ plan cell (arrival place f.tag f.length) place (arrived mark f (at t place)) →
      Makes M cell (arrival place f.tag f.length) (Ok Done) (left M cell k s c)
  unfolding accepted
  arrives place f k s = makes M cell (arrival place f.tag f.length) place (arrived mark f) k s [] c refl (λ _. refl)

  pub reports : (place : ℕ) (good : Bool) (k : ℕ) (s : Session) → Ok (k, s) ≡ plan cell (report place good) place (with_good good (at t place)) →
      Makes M cell (report place good) (Ok Done) (left M cell k s c)
  unfolding accepted
  reports place good k s = makes M cell (report place good) place (with_good good) k s [] c refl (λ _. refl)

  -- what its clauses say of its answer, and of the cell z that the code leaves
  pub answers : (call : Call) (r : Result Answer Refusal) (y : Cell C) → Makes M cell call r y → r ≡ answer_to M cell call
  answers call r y m = m.answer

  pub leaves : (call : Call) (r : Result Answer Refusal) (y z : Cell C) → z ≡ y → Makes M cell call r y → z ≡ cell_after M cell call
  leaves call r y z e m = e ∙ m.after

pub ruleset calls = (opens, closes, arrives, reports, answers, leaves)
