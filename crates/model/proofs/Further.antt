-- The further promises: what the turn of whoever is chosen leaves, said of every accepted turn of
-- every history.
use Rattle.std.proofs.Common.{◌≡◌, ℕ, Ok, Some, subst}
use Rattle.answer.specs.declared.turn.Answer.TheVariants.{Turn as Turned}
use Rattle.answer.specs.declared.turn.Turn.{Turn}
use Rattle.model.specs.Table.{chosen, active_count}
use Rattle.chooser.specs.Meaning.{Meaning, Lawful}
use Rattle.model.specs.Turn.{answer_of}
use Rattle.model.specs.Cell.{Cell, settled}
use Rattle.model.specs.Calls.{turn, decide, turn_after, turn_of, accepted, step, new}
use Rattle.model.specs.Reasons.{sender_of, Reason, Debt}
use Rattle.model.specs.History.{after}
use Rattle.model.specs.Further.{SaysWhy, ChargesTheChosen, WritesDownTheDebt, FurtherPromises}
use Rattle.model.specs.Further.{AllPromises}
use Rattle.model.proofs.Ledger.{Ordered}
use Rattle.model.proofs.Chosen.{chosen_next}
use Rattle.model.proofs.Senders.{decides}
use Rattle.model.proofs.Reasons.{way_reason, Charged, turn_charged}
use Rattle.model.proofs.Debts.{turn_debt}
use Rattle.model.proofs.Cases.{each_case}
use Rattle.model.proofs.Histories.{not_turned, not_refused, same_turn, reached, waits, promises}
use Rattle.model.proofs.Laws.{departs_justly}
use Rattle.model.proofs.Tellings.{hears}

module _ {C : Type 0} (M : Meaning C) (law : Lawful M) where
  -- what holds of the turn of whoever is chosen, and of the cell that it leaves, holds of an
  -- accepted turn
  turn_leaves : (x : Cell C) (P : Turn → Cell C → Type 0) → Ordered x →
      ((c : ℕ) → chosen x.table ≡ Some c → P (answer_of x.table c (decide M x.chooser x.table c)) (turn_of M x c).cell) →
      (a : Turn) → (step M x turn).answer ≡ Ok (Turned a) → P a (step M x turn).cell
  unfolding accepted
  turn_leaves x P s h =
      each_case M x s.book.draft.size (λ _ o. (a : Turn) → o.answer ≡ Ok (Turned a) → P a o.cell)
      (λ _ why a e. not_refused (Turned a) why e)
      (λ _ _ _ _ _ _ a e. not_turned a e)
      (λ _ _ _ _ _ a e. not_turned a e)
      (λ _ _ _ _ _ _ _ _ a e. not_turned a e)
      (λ _ _ _ _ a e. not_turned a e)
      (λ c k _ a e. subst (λ (a : Turn). P a (turn_of M x c).cell) (same_turn (answer_of x.table c (decide M x.chooser x.table c)) a e) (h c k))
      turn

  pub reasons : (keep : ℕ) (c : C) → SaysWhy M (new keep c)
  reasons keep c ks =
      let x = after M (new keep c) ks in
      let s = reached M law keep c ks in
      turn_leaves x (λ a _. Reason M x.chooser x.table a.chosen (sender_of a.sent) a.kind) s (λ c e. way_reason M law x c s)

  pub charges : (keep : ℕ) (c : C) → ChargesTheChosen M (new keep c)
  unfolding settled turn_after
  charges keep c ks =
      let x = after M (new keep c) ks in
      turn_leaves x (λ a y. Charged a.chosen a.length x.table y.table) (reached M law keep c ks)
      (λ c e. turn_charged x.keep c _ x.table (chosen_next x.table c e).inside (decide M x.chooser x.table c))

  pub debts : (keep : ℕ) (c : C) → WritesDownTheDebt M (new keep c)
  unfolding settled turn_after
  debts keep c ks =
      let x = after M (new keep c) ks in
      let t = x.table in
      let s = reached M law keep c ks in
      turn_leaves x
      (λ a y. active_count y.table ≡ active_count t → Debt a.chosen a.length (sender_of a.sent) t y.table) s
      (λ c e. turn_debt x.keep _ t c (chosen_next t c e).inside (decide M x.chooser x.table c) (decides M law x c s))

  pub further_promises : (keep : ℕ) (c : C) → FurtherPromises M (new keep c)
  further_promises keep c = record {
    why = reasons keep c;
    charges = charges keep c;
    debts = debts keep c;
    waits = waits M law keep c;
    hears = hears M keep c;
  }

  pub all_promises : (keep : ℕ) (c : C) → AllPromises M (new keep c)
  all_promises keep c = record {
    promises = promises M law keep c;
    further = further_promises keep c;
    departures = departs_justly;
  }
