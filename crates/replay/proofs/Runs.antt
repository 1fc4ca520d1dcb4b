-- One call of some, and then those after it.
use Rattle.std.proofs.Common.{◌≡◌, ℕ, ◌+◌, ◌<◌, ◌≤◌, List, length, get_or, drop, sym, ap, ◌∙◌}
use Rattle.std.proofs.lemmas.List.{drop_all, drop_more}
use Rattle.model.specs.Calls.{step}
use Rattle.model.specs.Cell.{Cell}
use Rattle.model.specs.History.{after}
use Rattle.chooser.specs.Meaning.{Meaning}
use Rattle.record.specs.declared.call.Call.{Call}
use Rattle.replay.specs.Events.{call_as, calls_as}

module _ {C : Type 0} (M : Meaning C) (x : Cell C) (calls : List Call) where
  pub one_made : (y : Cell C) (i : ℕ) (d : Call) → i < length calls → y ≡ (step M x (call_as (get_or calls i d))).cell
      → after M x (calls_as (drop i calls)) ≡ after M y (calls_as (drop (i + 1) calls))
  unfolding after
  one_made y i d h e =
      ap (λ (l : List Call). after M x (calls_as l)) (drop_more calls i d h)
      ∙ ap (λ (z : Cell C). after M z (calls_as (drop (i + 1) calls))) (sym e)

  pub all_made : (i : ℕ) → length calls ≤ i → after M x (calls_as (drop i calls)) ≡ x
  unfolding after
  all_made i h = ap (λ (l : List Call). after M x (calls_as l)) (drop_all i calls h)
