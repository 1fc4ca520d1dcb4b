-- Whose turn it is, as the definition says it.
use Rattle.std.specs.Prelude.{ℕ, Result, unwrap_or}
use Rattle.std.specs.Result.{result_map_both}
use Rattle.answer.specs.declared.refusal.Refusal.{Refusal}
use Rattle.chooser.specs.declared.place.Place.{Place}
use Rattle.model.specs.Calls.{turn, refusal, unless}
use Rattle.model.specs.Cell.{Cell}
use Rattle.model.specs.Table.{chosen}

-- the place, by its number
abbrev pub chosen_as : Result Place Refusal → Result ℕ Refusal
chosen_as r = result_map_both (λ p. p.number) (λ why. why) r

-- whose turn is next, or why there is none
abbrev pub next : {C : Type 0} → Cell C → Result ℕ Refusal
next x = unless (refusal x turn) (unwrap_or (chosen x.table) 0)
