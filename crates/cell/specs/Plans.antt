-- What a call would make of its place, or the first of its refusals whose condition holds.
use Rattle.std.specs.Prelude.{ℕ, [], ◌∷◌, Result, nat_le}
use Rattle.std.specs.Result.{result_map_both}
use Rattle.answer.specs.declared.refusal.Refusal.{Refusal}
use Rattle.answer.specs.declared.refusal.Refusal.TheVariants.{PlaceTooHigh}
use Rattle.model.specs.Calls.{Call, first_refusal, on_open_place, refusal, unless}
use Rattle.model.specs.Cell.{Cell}
use Rattle.model.specs.Limits.{places}
use Rattle.model.specs.Session.{Session}
use Rattle.model.specs.Table.{at}
use Rattle.session.specs.Seen.{seen}
use Rattle.session.specs.declared.row.Row.{Row}
use Rattle.cell.specs.declared.rows.Placed.{Placed}

-- a row that was found or made, as its place and the session that it stands for
abbrev pub sessions : Result (Placed Row) Refusal → Result (ℕ × Session) Refusal
sessions r = result_map_both (λ p. (p.place.number, seen p.held)) (λ why. why) r

-- what stands at a place, open or not
abbrev pub found : {C : Type 0} → Cell C → ℕ → Result (ℕ × Session) Refusal
found x place =
    unless (first_refusal ((nat_le places place, PlaceTooHigh) ∷ [])) (place, at x.table place)

-- what is put at a place, unless the call is refused
abbrev pub plan : {C : Type 0} → Cell C → Call → ℕ → Session → Result (ℕ × Session) Refusal
plan x call place s = unless (refusal x call) (place, s)

-- what stands at an open place
abbrev pub opened : {C : Type 0} → Cell C → ℕ → Result (ℕ × Session) Refusal
opened x place = unless (first_refusal (on_open_place x place [])) (place, at x.table place)
