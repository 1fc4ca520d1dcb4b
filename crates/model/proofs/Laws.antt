-- What departures do, of any table.
use Rattle.std.proofs.Common.{◌≡◌, ℕ, zero, suc, ◌+◌, ◌-◌, ◌*◌, ◌/◌, [], ◌∷◌, take, ℤ, pos, ◌+ℤ◌}
use Rattle.std.proofs.Common.{refl, ap, ◌∙◌, mul-zero, zero-add, arith}
use native.Mathlib.Nat.{zero-div, sub-zero}
use lib.IntN.{+ℤ_idr}
use Rattle.model.specs.Session.{with_lag}
use Rattle.model.specs.Table.{Table, at, total, totalℤ}
use Rattle.model.specs.Turn.{owed}
use Rattle.model.specs.Departures.{departing, active_rate, part, share}
use Rattle.model.specs.Laws.{HandsOutAll, Floors, KeepsTheSum, SparesTheInactive, DepartsJustly}
use Rattle.model.proofs.Tables.{first_found}
use Rattle.model.proofs.Departures.{share_at, parts, whole, departed_sum, departures_end}

hands_out_all : HandsOutAll
hands_out_all lag t h =
    let r = total active_rate t in
    parts lag r 0 r t (zero-add r) ∙ ap (λ (n : ℕ). totalℤ (λ s. s.lag) t +ℤ pos n) (whole lag r (λ e. absurd (omega arith)))

take_share : (lag r c n : ℕ) (t : Table) → take n (share lag r c t) ≡ share lag r c (take n t)
unfolding share
take_share lag r c zero t = refl
take_share lag r c (suc n) [] = refl
take_share lag r c (suc n) (s ∷ t) =
    ap (λ (u : Table). owed (part lag r (c + active_rate s) - part lag r c) s ∷ u) (take_share lag r (c + active_rate s) n t)

floors : Floors
floors lag r n t =
    let e = total active_rate (take n t) in
    let z : lag * 0 / r ≡ 0 = ap (λ (k : ℕ). k / r) (mul-zero lag) ∙ zero-div r in
    let d : lag * e / r - lag * 0 / r ≡ lag * e / r = ap (λ (k : ℕ). lag * e / r - k) z ∙ sub-zero (lag * e / r) in
    ap (totalℤ (λ s. s.lag)) (take_share lag r 0 n t)
    ∙ parts lag r 0 e (take n t) (zero-add e)
    ∙ ap (λ (k : ℕ). totalℤ (λ s. s.lag) (take n t) +ℤ pos k) d

keeps_sum : KeepsTheSum
keeps_sum t k e h = let f = first_found departing t k e in departed_sum t k f.0 f.1 (λ z. absurd (omega arith))

spares : SparesTheInactive
spares lag r j t a =
    let p = share_at lag r 0 t j in
    p.1 ∙ ap (λ (z : ℤ). with_lag z (at t j)) (ap (λ (n : ℕ). (at t j).lag +ℤ pos n) (p.2 a) ∙ +ℤ_idr (at t j).lag)

pub departs_justly : DepartsJustly
departs_justly = record { whole = hands_out_all; floors = floors; sum = keeps_sum; spares = spares; ends = departures_end }
