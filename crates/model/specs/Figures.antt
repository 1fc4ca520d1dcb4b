-- Worked figures, computed from the definitions.
use Rattle.std.specs.Prelude.{◌≡◌, ℕ, true, List, [], ◌∷◌, map, replicate, ℤ, pos}
use Rattle.answer.specs.Numbers.{refusal_number}
use Rattle.tariff.specs.Tariff.{price_of}
use Rattle.model.specs.Session.{Session, fresh, with_active}
use Rattle.model.specs.Table.{Table, total}
use Rattle.chooser.specs.Meaning.{Meaning}
use Rattle.model.specs.Departures.{active_rate, share}
use Rattle.model.specs.Calls.{Call, opening, closing, arrival, turn, answer_to, new}
use Rattle.model.specs.History.{after}
use Rattle.model.specs.Promises.{most_sent}

-- active sessions of these rates, that are owed nothing
abbrev pub sharers : List ℕ → Table
sharers rates = map (λ (r : ℕ). with_active true (fresh r (price_of r))) rates

-- what each is owed when a lag is shared over them
abbrev pub shares_of : ℕ → List ℕ → List ℤ
shares_of lag rates =
    let t : Table = sharers rates in
    map (λ (s : Session). s.lag) (share lag (total active_rate t) 0 t)

-- of a new cell with any keep, and any chooser in any state
module _ {C : Type 0} (M : Meaning C) (keep : ℕ) (c : C) where
  -- the refusal of a call after some others, by its number, and 0 of an answer
  abbrev pub gives : List Call → Call → ℕ
  gives before call = refusal_number (answer_to M (after M (new keep c) before) call)

  pub record Worked : Type 0 where
    pub rate_7 : price_of 7 ≡ 102960
    pub rate_17 : gives [] (opening 0 17) ≡ 8
    pub full_link : gives (opening 0 720720 ∷ []) (opening 1 1) ≡ 9
    pub last_place : gives [] (opening 63 1) ≡ 0
    pub no_place : gives [] (opening 64 1) ≡ 5
    pub long_frame : gives (opening 0 1 ∷ []) (arrival 0 7 1536) ≡ 0
    pub too_long : gives (opening 0 1 ∷ []) (arrival 0 7 1537) ≡ 12
    pub empty_frame : gives (opening 0 1 ∷ []) (arrival 0 7 0) ≡ 12
    pub last_frame : gives (opening 0 1 ∷ replicate 31 (arrival 0 7 100)) (arrival 0 7 100) ≡ 0
    pub frame_33 : gives (opening 0 1 ∷ replicate 32 (arrival 0 7 100)) (arrival 0 7 100) ≡ 13
    pub ten_bytes : shares_of 10 (240240 ∷ 120120 ∷ 120120 ∷ []) ≡ pos 5 ∷ pos 2 ∷ pos 3 ∷ []
    pub one_byte : shares_of 1 (360360 ∷ 360360 ∷ []) ≡ pos 0 ∷ pos 1 ∷ []
    pub price_2 : most_sent 2 0 0 ≡ 101376
    -- two sessions wait at virtual time 0; the only frame of place 0 goes, and it is then ahead of
    -- the mark
    pub too_early :
        gives
        (opening 0 360360 ∷ opening 1 360360 ∷ arrival 0 7 100 ∷ arrival 1 8 100 ∷ turn ∷ [])
        (closing 0)
        ≡ 11

abbrev pub FiguresStand : {C : Type 0} → Meaning C → Type 0
FiguresStand {C} M = (keep : ℕ) (c : C) → Worked M keep c
