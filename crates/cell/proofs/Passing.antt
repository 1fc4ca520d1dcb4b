-- A turn that is accepted: what the books say of it before, in its midst and after it.
use Rattle.std.proofs.Common.{◌≡◌, ℕ, ◌+◌, ◌<◌, Bool, true, false, cond, leb, List, ◌∷◌, [], ◌++◌}
use Rattle.std.proofs.Common.{length, IfSome, Some, None, Ok, Option, sym, refl, ap, ◌∙◌, subst, arith}
use Rattle.std.proofs.lemmas.Bool.{lt-leb, leb-false}
use Rattle.std.specs.Prelude.{is_none, unwrap_or}
use Rattle.answer.specs.declared.refusal.Refusal.TheVariants.{NoneActive, TurnsUsedUp}
use Rattle.answer.specs.declared.turn.Answer.TheVariants.{Turn as Turned}
use Rattle.answer.specs.declared.turn.Turn.{Turn}
use Rattle.chooser.specs.Meaning.{Meaning, Lawful, meant}
use Rattle.chooser.specs.Offers.{lag_bound, PicksOffered}
use Rattle.chooser.specs.Tellings.{Telling, served, told_all}
use Rattle.chooser.specs.declared.Chooser.{Ghosts}
use Rattle.chooser.specs.declared.offer.Offer.{Offer}
use Rattle.model.specs.Calls.{turn, refusal, served_in, decide, Outcome, turn_after, turn_of}
use Rattle.model.specs.Calls.{accepted, outcome, step, cell_after}
use Rattle.model.specs.Cell.{Cell, mark_after, all_joins, settled}
use Rattle.model.specs.Departures.{departures}
use Rattle.model.specs.Limits.{places, most_turns}
use Rattle.model.specs.Lists.{ListKind, Credit, Extra}
use Rattle.model.specs.Sound.{HasRoom, Midway, Sound}
use Rattle.model.specs.Table.{Table, at, change, none_active, chosen}
use Rattle.model.specs.Turn.{Way, by_right, by_allowance, by_credit, unclaimed, by_extra, idle}
use Rattle.model.specs.Turn.{sender, length_of, answer_of, hands_on, takes_up, turned}
use Rattle.model.proofs.Books.{ordered_of, step_sound}
use Rattle.model.proofs.Chosen.{chosen_some}
use Rattle.model.proofs.Meant.{lawful}
use Rattle.model.proofs.Order.{books}
use Rattle.model.proofs.Tables.{change_same}
use Rattle.model.proofs.Senders.{Rightly, decides}
use Rattle.model.proofs.Turn.{apart_credit, apart_extra}
use Rattle.model.proofs.Uses.{lag_low, stayed_sound, turn_midway}
use Rattle.session.specs.declared.row.Row.{Row}
use Rattle.table.proofs.Dues.{idle_is}
use Rattle.table.proofs.Tables.{length_table}
use Rattle.table.specs.Places.{table_of}
use Rattle.cell.specs.Found.{before_of, mark_left, joins_left}
use Rattle.cell.specs.Offerable.{Offerable}
use Rattle.cell.specs.Turns.{next}
use Rattle.cell.specs.Ways.{handed_to}
use Rattle.cell.specs.View.{alone, cell_of}
use Rattle.cell.specs.declared.schedule.Schedule.{Schedule}
use Rattle.cell.specs.declared.settle.Before.{Before}
use Rattle.cell.proofs.Joining.{told_both}
use Rattle.cell.proofs.Sized.{rows_sized}
use Rattle.cell.proofs.Steps.{Makes, makes_of, planned}

-- ---- ways

-- whoever is handed a turn is another than the chosen
other : (t : Table) (c : ℕ) (w : Way) → Rightly t (at t c) w → IfSome (handed_to w) (λ q. c ≡ q → ⊥)
other t c by_right r = tt
other t c by_allowance r = tt
other t c (by_credit q) r = apart_credit t c q r
other t c unclaimed r = tt
other t c (by_extra q) r = apart_extra t c q r
other t c idle r = tt

-- no turn changes a price
pair_price : (keep n : ℕ) (t : Table) (c q j : ℕ) → (at (change (change t c (hands_on keep n)) q (takes_up n)) j).price ≡ (at t j).price
pair_price keep n t c q j =
    change_same (λ s. s.price) (change t c (hands_on keep n)) q (takes_up n) (λ s. refl) j ∙ change_same (λ s. s.price) t c (hands_on keep n) (λ s. refl) j

-- so it may be told after the turn who was served, as well as before it
pub served_after : (keep n : ℕ) (t : Table) (c : ℕ) (w : Way) →
    served_in (turned keep t c n w) w n ≡ served_in t w n
served_after keep n t c by_right = refl
served_after keep n t c by_allowance = refl
served_after keep n t c (by_credit q) =
    ap (λ (price : ℕ). served Credit q n price ∷ []) (pair_price keep n t c q q)
served_after keep n t c unclaimed = refl
served_after keep n t c (by_extra q) =
    ap (λ (price : ℕ). served Extra q n price ∷ []) (pair_price keep n t c q q)
served_after keep n t c idle = refl

-- ---- the turn

-- what is refused neither for want of an active session nor for want of turns
not_refused : (x y : Bool) → cond x (Some NoneActive) (cond y (Some TurnsUsedUp) None) ≡ None → (x ≡ false) × (y ≡ false)
not_refused true y e = let z : ◌≡◌ {A = ℕ} 0 1 = cc in absurd (omega arith)
not_refused false true e = let z : ◌≡◌ {A = ℕ} 0 1 = cc in absurd (omega arith)
not_refused false false e = (refl, refl)

module _ {C : Type 0} (x : Cell C) (c : ℕ) (e : Ok c ≡ next x) where
  passes : (none_active x.table ≡ false) × (leb most_turns x.turns ≡ false)
  passes = not_refused (none_active x.table) (leb most_turns x.turns) (planned (refusal x turn) (unwrap_or (chosen x.table) 0) c e).0

  turn_left : x.turns < most_turns
  turn_left = leb-false most_turns x.turns passes.1

  turn_next : chosen x.table ≡ Some c
  turn_next =
      let s = chosen_some x.table passes.0 in
      s.1 ∙ ap Some (sym ((planned (refusal x turn) (unwrap_or (chosen x.table) 0) c e).1 ∙ ap (λ (o : Option ℕ). unwrap_or o 0) s.1))

-- so of a cell of the code, in a turn of place c that nothing refuses
module _ {C : Type 0} (g : Ghosts C) (picks : (c : C) (l : ListKind) (o : Offer) → PicksOffered o.entries (g.pick c l o)) (x : Schedule) (ch : C) (c : ℕ)
    (e : Ok c ≡ next (alone x)) where
  abbrev M : Meaning C
  M = meant g

  abbrev t : Table
  t = table_of x.rows

  law : Lawful M
  law = lawful g picks

  sound : Sound (cell_of x ch)
  sound = books x.ordered

  -- its sessions can be offered
  pub roll_before : record { sized : length x.rows ≡ places; fair : Offerable t }
  roll_before = record { sized = rows_sized x.rows x.ordered; fair = stayed_sound sound }

  -- and have room for it
  has_room : (j : ℕ) → HasRoom (at t j)
  has_room j =
      let o = sound.rows j in
      let left = turn_left (cell_of x ch) c e in
      record { time = omega (arith, o.early); allowance = omega (arith, o.modest); lag = omega (arith, lag_low sound j) }

  -- it is not refused
  goes : refusal (cell_of x ch) turn ≡ None
  goes =
      let some : none_active t ≡ false = idle_is t ∙ ap is_none (turn_next (cell_of x ch) c e) in
      ap (λ (b : Bool). cond b (Some NoneActive) (cond (leb most_turns x.turns) (Some TurnsUsedUp) None)) some
      ∙ ap (λ (b : Bool). cond b (Some TurnsUsedUp) None) (lt-leb most_turns x.turns (turn_left (cell_of x ch) c e))

  turn_is : step M (cell_of x ch) turn ≡ turn_of M (cell_of x ch) c
  unfolding step accepted
  turn_is = ap (outcome M (cell_of x ch) turn) goes ∙ ap (λ (o : Option ℕ). turn_of M (cell_of x ch) (unwrap_or o 0)) (turn_next (cell_of x ch) c e)

  -- what it answers and leaves
  turn_makes : (r : Turn) (u : Table) (m : ℕ) (d : C) → r ≡ answer_of t c (decide M ch t c) →
      u ≡ departures (turned x.keep t c r.length (decide M ch t c)) → m ≡ mark_after x.mark t u →
      d ≡ told_all M ch (served_in t (decide M ch t c) r.length ++ all_joins t u) →
      Makes M (cell_of x ch) turn (Ok (Turned r)) (record { keep = x.keep; mark = m; turns = x.turns + 1; table = u; chooser = d })
  unfolding turn_after settled
  turn_makes r u m d answered e p q =
      let makes = makes_of M (cell_of x ch) turn _ turn_is in
      record {
        answer = ap (λ (r : Turn). Ok (Turned r)) answered ∙ makes.answer;
        after =
            (λ i. record { keep = x.keep; mark = p i; turns = x.turns + 1; table = u; chooser = q i })
            ∙ ap (λ (v : Table). settled M (cell_of x ch) v (x.turns + 1) (served_in t (decide M ch t c) r.length)) e
            ∙ ap (λ (r : Turn). turn_after M (cell_of x ch) c (decide M ch t c) r.length) answered ∙ makes.after;
      }

  -- the way that the turn goes, and the table that it leaves before departures
  module _ (w : Way) (is : w ≡ decide M ch t c) where
    pub can_carry : record { other : IfSome (handed_to w) (λ q. c ≡ q → ⊥); room : (j : ℕ) → HasRoom (at t j) }
    can_carry = record { other = other t c w (subst (Rightly t (at t c)) (sym is) (decides M law (cell_of x ch) c (ordered_of (cell_of x ch) sound))); room = has_room }

    module _ (r : Turn) (answered : r ≡ answer_of t c w) where
      left : turned x.keep t c r.length w ≡ turned x.keep t c (length_of t (sender c (decide M ch t c))) (decide M ch t c)
      left = ap (λ (r : Turn). turned x.keep t c r.length w) answered ∙ ap (λ (w : Way). turned x.keep t c (length_of t (sender c w)) w) is

      pub midway : (u : Table) → u ≡ turned x.keep t c r.length w → Midway lag_bound u
      midway u e' = subst (Midway lag_bound) (sym (e' ∙ left)) (turn_midway M law (cell_of x ch) sound c (turn_next (cell_of x ch) c e) (turn_left (cell_of x ch) c e))

      pub roll_after : (u : Table) (rows : List Row) → u ≡ turned x.keep t c r.length w → table_of rows ≡ departures u →
          record { sized : length rows ≡ places; fair : Offerable (table_of rows) }
      unfolding turn_after settled
      roll_after u rows e d =
          let after : (cell_after M (cell_of x ch) turn).table ≡ table_of rows = ap (λ (o : Outcome M). o.cell.table) turn_is ∙ sym (d ∙ ap departures (e ∙ left)) in
          let sound_after = step_sound M law (cell_of x ch) turn sound in
          record { sized = sym (length_table rows) ∙ subst (λ (v : Table). length v ≡ places) after sound_after.size; fair = subst Offerable after (stayed_sound sound_after) }

      -- and once it has gone its way, the chooser has heard of it and of who joined, and the mark has followed: as the code says it, list by list
      pub passed : (before : Before) (u v : Table) (m : ℕ) (heard joined : C) → before ≡ before_of t → u ≡ turned x.keep t c r.length w →
          heard ≡ told_all M ch (served_in u w r.length) → v ≡ departures u → m ≡ mark_left before v x.mark → joined ≡ told_all M heard (joins_left before v) →
          Makes M (cell_of x ch) turn (Ok (Turned r)) (record { keep = x.keep; mark = m; turns = x.turns + 1; table = v; chooser = joined })
      unfolding mark_after all_joins
      passed before u v m heard joined b e hears d marks tells =
          let told = hears ∙ ap (told_all M ch) (
          ap (λ (u : Table). served_in u w r.length) e ∙ served_after x.keep r.length t c w
          ∙ ap (λ (w : Way). served_in t w r.length) is) in
          turn_makes r v m joined (answered ∙ ap (answer_of t c) is) (d ∙ ap departures (e ∙ ap (turned x.keep t c r.length) is))
          (marks ∙ ap (λ (b : Before). mark_left b v x.mark) b)
          (told_both M (served_in t (decide M ch t c) r.length) (all_joins t v) ch heard joined told
          (tells ∙ ap (λ (b : Before). told_all M heard (joins_left b v)) b))
