-- A whole turn: the accounts after the departures, at the new mark.
use Rattle.std.proofs.Common.{◌≡◌, ℕ, ◌+◌, ◌*◌, ◌≤◌, true, sym, refl, ◌∙◌, le_trans, arith}
use borrow.Author.Differences.{ints}
use Rattle.std.proofs.lemmas.Bool.{and_parts}
use Rattle.tariff.specs.Tariff.{link}
use Rattle.model.specs.Limits.{longest}
use Rattle.model.specs.Session.{Session, able, waiting}
use Rattle.model.specs.Table.{Table, at, total, active_count, total_owed}
use Rattle.model.specs.Turn.{Way, sender, turned, owed}
use Rattle.model.specs.Departures.{departures, gone}
use Rattle.model.specs.Cell.{mark_after}
use Rattle.model.proofs.Ledger.{Draft, Book, excess}
use Rattle.model.proofs.Settle.{Held, settle, mark_rises, mark_pays}
use Rattle.model.proofs.Departures.{depart_draft, depart_same, depart_total, depart_waits}
use Rattle.model.proofs.Departures.{depart_owes, departures_busy}
use Rattle.model.proofs.Senders.{Rightly, Chosen}
use Rattle.model.proofs.Turn.{way_draft, way_pays, way_owes, way_same, Part, named, way_part}

module _ (keep m : ℕ) (t : Table) (c : ℕ) (w : Way) (n : ℕ) (b : Book m t) (k : Chosen m t c) (r : Rightly t (at t c) w) (l : n ≤ longest) where
  abbrev pub end : Table
  end = departures (turned keep t c n w)

  mid_draft : Draft m (turned keep t c n w)
  mid_draft = way_draft keep m n t c w k r b.draft l

  end_draft : Draft m end
  unfolding departures
  end_draft = depart_draft m (active_count (turned keep t c n w)) (turned keep t c n w) mid_draft

  end_same : {X : Type 0} (g : Session → X) → ((n : ℕ) (s : Session) → g (owed n s) ≡ g s) →
      ((s : Session) → g (gone s) ≡ g s) → (j : ℕ) → g (at end j) ≡ g (at (turned keep t c n w) j)
  unfolding departures
  end_same g h e j = depart_same g h e (active_count (turned keep t c n w)) (turned keep t c n w) j

  end_held : Held m t end
  end_held j a =
      let s = way_same keep m n t c w k r (λ s. s.active) (λ _ _. refl) (λ _. refl) (λ _. refl) (λ _. refl) j in
      let v = end_same (λ s. s.virtual_time) (λ n s. refl) (λ s. refl) j in
      omega (arith, (mid_draft.rows j).ahead (s ∙ a))

  pub turn_book : Book (mark_after m t end) end
  turn_book = settle m t end end_draft end_held (departures_busy (turned keep t c n w))

  end_pays : total (excess m) end ≡ total (excess m) t + n * link
  unfolding departures
  end_pays =
      depart_total (excess m) (λ n s. refl) (λ s. refl) (active_count (turned keep t c n w)) (turned keep t c n w)
      ∙ way_pays keep m n t c w k r b.draft

  pub turn_owes : total_owed end ≤ total_owed t + n
  unfolding departures
  turn_owes = le_trans (depart_owes (active_count (turned keep t c n w)) (turned keep t c n w)) (way_owes keep m n t c w k r)

  pub turn_rises : m ≤ mark_after m t end
  turn_rises = mark_rises m t end end_draft end_held

  pub turn_pays : n * link + total (excess m) t + m * link ≤ mark_after m t end * link + total (excess (mark_after m t end)) end
  turn_pays =
      let a = mark_pays m (mark_after m t end) end turn_rises end_draft.rates in
      let e = end_pays in
      omega arith

  pub turn_part : (i : ℕ) → able (at t i) ≡ true → able (at end i) ≡ true →
      (b : ℕ) × Part i t end (named i n (sender c w)) b
  unfolding departures
  turn_part i a a' =
      let p = way_part keep m n t c w k r i l a in
      let v = end_same (λ s. s.virtual_time) (λ n s. refl) (λ s. refl) i in
      let wt : waiting (at (turned keep t c n w) i) ≡ true =
      sym (end_same waiting (λ n s. refl) (λ s. refl) i) ∙ (and_parts (waiting (at end i)) (at end i).good a').0 in
      let q = depart_waits (active_count (turned keep t c n w)) (turned keep t c n w) i wt in
      let lg = p.1.lag in
      (p.0, record { time = v ∙ p.1.time; lag = omega (arith, ints); given = p.1.given })

  pub turn_price : (i : ℕ) → (at end i).price ≡ (at t i).price
  turn_price i =
      end_same (λ s. s.price) (λ n s. refl) (λ s. refl) i ∙ way_same keep m n t c w k r (λ s. s.price) (λ _ _. refl)
      (λ _. refl) (λ _. refl) (λ _. refl) i
