-- What a new cell promises besides: of each turn why it went to whom it went, whom it is charged
-- to, and what debt it leaves; how long one waits at most; and what the chooser has heard.
use Rattle.std.specs.Prelude.{◌≡◌, ℕ, ◌+◌, ◌*◌, ◌≤◌, List, ◌≢◌}
use Rattle.model.specs.Table.{at, active_count}
use Rattle.chooser.specs.Meaning.{Meaning}
use Rattle.model.specs.Cell.{Cell}
use Rattle.model.specs.Calls.{Call, turn, cell_after}
use Rattle.model.specs.Reasons.{sender_of, Reason, Debt}
use Rattle.model.specs.History.{sent_by, sent_by_others, Always, Throughout, EachTurn, Able}
use Rattle.model.specs.Laws.{DepartsJustly}
use Rattle.model.specs.Promises.{Promises, most_sent}
use Rattle.model.specs.Session.{lead}
use Rattle.chooser.specs.Tellings.{Telling, told_all, servings}

module _ {C : Type 0} (M : Meaning C) (start : Cell C) where
  -- The kind of a turn says why it went to whom it went. So nobody who is owed and able is passed
  -- over for one who is owed nothing, or for one who leads beyond its allowance; and of those who
  -- are owed, and of those who are not, it is the chooser's pick that sends.
  abbrev pub SaysWhy : Type 0
  SaysWhy =
      EachTurn M start (λ x a.
      Reason M x.chooser x.table a.chosen (sender_of a.sent) a.kind)

  -- A turn is charged to the chosen session, whoever sends: its virtual time rises by the answer's
  -- length times its price, and no other virtual time moves.
  abbrev pub ChargesTheChosen : Type 0
  ChargesTheChosen =
      EachTurn M start (λ x a.
      let s = at x.table a.chosen in
      let y = cell_after M x turn in
      ((at y.table a.chosen).virtual_time ≡ s.virtual_time + a.length * s.price) ×
      ((i : ℕ) → (a.chosen ≢ i) → (at y.table i).virtual_time ≡ (at x.table i).virtual_time))

  -- What another sends in a session's turn is written down: the chosen's lag rises by the answer's
  -- length, the sender's falls by it. Nothing else moves a lag but a departure: said of the turns
  -- after which as many sessions are active as before.
  abbrev pub WritesDownTheDebt : Type 0
  WritesDownTheDebt =
      EachTurn M start (λ x a.
      let y = cell_after M x turn in
      active_count y.table ≡ active_count x.table →
      Debt a.chosen a.length (sender_of a.sent) x.table y.table)

  -- While a session is able throughout a stretch and its own queue sends nothing, all others
  -- together send no more than its price times what it led by just before the stretch, and besides
  -- 1,536 bytes 2 p + 62 times.
  abbrev pub WaitsNoLonger : Type 0
  WaitsNoLonger =
      Throughout M start (λ x. (stretch : List Call) (i : ℕ) →
      Always M (Able M i) x stretch → sent_by M i x stretch ≡ 0 →
      let s = at x.table i in
      sent_by_others M i x stretch ≤ most_sent s.price 0 (lead s))

  -- What the chooser has become is what a list of tellings has made of it, in which no more
  -- servings stand than the cell accepted turns.
  abbrev pub HearsTellings : Type 0
  HearsTellings =
      Throughout M start (λ x.
      (ts : List Telling) × (x.chooser ≡ told_all M start.chooser ts) × (servings ts ≤ x.turns))

  pub record FurtherPromises : Type 0 where
    pub why : SaysWhy
    pub charges : ChargesTheChosen
    pub debts : WritesDownTheDebt
    pub waits : WaitsNoLonger
    pub hears : HearsTellings

  -- all that a new cell promises, in one
  pub record AllPromises : Type 0 where
    pub promises : Promises M start
    pub further : FurtherPromises
    pub departures : DepartsJustly
