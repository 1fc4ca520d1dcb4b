-- What a new cell promises in every history that begins with it, whatever chooser it was made with
-- and in whatever state that was.
use Rattle.std.specs.Prelude.{◌≡◌, ℕ, ◌+◌, ◌*◌, ◌<◌, ◌≤◌, Bool, true, false, ◌&&◌, ◌||◌, ◌↔◌, List}
use Rattle.std.specs.Prelude.{[], ◌∷◌, ◌++◌, map, length, pos, Some, None, Ok, Err, ◌≢◌, nat_lt}
use Rattle.std.specs.Prelude.{unsigned_abs}
use Rattle.answer.specs.Numbers.{number_of}
use Rattle.answer.specs.declared.refusal.Refusal.{Refusal}
use Rattle.answer.specs.declared.turn.Answer.TheVariants.{Done}
use Rattle.answer.specs.declared.turn.Kind.TheVariants.{Idle}
use Rattle.answer.specs.declared.turn.Sent.{Sent}
use Rattle.chooser.specs.Offers.{lag_bound}
use Rattle.tariff.specs.Tariff.{link}
use Rattle.model.specs.Limits.{places, longest, most_waiting, most_turns, idle_length, quarters}
use Rattle.model.specs.Limits.{furthest}
use Rattle.model.specs.Session.{able, waiting, leads, lead}
use Rattle.model.specs.Table.{at, totalℤ, booked_total}
use Rattle.chooser.specs.Meaning.{Meaning}
use Rattle.model.specs.Cell.{Cell}
use Rattle.model.specs.Calls.{Call, closing, turn, refusals, step, answer_to, cell_after}
use Rattle.model.specs.Sound.{Sound}
use Rattle.model.specs.History.{frame_of, taken_from, brought_to, bytes, sum_to}
use Rattle.model.specs.History.{after, sent, sent_by, brought, Always, Throughout, EachTurn, Able}

abbrev pub ascending : List ℕ → Bool
ascending [] = true
ascending (m ∷ []) = true
ascending (m ∷ n ∷ ns) = nat_lt m n && ascending (n ∷ ns)

-- what all queues may send while a session of price p that leads by d sends s bytes
abbrev pub most_sent : ℕ → ℕ → ℕ → ℕ
most_sent p s d = p * (s + d) + longest * (2 * p + 62)

module _ {C : Type 0} (M : Meaning C) (start : Cell C) where
  -- ---- the share

  -- In every stretch of calls before which and after each of which session i has a frame waiting
  -- and a good channel, all queues together send at most its price times what its own queue sends
  -- and what it led by just before the stretch, and besides 1,536 bytes 2 p + 62 times.
  abbrev pub GetsItsShare : Type 0
  GetsItsShare =
      Throughout M start (λ x. (stretch : List Call) (i : ℕ) →
      Always M (Able M i) x stretch →
      let s = at x.table i in
      sent M x stretch ≤ most_sent s.price (sent_by M i x stretch) (lead s))

  -- ---- turns

  -- An accepted turn names no sender exactly when, just before it, no session has both a frame
  -- waiting and a good channel.
  abbrev pub IdlesOnlyIfNoneAble : Type 0
  IdlesOnlyIfNoneAble =
      EachTurn M start (λ x a.
      (a.sent ≡ None) ↔ ((i : ℕ) → able (at x.table i) ≡ false))

  -- An accepted turn is that of an active session with the smallest virtual time, the lowest place
  -- of those.
  abbrev pub ChoosesTheLeastAdvanced : Type 0
  ChoosesTheLeastAdvanced =
      EachTurn M start (λ x a.
      let v = (at x.table a.chosen).virtual_time in
      ((at x.table a.chosen).active ≡ true) ×
      ((j : ℕ) → (at x.table j).active ≡ true → v ≤ (at x.table j).virtual_time) ×
      ((j : ℕ) → (at x.table j).active ≡ true → j < a.chosen → v < (at x.table j).virtual_time))

  -- ---- frames

  -- An answer that names a sender gives length and tag of the first frame of its queue, and exactly
  -- that frame leaves that queue. Every other queue is unchanged.
  abbrev pub SaysWhoSent : Type 0
  SaysWhoSent =
      EachTurn M start (λ x a. (s : Sent) → a.sent ≡ Some s →
      let y = cell_after M x turn in
      ((at x.table s.sender).queue ≡ frame_of s a.length ∷ (at y.table s.sender).queue) ×
      ((i : ℕ) → (s.sender ≢ i) → (at y.table i).queue ≡ (at x.table i).queue))

  -- Kind idle comes exactly with no sender; the turn is then charged for 256 bytes.
  abbrev pub SaysWhenIdle : Type 0
  SaysWhenIdle =
      EachTurn M start (λ x a.
      ((a.kind ≡ Idle) ↔ (a.sent ≡ None)) × (a.sent ≡ None → a.length ≡ idle_length))

  -- Of every call and every place: what waited there, then what the call brought, is in this order
  -- what the call took, then what waits. So only turns take frames, only arrivals bring them, and a
  -- place that is closed had none.
  abbrev pub KeepsTheQueues : Type 0
  KeepsTheQueues =
      Throughout M start (λ x. (call : Call) (i : ℕ) →
      let o = step M x call in
      (at x.table i).queue ++ brought_to i call o.answer
      ≡ taken_from i o.answer ++ (at o.cell.table i).queue)

  abbrev pub SendsWhatItSays : Type 0
  SendsWhatItSays = SaysWhoSent × SaysWhenIdle × KeepsTheQueues

  -- The bytes that the share counts are those of the queues: over any stretch, what waited at a
  -- place and what arrived there is what it sent and what waits. And what all queues send is what
  -- the queues of the 64 places send, added up.
  abbrev pub CountsEveryByte : Type 0
  CountsEveryByte =
      Throughout M start (λ x. (stretch : List Call) →
      ((i : ℕ) →
      bytes (at x.table i).queue + brought M i x stretch
      ≡ sent_by M i x stretch + bytes (at (after M x stretch).table i).queue) ×
      (sent M x stretch ≡ sum_to places (λ i. sent_by M i x stretch)))

  -- ---- accounts

  -- The lags of all sessions add up to zero, and an inactive session's lag is zero.
  abbrev pub AlwaysBalanced : Type 0
  AlwaysBalanced =
      Throughout M start (λ x. (totalℤ (λ s. s.lag) x.table ≡ pos 0) ×
      ((i : ℕ) → (at x.table i).active ≡ false → (at x.table i).lag ≡ pos 0))

  -- A place is active exactly when a frame waits or it leads.
  abbrev pub ActiveExactlyWhen : Type 0
  ActiveExactlyWhen =
      Throughout M start (λ x. (i : ℕ) →
      let s = at x.table i in
      s.active ≡ (waiting s || leads s))

  -- A refused call changes nothing: no place, not the mark, not the chooser.
  abbrev pub RefusesWithoutTrace : Type 0
  RefusesWithoutTrace =
      (x : Cell C) (call : Call) (why : Refusal) →
      answer_to M x call ≡ Err why → cell_after M x call ≡ x

  -- A call is tested for its refusals in the order of their numbers, so that the lowest of those
  -- that apply is given.
  abbrev pub RefusesInOrder : Type 0
  RefusesInOrder =
      (x : Cell C) (call : Call) →
      ascending (map (λ c. number_of c.1) (refusals x call)) ≡ true

  -- ---- the mark

  abbrev pub MarkNeverFalls : Type 0
  MarkNeverFalls = Throughout M start (λ x. (more : List Call) → x.mark ≤ (after M x more).mark)

  -- A place that was closed at some virtual time is never active below it again, opened however
  -- often.
  abbrev pub ClosingShedsNothing : Type 0
  ClosingShedsNothing =
      Throughout M start (λ x. (place : ℕ) (more : List Call) →
      answer_to M x (closing place) ≡ Ok Done →
      let y = after M (cell_after M x (closing place)) more in
      (at y.table place).active ≡ true →
      (at x.table place).virtual_time ≤ (at y.table place).virtual_time)

  -- ---- numbers

  -- No number of a cell with a keep of at most four quarters grows beyond what its turns can bring
  -- about.
  abbrev pub StaysWithin : Type 0
  StaysWithin =
      Throughout M start (λ x. x.keep ≤ quarters →
      (x.mark ≤ furthest) × (x.turns ≤ most_turns) × (booked_total x.table ≤ link) × ((i : ℕ) →
      ((at x.table i).virtual_time ≤ furthest) ×
      (unsigned_abs (at x.table i).allowance ≤ quarters * furthest) ×
      (unsigned_abs (at x.table i).lag ≤ lag_bound) ×
      (length (at x.table i).queue ≤ most_waiting)))

  -- Its books stay in order.
  abbrev pub KeepsItsBooks : Type 0
  KeepsItsBooks = Throughout M start (λ x. x.keep ≤ quarters → Sound x)

  pub record Promises : Type 0 where
    pub share : GetsItsShare
    pub idles : IdlesOnlyIfNoneAble
    pub chooses : ChoosesTheLeastAdvanced
    pub says : SendsWhatItSays
    pub counts : CountsEveryByte
    pub balance : AlwaysBalanced
    pub status : ActiveExactlyWhen
    pub refuses : RefusesWithoutTrace
    pub order : RefusesInOrder
    pub mark : MarkNeverFalls
    pub sheds : ClosingShedsNothing
    pub within : StaysWithin
    pub books : KeepsItsBooks
