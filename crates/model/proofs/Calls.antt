-- What each call leaves: a cell in order, and the accounts moved as the argument about shares
-- wants.
use Rattle.std.proofs.Common.{◌≡◌, ℕ, ◌<◌, ◌≤◌, Bool, true, false, cond, eqb, List, [], ◌∷◌, length}
use Rattle.std.proofs.Common.{Some, None, Ok, Err, Option, refl, ap, ◌∙◌, subst, inl, le_refl}
use Rattle.std.proofs.Common.{arith}
use borrow.Author.Differences.{ints}
use Rattle.answer.specs.declared.refusal.Refusal.{Refusal}
use Rattle.answer.specs.declared.turn.Answer.TheVariants.{Turn as Turned}
use Rattle.tariff.specs.Tariff.{link, price_of}
use Rattle.model.specs.Limits.{longest, most_turns}
use Rattle.model.specs.Session.{Frame, Session, vacant, fresh, with_good, able, above_zero}
use Rattle.model.specs.Table.{Table, at, change, booked_total}
use Rattle.chooser.specs.Meaning.{Meaning, Lawful}
use Rattle.chooser.specs.Tellings.{Telling, cleared}
use Rattle.model.specs.Turn.{Way, sender, first_frame, length_of, sent_of, answer_of, turned}
use Rattle.model.specs.Departures.{departures}
use Rattle.model.specs.Cell.{Cell, settled}
use Rattle.model.specs.Calls.{Call, arrived, Outcome, changed, decide, turn_after, accepted, step}
use Rattle.model.specs.History.{sent_frame, sent_from, taken, taken_from, bytes}
use Rattle.model.proofs.Tables.{total_change, total_same}
use Rattle.model.proofs.Ledger.{Ordered, Move}
use Rattle.model.proofs.Senders.{Rightly, decides, Chosen, chosen_is}
use Rattle.model.proofs.Turn.{way_fits, Part, named}
use Rattle.model.proofs.Turned.{turn_book, turn_owes, turn_rises, turn_pays, turn_part, turn_price}
use Rattle.model.proofs.Calm.{Calm, open_calm, close_calm, arrive_calm, report_calm, calm_book}
use Rattle.model.proofs.Calm.{calm_rises, calm_pays}
use Rattle.model.proofs.Calm.{calm_kept}
use Rattle.model.proofs.Cases.{each_case}

-- ---- bytes by the answer

-- a turn is charged for at least what is sent
sent_less : (t : Table) (o : Option ℕ) →
    bytes (sent_frame (sent_of t o) (length_of t o)) ≤ length_of t o
unfolding bytes
sent_less t None = omega arith
sent_less t (Some q) = omega arith

sent_named : (i : ℕ) (t : Table) (o : Option ℕ) →
    named i (length_of t o) o ≡ bytes (sent_from i (sent_of t o) (length_of t o))
unfolding bytes
sent_named i t None = refl
sent_named i t (Some q) = by (eqb q i) (first_frame (at t q).queue)
  where
    by : (b : Bool) (f : Frame) → cond b f.length 0 ≡ bytes (cond b (f ∷ []) [])
    by true f = omega arith
    by false f = refl

-- nothing happened to the accounts
stands : {C : Type 0} (i : ℕ) (x : Cell C) → Move i x x 0 0 0
stands i x = record { paid = omega arith; price = refl; time = omega arith; lag = omega (arith, ints); given = inl (omega arith) }

module _ {C : Type 0} (M : Meaning C) (law : Lawful M) where
  -- what a call leaves
  pub record Good (x : Cell C) (o : Outcome M) : Type 0 where
    pub ordered : Ordered o.cell
    pub rises : x.mark ≤ o.cell.mark
    pub move : (i : ℕ) → able (at x.table i) ≡ true → able (at o.cell.table i) ≡ true →
        (b : ℕ) × Move i x o.cell (bytes (taken o.answer)) (bytes (taken_from i o.answer)) b

  refused_good : (x : Cell C) (why : Refusal) → Ordered x →
      Good x (record { cell = x; answer = Err why })
  unfolding bytes
  refused_good x why s = record { ordered = s; rises = le_refl x.mark; move = λ i a a'. (0, stands i x) }

  calm_good : (x : Cell C) (p : ℕ) (f : Session → Session) (ts : List Telling) → Ordered x →
      p < length x.table →
      Calm x.mark (at x.table p) (f (at x.table p)) →
      booked_total (change x.table p f) ≤ link → Good x (changed M x p f ts)
  unfolding settled bytes
  calm_good x p f ts s inside k few = record {
    ordered = record {
      book = calm_book x.mark x.table p f inside s.book k few;
      owing = omega (arith, total_same (λ s. above_zero s.lag) x.table p f (ap above_zero k.lag), s.owing);
      few = s.few;
    };
    rises = calm_rises x.mark x.table p f inside s.book k few;
    move = λ i a a'.
        let q = calm_kept x.mark x.table p f inside s.book k few i a in
        let lg = q.2 in (
          0,
          record {
            paid = omega (arith, calm_pays x.mark x.table p f inside s.book k few);
            price = q.0;
            time = q.1 ∙ omega arith;
            lag = omega (arith, ints);
            given = inl (omega arith);
          },
        );
  }

  turn_good : (x : Cell C) (c : ℕ) (w : Way) → Ordered x → x.turns < most_turns →
      Chosen x.mark x.table c →
      Rightly x.table (at x.table c) w →
      Good x (record {
        cell =
            turn_after M x c w (length_of x.table (sender c w));
        answer = Ok (Turned (answer_of x.table c w));
      })
  unfolding turn_after settled
  turn_good x c w s more k r = record {
    ordered = record {
      book = turn_book x.keep x.mark x.table c w n s.book k r l;
      owing = omega (arith, turn_owes x.keep x.mark x.table c w n s.book k r l, s.owing, l);
      few = omega arith;
    };
    rises = turn_rises x.keep x.mark x.table c w n s.book k r l;
    move = λ i a a'.
        let p = turn_part x.keep x.mark x.table c w n s.book k r l i a a' in
        let q =
        subst (λ (s : ℕ). Part i x.table (departures (turned x.keep x.table c n w)) s p.0)
        (sent_named i x.table (sender c w)) p.1 in
        let pays = turn_pays x.keep x.mark x.table c w n s.book k r l in (
          p.0,
          record {
            paid = omega (arith, sent_less x.table (sender c w));
            price = turn_price x.keep x.mark x.table c w n s.book k r l i;
            time = q.time;
            lag = q.lag;
            given = q.given;
          },
        );
  }
    where
      n : ℕ
      n = length_of x.table (sender c w)

      l : n ≤ longest
      l = way_fits x.mark x.table c w s.book.draft r

  pub step_good : (x : Cell C) (call : Call) → Ordered x → Good x (step M x call)
  unfolding accepted
  step_good x call s =
      each_case M x s.book.draft.size (λ _ o. Good x o)
      (λ _ why. refused_good x why s)
      (λ p r i b t f. calm_good x p (λ _. fresh r (price_of r)) (cleared p ∷ []) s i
      (open_calm x.mark r (at x.table p) (s.book.draft.rows p) b t)
      (omega (arith, total_change (λ s. s.rate) x.table p (λ _. fresh r (price_of r)) i)))
      (λ p i b a v. calm_good x p (λ _. vacant) [] s i
      (close_calm x.mark (at x.table p) (s.book.draft.rows p) a v)
      (omega (arith, total_change (λ s. s.rate) x.table p (λ _. vacant) i, s.book.draft.rates)))
      (λ p g n i b z l m. let f : Frame = record { tag = g; length = n } in calm_good x p (arrived x.mark f) [] s i
      (arrive_calm x.mark f (at x.table p) (s.book.draft.rows p) b (z, l) m)
      (omega (arith, total_same (λ s. s.rate) x.table p (arrived x.mark f) refl, s.book.draft.rates)))
      (λ p b i o. calm_good x p (with_good b) [] s i
      (report_calm x.mark b (at x.table p) (s.book.draft.rows p) o (s.book.busy p))
      (omega (arith, total_same (λ s. s.rate) x.table p (with_good b) refl, s.book.draft.rates)))
      (λ c e m. turn_good x c (decide M x.chooser x.table c) s m (chosen_is x.mark x.table c s.book e) (decides M law x c s))
      call
