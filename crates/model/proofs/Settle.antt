-- The end of a call: the mark follows the table.
use Rattle.std.proofs.Common.{◌≡◌, ℕ, zero, suc, ◌+◌, ◌-◌, ◌*◌, ◌≤◌, min, Bool, true, false, ◌||◌}
use Rattle.std.proofs.Common.{[], ◌∷◌, Some, None, Option, sym, refl, ap, ◌∙◌, le_trans, le_refl}
use Rattle.std.proofs.Common.{mul-le-mul_right, arith}
use Rattle.std.specs.Prelude.{is_none}
use Rattle.std.proofs.lemmas.Bool.{true≢false, false≢true}
use Rattle.tariff.specs.Tariff.{link}
use Rattle.model.specs.Session.{Session, waiting, leads}
use Rattle.model.specs.Table.{Table, at, total, least_time, sooner, latest_time, none_active}
use Rattle.model.specs.Cell.{mark_from, mark_after}
use Rattle.model.proofs.Tables.{total_drop}
use Rattle.model.proofs.Ledger.{Row, Draft, Book, excess}
use Rattle.model.proofs.Share.{least_reached}

some_sooner : (b : Bool) (v : ℕ) (w : ℕ) →
    (z : ℕ) × (sooner b v (Some w) ≡ Some z) × (z ≤ w) × (b ≡ true → z ≤ v)
some_sooner false v w = (w, refl, le_refl w, λ e. absurd (false≢true e))
some_sooner true v w = (min v w, refl, omega arith, λ e. omega arith)

-- an active session has a virtual time at or above the smallest
pub least_some : (t : Table) (j : ℕ) → (at t j).active ≡ true →
    (v : ℕ) × (least_time t ≡ Some v) × (v ≤ (at t j).virtual_time)
unfolding at least_time
least_some [] j e = absurd (false≢true e)
least_some (s ∷ t) zero e = by (least_time t) refl
  where
    by : (o : Option ℕ) → least_time t ≡ o →
        (v : ℕ) × (sooner s.active s.virtual_time (least_time t) ≡ Some v) × (v ≤ s.virtual_time)
    by None f =
        (s.virtual_time, ap (λ (b : Bool). sooner b s.virtual_time (least_time t)) e ∙ ap (sooner true s.virtual_time) f, le_refl s.virtual_time)
    by (Some w) f = let r = some_sooner s.active s.virtual_time w in (r.0, ap (sooner s.active s.virtual_time) f ∙ r.1, r.3 e)
least_some (s ∷ t) (suc j) e =
    let r = least_some t j e in
    let q = some_sooner s.active s.virtual_time r.0 in
    (q.0, ap (sooner s.active s.virtual_time) r.1 ∙ q.1, le_trans q.2 r.2)

pub greatest_is : (t : Table) (j : ℕ) → (at t j).virtual_time ≤ latest_time t
unfolding at latest_time
greatest_is [] j = omega arith
greatest_is (s ∷ t) zero = omega arith
greatest_is (s ∷ t) (suc j) = omega (arith, greatest_is t j)

pub some_active : (t : Table) → none_active t ≡ false → (j : ℕ) × ((at t j).active ≡ true)
some_active t e = by (least_time t) refl e
  where
    by : (o : Option ℕ) → least_time t ≡ o → is_none o ≡ false → (j : ℕ) × ((at t j).active ≡ true)
    by None f g = absurd (true≢false g)
    by (Some v) f g = let r = least_reached t v f in (r.0, r.2)

-- whoever was active before the call is at or above the old mark after it
abbrev pub Held : ℕ → Table → Table → Type 0
Held m t u = (j : ℕ) → (at t j).active ≡ true → m ≤ (at u j).virtual_time

risen : (m : ℕ) (t u : Table) → Draft m u → Held m t u → (o : Option ℕ) (b : Bool) →
    least_time u ≡ o → none_active t ≡ b →
    m ≤ mark_from o b (latest_time u) m
risen m t u d h (Some v) b e f = let r = least_reached u v e in omega (arith, (d.rows r.0).ahead r.2, r.3)
risen m t u d h None true e f = le_refl m
risen m t u d h None false e f = let r = some_active t f in le_trans (h r.0 r.1) (greatest_is u r.0)

pub mark_rises : (m : ℕ) (t u : Table) → Draft m u → Held m t u → m ≤ mark_after m t u
unfolding mark_after
mark_rises m t u d h = risen m t u d h (least_time u) (none_active t) refl refl

pub mark_least : (m : ℕ) (t u : Table) (j : ℕ) → (at u j).active ≡ true →
    (least_time u ≡ Some (mark_after m t u)) × (mark_after m t u ≤ (at u j).virtual_time)
unfolding mark_after
mark_least m t u j e =
    let r = least_some u j e in
    let f = ap (λ (o : Option ℕ). mark_from o (none_active t) (latest_time u) m) r.1 in
    (r.1 ∙ ap Some (sym f), omega (arith, f, r.2))

row_up : (m n : ℕ) (s : Session) → Row m s → m ≤ n → (s.active ≡ true → n ≤ s.virtual_time) →
    Row n s
row_up m n s r h a =
    record { priced = r.priced; bare = r.bare; near = omega (arith, r.near); ahead = a; quiet = r.quiet; frames = r.frames; room = r.room }

pub settle : (m : ℕ) (t u : Table) → Draft m u → Held m t u →
    ((j : ℕ) → (at u j).active ≡ true → (waiting (at u j) || leads (at u j)) ≡ true) →
    Book (mark_after m t u) u
settle m t u d h b = record {
  draft = record {
    size = d.size;
    rows = λ j. row_up m (mark_after m t u) (at u j) (d.rows j) (mark_rises m t u d h) (λ a. (mark_least m t u j a).1);
    rates = d.rates;
    balance = d.balance;
  };
  busy = b;
  lowest = λ j a. (mark_least m t u j a).0;
}

-- a mark that rises takes away at most what the rates add up to
pub mark_pays : (m n : ℕ) (u : Table) → m ≤ n → total (λ s. s.rate) u ≤ link →
    total (excess m) u + m * link ≤ n * link + total (excess n) u
mark_pays m n u h k =
    let f = total_drop (excess m) (excess n) (λ s. s.rate) (n - m) u (λ j. each (at u j)) in
    omega (arith, mul-le-mul_right (n - m) k)
  where
    each : (s : Session) → excess m s ≤ excess n s + (n - m) * s.rate
    each s = let q : s.virtual_time - m ≤ (s.virtual_time - n) + (n - m) = omega arith in omega (arith, mul-le-mul_right s.rate q)
