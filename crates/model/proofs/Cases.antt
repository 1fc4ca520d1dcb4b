-- The ways in which a call can go: refused, or accepted with all its tests passed.
use Rattle.std.proofs.Common.{◌≡◌, ℕ, ◌+◌, ◌<◌, ◌≤◌, Bool, true, false, cond, eqb, ltb, leb, List}
use Rattle.std.proofs.Common.{[], ◌∷◌, length, Some, None, Err, Option, sym, refl, subst, arith}
use Rattle.std.specs.Prelude.{unwrap_or}
use Rattle.std.specs.List.{AllByRecursion}
use Rattle.std.proofs.lemmas.Bool.{not-false, or_parts, eqb-false, ltb-false, leb-false}
use Rattle.answer.specs.declared.refusal.Refusal.{Refusal}
use Rattle.tariff.specs.Tariff.{link, in_tariff}
use Rattle.model.specs.Limits.{places, longest, most_waiting, most_turns}
use Rattle.model.specs.Table.{at, booked_total, chosen}
use Rattle.chooser.specs.Meaning.{Meaning}
use Rattle.model.specs.Cell.{Cell}
use Rattle.model.specs.Calls.{Call, opening, closing, arrival, report, turn, first_refusal, refusal}
use Rattle.model.specs.Calls.{refusals}
use Rattle.model.specs.Calls.{Outcome, turn_of, accepted, outcome, step}
use Rattle.model.proofs.Chosen.{chosen_some}

-- no refusal: no condition of the list held
passed : (cs : List (Bool × Refusal)) → first_refusal cs ≡ None →
    AllByRecursion (λ c. c.0 ≡ false) cs
passed [] e = tt
passed (c ∷ cs) e = by c.0 refl e (λ g. passed cs g)
  where
    by : (b : Bool) → c.0 ≡ b → cond b (Some c.1) (first_refusal cs) ≡ None →
        (first_refusal cs ≡ None → AllByRecursion (λ c. c.0 ≡ false) cs) →
        (c.0 ≡ false) × AllByRecursion (λ c. c.0 ≡ false) cs
    by true f g ih = let z : ◌≡◌ {A = ℕ} 0 1 = cc in absurd (omega arith)
    by false f g ih = (f, ih g)

module _ {C : Type 0} (M : Meaning C) (x : Cell C) (size : length x.table ≡ places) (P : Call → Outcome M → Type 0)
    (refused : (call : Call) (why : Refusal) → P call (record { cell = x; answer = Err why }))
    (opens : (p r : ℕ) → p < length x.table → (at x.table p).booked ≡ false → in_tariff r ≡ true → booked_total x.table + r ≤ link →
    P (opening p r) (accepted M x (opening p r)))
    (closes : (p : ℕ) → p < length x.table → (at x.table p).booked ≡ true → (at x.table p).active ≡ false →
    (at x.table p).virtual_time ≤ x.mark →
    P (closing p) (accepted M x (closing p)))
    (arrives : (p g n : ℕ) → p < length x.table → (at x.table p).booked ≡ true → 0 < n → n ≤ longest →
    length (at x.table p).queue < most_waiting →
    P (arrival p g n) (accepted M x (arrival p g n)))
    (reports : (p : ℕ) (b : Bool) → p < length x.table → (at x.table p).booked ≡ true → P (report p b) (accepted M x (report p b)))
    (turns : (c : ℕ) → chosen x.table ≡ Some c → x.turns < most_turns → P turn (turn_of M x c)) where
  inside : (p : ℕ) → leb places p ≡ false → p < length x.table
  inside p e = omega (arith, leb-false places p e, size)

  accepts : (call : Call) → AllByRecursion (λ c. c.0 ≡ false) (refusals x call) →
      P call (accepted M x call)
  unfolding accepted
  accepts (opening p r) h =
      opens p r (inside p h.0) h.1.0 (not-false (in_tariff r) h.1.1.0)
      (ltb-false link (booked_total x.table + r) h.1.1.1.0)
  accepts (closing p) h =
      closes p (inside p h.0) (not-false (at x.table p).booked h.1.0) h.1.1.0
      (ltb-false x.mark (at x.table p).virtual_time h.1.1.1.0)
  accepts (arrival p g n) h =
      let o = or_parts (eqb n 0) (ltb longest n) h.1.1.0 in
      arrives p g n (inside p h.0) (not-false (at x.table p).booked h.1.0)
      (omega (arith, eqb-false n 0 o.0)) (ltb-false longest n o.1)
      (leb-false most_waiting (length (at x.table p).queue) h.1.1.1.0)
  accepts (report p b) h = reports p b (inside p h.0) (not-false (at x.table p).booked h.1.0)
  accepts turn h =
      let c = chosen_some x.table h.0 in
      subst (λ (o : Option ℕ). P turn (turn_of M x (unwrap_or o 0))) (sym c.1) (turns c.0 c.1 (leb-false most_turns x.turns h.1.0))

  pub each_case : (call : Call) → P call (step M x call)
  unfolding step
  each_case call = by (refusal x call) refl
    where
      by : (o : Option Refusal) → refusal x call ≡ o → P call (outcome M x call o)
      by None e = accepts call (passed (refusals x call) e)
      by (Some why) e = refused call why
