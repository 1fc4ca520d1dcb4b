-- What the chooser is told by one call, and by many: how many servings stand in it.
use Rattle.std.proofs.Common.{◌≡◌, ℕ, suc, ◌+◌, ◌≤◌, Bool, true, false, not, ◌&&◌, cond, List, []}
use Rattle.std.proofs.Common.{◌∷◌, ◌++◌, Some, None, Option, sym, refl, ap, ◌∙◌, arith}
use Rattle.std.specs.Prelude.{unwrap_or}
use Rattle.std.proofs.lemmas.Bool.{cond_both}
use Rattle.answer.specs.declared.refusal.Refusal.{Refusal}
use Rattle.model.specs.Session.{Session}
use Rattle.model.specs.Table.{Table, chosen}
use Rattle.model.specs.Lists.{ListKind, Credit, Extra, Entry, stands_in, members, stayed}
use Rattle.chooser.specs.Meaning.{Meaning}
use Rattle.chooser.specs.Tellings.{Telling, joined, cleared, told, told_all, servings}
use Rattle.model.specs.Turn.{Way, by_right, by_allowance, by_credit, unclaimed, by_extra, idle}
use Rattle.model.specs.Turn.{sender, length_of}
use Rattle.model.specs.Cell.{Cell, joins_from, joins, all_joins, settled}
use Rattle.model.specs.Calls.{Call, opening, closing, arrival, report, turn, served_in, decide}
use Rattle.model.specs.Calls.{turn_after, accepted, outcome}
use Rattle.model.specs.Calls.{refusal, step, cell_after, new}
use Rattle.model.specs.History.{after}
use Rattle.model.specs.Further.{HearsTellings}

-- ---- of lists of tellings

pub servings-append : (xs ys : List Telling) → servings (xs ++ ys) ≡ servings xs + servings ys
servings-append [] ys = omega arith
servings-append (x ∷ xs) ys = omega (arith, servings-append xs ys)

-- a join is no serving
servings-joins_from : (k : ℕ) (list : ListKind) (stay : List Entry) (bs : List Bool) (t : Table) →
    servings (joins_from k list stay bs t) ≡ 0
unfolding joins_from
servings-joins_from k list stay [] t = refl
servings-joins_from k list stay (b ∷ bs) [] = refl
servings-joins_from k list stay (b ∷ bs) (s ∷ t) =
    let more = servings-joins_from (suc k) list stay bs t in
    cond_both (not b && stands_in list s) (joined list k stay ∷ joins_from (suc k) list stay bs t)
    (joins_from (suc k) list stay bs t) (λ ts. servings ts ≡ 0) (λ _. omega (arith, more)) (λ _. more)

servings-joins : (list : ListKind) (before : List Bool) (u : Table) →
    servings (joins list before u) ≡ 0
unfolding joins
servings-joins list before u = servings-joins_from 0 list (stayed list before u) before u

servings-all_joins : (t u : Table) → servings (all_joins t u) ≡ 0
unfolding all_joins
servings-all_joins t u =
    omega (
      arith,
      servings-append (joins Credit (members Credit t) u) (joins Extra (members Extra t) u),
      servings-joins Credit (members Credit t) u,
      servings-joins Extra (members Extra t) u,
    )

-- a turn tells of one serving at most
one_serving : (t : Table) (w : Way) (n : ℕ) → servings (served_in t w n) ≤ 1
one_serving t by_right n = omega arith
one_serving t by_allowance n = omega arith
one_serving t (by_credit q) n = omega arith
one_serving t unclaimed n = omega arith
one_serving t (by_extra q) n = omega arith
one_serving t idle n = omega arith

module _ {C : Type 0} (M : Meaning C) where
  pub told_all-append : (xs ys : List Telling) (c : C) →
      told_all M c (xs ++ ys) ≡ told_all M (told_all M c xs) ys
  told_all-append [] ys c = refl
  told_all-append (x ∷ xs) ys c = told_all-append xs ys (told M c x)

  -- place by place, as it is told
  pub told_all-joins_from : (k : ℕ) (list : ListKind) (stay : List Entry) (b : Bool) (bs : List Bool) (s : Session) (t : Table) (c : C) →
      told_all M c (joins_from k list stay (b ∷ bs) (s ∷ t))
      ≡ told_all M (cond (not b && stands_in list s) (M.joined c list k stay) c) (joins_from (suc k) list stay bs t)
  unfolding joins_from
  told_all-joins_from k list stay b bs s t c = by (not b && stands_in list s)
    where
      more : List Telling
      more = joins_from (suc k) list stay bs t

      by : (j : Bool) →
          told_all M c (cond j (joined list k stay ∷ more) more) ≡ told_all M (cond j (M.joined c list k stay) c) more
      by true = refl
      by false = refl

  -- what a cell that is left has told its chooser, list by list
  pub settled_chooser : (x : Cell C) (u : Table) (n : ℕ) (ts : List Telling) →
      (settled M x u n ts).chooser
      ≡ told_all M (told_all M (told_all M x.chooser ts) (joins Credit (members Credit x.table) u))
      (joins Extra (members Extra x.table) u)
  unfolding settled all_joins
  settled_chooser x u n ts =
      let owed = joins Credit (members Credit x.table) u in
      let spare = joins Extra (members Extra x.table) u in
      told_all-append ts (owed ++ spare) x.chooser
      ∙ told_all-append owed spare (told_all M x.chooser ts)

  -- what a cell has heard between two moments
  abbrev pub Heard : Cell C → Cell C → Type 0
  Heard x y = (ts : List Telling) × (y.chooser ≡ told_all M x.chooser ts) × (x.turns + servings ts ≤ y.turns)

  heard_settled : (x : Cell C) (u : Table) (n : ℕ) (ts : List Telling) → x.turns + servings ts ≤ n →
      Heard x (settled M x u n ts)
  unfolding settled
  heard_settled x u n ts h =
      (ts ++ all_joins x.table u, refl, omega (arith, h, servings-append ts (all_joins x.table u), servings-all_joins x.table u))

  heard_nothing : (x : Cell C) → Heard x x
  heard_nothing x = ([], refl, omega arith)

  heard_accepted : (x : Cell C) (call : Call) → Heard x (accepted M x call).cell
  unfolding accepted turn_after
  heard_accepted x (opening p r) = heard_settled x _ _ (cleared p ∷ []) (omega arith)
  heard_accepted x (closing p) = heard_settled x _ _ [] (omega arith)
  heard_accepted x (arrival p g n) = heard_settled x _ _ [] (omega arith)
  heard_accepted x (report p b) = heard_settled x _ _ [] (omega arith)
  heard_accepted x turn =
      let c = unwrap_or (chosen x.table) 0 in
      let w = decide M x.chooser x.table c in
      let n = length_of x.table (sender c w) in
      heard_settled x _ _ (served_in x.table w n) (omega (arith, one_serving x.table w n))

  heard_step : (x : Cell C) (call : Call) → Heard x (cell_after M x call)
  unfolding step
  heard_step x call = by (refusal x call)
    where
      by : (o : Option Refusal) → Heard x (outcome M x call o).cell
      by (Some why) = heard_nothing x
      by None = heard_accepted x call

  heard_after : (x : Cell C) (calls : List Call) → Heard x (after M x calls)
  unfolding after
  heard_after x [] = heard_nothing x
  heard_after x (k ∷ ks) =
      let h = heard_step x k in
      let g = heard_after (cell_after M x k) ks in (
        h.0 ++ g.0,
        g.1 ∙ ap (λ (c : C). told_all M c g.0) h.1 ∙ sym (told_all-append h.0 g.0 x.chooser),
        omega (arith, h.2, g.2, servings-append h.0 g.0),
      )

  pub hears : (keep : ℕ) (c : C) → HearsTellings M (new keep c)
  hears keep c calls = let h = heard_after (new keep c) calls in (h.0, h.1, omega (arith, h.2))
