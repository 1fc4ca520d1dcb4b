-- That the search finds the least, and that there is only one least.
use Rattle.std.proofs.Common.{◌≡◌, ℕ, zero, suc, ◌+◌, ◌<◌, ◌≤◌, Bool, true, false, cond, ◌⊎◌, List, [], ◌∷◌, length, get_or, Some, None, Option, sym, refl, ap, ◌∙◌, subst, inl, inr, ⊎_elim, arith}
use Rattle.std.specs.Cmp.{IsStrictWeakOrder, IsTotalOrder}
use Rattle.std.specs.Ordering.{is_gt, min_by_ordering}
use Rattle.std.specs.declared.cmp.Ordering.{Ordering}
use Rattle.std.specs.declared.cmp.Ordering.TheVariants.{Less, Equal, Greater}
use Rattle.std.specs.List.{enumerate_from, filter_map, fold, position_or_len, reduce}
use Rattle.std.specs.Option.{option_map}
use Rattle.std.proofs.lemmas.Bool.{cases_Bool, cases_lt, and_from, and_left, and_right, not_from_true, not_from_false}
use Rattle.std.proofs.lemmas.Bool.Decides.{nat_tests}
use Rattle.std.proofs.lemmas.List.{get_or_past}
use Rattle.std.proofs.lemmas.List.Sums.{position_or_len_is}
use Rattle.keys.proofs.Options.{some_none, same_some}
use Rattle.keys.proofs.Orders.{gt_is_lt, irreflexive, overtakes}
use Rattle.keys.specs.Order.{lt_by_cmp}
use Rattle.keys.specs.Least.{unbeaten, is_least, least_of, LeastAt, Least}

-- ---- the search: the candidates in turn, of which the first of the least stays
abbrev pub numbered : {K : Type 0} → ℕ × Option K → Option (ℕ × K)
numbered x = option_map (λ key. (x.0, key)) x.1

abbrev pub candidates : {K : Type 0} → ℕ → List (Option K) → List (ℕ × K)
candidates n row = filter_map numbered (enumerate_from n row)

abbrev pub sooner : {K : Type 0} → (K → K → Bool) → ℕ × K → ℕ × K → ℕ × K
sooner before x y = cond (before y.1 x.1) y x

-- it is what `min_by_key` picks, by the order
by_order : {K : Type 0} (o : Ordering) (x y : ℕ × K) → min_by_ordering o x y ≡ cond (is_gt o) y x
by_order Less x y = refl
by_order Equal x y = refl
by_order Greater x y = refl

pub sooner_is : {K : Type 0} {cmp : K → K → Ordering} → IsTotalOrder cmp → (x y : ℕ × K)
    → min_by_ordering (cmp x.1 y.1) x y ≡ sooner (lt_by_cmp cmp) x y
sooner_is {cmp = cmp} total x y = by_order (cmp x.1 y.1) x y ∙ ap (λ (b : Bool). cond b y x) (gt_is_lt total x.1 y.1)

-- a fact of each entry, where one entry more stands in front
at_cons : {X : Type 0} (x : X) (xs : List X) (d : X) (P : ℕ → X → Type 0) → P 0 x → ((j : ℕ) → P (suc j) (get_or xs j d)) → (j : ℕ) → P j (get_or (x ∷ xs) j d)
at_cons x xs d P here behind zero = here
at_cons x xs d P here behind (suc j) = behind j

module _ {K : Type 0} {before : K → K → Bool} (order : IsStrictWeakOrder before) where
  -- no candidate of the row comes before the key
  abbrev Ahead : List (Option K) → K → Type 0
  Ahead row key = (j : ℕ) (other : K) → get_or row j None ≡ Some other → before other key ≡ false

  least_here : (row : List (Option K)) (key : K) → Ahead row key → LeastAt before (Some key ∷ row) 0 key
  least_here row key ahead = record {
    candidate = refl;
    none_before = at_cons (Some key) row None (λ j o. (other : K) → o ≡ Some other → before other key ≡ false)
        (λ other is. subst (λ x. before x key ≡ false) (same_some (Some key) key other refl is) (irreflexive order key))
        ahead;
    lowest = λ j other lt is. absurd (omega arith);
  }

  least_behind : (x : Option K) (row : List (Option K)) (i : ℕ) (key : K) → ((other : K) → x ≡ Some other → before key other ≡ true)
      → LeastAt before row i key → LeastAt before (x ∷ row) (suc i) key
  least_behind x row i key lt least = record {
    candidate = least.candidate;
    none_before = at_cons x row None (λ j o. (other : K) → o ≡ Some other → before other key ≡ false)
        (λ other is. order.one_way key other (lt other is))
        least.none_before;
    lowest = at_cons x row None (λ j o. (other : K) → j < suc i → o ≡ Some other → before key other ≡ true)
        (λ other inside is. lt other is)
        (λ j other inside. least.lowest j other (omega arith));
  }

  -- of a candidate and those of a row that begins at n behind it, r is the first
  abbrev From : ℕ → List (Option K) → ℕ × K → Type 0
  From n row r = (i : ℕ) × (r.0 ≡ n + i) × LeastAt before row i r.1

  abbrev First : ℕ → List (Option K) → ℕ × K → ℕ × K → Type 0
  First n row top r = ((r ≡ top) × Ahead row top.1) ⊎ (From n row r × (before r.1 top.1 ≡ true))

  from_behind : (n : ℕ) (x : Option K) (row : List (Option K)) (r : ℕ × K) → ((other : K) → x ≡ Some other → before r.1 other ≡ true)
      → From (n + 1) row r → From n (x ∷ row) r
  from_behind n x row r lt (i, at, least) = (suc i, omega arith, least_behind x row i r.1 lt least)

  -- an entry that does not come before the best so far is passed
  first_kept : (n : ℕ) (x : Option K) (row : List (Option K)) (top r : ℕ × K) → ((other : K) → x ≡ Some other → before other top.1 ≡ false)
      → First (n + 1) row top r → First n (x ∷ row) top r
  first_kept n x row top r nay (inl (same, ahead)) =
      inl (same, at_cons x row None (λ j o. (other : K) → o ≡ Some other → before other top.1 ≡ false) nay ahead)
  first_kept n x row top r nay (inr (found, lt)) =
      inr (from_behind n x row r (λ other is. overtakes order r.1 top.1 other lt (nay other is)) found, lt)

  -- and one that does is the best so far
  first_taken : (n : ℕ) (key : K) (row : List (Option K)) (top r : ℕ × K) → before key top.1 ≡ true
      → First (n + 1) row (n, key) r → First n (Some key ∷ row) top r
  first_taken n key row top r lt (inl (same, ahead)) =
      inr (subst (λ x. From n (Some key ∷ row) x × (before x.1 top.1 ≡ true)) (sym same) ((0, omega arith, least_here row key ahead), lt))
  first_taken n key row top r lt (inr (found, sooner)) =
      let here : (other : K) → Some key ≡ Some other → before r.1 other ≡ true =
      λ other is. subst (λ x. before r.1 x ≡ true) (same_some (Some key) key other refl is) sooner in
      inr (from_behind n (Some key) row r here found, overtakes order r.1 key top.1 sooner (order.one_way key top.1 lt))

  first_from : (n : ℕ) (row : List (Option K)) (top : ℕ × K) → First n row top (fold (sooner before) top (candidates n row))
  first_from n [] top = inl (refl, λ j other is. absurd (some_none None other is refl))
  first_from n (None ∷ row) top = first_kept n None row top _ (λ other is. absurd (some_none None other is refl)) (first_from (n + 1) row top)
  first_from n (Some key ∷ row) top =
      let After : Bool → Type 0 = λ b. First n (Some key ∷ row) top (fold (sooner before) (cond b (n, key) top) (candidates (n + 1) row)) in
      elim (cases_Bool (before key top.1)) [
        | inl lt ↦ subst After (sym lt) (first_taken n key row top _ lt (first_from (n + 1) row (n, key)))
        | inr nay ↦ subst After (sym nay) (first_kept n (Some key) row top _
            (λ other is. subst (λ x. before x top.1 ≡ false) (same_some (Some key) key other refl is) nay)
            (first_from (n + 1) row top))
      ]

  abbrev LeastFrom : ℕ → List (Option K) → Option (ℕ × K) → Type 0
  LeastFrom n row None = (j : ℕ) → get_or row j None ≡ None
  LeastFrom n row (Some r) = From n row r

  none_behind : (n : ℕ) (row : List (Option K)) (r : Option (ℕ × K)) → LeastFrom (n + 1) row r → LeastFrom n (None ∷ row) r
  none_behind n row None h = at_cons None row None (λ j o. o ≡ None) refl h
  none_behind n row (Some r) h = from_behind n None row r (λ other is. absurd (some_none None other is refl)) h

  some_first : (n : ℕ) (key : K) (row : List (Option K)) (r : ℕ × K) → First (n + 1) row (n, key) r → From n (Some key ∷ row) r
  some_first n key row r (inl (same, ahead)) = subst (From n (Some key ∷ row)) (sym same) (0, omega arith, least_here row key ahead)
  some_first n key row r (inr (found, lt)) =
      from_behind n (Some key) row r (λ other is. subst (λ x. before r.1 x ≡ true) (same_some (Some key) key other refl is) lt) found

  least_from : (n : ℕ) (row : List (Option K)) → LeastFrom n row (reduce (sooner before) (candidates n row))
  least_from n [] = λ j. refl
  least_from n (None ∷ row) = none_behind n row _ (least_from (n + 1) row)
  least_from n (Some key ∷ row) = some_first n key row _ (first_from (n + 1) row (n, key))

  placed : (row : List (Option K)) (r : Option (ℕ × K)) → LeastFrom 0 row r → Least before row (option_map (λ x. x.0) r)
  placed row None h = h
  placed row (Some r) (i, at, least) = (r.1, let same : i ≡ r.0 = omega arith in subst (λ k. LeastAt before row k r.1) same least)

  pub search_finds : (row : List (Option K)) → Least before row (option_map (λ x. x.0) (reduce (sooner before) (candidates 0 row)))
  search_finds row = placed row _ (least_from 0 row)

module _ {K : Type 0} (before : K → K → Bool) where
  unbeaten_from : (row : List (Option K)) (key : K)
      → ((j : ℕ) (other : K) → get_or row j None ≡ Some other → before other key ≡ false) → unbeaten before row key ≡ true
  unbeaten_from [] key h = refl
  unbeaten_from (None ∷ row) key h = unbeaten_from row key (λ j. h (suc j))
  unbeaten_from (Some other ∷ row) key h = and_from _ _ (not_from_false _ (h 0 other refl)) (unbeaten_from row key (λ j. h (suc j)))

  beaten_from : (row : List (Option K)) (key : K) (j : ℕ) (other : K)
      → get_or row j None ≡ Some other → before other key ≡ true → unbeaten before row key ≡ false
  beaten_from [] key j other is lt = absurd (some_none None other is refl)
  beaten_from (None ∷ row) key zero other is lt = absurd (some_none None other is refl)
  beaten_from (None ∷ row) key (suc j) other is lt = beaten_from row key j other is lt
  beaten_from (Some x ∷ row) key zero other is lt =
      and_left _ _ (not_from_true _ (subst (λ (y : K). before y key ≡ true) (same_some (Some x) other x is refl) lt))
  beaten_from (Some x ∷ row) key (suc j) other is lt = and_right _ _ (beaten_from row key j other is lt)

  some_inside : (row : List (Option K)) (i : ℕ) (key : K) → get_or row i None ≡ Some key → i < length row
  some_inside row i key is =
      ⊎_elim (λ (lt : i < length row). lt) (λ (ge : length row ≤ i). absurd (some_none _ key is (get_or_past row i None ge))) (cases_lt i (length row))

  not_least : (row : List (Option K)) (x : Option K)
      → ((other : K) → x ≡ Some other → unbeaten before row other ≡ false) → is_least before row x ≡ false
  not_least row None h = refl
  not_least row (Some other) h = h other refl

  -- the words determine the answer, in whatever order: what they hold of is what the definition says
  pub least_is : (row : List (Option K)) (r : Option ℕ) → Least before row r → r ≡ least_of before row
  least_is row None h =
      let test = is_least before row in
      let past : position_or_len test row ≡ length row =
      position_or_len_is test row (length row) None (omega arith) (λ j lt. ap test (h j)) (λ lt. absurd (omega arith)) in
      grind (arith, nat_tests)
  least_is row (Some i) (key, l) =
      let test = is_least before row in
      let inside = some_inside row i key l.candidate in
      let here : position_or_len test row ≡ i =
      position_or_len_is test row i None (omega arith)
      (λ j lt. not_least row _ (λ other is. beaten_from row other i key l.candidate (l.lowest j other lt is)))
      (λ lt. ap test l.candidate ∙ unbeaten_from row key l.none_before) in
      grind (arith, nat_tests)

-- where keys have an order there is always such an answer, and so the definition has the property that its name says
pub least_of_is_least : {K : Type 0} {before : K → K → Bool} → IsStrictWeakOrder before
    → (row : List (Option K)) → Least before row (least_of before row)
least_of_is_least {before = before} order row =
    let found = search_finds order row in
    subst (Least before row) (least_is before row _ found) found
