-- Who joins a list: nobody, and the one session that a call changes.
use Rattle.std.proofs.Common.{◌≡◌, ℕ, zero, suc, ◌+◌, ◌<◌, Bool, true, false, cond, not, ◌&&◌}
use Rattle.std.proofs.Common.{◌||◌, ◌⊎◌, inl, inr, List, [], ◌∷◌, ◌++◌, length, slice_set, sym, refl}
use Rattle.std.proofs.Common.{ap, ◌∙◌, subst, arith}
use Rattle.std.proofs.Math.Bool.{and_self, not-and_self, and_comm}
use Rattle.std.proofs.lemmas.Bool.{and_from, or_parts, cond-true, cond-false}
use Rattle.chooser.specs.Meaning.{Meaning, meant}
use Rattle.chooser.specs.Offers.{unoffered}
use Rattle.chooser.specs.Tellings.{Telling, joined, told_all}
use Rattle.chooser.specs.declared.Chooser.{Ghosts}
use Rattle.chooser.specs.declared.offer.Offer.{Offer}
use Rattle.model.proofs.Tables.{change_is}
use Rattle.model.proofs.Tellings.{told_all-append}
use Rattle.model.specs.Cell.{Cell, joins_from, joins, mark_from, mark_after, all_joins, settled}
use Rattle.model.specs.Lists.{Entry, ListKind, Credit, Extra, stands_in, members, entry, offer}
use Rattle.model.specs.Lists.{stayed}
use Rattle.model.specs.Limits.{places}
use Rattle.model.specs.Session.{Session}
use Rattle.model.specs.Sound.{InOrder}
use Rattle.model.specs.Table.{Table, at, change, least_time, latest_time, none_active}
use Rattle.session.specs.declared.row.Row.{Row}
use Rattle.table.proofs.Tables.{length_table}
use Rattle.table.specs.Joiners.{any_joins}
use Rattle.table.specs.Places.{table_of}
use Rattle.cell.specs.Found.{joins_by, with_session, BooksInOrder}
use Rattle.cell.proofs.Asking.{stayed_members}
use Rattle.cell.proofs.Sized.{rows_sized, can_be_offered}
use Rattle.cell.proofs.Telling.{joined_is}

-- what is told in two parts
pub told_both : {C : Type 0} (M : Meaning C) (xs ys : List Telling) (c d e : C) →
    d ≡ told_all M c xs → e ≡ told_all M d ys → e ≡ told_all M c (xs ++ ys)
told_both M xs ys c d e p q =
    q ∙ ap (λ d. told_all M d ys) p ∙ sym (told_all-append M xs ys c)

-- those who stay, where one place is changed that was not in the list, are all who were in it
stayed_one : (l : ListKind) (t : Table) (i : ℕ) (s : Session) → stands_in l (at t i) ≡ false →
    stayed l (members l t) (change t i (λ _. s)) ≡ offer l t
unfolding stayed at change
stayed_one l [] i s e = refl
stayed_one l (x ∷ t) zero s e =
    ap (λ (b : Bool). entry (b && stands_in l s) s ∷ stayed l (members l t) t) e
    ∙ ap (λ (es : List Entry). unoffered ∷ es) (stayed_members l t)
    ∙ sym (ap (λ (b : Bool). entry b x ∷ offer l t) e)
stayed_one l (x ∷ t) (suc i) s e =
    ap (λ (b : Bool). entry b x ∷ stayed l (members l t) (change t i (λ _. s))) (and_self (stands_in l x))
    ∙ ap (λ (es : List Entry). entry (stands_in l x) x ∷ es) (stayed_one l t i s e)

module _ (l : ListKind) where
  -- where nobody joined, the chooser is told nothing
  nothing_from : (k : ℕ) (stay : List Entry) (before : List Bool) (t : Table) →
      any_joins l before t ≡ false → joins_from k l stay before t ≡ []
  unfolding joins_from any_joins
  nothing_from k stay [] t e = refl
  nothing_from k stay (b ∷ bs) [] e = refl
  nothing_from k stay (b ∷ bs) (s ∷ t) e =
      let p = or_parts (not b && stands_in l s) (any_joins l bs t) e in
      let more = joins_from (suc k) l stay bs t in
      ap (λ (j : Bool). cond j (joined l k stay ∷ more) more) p.0
      ∙ nothing_from (suc k) stay bs t p.1

  none_new : (t : Table) → any_joins l (members l t) t ≡ false
  unfolding any_joins
  none_new [] = refl
  none_new (s ∷ t) = ap (λ (b : Bool). b || any_joins l (members l t) t) (not-and_self (stands_in l s)) ∙ none_new t

  -- of one place that is changed, at the most, it is told
  abbrev if_new : Bool → ℕ → List Entry → List Telling
  if_new b k stay = cond b (joined l k stay ∷ []) []

  told_one : (stay : List Entry) (k i : ℕ) (t : Table) (s : Session) → i < length t →
      joins_from k l stay (members l t) (change t i (λ _. s))
      ≡ if_new (not (stands_in l (at t i)) && stands_in l s) (k + i) stay
  unfolding joins_from at change
  told_one stay k i [] s h = absurd (omega arith)
  told_one stay k zero (x ∷ t) s h =
      let new = not (stands_in l x) && stands_in l s in
      ap (λ (ts : List Telling). cond new (joined l k stay ∷ ts) ts) (nothing_from (suc k) stay (members l t) t (none_new t))
      ∙ ap (λ (n : ℕ). if_new new n stay) (omega arith)
  told_one stay k (suc i) (x ∷ t) s h =
      let more = joins_from (suc k) l stay (members l t) (change t i (λ _. s)) in
      ap (λ (b : Bool). cond b (joined l k stay ∷ more) more) (not-and_self (stands_in l x))
      ∙ told_one stay (suc k) i t s (omega arith)
      ∙ ap (λ (n : ℕ). if_new (not (stands_in l (at t i)) && stands_in l s) n stay) (omega arith)

  -- where the one at place i of a table is changed to s
  module _ (t : Table) (i : ℕ) (s : Session) (h : i < length t) where
    heard : joins_by l t i s
        ≡ if_new (not (stands_in l (at t i)) && stands_in l s) i (stayed l (members l t) (change t i (λ _. s)))
    unfolding joins
    heard =
        let stay = stayed l (members l t) (change t i (λ _. s)) in
        told_one stay 0 i t s h
        ∙ ap (λ (n : ℕ). if_new (not (stands_in l (at t i)) && stands_in l s) n stay) (omega arith)

    pub one_joins : stands_in l s ≡ true → stands_in l (at t i) ≡ false →
        joins_by l t i s ≡ joined l i (offer l t) ∷ []
    one_joins is off =
        heard ∙ cond-true _ _ _ (and_from _ _ (ap not off) is)
        ∙ ap (λ (es : List Entry). joined l i es ∷ []) (stayed_one l t i s off)

    pub none_joins : (stands_in l s ≡ false) ⊎ (stands_in l (at t i) ≡ true) → joins_by l t i s ≡ []
    none_joins (inl out) =
        heard ∙ cond-false _ _ _ (ap (λ b. not (stands_in l (at t i)) && b) out ∙ and_comm _ false)
    none_joins (inr was) =
        heard
        ∙ ap (λ b. if_new (not b && stands_in l s) i (stayed l (members l t) (change t i (λ _. s)))) was

pub nobody_joins : {C : Type 0} (M : Meaning C) (l : ListKind) (before : List Bool) (t : Table) (c : C) →
    any_joins l before t ≡ false → told_all M c (joins l before t) ≡ c
unfolding joins
nobody_joins M l before t c e = ap (told_all M c) (nothing_from l 0 (stayed l before t) before t e)

-- where it is put at a place of the code's rows, as a chooser of the code is told of it
module _ {C : Type 0} (g : Ghosts C) (c : C) (l : ListKind) (rows : List Row) (i : ℕ) (s : Session) (sized : length rows ≡ places) (inside : i < places) where
  there : i < length (table_of rows)
  there = omega (arith, sized, inside, length_table rows)

  abbrev by_it : List Telling
  by_it = joins_by l (table_of rows) i s

  pub joiner_told : (d : C) (k : ℕ) (o : Offer) → d ≡ g.after_joined c l k o → k ≡ i →
      o.entries ≡ offer l (table_of rows) → stands_in l s ≡ true →
      stands_in l (at (table_of rows) i) ≡ false → d ≡ told_all (meant g) c by_it
  joiner_told d k o told here is new off =
      told ∙ ap (λ k. g.after_joined c l k o) here ∙ joined_is g c l o _ is i
      ∙ sym (ap (told_all (meant g) c) (one_joins l (table_of rows) i s there new off))

  pub outsider_untold : stands_in l s ≡ false → c ≡ told_all (meant g) c by_it
  outsider_untold out = sym (ap (told_all (meant g) c) (none_joins l (table_of rows) i s there (inl out)))

  pub member_untold : stands_in l (at (table_of rows) i) ≡ true → c ≡ told_all (meant g) c by_it
  member_untold was = sym (ap (told_all (meant g) c) (none_joins l (table_of rows) i s there (inr was)))

pub ruleset tells_of = (joiner_told, outsider_untold, member_untold)

-- a session that is put at a place of a cell, of which the chooser is told list by list: d is what
-- it is after the first
module _ {C : Type 0} (M : Meaning C) (keep mark turns : ℕ) (t : Table) (c : C) (place : ℕ) (s : Session) (none : Bool) (now : Table) (m : ℕ) (d e : C)
    (idle : none ≡ none_active t) (p : d ≡ told_all M c (joins_by Credit t place s))
    (q : e ≡ told_all M d (joins_by Extra t place s)) (is : now ≡ slice_set t place s)
    (marked : m ≡ mark_from (least_time now) none (latest_time now) mark) where
  abbrev x : Cell C
  x = record { keep = keep; mark = mark; turns = turns; table = t; chooser = c }

  pub put_leaves : ◌≡◌ {A = Cell C} (record { keep = keep; mark = m; turns = turns; table = now; chooser = e }) (with_session M x place s)
  unfolding settled mark_after all_joins
  put_leaves =
      let left = is ∙ sym (change_is t place (λ _. s)) in
      let is_mark = marked ∙ (λ i. mark_from (least_time (left i)) (idle i) (latest_time (left i)) mark) in
      let told = told_both M (joins_by Credit t place s) (joins_by Extra t place s) c d e p q in
      (λ i. record { keep = keep; mark = is_mark i; turns = turns; table = left i; chooser = told i })

  pub put_ordered : BooksInOrder (with_session M x place s) → InOrder keep m turns now
  put_ordered = subst BooksInOrder (sym put_leaves)

pub ruleset puts = (put_leaves, put_ordered, rows_sized, can_be_offered)
