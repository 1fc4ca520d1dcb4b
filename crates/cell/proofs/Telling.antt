-- Tellings: what a chooser of the code makes of an offer, and one place more of those who joined a
-- list.
use Rattle.std.proofs.Common.{◌≡◌, ℕ, suc, ◌+◌, Bool, true, false, cond, not, ◌&&◌, List, [], ◌∷◌}
use Rattle.std.proofs.Common.{◌++◌, length, drop, fold, Some, None, Option, sym, refl, ap, ◌∙◌}
use Rattle.std.proofs.Common.{add-one, arith}
use mathlib.Core.Bool.{Bool-set}
use Rattle.std.specs.List.{zip, enumerate_from}
use Rattle.std.proofs.lemmas.Bool.{and_from, both_ways, cond-true, cond-false}
use Rattle.std.proofs.iter.Yields.{fronts}
use Rattle.std.proofs.lemmas.Iterator.{YieldsList, YieldsList-from_slice, YieldsList-from_zip, zips}
use Rattle.std.proofs.lemmas.Iterator.Consumers.{YieldsList-from_enumerate, YieldsList-turn}
use Rattle.std.proofs.lemmas.Iterator.Consumers.{YieldsList-end}
use Rattle.std.proofs.lemmas.List.{length_push, at_drop_more, at_drop_all}
use Rattle.std.specs.Borrow.{Bor}
use Rattle.std.specs.Iterator.{Yields}
use Rattle.std.specs.Iterator.Adapters.{enumerate_steps}
use Rattle.std.specs.Slice.Iter.{iter_rest}
use Rattle.std.specs.declared.iter.Enumerate.{Enumerate}
use Rattle.std.specs.declared.iter.Zip.{Zip}
use Rattle.std.specs.declared.slice.Iter.{Iter}
use Rattle.chooser.specs.Meaning.{if_sound, meant}
use Rattle.chooser.specs.Offers.{sound}
use Rattle.chooser.specs.Tellings.{told_all}
use Rattle.chooser.specs.declared.offer.Offer.{Offer}
use Rattle.chooser.specs.declared.Chooser.{Ghosts}
use Rattle.model.proofs.Tellings.{told_all-joins_from}
use Rattle.model.specs.Cell.{joins_from}
use Rattle.model.specs.Lists.{Entry, ListKind, stands_in}
use Rattle.session.specs.Seen.{seen}
use Rattle.session.specs.declared.row.Row.{Row}
use Rattle.table.specs.Places.{table_of}

-- of an offer of the code, its entries mean the offer itself
pub if_sound_is : {X : Type 0} (x : X) (f : Offer → X) (o : Offer) → if_sound x f o.entries (sound o.entries) refl ≡ f o
if_sound_is x f o = by (sound o.entries) refl
  where
    by : (b : Bool) (e : sound o.entries ≡ b) → if_sound x f o.entries b e ≡ f o
    by true e = ap f (λ i. record { entries = o.entries; ok = Bool-set _ _ e o.ok i })
    by false e = absurd (both_ways (sound o.entries) e o.ok)

-- what a chooser of the code is asked and told of an offer with known entries, as what it means
module _ {C : Type 0} (g : Ghosts C) (c : C) (l : ListKind) (o : Offer) (es : List Entry) (e : o.entries ≡ es) where
  pub asked_is : g.pick c l o ≡ (meant g).pick c l es
  asked_is = sym (if_sound_is None (g.pick c l) o) ∙ ap ((meant g).pick c l) e

  pub joined_is : (k : ℕ) → g.after_joined c l k o ≡ (meant g).joined c l k es
  joined_is k = sym (if_sound_is c (g.after_joined c l k) o) ∙ ap ((meant g).joined c l k) e

-- who joined is told place by place, with the offer of those who stayed
module _ {C : Type 0} (g : Ghosts C) (l : ListKind) (o : Offer) where
  abbrev pub tells : C → ℕ × (Row × Bool) → C
  tells c p = cond (not p.1.1 && stands_in l (seen p.1.0)) ((meant g).joined c l p.0 o.entries) c

  told_each : (k : ℕ) (rows : List Row) (before : List Bool) (c : C) →
      fold tells c (enumerate_from k (zip rows before))
      ≡ told_all (meant g) c (joins_from k l o.entries before (table_of rows))
  unfolding joins_from table_of
  told_each k [] [] c = refl
  told_each k [] (b ∷ bs) c = refl
  told_each k (r ∷ rs) [] c = refl
  told_each k (r ∷ rs) (b ∷ bs) c =
      let next = tells c (k, (r, b)) in
      told_each (k + 1) rs bs next
      ∙ ap (λ n. told_all (meant g) next (joins_from n l o.entries bs (table_of rs))) (add-one k)
      ∙ sym (told_all-joins_from (meant g) k l o.entries b bs (seen r) (table_of rs) c)

  -- it joined, or it did not
  module _ (k : ℕ) (r : Row) (was : Bool) (c : C) where
    pub tells_joiner : (d : C) → d ≡ g.after_joined c l k o → was ≡ false → stands_in l (seen r) ≡ true → d ≡ tells c (k, (r, was))
    tells_joiner d h new is = h ∙ joined_is g c l o o.entries refl k ∙ sym (cond-true _ _ _ (and_from _ _ (ap not new) is))

    pub tells_member : was ≡ true → c ≡ tells c (k, (r, was))
    tells_member old = ap (λ (b : Bool). cond (not b && stands_in l (seen r)) ((meant g).joined c l k o.entries) c) (sym old)

    pub tells_outsider : was ≡ false → stands_in l (seen r) ≡ false → c ≡ tells c (k, (r, was))
    tells_outsider new out = sym (cond-false _ _ _ (ap (λ (b : Bool). not b && stands_in l (seen r)) new ∙ out))

  -- the loop that does so over all places, one place more and at its end
  module _ (rows : List Row) (before : List Bool)
      (s : Enumerate (Zip (Iter Row) (Iter Bool))) (a : iter_rest s.iter.a ≡ rows) (b : iter_rest s.iter.b ≡ before) (z : s.count ≡ 0)
      (xs : List (ℕ × (Bor Row × Bor Bool))) (t : Enumerate (Zip (Iter Row) (Iter Bool))) (y : Yields (enumerate_steps (zips fronts fronts)) s xs t)
      (r : Option (ℕ × (Bor Row × Bor Bool))) (u : Enumerate (Zip (Iter Row) (Iter Bool))) where
    abbrev each : List (ℕ × (Row × Bool))
    each = enumerate_from 0 (zip rows before)

    road : YieldsList (enumerate_steps (zips fronts fronts)) (λ p. (p.0, (p.1.0.now, p.1.1.now))) s each
    road = YieldsList-from_enumerate (YieldsList-from_zip (YieldsList-from_slice rows a) (YieldsList-from_slice before b)) z

    pub told_turn : (k : ℕ) (row : Bor Row) (was : Bor Bool) (first c d : C) → r ≡ Some (k, (row, was)) → enumerate_steps (zips fronts fronts) t r u →
        d ≡ tells c (k, (row.now, was.now)) → fold tells c (drop (length xs) each) ≡ fold tells first each →
        fold tells d (drop (length (xs ++ (k, (row, was)) ∷ [])) each) ≡ fold tells first each
    told_turn k row was first c d e h is so_far =
        let n = YieldsList-turn road xs t y r u (k, (row, was)) e h in
        (λ i. fold tells (is i) (drop (length_push xs (k, (row, was)) i) each))
        ∙ ap (λ p. fold tells (tells c p) (drop (length xs + 1) each)) n.1
        ∙ sym (at_drop_more (fold tells c) each (length xs) (k, (row.now, was.now)) n.0) ∙ so_far

    pub told_to_all : (first c : C) (stay : List Entry) → r ≡ None →
        enumerate_steps (zips fronts fronts) t r u →
        fold tells c (drop (length xs) each) ≡ fold tells first each → o.entries ≡ stay →
        c ≡ told_all (meant g) first (joins_from 0 l stay before (table_of rows))
    told_to_all first c stay e h so_far is =
        let n = (YieldsList-end road xs t y r u e h).1 in
        sym (at_drop_all (fold tells c) each (length xs) (omega arith)) ∙ so_far
        ∙ told_each 0 rows before first
        ∙ ap (λ z. told_all (meant g) first (joins_from 0 l z before (table_of rows))) is
