-- What stands at the front of a text is found again, and what is found stood there.
use Rattle.std.proofs.Common.{◌≡◌, ℕ, ◌^◌, ◌<◌, ◌≤◌, Bool, true, false, cond, not, ltb, eqb, List, [], ◌∷◌, ◌++◌, length, take, drop, Option, Some, None, Result, Ok, Err, Bor, inl, inr, refl, sym, ap, subst, ◌∙◌, arith, decimal}
use Rattle.std.proofs.lemmas.Bool.{and_parts, and_from, cases_Bool, eqb-true, eq-eqb, ltb-true, lt-ltb, le-leb, not-true, both_ways}
use Rattle.std.proofs.lemmas.Fmt.{IsAscii-decimal, decimal_is_IsNumeral, parse-decimal}
use Rattle.std.proofs.lemmas.List.{take-append-drop, drop_at, take_at}
use Rattle.std.proofs.lemmas.Option.{cond_some, same_Some, some_pair_parts}
use Rattle.std.proofs.lemmas.Slice.Eq.{bytes_eq-Decides}
use Rattle.std.proofs.lemmas.Str.{IsUtf8-from_ascii}
use Rattle.std.proofs.lemmas.Str.Parse.{digit_from_value}
use Rattle.std.specs.Char.{is_ascii_digit}
use Rattle.std.specs.List.{prefix_len}
use Rattle.std.specs.Option.{MatchOption, option_copied, option_or}
use Rattle.std.specs.Result.{MatchResult, result_ok}
use Rattle.std.specs.Str.{IsUtf8, bytes_eq}
use Rattle.std.specs.Str.Parse.{AllDigits, digits_value, ParsesUnsigned}
use Rattle.notation.specs.Front.{◌>>=◌, after, digit_count, front_as, number_below, place_between, plain_number}

-- the value of a step that found something
pub bind_some : {A B : Type 0} (o : Option A) (f : A → Option B) (y : B) → (o >>= f) ≡ Some y → (x : A) × (o ≡ Some x) × (f x ≡ Some y)
bind_some None f y e = absurd cc
bind_some (Some x) f y e = (x, refl, e)

-- words

pub after-append : (word rest : List ℕ) → after word (word ++ rest) ≡ Some rest
unfolding after
after-append [] rest = refl
after-append (c ∷ cs) rest = rw (eq-eqb c c refl) (after-append cs rest)

pub after_takes : (word text rest : List ℕ) → after word text ≡ Some rest → text ≡ word ++ rest
unfolding after
after_takes [] text rest e = cc
after_takes (c ∷ cs) [] rest e = absurd cc
after_takes (c ∷ cs) (b ∷ bs) rest e =
    elim (cases_Bool (eqb b c)) [
      | inl t ↦ let tail = after_takes cs bs rest (rw t at e) in let head = eqb-true b c t in cc
      | inr f ↦ let none : None ≡ Some rest = rw f at e in absurd cc
    ]

pub after-split : (a b text : List ℕ) → after (a ++ b) text ≡ (after a text >>= after b)
unfolding after
after-split [] b text = refl
after-split (c ∷ cs) b [] = refl
after-split (c ∷ cs) b (x ∷ xs) =
    elim (cases_Bool (eqb x c)) [
      | inl t ↦ rw t (after-split cs b xs)
      | inr f ↦ rw f refl
    ]

-- what `strip_prefix` says
pub after_is : (word text : List ℕ) (r : Option (Bor (List ℕ))) → MatchOption r ((rest : List ℕ) → text ≡ word ++ rest → ⊥) (λ x. text ≡ word ++ x.now) → option_copied r ≡ after word text
after_is word text None none =
    let go : (o : Option (List ℕ)) → o ≡ after word text → None ≡ o = λ o. elim o as (λ (v : Option (List ℕ)). v ≡ after word text → None ≡ v) [
      | None ↦ λ e. refl
      | Some x ↦ λ e. absurd (none x (after_takes word text x (sym e)))
    ] in
    go (after word text) refl
after_is word text (Some x) e = rw e (sym (after-append word x.now))

-- numbers

pub plain_number_again : (n : ℕ) → n < 2 ^ 64 → plain_number (decimal n) ≡ Some n
unfolding plain_number
plain_number_again n lt =
    let value = (decimal_is_IsNumeral n lt).1 in
    rw (value, lt-ltb n (2 ^ 64) lt, (bytes_eq-Decides (decimal n) (decimal n)).1 refl) refl

pub plain_number_takes : (digits : List ℕ) (n : ℕ) → plain_number digits ≡ Some n → (decimal n ≡ digits) × (n < 2 ^ 64)
unfolding plain_number
plain_number_takes digits n e =
    let some = cond_some _ (digits_value 10 digits) n e in
    let both = and_parts _ _ some.0 in
    subst (λ (k : ℕ). (decimal k ≡ digits) × (k < 2 ^ 64)) some.1 ((bytes_eq-Decides _ _).0 both.1, ltb-true _ _ both.0)

pub plain_number_none : (digits : List ℕ) → ((n : ℕ) → n < 2 ^ 64 → decimal n ≡ digits → ⊥) → None ≡ plain_number digits
plain_number_none digits none =
    let go : (o : Option ℕ) → o ≡ plain_number digits → None ≡ o = λ o. elim o as (λ (v : Option ℕ). v ≡ plain_number digits → None ≡ v) [
      | None ↦ λ e. refl
      | Some n ↦ λ e. let t = plain_number_takes digits n (sym e) in absurd (none n t.1 t.0)
    ] in
    go (plain_number digits) refl

-- what `from_utf8` and `parse` say, behind `ok`
pub not_text : {E : Type 0} (Q : E → Type 0) (digits : List ℕ) (r : Result (Bor (List ℕ)) E) → MatchResult r (λ s. (s.now ≡ digits) × IsUtf8 digits) (λ e. ¬ IsUtf8 digits × Q e) → None ≡ result_ok r → None ≡ plain_number digits
not_text Q digits (Ok s) cases e = absurd cc
not_text Q digits (Err x) cases e =
    plain_number_none digits (λ n lt is. cases.0 (subst IsUtf8 is (IsUtf8-from_ascii (decimal n) (IsAscii-decimal n lt))))

pub text_is : {E : Type 0} (Q : E → Type 0) (digits : List ℕ) (r : Result (Bor (List ℕ)) E) (s : Bor (List ℕ)) → MatchResult r (λ t. (t.now ≡ digits) × IsUtf8 digits) Q → Some s ≡ result_ok r → s.now ≡ digits
text_is Q digits (Ok t) s cases e = let same = same_Some s t e in rw same cases.0
text_is Q digits (Err x) s cases e = absurd cc

pub not_number : {E : Type 0} (digits text : List ℕ) (r : Result ℕ E) → text ≡ digits → ParsesUnsigned 64 10 text r → None ≡ result_ok r → None ≡ plain_number digits
not_number digits text r same parses e =
    plain_number_none digits (λ n lt is. let ok = parse-decimal 64 n text r lt lt (same ∙ sym is) parses in let none : None ≡ Some n = rw ok at e in absurd cc)

pub parsed_is : {E : Type 0} (digits text : List ℕ) (r : Result ℕ E) (n : ℕ) (printed : List ℕ) (b : Bool) → text ≡ digits → ParsesUnsigned 64 10 text r → Some n ≡ result_ok r → printed ≡ decimal n → b ≡ bytes_eq printed digits → cond b (Some n) None ≡ plain_number digits
parsed_is digits text (Err x) n printed b same parses e is tested = absurd cc
parsed_is digits text (Ok m) n printed true same parses e is tested =
    let number = same_Some n m e in
    let fits : n < 2 ^ 64 = rw (number, parses.1) parses.0.1 in
    let plain : printed ≡ digits = (bytes_eq-Decides printed digits).0 (sym tested) in
    sym (subst (λ (ds : List ℕ). plain_number ds ≡ Some n) (sym is ∙ plain) (plain_number_again n fits))
parsed_is {E} digits text (Ok m) n printed false same parses e is tested =
    plain_number_none digits (λ k lt plain.
    let ok : ◌≡◌ {A = Result ℕ E} (Ok m) (Ok k) = parse-decimal 64 k text (Ok m) lt lt (same ∙ sym plain) parses in
    let number = same_Some n m e in
    let k_is : k ≡ n = cc in
    both_ways (bytes_eq printed digits) (sym tested) ((bytes_eq-Decides printed digits).1 (is ∙ (ap decimal (sym k_is) ∙ plain))))

-- no digit comes first
abbrev pub stops : List ℕ → Bool
stops [] = true
stops (b ∷ bs) = not (is_ascii_digit b)

digit_tested : (c : ℕ) → 48 ≤ c → c ≤ 57 → is_ascii_digit c ≡ true
digit_tested c low high = and_from _ _ (le-leb 48 c low) (le-leb c 57 high)

digits_pass : (ds : List ℕ) → AllDigits 10 ds → (rest : List ℕ) → stops rest ≡ true → prefix_len is_ascii_digit (ds ++ rest) ≡ length ds
digits_pass [] all [] stop = refl
digits_pass [] all (b ∷ bs) stop = rw (not-true (is_ascii_digit b) stop) refl
digits_pass (d ∷ ds) all rest stop =
    let range = digit_from_value d all.0 in
    rw (digit_tested d range.0 range.1, digits_pass ds all.1 rest stop) (omega arith)

pub digit_count-decimal : (n : ℕ) → n < 2 ^ 64 → (rest : List ℕ) → stops rest ≡ true → digit_count (decimal n ++ rest) ≡ length (decimal n)
digit_count-decimal n lt rest stop = digits_pass (decimal n) (decimal_is_IsNumeral n lt).0.1 rest stop

pub number_again : (limit n : ℕ) (rest : List ℕ) → n < limit → n < 2 ^ 64 → stops rest ≡ true → number_below limit (decimal n ++ rest) ≡ Some (n, rest)
unfolding number_below
number_again limit n rest below fits stop =
    let count = digit_count-decimal n fits rest stop in
    rw (count, take_at (decimal n) rest (length (decimal n)) refl, drop_at (decimal n) rest (length (decimal n)) refl, plain_number_again n fits, lt-ltb n limit below) refl

pub number_takes : (limit n : ℕ) (text rest : List ℕ) → number_below limit text ≡ Some (n, rest) → (text ≡ decimal n ++ rest) × (n < limit) × (n < 2 ^ 64)
unfolding number_below
number_takes limit n text rest e =
    let found = bind_some (plain_number (take (digit_count text) text)) (λ (k : ℕ). cond (ltb k limit) (Some (k, drop (digit_count text) text)) None) (n, rest) e in
    let plain = plain_number_takes (take (digit_count text) text) found.0 found.1 in
    let kept = cond_some (ltb found.0 limit) (found.0, drop (digit_count text) text) (n, rest) found.2 in
    let number : found.0 ≡ n = ap (λ (p : ℕ × List ℕ). p.0) kept.1 in
    let behind : drop (digit_count text) text ≡ rest = ap (λ (p : ℕ × List ℕ). p.1) kept.1 in
    let parts : text ≡ decimal found.0 ++ drop (digit_count text) text = rw plain.0 (sym (take-append-drop (digit_count text) text)) in
    let below : found.0 < limit = ltb-true _ _ kept.0 in
    let fits : found.0 < 2 ^ 64 = plain.1 in
    (parts ∙ (ap (λ (k : ℕ). decimal k ++ drop (digit_count text) text) number ∙ ap (λ (t : List ℕ). decimal n ++ t) behind), omega arith, omega arith)

pub place_at : (before behind : List ℕ) (p : ℕ) (rest : List ℕ) → p < 2 ^ 8 → stops rest ≡ true → place_between before behind (before ++ (decimal p ++ rest)) ≡ (after behind rest >>= λ r. Some (p, r))
unfolding place_between
place_at before behind p rest lt stop =
    rw (after-append before (decimal p ++ rest), number_again (2 ^ 8) p rest lt (omega arith) stop) refl

pub place_takes : (before behind text : List ℕ) (p : ℕ) (rest : List ℕ) → place_between before behind text ≡ Some (p, rest) → (text ≡ before ++ (decimal p ++ (behind ++ rest))) × (p < 2 ^ 8)
unfolding place_between
place_takes before behind text p rest e =
    let start = bind_some (after before text) (λ s. number_below (2 ^ 8) s >>= λ q. after behind q.1 >>= λ r. Some (q.0, r)) (p, rest) e in
    let place = bind_some (number_below (2 ^ 8) start.0) (λ q. after behind q.1 >>= λ r. Some (q.0, r)) (p, rest) start.2 in
    let end = bind_some (after behind place.0.1) (λ (r : List ℕ). Some (place.0.0, r)) (p, rest) place.2 in
    let number = number_takes (2 ^ 8) place.0.0 start.0 place.0.1 place.1 in
    let number_is : place.0.0 ≡ p = (some_pair_parts _ _ _ _ end.2).0 in
    let rest_is : end.0 ≡ rest = (some_pair_parts _ _ _ _ end.2).1 in
    let first = after_takes before text start.0 start.1 in
    let last = after_takes behind place.0.1 end.0 end.1 in
    let all : text ≡ before ++ (decimal place.0.0 ++ (behind ++ end.0)) = first ∙ ap (λ (t : List ℕ). before ++ t) (number.0 ∙ ap (λ (t : List ℕ). decimal place.0.0 ++ t) last) in
    let below : place.0.0 < 2 ^ 8 = number.1 in
    (all ∙ (ap (λ (k : ℕ). before ++ (decimal k ++ (behind ++ end.0))) number_is ∙ ap (λ (t : List ℕ). before ++ (decimal p ++ (behind ++ t))) rest_is), omega arith)

-- the code's choice, in these terms
pub or_as : {X : Type 0} (r a b : Option (X × Bor (List ℕ))) (x y : Option (X × List ℕ)) → r ≡ option_or a b → front_as a ≡ x → front_as b ≡ y → front_as r ≡ option_or x y
or_as r None b x y e p q = rw (e, ← p) q
or_as r (Some a) b x y e p q = rw (e, ← p) refl
