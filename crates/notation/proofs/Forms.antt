-- A call that was written is read again, whatever follows it, and what is read was written so: in words and in the short form.
use Rattle.std.proofs.Common.{◌≡◌, ℕ, ◌^◌, ◌<◌, true, List, ◌++◌, Option, Some, None, inl, inr, codes, decimal, refl, sym, ap, subst, ◌∙◌, append_assoc, append-nil, arith}
use Rattle.std.proofs.lemmas.Bool.{cases_Bool}
use Rattle.std.proofs.lemmas.Option.{same_Some}
use Rattle.std.specs.Option.{option_map}
use Rattle.record.specs.declared.call.Call.{Call}
use Rattle.record.specs.declared.call.Call.TheVariants.{Open, Close, Arrive, Good, Bad, Turn}
use Rattle.tariff.specs.Tariff.{in_tariff}
use Rattle.notation.specs.Calls.{Front, ◌or◌, arriving, opening, placed, shortened, turning, worded}
use Rattle.notation.specs.Front.{◌>>=◌, after, number_below, place_between}
use Rattle.notation.specs.Short.{short_words}
use Rattle.notation.specs.Texts.{Fits}
use Rattle.notation.specs.Words.{call_words, price_words}
use Rattle.notation.proofs.Fronts.{after-append, after_takes, bind_some, number_again, number_takes, place_at, place_takes, stops}

-- ---- what was written is read again

-- no number goes on into these
abbrev Stops : List ℕ → Type 0
Stops text = stops text ≡ true

pub placed_again : (call : ℕ → Call) (before behind : List ℕ) (p : ℕ) (rest : List ℕ) → p < 2 ^ 8 → Stops (behind ++ rest) → placed call before behind (before ++ (decimal p ++ (behind ++ rest))) ≡ Some (call p, rest)
placed_again call before behind p rest lt stop = rw (place_at before behind p (behind ++ rest) lt stop, after-append behind rest) refl

pub opening_again : (before behind : List ℕ) (price : ℕ → List ℕ) (p r : ℕ) (rest : List ℕ) → p < 2 ^ 8 → r < 2 ^ 32 → ((t : List ℕ) → Stops (behind ++ t)) → Stops (price r ++ rest) → opening before behind price (before ++ (decimal p ++ (behind ++ (decimal r ++ (price r ++ rest))))) ≡ Some (Open p r, rest)
unfolding opening
opening_again before behind price p r rest low fits stop last =
    rw (place_at before behind p (behind ++ (decimal r ++ (price r ++ rest))) low (stop _), after-append behind (decimal r ++ (price r ++ rest)), number_again (2 ^ 32) r (price r ++ rest) fits (omega arith) last, after-append (price r) rest) refl

pub arriving_again : (before behind between : List ℕ) (p n t : ℕ) (rest : List ℕ) → p < 2 ^ 8 → n < 2 ^ 16 → t < 2 ^ 32 → ((t : List ℕ) → Stops (behind ++ t)) → ((t : List ℕ) → Stops (between ++ t)) → Stops rest → arriving before behind between (before ++ (decimal p ++ (behind ++ (decimal n ++ (between ++ (decimal t ++ rest)))))) ≡ Some (Arrive p n t, rest)
unfolding arriving
arriving_again before behind between p n t rest low short fits first second last =
    rw (place_at before behind p (behind ++ (decimal n ++ (between ++ (decimal t ++ rest)))) low (first _), after-append behind (decimal n ++ (between ++ (decimal t ++ rest))), number_again (2 ^ 16) n (between ++ (decimal t ++ rest)) short (omega arith) (second _), after-append between (decimal t ++ rest), number_again (2 ^ 32) t rest fits (omega arith) last) refl

-- other words are not read

wrong_before : (before behind text : List ℕ) → after before text ≡ None → place_between before behind text ≡ None
unfolding place_between
wrong_before before behind text e = rw e refl

wrong_behind : (before behind : List ℕ) (p : ℕ) (rest : List ℕ) → p < 2 ^ 8 → Stops rest → after behind rest ≡ None → place_between before behind (before ++ (decimal p ++ rest)) ≡ None
wrong_behind before behind p rest lt stop e = rw (place_at before behind p rest lt stop, e) refl

no_opening : (before behind : List ℕ) (price : ℕ → List ℕ) (text : List ℕ) → place_between before behind text ≡ None → opening before behind price text ≡ None
unfolding opening
no_opening before behind price text e = rw e refl

no_arrival : (before behind between text : List ℕ) → place_between before behind text ≡ None → arriving before behind between text ≡ None
unfolding arriving
no_arrival before behind between text e = rw e refl

-- in words

price_stops : (r : ℕ) (rest : List ℕ) → Stops (price_words r ++ rest)
price_stops r rest =
    elim (cases_Bool (in_tariff r)) [
      | inl t ↦ rw t refl
      | inr f ↦ rw f refl
    ]

worded_open : (p r : ℕ) (rest : List ℕ) → p < 2 ^ 8 → r < 2 ^ 32 → worded (codes "place " ++ (decimal p ++ (codes " opens at rate " ++ (decimal r ++ (price_words r ++ rest))))) ≡ Some (Open p r, rest)
unfolding worded after
worded_open p r rest low fits =
    rw (opening_again (codes "place ") (codes " opens at rate ") price_words p r rest low fits (λ t. refl) (price_stops r rest)) refl

worded_close : (p : ℕ) (rest : List ℕ) → p < 2 ^ 8 → worded (codes "place " ++ (decimal p ++ (codes " closes" ++ rest))) ≡ Some (Close p, rest)
unfolding worded after
worded_close p rest low =
    let opens = wrong_behind (codes "place ") (codes " opens at rate ") p (codes " closes" ++ rest) low refl refl in
    rw (no_opening (codes "place ") (codes " opens at rate ") price_words _ opens, placed_again Close (codes "place ") (codes " closes") p rest low refl) refl

worded_arrive : (p n t : ℕ) (rest : List ℕ) → p < 2 ^ 8 → n < 2 ^ 16 → t < 2 ^ 32 → Stops rest → worded (codes "place " ++ (decimal p ++ (codes " offers a frame of " ++ (decimal n ++ (codes " bytes, tag " ++ (decimal t ++ rest)))))) ≡ Some (Arrive p n t, rest)
unfolding worded after
worded_arrive p n t rest low short fits stop =
    let more = codes " offers a frame of " ++ (decimal n ++ (codes " bytes, tag " ++ (decimal t ++ rest))) in
    let opens = wrong_behind (codes "place ") (codes " opens at rate ") p more low refl refl in
    let closes = wrong_behind (codes "place ") (codes " closes") p more low refl refl in
    rw (no_opening (codes "place ") (codes " opens at rate ") price_words _ opens, closes, arriving_again (codes "place ") (codes " offers a frame of ") (codes " bytes, tag ") p n t rest low short fits (λ t. refl) (λ t. refl) stop) refl

worded_good : (p : ℕ) (rest : List ℕ) → p < 2 ^ 8 → worded (codes "the channel of place " ++ (decimal p ++ (codes " is good" ++ rest))) ≡ Some (Good p, rest)
unfolding worded after
worded_good p rest low =
    let text = codes "the channel of place " ++ (decimal p ++ (codes " is good" ++ rest)) in
    rw (
      no_opening (codes "place ") (codes " opens at rate ") price_words text (wrong_before (codes "place ") (codes " opens at rate ") text refl),
      wrong_before (codes "place ") (codes " closes") text refl,
      no_arrival (codes "place ") (codes " offers a frame of ") (codes " bytes, tag ") text (wrong_before (codes "place ") (codes " offers a frame of ") text refl),
      placed_again Good (codes "the channel of place ") (codes " is good") p rest low refl,
    ) refl

worded_bad : (p : ℕ) (rest : List ℕ) → p < 2 ^ 8 → worded (codes "the channel of place " ++ (decimal p ++ (codes " is bad" ++ rest))) ≡ Some (Bad p, rest)
unfolding worded after
worded_bad p rest low =
    let text = codes "the channel of place " ++ (decimal p ++ (codes " is bad" ++ rest)) in
    rw (
      no_opening (codes "place ") (codes " opens at rate ") price_words text (wrong_before (codes "place ") (codes " opens at rate ") text refl),
      wrong_before (codes "place ") (codes " closes") text refl,
      no_arrival (codes "place ") (codes " offers a frame of ") (codes " bytes, tag ") text (wrong_before (codes "place ") (codes " offers a frame of ") text refl),
      wrong_behind (codes "the channel of place ") (codes " is good") p (codes " is bad" ++ rest) low refl refl,
      placed_again Bad (codes "the channel of place ") (codes " is bad") p rest low refl,
    ) refl

worded_turn : (rest : List ℕ) → worded (codes "a turn" ++ rest) ≡ Some (Turn, rest)
unfolding worded after
worded_turn rest = refl

regroup-open : (p r : ℕ) (rest : List ℕ) → call_words (Open p r) ++ rest ≡ codes "place " ++ (decimal p ++ (codes " opens at rate " ++ (decimal r ++ (price_words r ++ rest))))
regroup-open p r rest = simp append_assoc

regroup-arrive : (p n t : ℕ) (rest : List ℕ) → call_words (Arrive p n t) ++ rest ≡ codes "place " ++ (decimal p ++ (codes " offers a frame of " ++ (decimal n ++ (codes " bytes, tag " ++ (decimal t ++ rest)))))
regroup-arrive p n t rest = simp append_assoc

regroup : (a b c rest : List ℕ) → (a ++ (b ++ c)) ++ rest ≡ a ++ (b ++ (c ++ rest))
regroup a b c rest = simp append_assoc

pub worded_again : (call : Call) (rest : List ℕ) → Fits call → Stops rest → worded (call_words call ++ rest) ≡ Some (call, rest)
worded_again (Open p r) rest fits stop = rw (regroup-open p r rest) (worded_open p r rest fits.0 fits.1)
worded_again (Close p) rest fits stop = rw (regroup (codes "place ") (decimal p) (codes " closes") rest) (worded_close p rest fits)
worded_again (Arrive p n t) rest fits stop = rw (regroup-arrive p n t rest) (worded_arrive p n t rest fits.0 fits.1 fits.2 stop)
worded_again (Good p) rest fits stop = rw (regroup (codes "the channel of place ") (decimal p) (codes " is good") rest) (worded_good p rest fits)
worded_again (Bad p) rest fits stop = rw (regroup (codes "the channel of place ") (decimal p) (codes " is bad") rest) (worded_bad p rest fits)
worded_again Turn rest fits stop = worded_turn rest

-- in the short form: by its letter

short_open : (p r : ℕ) (rest : List ℕ) → p < 2 ^ 8 → r < 2 ^ 32 → Stops rest → shortened (codes "O " ++ (decimal p ++ (codes " " ++ (decimal r ++ rest)))) ≡ Some (Open p r, rest)
unfolding shortened after
short_open p r rest low fits stop =
    rw (opening_again (codes "O ") (codes " ") (λ _. codes "") p r rest low fits (λ t. refl) stop) refl

short_close : (p : ℕ) (rest : List ℕ) → p < 2 ^ 8 → Stops rest → shortened (codes "C " ++ (decimal p ++ rest)) ≡ Some (Close p, rest)
unfolding shortened after
short_close p rest low stop =
    let text = codes "C " ++ (decimal p ++ rest) in
    rw (no_opening (codes "O ") (codes " ") (λ _. codes "") text (wrong_before (codes "O ") (codes " ") text refl), placed_again Close (codes "C ") (codes "") p rest low stop) refl

short_arrive : (p n t : ℕ) (rest : List ℕ) → p < 2 ^ 8 → n < 2 ^ 16 → t < 2 ^ 32 → Stops rest → shortened (codes "A " ++ (decimal p ++ (codes " " ++ (decimal n ++ (codes " " ++ (decimal t ++ rest)))))) ≡ Some (Arrive p n t, rest)
unfolding shortened after
short_arrive p n t rest low short fits stop =
    let text = codes "A " ++ (decimal p ++ (codes " " ++ (decimal n ++ (codes " " ++ (decimal t ++ rest))))) in
    rw (
      no_opening (codes "O ") (codes " ") (λ _. codes "") text (wrong_before (codes "O ") (codes " ") text refl),
      wrong_before (codes "C ") (codes "") text refl,
      arriving_again (codes "A ") (codes " ") (codes " ") p n t rest low short fits (λ t. refl) (λ t. refl) stop,
    ) refl

short_good : (p : ℕ) (rest : List ℕ) → p < 2 ^ 8 → Stops rest → shortened (codes "G " ++ (decimal p ++ rest)) ≡ Some (Good p, rest)
unfolding shortened after
short_good p rest low stop =
    let text = codes "G " ++ (decimal p ++ rest) in
    rw (
      no_opening (codes "O ") (codes " ") (λ _. codes "") text (wrong_before (codes "O ") (codes " ") text refl),
      wrong_before (codes "C ") (codes "") text refl,
      no_arrival (codes "A ") (codes " ") (codes " ") text (wrong_before (codes "A ") (codes " ") text refl),
      placed_again Good (codes "G ") (codes "") p rest low stop,
    ) refl

short_bad : (p : ℕ) (rest : List ℕ) → p < 2 ^ 8 → Stops rest → shortened (codes "B " ++ (decimal p ++ rest)) ≡ Some (Bad p, rest)
unfolding shortened after
short_bad p rest low stop =
    let text = codes "B " ++ (decimal p ++ rest) in
    rw (
      no_opening (codes "O ") (codes " ") (λ _. codes "") text (wrong_before (codes "O ") (codes " ") text refl),
      wrong_before (codes "C ") (codes "") text refl,
      no_arrival (codes "A ") (codes " ") (codes " ") text (wrong_before (codes "A ") (codes " ") text refl),
      wrong_before (codes "G ") (codes "") text refl,
      placed_again Bad (codes "B ") (codes "") p rest low stop,
    ) refl

short_turn : (rest : List ℕ) → shortened (codes "T" ++ rest) ≡ Some (Turn, rest)
unfolding shortened after
short_turn rest = refl

regroup-short_open : (p r : ℕ) (rest : List ℕ) → short_words (Open p r) ++ rest ≡ codes "O " ++ (decimal p ++ (codes " " ++ (decimal r ++ rest)))
regroup-short_open p r rest = simp append_assoc

regroup-short_arrive : (p n t : ℕ) (rest : List ℕ) → short_words (Arrive p n t) ++ rest ≡ codes "A " ++ (decimal p ++ (codes " " ++ (decimal n ++ (codes " " ++ (decimal t ++ rest)))))
regroup-short_arrive p n t rest = simp append_assoc

pub shortened_again : (call : Call) (rest : List ℕ) → Fits call → Stops rest → shortened (short_words call ++ rest) ≡ Some (call, rest)
shortened_again (Open p r) rest fits stop = rw (regroup-short_open p r rest) (short_open p r rest fits.0 fits.1 stop)
shortened_again (Close p) rest fits stop = short_close p rest fits stop
shortened_again (Arrive p n t) rest fits stop = rw (regroup-short_arrive p n t rest) (short_arrive p n t rest fits.0 fits.1 fits.2 stop)
shortened_again (Good p) rest fits stop = short_good p rest fits stop
shortened_again (Bad p) rest fits stop = short_bad p rest fits stop
shortened_again Turn rest fits stop = short_turn rest

-- a text that begins as neither a turn nor a place is nothing in words
other_words : (text : List ℕ) → after (codes "a turn") text ≡ None → after (codes "place ") text ≡ None → after (codes "the channel of place ") text ≡ None → worded text ≡ None
unfolding worded
other_words text turn place channel =
    rw (
      turn,
      no_opening (codes "place ") (codes " opens at rate ") price_words text (wrong_before (codes "place ") (codes " opens at rate ") text place),
      wrong_before (codes "place ") (codes " closes") text place,
      no_arrival (codes "place ") (codes " offers a frame of ") (codes " bytes, tag ") text (wrong_before (codes "place ") (codes " offers a frame of ") text place),
      wrong_before (codes "the channel of place ") (codes " is good") text channel,
      wrong_before (codes "the channel of place ") (codes " is bad") text channel,
    ) refl

-- the short form is nothing in words
pub short_not_words : (call : Call) (rest : List ℕ) → worded (short_words call ++ rest) ≡ None
unfolding after
short_not_words (Open p r) rest = other_words _ refl refl refl
short_not_words (Close p) rest = other_words _ refl refl refl
short_not_words (Arrive p n t) rest = other_words _ refl refl refl
short_not_words (Good p) rest = other_words _ refl refl refl
short_not_words (Bad p) rest = other_words _ refl refl refl
short_not_words Turn rest = other_words _ refl refl refl

-- ---- what is read was written so

-- text is the call as it is written, and what follows it
abbrev Takes : (Call → List ℕ) → List ℕ → Call × List ℕ → Type 0
Takes written text front = (text ≡ written front.0 ++ front.1) × Fits front.0

turning_takes : (written : Call → List ℕ) (text : List ℕ) (front : Call × List ℕ) → turning (written Turn) text ≡ Some front → Takes written text front
turning_takes written text front e =
    let go : (o : Option (List ℕ)) → after (written Turn) text ≡ o → option_map (λ (rest : List ℕ). (Turn, rest)) o ≡ Some front → Takes written text front = λ o. elim o as (λ (v : Option (List ℕ)). after (written Turn) text ≡ v → option_map (λ (rest : List ℕ). (Turn, rest)) v ≡ Some front → Takes written text front) [
      | None ↦ λ found same. absurd cc
      | Some rest ↦ λ found same. subst (Takes written text) (same_Some (Turn, rest) front same) (after_takes (written Turn) text rest found, tt)
    ] in
    go (after (written Turn) text) refl e

placed_takes : (written : Call → List ℕ) (call : ℕ → Call) (before behind : List ℕ) (text : List ℕ) (front : Call × List ℕ) → ((p : ℕ) → written (call p) ≡ before ++ (decimal p ++ behind)) → ((p : ℕ) → p < 2 ^ 8 → Fits (call p)) → placed call before behind text ≡ Some front → Takes written text front
placed_takes written call before behind text front is fits e =
    let go : (o : Option (ℕ × List ℕ)) → place_between before behind text ≡ o → option_map (λ (p : ℕ × List ℕ). (call p.0, p.1)) o ≡ Some front → Takes written text front = λ o. elim o as (λ (v : Option (ℕ × List ℕ)). place_between before behind text ≡ v → option_map (λ (p : ℕ × List ℕ). (call p.0, p.1)) v ≡ Some front → Takes written text front) [
      | None ↦ λ found same. absurd cc
      | Some q ↦ λ found same.
          let place = place_takes before behind text q.0 q.1 found in
          subst (Takes written text) (same_Some (call q.0, q.1) front same)
          (place.0 ∙ (sym (regroup before (decimal q.0) behind q.1) ∙ ap (λ (t : List ℕ). t ++ q.1) (sym (is q.0))), fits q.0 place.1)
    ] in
    go (place_between before behind text) refl e

opening_whole : (text x y rest whole a p b r c : List ℕ) → text ≡ a ++ (p ++ (b ++ x)) → x ≡ r ++ y → y ≡ c ++ rest → whole ≡ a ++ (p ++ (b ++ (r ++ c))) → text ≡ whole ++ rest
opening_whole text x y rest whole a p b r c e f g w = rw (e, f, g, w) (sym (simp append_assoc))

arriving_whole : (text x y z rest whole a p b n c t : List ℕ) → text ≡ a ++ (p ++ (b ++ x)) → x ≡ n ++ y → y ≡ c ++ z → z ≡ t ++ rest → whole ≡ a ++ (p ++ (b ++ (n ++ (c ++ t)))) → text ≡ whole ++ rest
arriving_whole text x y z rest whole a p b n c t e f g h w = rw (e, f, g, h, w) (sym (simp append_assoc))

opening_takes : (written : Call → List ℕ) (before behind : List ℕ) (price : ℕ → List ℕ) (text : List ℕ) (front : Call × List ℕ) → ((p r : ℕ) → written (Open p r) ≡ before ++ (decimal p ++ (behind ++ (decimal r ++ price r)))) → opening before behind price text ≡ Some front → Takes written text front
unfolding opening
opening_takes written before behind price text front is e =
    let place = bind_some (place_between before behind text) (λ p. number_below (2 ^ 32) p.1 >>= λ r. after (price r.0) r.1 >>= λ t. Some (Open p.0 r.0, t)) front e in
    let rate = bind_some (number_below (2 ^ 32) place.0.1) (λ r. after (price r.0) r.1 >>= λ t. Some (Open place.0.0 r.0, t)) front place.2 in
    let end = bind_some (after (price rate.0.0) rate.0.1) (λ t. Some (Open place.0.0 rate.0.0, t)) front rate.2 in
    let first = place_takes before behind text place.0.0 place.0.1 place.1 in
    let second = number_takes (2 ^ 32) rate.0.0 place.0.1 rate.0.1 rate.1 in
    let third = after_takes (price rate.0.0) rate.0.1 end.0 end.1 in
    subst (Takes written text) (same_Some (Open place.0.0 rate.0.0, end.0) front end.2)
    (opening_whole text (place.0.1) (rate.0.1) end.0 (written (Open place.0.0 rate.0.0)) before (decimal place.0.0) behind (decimal rate.0.0) (price rate.0.0) first.0 second.0 third (is place.0.0 rate.0.0), (first.1, second.1))

arriving_takes : (written : Call → List ℕ) (before behind between : List ℕ) (text : List ℕ) (front : Call × List ℕ) → ((p n t : ℕ) → written (Arrive p n t) ≡ before ++ (decimal p ++ (behind ++ (decimal n ++ (between ++ decimal t))))) → arriving before behind between text ≡ Some front → Takes written text front
unfolding arriving
arriving_takes written before behind between text front is e =
    let place = bind_some (place_between before behind text) (λ p. number_below (2 ^ 16) p.1 >>= λ n. after between n.1 >>= λ s. number_below (2 ^ 32) s >>= λ t. Some (Arrive p.0 n.0 t.0, t.1)) front e in
    let size = bind_some (number_below (2 ^ 16) place.0.1) (λ n. after between n.1 >>= λ s. number_below (2 ^ 32) s >>= λ t. Some (Arrive place.0.0 n.0 t.0, t.1)) front place.2 in
    let start = bind_some (after between size.0.1) (λ s. number_below (2 ^ 32) s >>= λ t. Some (Arrive place.0.0 size.0.0 t.0, t.1)) front size.2 in
    let tag = bind_some (number_below (2 ^ 32) start.0) (λ t. Some (Arrive place.0.0 size.0.0 t.0, t.1)) front start.2 in
    let first = place_takes before behind text place.0.0 place.0.1 place.1 in
    let second = number_takes (2 ^ 16) size.0.0 place.0.1 size.0.1 size.1 in
    let third = after_takes between size.0.1 start.0 start.1 in
    let fourth = number_takes (2 ^ 32) tag.0.0 start.0 tag.0.1 tag.1 in
    subst (Takes written text) (same_Some (Arrive place.0.0 size.0.0 tag.0.0, tag.0.1) front tag.2)
    (arriving_whole text (place.0.1) (size.0.1) start.0 (tag.0.1) (written (Arrive place.0.0 size.0.0 tag.0.0)) before (decimal place.0.0) behind (decimal size.0.0) between (decimal tag.0.0) first.0 second.0 third fourth.0 (is place.0.0 size.0.0 tag.0.0), (first.1, second.1, fourth.1))

or_found : (P : Call × List ℕ → Type 0) (a b : Front) → ((x : Call × List ℕ) → a ≡ Some x → P x) → ((x : Call × List ℕ) → b ≡ Some x → P x) → (x : Call × List ℕ) → (a or b) ≡ Some x → P x
or_found P None b first second x e = second x e
or_found P (Some y) b first second x e = first x e

pub worded_takes : (text : List ℕ) (front : Call × List ℕ) → worded text ≡ Some front → Takes call_words text front
unfolding worded
worded_takes text front e =
    let P = Takes call_words text in
    or_found P _ _ (or_found P _ _ (or_found P _ _ (or_found P _ _ (or_found P _ _
    (turning_takes call_words text)
    (λ x. opening_takes call_words (codes "place ") (codes " opens at rate ") price_words text x (λ p r. refl)))
    (λ x. placed_takes call_words (λ p. Close p) (codes "place ") (codes " closes") text x (λ p. refl) (λ p lt. lt)))
    (λ x. arriving_takes call_words (codes "place ") (codes " offers a frame of ") (codes " bytes, tag ") text x (λ p n t. refl)))
    (λ x. placed_takes call_words (λ p. Good p) (codes "the channel of place ") (codes " is good") text x (λ p. refl) (λ p lt. lt)))
    (λ x. placed_takes call_words (λ p. Bad p) (codes "the channel of place ") (codes " is bad") text x (λ p. refl) (λ p lt. lt)) front e

pub shortened_takes : (text : List ℕ) (front : Call × List ℕ) → shortened text ≡ Some front → Takes short_words text front
unfolding shortened
shortened_takes text front e =
    let P = Takes short_words text in
    or_found P _ _ (or_found P _ _ (or_found P _ _ (or_found P _ _ (or_found P _ _
    (turning_takes short_words text)
    (λ x. opening_takes short_words (codes "O ") (codes " ") (λ _. codes "") text x (λ p r. simp append-nil)))
    (λ x. placed_takes short_words (λ p. Close p) (codes "C ") (codes "") text x (λ p. simp append-nil) (λ p lt. lt)))
    (λ x. arriving_takes short_words (codes "A ") (codes " ") (codes " ") text x (λ p n t. refl)))
    (λ x. placed_takes short_words (λ p. Good p) (codes "G ") (codes "") text x (λ p. simp append-nil) (λ p lt. lt)))
    (λ x. placed_takes short_words (λ p. Bad p) (codes "B ") (codes "") text x (λ p. simp append-nil) (λ p lt. lt)) front e
