-- The call at the front of a text, in words and in the short form, and what follows it.
use Rattle.std.specs.Prelude.{ℕ, ◌^◌, List, Some, Option, codes, option_map}
use Rattle.std.specs.Option.{option_or}
use Rattle.record.specs.declared.call.Call.{Call}
use Rattle.record.specs.declared.call.Call.TheVariants.{Open, Close, Arrive, Good, Bad, Turn}
use Rattle.notation.specs.Front.{◌>>=◌, after, number_below, place_between}
use Rattle.notation.specs.Words.{price_words}

abbrev pub Front : Type 0
Front = Option (Call × List ℕ)

infixl 9 ◌or◌
abbrev pub ◌or◌ : Front → Front → Front
a or b = option_or a b

abbrev pub turning : List ℕ → List ℕ → Front
turning word text = option_map (λ rest. (Turn, rest)) (after word text)

abbrev pub placed : (ℕ → Call) → List ℕ → List ℕ → List ℕ → Front
placed call before behind text =
    option_map (λ p. (call p.0, p.1)) (place_between before behind text)

unfoldable pub opening : List ℕ → List ℕ → (ℕ → List ℕ) → List ℕ → Front
opening before behind price text = do
  place ← place_between before behind text
  rate ← number_below (2 ^ 32) place.1
  rest ← after (price rate.0) rate.1
  Some (Open place.0 rate.0, rest)

unfoldable pub arriving : List ℕ → List ℕ → List ℕ → List ℕ → Front
arriving before behind between text = do
  place ← place_between before behind text
  size ← number_below (2 ^ 16) place.1
  start ← after between size.1
  tag ← number_below (2 ^ 32) start
  Some (Arrive place.0 size.0 tag.0, tag.1)

unfoldable pub worded : List ℕ → Front
worded text =
    turning (codes "a turn") text
    or opening (codes "place ") (codes " opens at rate ") price_words text
    or placed Close (codes "place ") (codes " closes") text
    or arriving (codes "place ") (codes " offers a frame of ") (codes " bytes, tag ") text
    or placed Good (codes "the channel of place ") (codes " is good") text
    or placed Bad (codes "the channel of place ") (codes " is bad") text

unfoldable pub shortened : List ℕ → Front
shortened text =
    turning (codes "T") text
    or opening (codes "O ") (codes " ") (λ _. codes "") text
    or placed Close (codes "C ") (codes "") text
    or arriving (codes "A ") (codes " ") (codes " ") text
    or placed Good (codes "G ") (codes "") text
    or placed Bad (codes "B ") (codes "") text
