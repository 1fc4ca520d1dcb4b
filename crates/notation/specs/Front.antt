-- What stands at the front of a text, and what follows it.
use Rattle.std.specs.Prelude.{ℕ, ◌^◌, if◌then◌else◌, ◌&&◌, List, [], ◌∷◌, drop, take, Some, None, Option, ◌==◌, nat_lt, decimal, option_map}
use Rattle.std.specs.Borrow.{Bor}
use Rattle.std.specs.Char.{is_ascii_digit}
use Rattle.std.specs.List.{prefix_len}
use Rattle.std.specs.Str.{bytes_eq}
use Rattle.std.specs.Str.Parse.{digits_value}

-- what the code found at the front, in these terms
abbrev pub front_as : {X : Type 0} → Option (X × Bor (List ℕ)) → Option (X × List ℕ)
front_as front = option_map (λ x. (x.0, x.1.now)) front

infixl 10 ◌>>=◌
abbrev pub ◌>>=◌ : {A B : Type 0} → Option A → (A → Option B) → Option B
None >>= f = None
(Some x) >>= f = f x

-- what follows a word
unfoldable pub after : List ℕ → List ℕ → Option (List ℕ)
after [] text = Some text
after (c ∷ cs) [] = None
after (c ∷ cs) (b ∷ bs) = if b == c then after cs bs else None

-- the number of these digits, if it is printed as they stand
unfoldable pub plain_number : List ℕ → Option ℕ
plain_number digits =
    let number = digits_value 10 digits in
    if nat_lt number (2 ^ 64) && bytes_eq (decimal number) digits then Some number else None

abbrev pub digit_count : List ℕ → ℕ
digit_count text = prefix_len is_ascii_digit text

-- a number, below a limit
unfoldable pub number_below : ℕ → List ℕ → Option (ℕ × List ℕ)
number_below limit text = do
  number ← plain_number (take (digit_count text) text)
  if nat_lt number limit then Some (number, drop (digit_count text) text) else None

-- a place with a word before it and a word behind it
unfoldable pub place_between : List ℕ → List ℕ → List ℕ → Option (ℕ × List ℕ)
place_between before behind text = do
  start ← after before text
  place ← number_below (2 ^ 8) start
  rest ← after behind place.1
  Some (place.0, rest)
