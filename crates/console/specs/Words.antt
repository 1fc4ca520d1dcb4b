-- The words of a line, and the numbers among them.
use Rattle.std.specs.Prelude.{ℕ, ◌+◌, ◌*◌, ◌-◌, ◌^◌, Bool, not, ◌&&◌, nat_lt, ◌==◌, if◌then◌else◌, List, [], ◌∷◌, take, drop, length, Some, None, Option, option_and_then}
use Rattle.std.specs.Char.{is_ascii_digit, is_ascii_whitespace}
use Rattle.std.specs.List.{prefix_len}
use Rattle.console.specs.declared.words.Words.{Words as TheWords}

-- a text without the spaces before its first word
abbrev pub from_word : List ℕ → List ℕ
from_word text = drop (prefix_len is_ascii_whitespace text) text

-- how many bytes of a text belong to the word that it begins with
abbrev pub word_len : List ℕ → ℕ
word_len text = prefix_len (λ b. not (is_ascii_whitespace b)) text

-- the first word of a text, and what follows it; the word is empty where there is none
unfoldable pub word : List ℕ → List ℕ
word text = take (word_len (from_word text)) (from_word text)

unfoldable pub remainder : List ℕ → List ℕ
remainder text = drop (word_len (from_word text)) (from_word text)

-- the first four words of a line
pub record Words : Type 0 where
  pub verb : List ℕ
  pub first : List ℕ
  pub second : List ℕ
  pub third : List ℕ

abbrev pub words_as : TheWords → Words
words_as w = record { verb = w.verb.now; first = w.first.now; second = w.second.now; third = w.third.now }

abbrev pub first_words : List ℕ → Words
first_words line = record {
  verb = word line;
  first = word (remainder line);
  second = word (remainder (remainder line));
  third = word (remainder (remainder (remainder line)));
}

abbrev pub fifth_word : List ℕ → List ℕ
fifth_word line = word (remainder (remainder (remainder (remainder line))))

-- a line of four words at most
abbrev pub words_in : List ℕ → Option Words
words_in line = if length (fifth_word line) == 0 then Some (first_words line) else None

-- the number with one more digit, if it is below 2^32
abbrev pub with_digit : ℕ → ℕ → Option ℕ
with_digit n d =
    if is_ascii_digit d && nat_lt (n * 10 + (d - 48)) (2 ^ 32) then Some (n * 10 + (d - 48)) else None

-- the number that is written by the digits so far and those that are left
abbrev pub number_after : ℕ → List ℕ → Option ℕ
number_after n [] = Some n
number_after n (d ∷ ds) = option_and_then (λ m. number_after m ds) (with_digit n d)

-- the number that a word writes in digits
abbrev pub number : List ℕ → Option ℕ
number word = if length word == 0 then None else number_after 0 word
