-- The table of what each place got.
use Rattle.std.specs.Prelude.{ℕ, zero, suc, ◌+◌, ◌/◌, ◌%◌, ◌-◌, ◌^◌, ◌==◌, false, if◌then◌else◌, List, [], ◌∷◌, ◌++◌}
use Rattle.std.specs.Prelude.{codes, slice_index_or, ℤ, unsigned_abs}
use Rattle.std.specs.Fmt.{decimal, format_spec, padded_integral}
use Rattle.std.specs.Int.{is_negative}
use Rattle.summary.specs.Counting.{plus, tenths}
use Rattle.summary.specs.Getting.{nothing}
use Rattle.summary.specs.declared.got.Got.{Got}
use Rattle.summary.specs.declared.sums.Sums.{Sums}
use Rattle.summary.specs.declared.turns.Turns.{Turns}

abbrev pub newline : List ℕ
newline = 10 ∷ []

-- ---- columns: a space, and a number at the right of so many bytes

abbrev pub at_right : ℕ → ℕ → List ℕ
at_right width n = padded_integral (format_spec 32 3 0 width (2 ^ 64 - 1)) false [] (decimal n)

abbrev pub narrow : ℕ → List ℕ
narrow n = codes " " ++ at_right 7 n

abbrev pub wide : ℕ → List ℕ
wide n = codes " " ++ at_right 11 n

abbrev pub signed : ℤ → List ℕ
signed n = codes " " ++ padded_integral (format_spec 32 3 0 11 (2 ^ 64 - 1)) (is_negative n) [] (decimal (unsigned_abs n))

-- tenths of a percent
abbrev pub percent : ℕ → List ℕ
percent n = codes " " ++ (at_right 5 (n / 10) ++ (codes "." ++ decimal (n % 10)))

-- ---- a place: its rate and price; all that it sent, the part in its own turns and the borrowed part; turns lost, frames
-- refused; its lags; and its part of all bytes beside what its rate is of the link

abbrev pub booked_text : ℕ → Got → List ℕ
booked_text place g = narrow place ++ (narrow g.rate ++ narrow g.price)

abbrev pub sent_text : Got → List ℕ
sent_text g = wide (plus g.own g.borrowed) ++ (wide g.own ++ wide g.borrowed)

abbrev pub missed_text : Got → List ℕ
missed_text g = narrow g.lost ++ narrow g.refused

abbrev pub lags_text : Got → List ℕ
lags_text g = signed g.highest ++ signed g.lowest

abbrev pub shares_text : ℕ → Got → List ℕ
shares_text bytes g =
    percent (tenths (plus g.own g.borrowed) bytes) ++ (percent (tenths 1 g.price) ++ newline)

abbrev pub open_text : ℕ → ℕ → Got → List ℕ
open_text bytes place g =
    booked_text place g ++ (sent_text g ++ (missed_text g ++ (lags_text g ++ shares_text bytes g)))

-- a place that was never open has no row
abbrev pub row_text : ℕ → ℕ → Got → List ℕ
row_text bytes place g = if g.rate == 0 then [] else open_text bytes place g

-- the first n places
unfoldable pub rows_text : Sums → ℕ → List ℕ
rows_text s zero = []
rows_text s (suc n) = rows_text s n ++ row_text s.turns.bytes n (slice_index_or s.places n nothing)

-- ---- the whole

abbrev pub heading : List ℕ
heading = codes "   place    rate   price        sent         own    borrowed    lost refused     highest      lowest  share%   link%\n"

abbrev pub used_text : Turns → List ℕ
used_text t =
    codes "turns: " ++ (decimal t.normal ++ (codes " own, " ++ (decimal t.credit ++ (codes " paid back, "
    ++ (decimal t.kept ++ codes " kept, ")))))

abbrev pub spare_text : Turns → List ℕ
spare_text t = decimal t.extra ++ (codes " extra, " ++ (decimal t.idle ++ codes " idle\n"))

abbrev pub bytes_text : Turns → List ℕ
bytes_text t = codes "bytes: " ++ (decimal t.bytes ++ newline)

abbrev pub table_text : Sums → List ℕ
table_text s = heading ++ (rows_text s 64 ++ (used_text s.turns ++ (spare_text s.turns ++ bytes_text s.turns)))
