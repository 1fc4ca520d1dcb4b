-- Counts. One stops at the largest number that it holds; no recording is long enough for that.
use Rattle.std.specs.Prelude.{ℕ, ◌+◌, ◌*◌, ◌-◌, ◌/◌, ◌^◌, ◌==◌, if◌then◌else◌, min}

abbrev pub plus : ℕ → ℕ → ℕ
plus n more = min (n + more) (2 ^ 64 - 1)

-- the part of a whole, in tenths of a percent, to the nearest; nothing of nothing is 0
abbrev pub tenths : ℕ → ℕ → ℕ
tenths part whole = if whole == 0 then 0 else (2000 * part + whole) / (2 * whole)
