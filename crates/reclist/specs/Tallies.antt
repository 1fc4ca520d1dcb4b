-- What a recording adds up to: its records by letter, and the bytes of the frames that it offers.
use Rattle.std.specs.Prelude.{ℕ, ◌+◌, ◌*◌, ◌≤◌, List, [], ◌∷◌}
use Rattle.record.specs.Layout.{Contents}
use Rattle.record.specs.declared.letter.Letter.{Letter}
use Rattle.record.specs.declared.letter.Letter.TheVariants.{O, C, A, G, B, T}
use Rattle.recording.specs.declared.TheConstants.{RECORDS}

pub record Counts : Type 0 where
  pub opened : ℕ
  pub closed : ℕ
  pub arrived : ℕ
  pub good : ℕ
  pub bad : ℕ
  pub turns : ℕ
  pub bytes : ℕ

abbrev pub counts : ℕ → ℕ → ℕ → ℕ → ℕ → ℕ → ℕ → Counts
counts o c a g b t n = record { opened = o; closed = c; arrived = a; good = g; bad = b; turns = t; bytes = n }

abbrev pub empty : Counts
empty = counts 0 0 0 0 0 0 0

abbrev pub records : Counts → ℕ
records t = t.opened + t.closed + t.arrived + t.good + t.bad + t.turns

-- one more of a letter, and the bytes of one more frame
abbrev pub more : Counts → Letter → ℕ → Counts
more t O n = counts (t.opened + 1) t.closed t.arrived t.good t.bad t.turns t.bytes
more t C n = counts t.opened (t.closed + 1) t.arrived t.good t.bad t.turns t.bytes
more t A n = counts t.opened t.closed (t.arrived + 1) t.good t.bad t.turns (t.bytes + n)
more t G n = counts t.opened t.closed t.arrived (t.good + 1) t.bad t.turns t.bytes
more t B n = counts t.opened t.closed t.arrived t.good (t.bad + 1) t.turns t.bytes
more t T n = counts t.opened t.closed t.arrived t.good t.bad (t.turns + 1) t.bytes

abbrev pub counted : Counts → Contents → Counts
counted t c = more t c.letter c.length

-- and each event of some
unfoldable pub tallied : Counts → List Contents → Counts
tallied t [] = t
tallied t (c ∷ cs) = tallied (counted t c) cs

-- as many records as are read at most, each with no more bytes than a length can say
pub record Small (t : Counts) : Type 0 where
  pub few : records t ≤ RECORDS
  pub short : t.bytes ≤ 65535 * t.arrived
