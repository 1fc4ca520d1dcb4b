-- What was filled is what was taken from the input.
use Rattle.std.proofs.Common.{◌≡◌, ◌-◌, ◌≤◌, take}
use Rattle.std.specs.Io.KnownBytes.{Consumes}
use Rattle.recording.proofs.fill.Given as goal

abbrev pub invariant-loop-at : goal.invariant-loop-at
invariant-loop-at g l =
    (l.at ≤ 16) × Consumes (g.R.Read.remaining l.initial.reader.inner) (g.R.Read.remaining l.reader.inner) (take l.at l.bytes)
    × (l.reader.failure ≡ l.initial.reader.failure)

abbrev pub decreases-loop-at : goal.decreases-loop-at
decreases-loop-at g l = 16 - l.at
