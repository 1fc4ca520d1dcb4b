-- The places so far were counted, and the others wait.
use Rattle.std.proofs.Common.{◌≡◌, ℕ, ◌<◌, ◌≤◌, length, slice_index_or}
use Rattle.cell.specs.View.{view}
use Rattle.record.specs.Layout.{contents}
use Rattle.summary.specs.Adding.{turns_after}
use Rattle.summary.specs.Getting.{nothing}
use Rattle.summary.specs.Places.{got_at}
use Rattle.summary.proofs.sums.Sums.count.Given as goal

abbrev pub invariant-loop-place : goal.invariant-loop-place
invariant-loop-place g l =
    (length l.self.places ≡ 64)
    × ((k : ℕ) → k < l.place → slice_index_or l.self.places k nothing ≡
    got_at (contents l.played.event) l.played.result (view l.cell) l.fn.self.places k)
    × ((k : ℕ) → l.place ≤ k → slice_index_or l.self.places k nothing ≡ slice_index_or l.fn.self.places k nothing)
    × (l.self.turns ≡ turns_after l.played.result l.fn.self.turns)
