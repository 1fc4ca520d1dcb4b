-- The frames that a ring holds, as a list.
use Rattle.std.specs.Prelude.{ℕ, zero, suc, ◌+◌, ◌%◌, List, [], ◌∷◌, slice_index_or}
use Rattle.queue.specs.declared.TheConstants.{ROOM}
use Rattle.queue.specs.declared.frame.Frame.{Frame}
use Rattle.queue.specs.declared.ring.Ring.{Ring}
pub use Rattle.queue.specs.Fifo.{no_frame}

-- n frames of a ring, from a place on
abbrev pub around : List Frame → ℕ → ℕ → List Frame
around frames head zero = []
around frames head (suc n) =
    slice_index_or frames head no_frame ∷ around frames ((head + 1) % ROOM) n

unfoldable pub held : Ring → List Frame
held r = around r.frames r.head r.count
