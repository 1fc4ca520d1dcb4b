-- Frames wait in a list, first in first out, and no more of them than there is room for.
use Rattle.std.specs.Prelude.{ℕ, Bool, if◌then◌else◌, List, [], ◌∷◌, ◌++◌, length, Some, None, Ok, Err, Option, Result, ◌==◌, nat_le}
use Rattle.answer.specs.declared.refusal.Refusal.{Refusal}
use Rattle.answer.specs.declared.refusal.Refusal.TheVariants.{QueueFull}
use Rattle.queue.specs.declared.TheConstants.{ROOM}
use Rattle.queue.specs.declared.frame.Frame.{Frame}

-- how many frames may wait
abbrev pub room : ℕ
room = ROOM

abbrev pub is_full : List Frame → Bool
is_full q = nat_le room (length q)

abbrev pub is_empty : List Frame → Bool
is_empty q = length q == 0

-- what stands where no frame waits: a frame of no bytes
abbrev pub no_frame : Frame
no_frame = record { tag = 0; length = 0 }

-- the frame that has waited longest, and those that stay when it leaves
abbrev pub front : List Frame → Option Frame
front [] = None
front (f ∷ q) = Some f

abbrev pub rest : List Frame → List Frame
rest [] = []
rest (f ∷ q) = q

-- one frame more, if there is room: the answer, and the frames that wait then
abbrev pub push_answer : List Frame → Result (Unit {0}) Refusal
push_answer q = if is_full q then Err QueueFull else Ok tt

abbrev pub pushed : List Frame → Frame → List Frame
pushed q f = if is_full q then q else q ++ f ∷ []
