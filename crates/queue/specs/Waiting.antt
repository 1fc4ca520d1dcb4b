-- The frames that wait in a queue, the one that leaves first in front.
use Rattle.std.specs.Prelude.{List}
use Rattle.queue.specs.Ring.{held}
use Rattle.queue.specs.declared.frame.Frame.{Frame}
use Rattle.queue.specs.declared.Queue.{Queue}

abbrev pub waiting : Queue → List Frame
waiting q = held q.ring
