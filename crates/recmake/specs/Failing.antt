-- What a program that makes a recording comes to.
use Rattle.std.specs.Prelude.{ℕ, List, Option}
use Rattle.std.specs.Io.KnownBytes.{Appends}
use Rattle.cli.specs.Statuses.{IsTrouble}
use Rattle.cli.specs.declared.failure.Failure.{Failure}
use Rattle.cli.specs.declared.failure.Failure.TheVariants.{Fault}
use Rattle.recmake.specs.Making.{Makes, Stops}
use Rattle.recmake.specs.declared.unmade.Unmade.{Unmade}
use Rattle.recmake.specs.declared.unmade.Unmade.TheVariants.{Line, Memory, TooMany}

-- a fault in the input
abbrev pub IsFault : Failure → Type 0
IsFault (Fault said) = Unit {0}
IsFault _ = ⊥

-- a line is told as a fault in the input
abbrev pub Tells : Unmade → Failure → Type 0
Tells Memory failure = IsTrouble failure
Tells (Line number why) failure = IsFault failure
Tells (TooMany number) failure = IsFault failure

-- the recording of these lines is written
abbrev pub Writes : List (List ℕ) → Option (List ℕ) → Option (List ℕ) → Type 0
Writes lines old new = (bytes : List ℕ) × Makes lines bytes × Appends old new bytes

-- one of these lines is the fault
abbrev pub IsAtFault : List (List ℕ) → Failure → Type 0
IsAtFault lines failure = (why : Unmade) × Stops lines why × Tells why failure
