-- The status that a program ends with, and what an error of input or output makes of it.
use Rattle.std.specs.Prelude.{◌≡◌, ◌≢◌, ℕ, Bool, true, false, nat_lt, ◌==◌, ◌||◌, Ok, Err, Result}
use Rattle.std.specs.IoError.{error_kind}
use Rattle.std.specs.declared.io.Error.{Error}
use Rattle.std.specs.declared.io.ErrorKind.TheVariants.{BrokenPipe}
use Rattle.clap.specs.Values.{kind_of}
use Rattle.clap.specs.declared.error.kind.ErrorKind.{ErrorKind as Mistake}
use Rattle.clap.specs.declared.error.kind.ErrorKind.TheVariants.{DisplayHelp, DisplayVersion}
use Rattle.cli.specs.declared.failure.Failure.{Failure}
use Rattle.cli.specs.declared.failure.Failure.TheVariants.{Fault, Trouble, Closed, Words}

-- help and version are asked for; whatever else is said of the words is a mistake in them
abbrev pub words_status : Mistake → ℕ
words_status DisplayHelp = 0
words_status DisplayVersion = 0
words_status _ = 2

abbrev pub status_of : ℕ → Result (Unit {0}) Failure → ℕ
status_of faulty (Ok done) = 0
status_of faulty (Err (Fault said)) = faulty
status_of faulty (Err (Trouble said)) = 2
status_of faulty (Err Closed) = 0
status_of faulty (Err (Words said)) = words_status (kind_of said)

-- the statuses that a program can end with, by its own for a fault of the input
abbrev pub is_status : ℕ → ℕ → Bool
is_status faulty status = status == 0 || (status == 2 || status == faulty)

-- what is said on the error output: all but the help and the version, which were asked for
abbrev pub is_told : Result (Unit {0}) Failure → Bool
is_told (Ok done) = false
is_told (Err (Fault said)) = true
is_told (Err (Trouble said)) = true
is_told (Err Closed) = false
is_told (Err (Words said)) = nat_lt 0 (words_status (kind_of said))

-- what is said on the output
abbrev pub is_shown : Result (Unit {0}) Failure → Bool
is_shown (Err (Words said)) = nat_lt (words_status (kind_of said)) 2
is_shown _ = false

abbrev pub IsTrouble : Failure → Type 0
IsTrouble (Trouble said) = Unit {0}
IsTrouble _ = ⊥

-- an output that nobody reads any more ends the program quietly, and any other error is told
abbrev pub IsFailureOf : Error → Failure → Type 0
IsFailureOf error failure =
    (error_kind error ≡ BrokenPipe → failure ≡ Closed) × (error_kind error ≢ BrokenPipe → IsTrouble failure)
