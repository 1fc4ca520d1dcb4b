-- What a recording says: the events of its records, one after the other, and why no further one is looked at.
use Rattle.std.specs.Prelude.{ℕ, zero, suc, ◌+◌, List, [], ◌∷◌, Some, None, Ok, Err, Option, Result}
use Rattle.answer.specs.declared.fault.Fault.{Fault}
use Rattle.record.specs.Layout.{Contents}
use Rattle.record.specs.Reading.{reading}

-- the events, and the fault of the record after them, where it cannot be read
pub record Recording : Type 0 where
  pub events : List Contents
  pub fault : Option Fault

-- the input has ended, or the limit is reached
abbrev pub nothing : Recording
nothing = record { events = []; fault = None }

abbrev pub stopped : Fault → Recording
stopped f = record { events = []; fault = Some f }

abbrev pub with_first : Contents → Recording → Recording
with_first c later = record { events = c ∷ later.events; fault = later.fault }

-- what follows from the next record, where it is known what follows from the bytes after it
abbrev pub begun : Result (Option (Contents × List ℕ)) Fault → (List ℕ → Recording) → Recording
begun (Ok None) later = nothing
begun (Ok (Some r)) later = with_first r.0 (later r.1)
begun (Err f) later = stopped f

-- the recording of an input, the next record of which has this number, and of which so many records are looked at
unfoldable pub recording : ℕ → ℕ → List ℕ → Recording
recording zero number input = nothing
recording (suc most) number input = begun (reading number input) (λ rest. recording most (number + 1) rest)
