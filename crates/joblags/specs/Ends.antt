-- How a recording ends.
use Rattle.std.specs.Prelude.{◌≡◌, Bool, ◌&&◌, not, ◌==◌, is_none, length}
use Rattle.recording.specs.Recordings.{Recording}
use Rattle.recording.specs.declared.TheConstants.{RECORDS}
use Rattle.joblags.specs.declared.end.End.{End}

-- with so many records, and that fault
abbrev pub EndOf : Recording → End → Type 0
EndOf r e = (e.played ≡ length r.events) × (e.fault ≡ r.fault)

-- no fault, and fewer records than are read at most
abbrev pub is_all_read : End → Bool
is_all_read e = is_none e.fault && not (e.played == RECORDS)
