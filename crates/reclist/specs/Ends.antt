-- How a recording ends.
use Rattle.std.specs.Prelude.{◌≡◌, Bool, ◌&&◌, not, ◌==◌, is_none}
use Rattle.recording.specs.Recordings.{Recording}
use Rattle.recording.specs.declared.TheConstants.{RECORDS}
use Rattle.reclist.specs.Tallies.{empty, records, tallied}
use Rattle.reclist.specs.declared.end.End.{End}

-- with so many records, and that fault
abbrev pub EndOf : Recording → End → Type 0
EndOf r e = (e.listed ≡ records (tallied empty r.events)) × (e.fault ≡ r.fault)

-- no fault, and fewer records than are read at most
abbrev pub is_all_read : End → Bool
is_all_read e = is_none e.fault && not (e.listed == RECORDS)
