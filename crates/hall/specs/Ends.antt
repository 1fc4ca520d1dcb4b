-- How the play of a recording ends.
use Rattle.std.specs.Prelude.{ℕ, ◌-◌, Some, None, Ok, Err, Option, Result}
use Rattle.answer.specs.declared.fault.Fault.{Fault}
use Rattle.answer.specs.declared.refusal.Refusal.{Refusal}
use Rattle.answer.specs.declared.turn.Answer.{Answer}
use Rattle.record.specs.Layout.{Contents}
use Rattle.hall.specs.declared.ends.End.{End}

-- after what became of a record: none while there may be a next one; where the input has ended, the records before it; and
-- a record that cannot be read counts
abbrev pub end_after : ℕ → Result (Option (Contents × Result Answer Refusal)) Fault → Option End
end_after number (Ok None) = Some (record { records = number - 1; fault = None })
end_after number (Ok (Some played)) = None
end_after number (Err fault) = Some (record { records = number; fault = Some fault })
