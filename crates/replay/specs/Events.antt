-- Events of a recording as calls of a cell, and a refusal as the fault of a record.
use Rattle.std.specs.Prelude.{ℕ, List, [], map, true, false, Ok, Err, Result}
use Rattle.answer.specs.declared.fault.Fault.{Fault}
use Rattle.answer.specs.declared.fault.Layer.TheVariants.{Cell as ByTheCell}
use Rattle.answer.specs.declared.refusal.Refusal.{Refusal}
use Rattle.answer.specs.declared.turn.Answer.{Answer}
use Rattle.model.specs.Calls.{Call, opening, closing, arrival, report, turn}
use Rattle.record.specs.Layout.{Contents, contents, recorded}
use Rattle.record.specs.declared.call.Call.{Call as CallOfTheCode}
use Rattle.record.specs.declared.event.Event.{Event}
use Rattle.record.specs.declared.letter.Letter.{Letter}
use Rattle.record.specs.declared.letter.Letter.TheVariants.{O, C, A, G, B, T}

-- the call of a letter, with what the record says
abbrev pub call_by : Letter → Contents → Call
call_by O c = opening c.place c.value
call_by C c = closing c.place
call_by A c = arrival c.place c.value c.length
call_by G c = report c.place true
call_by B c = report c.place false
call_by T c = turn

abbrev pub call_in : Contents → Call
call_in c = call_by c.letter c

-- the calls of some events, in their order
abbrev pub calls_in : List Contents → List Call
calls_in events = map call_in events

-- a call of the code: that of its record, whatever the note
abbrev pub call_as : CallOfTheCode → Call
call_as call = call_in (recorded call [])

-- some calls of the code
abbrev pub calls_as : List CallOfTheCode → List Call
calls_as calls = map call_as calls

-- the call of an event: that of its record
abbrev pub call_of : Event → Call
call_of event = call_in (contents event)

-- what the cell answered, or the fault at a record: the cell's, and of no byte
abbrev pub at_record : ℕ → Result Answer Refusal → Result Answer Fault
at_record number (Ok answer) = Ok answer
at_record number (Err why) = Err (record { refusal = why; layer = ByTheCell; «record» = number; byte = 0 })
