-- What a cell answers to a command, and the words of each answer.
use Rattle.std.specs.Prelude.{ℕ, Bool, if◌then◌else◌, List, ◌++◌, codes, decimal, Some, None, Ok, Err, Option, Result}
use Rattle.std.specs.Fmt.{signed_decimal}
use Rattle.std.specs.Result.{result_map_both}
use Rattle.answer.specs.Names.{refusal_message}
use Rattle.answer.specs.declared.refusal.Refusal.{Refusal}
use Rattle.answer.specs.declared.turn.Answer.{Answer}
use Rattle.answer.specs.declared.turn.Answer.TheVariants.{Done as Made, Turn as Turned}
use Rattle.answer.specs.declared.turn.Kind.{Kind}
use Rattle.answer.specs.declared.turn.Kind.TheVariants.{Normal, Credit, Kept, Extra, Idle}
use Rattle.answer.specs.declared.turn.Sent.{Sent}
use Rattle.answer.specs.declared.turn.Turn.{Turn as TheTurn}
use Rattle.cell.specs.Asked.{standings, frames}
use Rattle.cell.specs.declared.questions.Standing.{Standing}
use Rattle.chooser.specs.Meaning.{Meaning}
use Rattle.chooser.specs.declared.entry.ListKind.{ListKind}
use Rattle.model.specs.Calls.{step, asked}
use Rattle.model.specs.Cell.{Cell}
use Rattle.model.specs.Table.{booked_total}
use Rattle.queue.specs.declared.frame.Frame.{Frame as TheFrame}
use Rattle.replay.specs.Events.{call_as}
use Rattle.console.specs.declared.command.Command.{Command}
use Rattle.console.specs.declared.command.Command.TheVariants.{Call, Session as AskSession, Frame as AskFrame, Mark as AskMark, Booked as AskBooked, Turns as AskTurns, Keep as AskKeep, Count as AskCount, Help as AskHelp, Quit}
use Rattle.console.specs.declared.reply.Reply.{Reply}
use Rattle.console.specs.declared.reply.Reply.TheVariants.{Done, Turn, Session, Frame, Mark, Booked, Turns, Keep, Count, Help, Bye}
use Rattle.console.specs.declared.reply.TheConstants.{HELP}

-- ---- what is answered

abbrev pub answered : Answer → Reply
answered Made = Done
answered (Turned t) = Turn t

-- an accepted answer as a reply
abbrev pub replied : {X : Type 0} → (X → Reply) → Result X Refusal → Result Reply Refusal
replied reply r = result_map_both reply (λ why. why) r

module _ {C : Type 0} (M : Meaning C) (counts : C → ListKind → ℕ → Option ℕ) (x : Cell C) where
  abbrev pub reply_to : Command → Result Reply Refusal
  reply_to (Call call) = replied answered (step M x (call_as call)).answer
  reply_to (AskSession place) = replied Session (standings (asked x place))
  reply_to (AskFrame place i) = replied Frame (frames (asked x place) i)
  reply_to AskMark = Ok (Mark x.mark)
  reply_to AskBooked = Ok (Booked (booked_total x.table))
  reply_to AskTurns = Ok (Turns x.turns)
  reply_to AskKeep = Ok (Keep x.keep)
  reply_to (AskCount list place) = Ok (Count (counts x.chooser list place))
  reply_to AskHelp = Ok Help
  reply_to Quit = Ok Bye

-- only a call changes the cell
module _ {C : Type 0} (M : Meaning C) (x : Cell C) where
  abbrev pub cell_left : Command → Cell C
  cell_left (Call call) = (step M x (call_as call)).cell
  cell_left _ = x

-- ---- how it reads

abbrev pub kind_name : Kind → List ℕ
kind_name Normal = codes "normal"
kind_name Credit = codes "credit"
kind_name Kept = codes "kept"
kind_name Extra = codes "extra"
kind_name Idle = codes "idle"

abbrev pub sent_words : Option Sent → ℕ → Kind → List ℕ
sent_words (Some s) size kind =
    codes " has the turn, place " ++ (decimal s.sender ++ (codes " sends frame " ++ (decimal s.tag
    ++ (codes " of " ++ (decimal size ++ (codes " bytes: " ++ kind_name kind))))))
sent_words None size kind =
    codes " has the turn, nobody sends, " ++ (decimal size ++ (codes " bytes go by: " ++ kind_name kind))

abbrev pub turn_words : TheTurn → List ℕ
turn_words t = codes "place " ++ (decimal t.chosen ++ sent_words t.sent t.length t.kind)

abbrev pub channel_name : Bool → List ℕ
channel_name good = if good then codes "good" else codes "bad"

abbrev pub activity : Bool → List ℕ
activity active = if active then codes "active" else codes "inactive"

abbrev pub number_words : Standing → List ℕ
number_words s =
    codes "rate " ++ (decimal s.rate ++ (codes ", price " ++ (decimal s.price
    ++ (codes ", virtual time " ++ (decimal s.virtual_time ++ (codes ", lag " ++ (signed_decimal s.lag
    ++ (codes ", allowance " ++ signed_decimal s.allowance))))))))

abbrev pub standing_words : Standing → List ℕ
standing_words s =
    number_words s ++ (codes ", " ++ (channel_name s.good ++ (codes " channel, " ++ (activity s.active
    ++ (codes ", " ++ (decimal s.waiting ++ codes " waiting"))))))

abbrev pub frame_words : Option TheFrame → List ℕ
frame_words (Some f) = codes "frame " ++ (decimal f.tag ++ (codes " of " ++ (decimal f.length ++ codes " bytes")))
frame_words None = codes "no frame"

abbrev pub count_words : Option ℕ → List ℕ
count_words (Some n) = codes "count " ++ decimal n
count_words None = codes "nothing is counted there"

abbrev pub reply_words : Reply → List ℕ
reply_words Done = codes "done"
reply_words (Turn t) = turn_words t
reply_words (Session s) = standing_words s
reply_words (Frame f) = frame_words f
reply_words (Mark n) = codes "mark " ++ decimal n
reply_words (Booked n) = codes "booked " ++ decimal n
reply_words (Turns n) = codes "turns " ++ decimal n
reply_words (Keep n) = codes "keep " ++ decimal n
reply_words (Count n) = count_words n
reply_words Help = HELP.now
reply_words Bye = codes "bye"
