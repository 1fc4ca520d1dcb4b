-- What is said to a cell, line by line, what it tells, and the calls that were made.
use Rattle.std.specs.Prelude.{ℕ, zero, suc, Bool, true, false, if◌then◌else◌, List, [], ◌∷◌, ◌++◌, codes, Ok, Err, Option, Result, Some, None}
use Rattle.std.specs.Io.BufRead.{take_through, drop_through}
use Rattle.answer.specs.Names.{refusal_message}
use Rattle.answer.specs.declared.refusal.Refusal.{Refusal}
use Rattle.chooser.specs.Meaning.{Meaning}
use Rattle.chooser.specs.declared.entry.ListKind.{ListKind}
use Rattle.model.specs.Calls.{Call as TheCall}
use Rattle.model.specs.Cell.{Cell}
use Rattle.replay.specs.Events.{call_as}
use Rattle.console.specs.Commands.{reading}
use Rattle.console.specs.Replies.{reply_to, reply_words, cell_left}
use Rattle.console.specs.declared.command.Command.{Command}
use Rattle.console.specs.declared.command.Command.TheVariants.{Call, Quit}
use Rattle.console.specs.declared.command.Unknown.{Unknown}
use Rattle.console.specs.declared.reply.Reply.{Reply}

-- what a line asks for
abbrev pub Reading : Type 0
Reading = Result (Option Command) Unknown

-- ---- one line

abbrev pub is_quit : Command → Bool
is_quit Quit = true
is_quit _ = false

-- whether the next line is read
abbrev pub goes_on : Reading → Bool
goes_on (Ok (Some Quit)) = false
goes_on _ = true

abbrev pub newline : List ℕ
newline = codes "\n"

abbrev pub answer_words : Result Reply Refusal → List ℕ
answer_words (Ok reply) = reply_words reply
answer_words (Err why) = refusal_message why

abbrev pub unknown_words : List ℕ
unknown_words = codes "neither a call nor a question: `help` lists them"

-- the call that a line makes
abbrev pub call_of_line : Reading → List TheCall
call_of_line (Ok (Some (Call call))) = call_as call ∷ []
call_of_line _ = []

module _ {C : Type 0} (M : Meaning C) where
  abbrev pub left_by : Cell C → Reading → Cell C
  left_by x (Ok None) = x
  left_by x (Ok (Some command)) = cell_left M x command
  left_by x (Err u) = x

  module _ (counts : C → ListKind → ℕ → Option ℕ) where
    abbrev pub line_told : Cell C → Reading → List ℕ
    line_told x (Ok None) = []
    line_told x (Ok (Some command)) = answer_words (reply_to M counts x command) ++ newline
    line_told x (Err u) = unknown_words ++ newline

    -- ---- all lines

    -- what is told to some lines, each by the cell that the lines before it left
    unfoldable pub told : Cell C → List Reading → List ℕ
    told x [] = []
    told x (r ∷ rs) = line_told x r ++ told (left_by x r) rs

abbrev pub up_to_quit : Reading → List Reading → List Reading
up_to_quit r later = r ∷ (if goes_on r then later else [])

-- what the lines of a text ask for, up to the first that says quit
unfoldable pub said : ℕ → List ℕ → List Reading
said zero text = []
said (suc most) [] = []
said (suc most) (b ∷ bs) = up_to_quit (reading (take_through 10 (b ∷ bs))) (said most (drop_through 10 (b ∷ bs)))

-- the calls among them
unfoldable pub calls_in : List Reading → List TheCall
calls_in [] = []
calls_in (r ∷ rs) = call_of_line r ++ calls_in rs
