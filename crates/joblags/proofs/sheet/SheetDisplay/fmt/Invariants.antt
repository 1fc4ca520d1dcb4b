-- The head and the lines of the places so far are written.
use Rattle.std.proofs.Common.{◌++◌}
use Rattle.std.specs.Fmt.{HasWritten, IsPlainFormatter}
use Rattle.cell.specs.View.{view}
use Rattle.record.specs.Lines.{newline}
use Rattle.joblags.specs.Sheets.{head_of, head_words, rows_words}
use Rattle.joblags.proofs.sheet.SheetDisplay.fmt.Given as goal

abbrev pub invariant-loop-place : goal.invariant-loop-place
invariant-loop-place g l =
    IsPlainFormatter l.fn.f
    → HasWritten g.W.Write.write_str_gives l.fn.f
    (head_words (head_of l.self.after (view l.self.cell.now)) ++ (newline ++ rows_words (view l.self.cell.now) l.place)) l.f
