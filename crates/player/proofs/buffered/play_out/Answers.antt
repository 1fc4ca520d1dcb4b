-- All was played before the buffer is written out.
use Rattle.std.proofs.Common.{◌≡◌}
use Rattle.std.proofs.lemmas.Option.{IfSome_then}
use Rattle.std.specs.Io.Buffered.{writer_contents}
use Rattle.cell.specs.View.{view}
use Rattle.model.specs.History.{after}
use Rattle.chooser.specs.Meaning.{meant}
use Rattle.recording.specs.declared.TheConstants.{RECORDS}
use Rattle.recording.specs.Failures.{Puts}
use Rattle.std.specs.Io.KnownBytes.{Appends}
use Rattle.player.specs.Lines.{lines_of}
use Rattle.recording.specs.Recordings.{recording}
use Rattle.replay.specs.Events.{calls_in}
use Rattle.player.specs.Steps.{Ran}
use Rattle.player.proofs.Going.{puts_all, ran_all}
use Rattle.player.proofs.buffered.play_out.Goals as goal

pub returns-clause-lines : goal.returns-clause-lines
returns-clause-lines g c =
    IfSome_then (g.R.Read.remaining c.args.reader.now.inner)
    {P = λ input. Appends (writer_contents g.W.Write.contents c.args.out.now.inner) (writer_contents g.W.Write.contents c.play_records.new.out.inner)
    (lines_of (meant g.C.Chooser) (view c.args.cell.now) (recording RECORDS 1 input))}
    {Q = λ input. Puts (writer_contents g.W.Write.contents c.args.out.now.inner) (writer_contents g.W.Write.contents c.write_out.new.self.inner)
    (lines_of (meant g.C.Chooser) (view c.args.cell.now) (recording RECORDS 1 input)) c.write_out.result}
    c.in_ok-play_records.ensures.lines
    (λ input h. puts_all _ _ _ (lines_of (meant g.C.Chooser) (view c.args.cell.now) (recording RECORDS 1 input)) c.write_out.result c.write_out.ensures.bytes h)

pub returns-clause-after : goal.returns-clause-after
returns-clause-after g c =
    IfSome_then (g.R.Read.remaining c.args.reader.now.inner)
    {P = λ input. view c.play_records.new.cell ≡ after (meant g.C.Chooser) (view c.args.cell.now) (calls_in (recording RECORDS 1 input).events)}
    {Q = λ input. Ran (meant g.C.Chooser) c.write_out.result (view c.args.cell.now) (calls_in (recording RECORDS 1 input).events) (view c.play_records.new.cell)}
    c.in_ok-play_records.ensures.after
    (λ input h. ran_all (meant g.C.Chooser) c.write_out.result (view c.args.cell.now) (view c.play_records.new.cell) (calls_in (recording RECORDS 1 input).events) h)
