-- The buffers keep the bytes, and the limit in bytes is that in records.
use Rattle.std.proofs.Common.{◌≡◌, ap, ◌∙◌}
use Rattle.std.specs.Io.Buffered.{reader_buffer, reader_capacity, writer_buffer, writer_inner}
use Rattle.cell.specs.View.{view}
use Rattle.model.specs.History.{after}
use Rattle.chooser.specs.Meaning.{meant}
use Rattle.recording.specs.declared.TheConstants.{RECORDS}
use Rattle.player.specs.Lines.{lines_of}
use Rattle.replay.specs.Events.{calls_in}
use Rattle.recording.proofs.Limit.{all_through, drained, kept_as, read_through}
use Rattle.player.proofs.whole.play.Goals as goal

pub returns-clause-lines : goal.returns-clause-lines
returns-clause-lines g c =
    all_through (λ r. lines_of (meant g.C.Chooser) (view c.args.cell.now) r) _ _ RECORDS _ (g.R.Read.remaining c.args.input) _
    (g.W.Write.contents c.args.out) _ _ _ _ _
    (ap (λ r. reader_capacity r.inner) c.new-3.ensures ∙ c.in_ok-reader.ensures.capacity)
    (ap (λ r. reader_buffer r.inner) c.new-3.ensures ∙ c.in_ok-reader.ensures.empty)
    (ap (λ r. r.inner.inner.limit) c.new-3.ensures ∙ ap (λ t. t.limit) c.in_ok-reader.ensures.inner ∙ c.take.ensures.limit)
    (ap (λ r. g.R.Read.remaining r.inner.inner.inner) c.new-3.ensures ∙ ap (λ t. g.R.Read.remaining t.inner) c.in_ok-reader.ensures.inner ∙ ap g.R.Read.remaining c.take.ensures.inner)
    (ap (λ w. g.W.Write.contents w.inner.inner) c.new-writer.ensures ∙ ap g.W.Write.contents c.in_ok-writer.ensures.inner)
    (ap (λ w. writer_buffer w.inner) c.new-writer.ensures ∙ c.in_ok-writer.ensures.empty) (drained (g.W.Write.contents (writer_inner c.play_out.new.out.inner)) (writer_buffer c.play_out.new.out.inner) c.in_ok-play_out.ensures.written)
    (kept_as _ _ (ap g.W.Write.contents c.into_parts-out.ensures.inner))
    c.in_ok-play_out.ensures.lines

pub returns-clause-after : goal.returns-clause-after
returns-clause-after g c =
    read_through _ _ RECORDS _ (g.R.Read.remaining c.args.input) _
    (λ r. view c.play_out.new.cell ≡ after (meant g.C.Chooser) (view c.args.cell.now) (calls_in r.events))
    (ap (λ r. reader_capacity r.inner) c.new-3.ensures ∙ c.in_ok-reader.ensures.capacity)
    (ap (λ r. reader_buffer r.inner) c.new-3.ensures ∙ c.in_ok-reader.ensures.empty)
    (ap (λ r. r.inner.inner.limit) c.new-3.ensures ∙ ap (λ t. t.limit) c.in_ok-reader.ensures.inner ∙ c.take.ensures.limit)
    (ap (λ r. g.R.Read.remaining r.inner.inner.inner) c.new-3.ensures ∙ ap (λ t. g.R.Read.remaining t.inner) c.in_ok-reader.ensures.inner ∙ ap g.R.Read.remaining c.take.ensures.inner)
    c.in_ok-play_out.ensures.after
