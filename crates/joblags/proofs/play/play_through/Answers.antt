-- The buffers keep the bytes, and the limit in bytes is that in records.
use Rattle.std.proofs.Common.{◌≡◌, ap, ◌∙◌}
use Rattle.std.specs.Io.Buffered.{writer_buffer, writer_inner}
use Rattle.cell.specs.View.{view}
use Rattle.model.specs.History.{after}
use Rattle.chooser.specs.Meaning.{meant}
use Rattle.recording.specs.declared.TheConstants.{RECORDS}
use Rattle.recording.proofs.Limit.{all_through, drained_into, read_through}
use Rattle.replay.specs.Events.{calls_in}
use Rattle.joblags.specs.Ends.{EndOf}
use Rattle.joblags.specs.Jobs.{job_text}
use Rattle.joblags.proofs.play.play_through.Goals as goal

pub returns-clause-text : goal.returns-clause-text
returns-clause-text g c =
    all_through (λ r. job_text (meant g.C.Chooser) c.args.every (view c.args.cell.now) r) _ _ RECORDS _ (g.R.Read.remaining c.args.input) _
    (g.W.Write.contents c.args.out) _ _ _ _ _
    c.in_ok-reader.ensures.capacity
    c.in_ok-reader.ensures.empty
    (ap (λ t. t.limit) c.in_ok-reader.ensures.inner ∙ c.take.ensures.limit)
    (ap (λ t. g.R.Read.remaining t.inner) c.in_ok-reader.ensures.inner ∙ ap g.R.Read.remaining c.take.ensures.inner)
    (ap g.W.Write.contents c.in_ok-writer.ensures.inner)
    c.in_ok-writer.ensures.empty
    c.in_ok-flush.ensures.bytes
    (drained_into (g.W.Write.contents (writer_inner c.flush.new.self)) (writer_buffer c.flush.new.self) _ c.in_ok-flush.ensures.ok
    (ap g.W.Write.contents c.into_parts-out.ensures.inner))
    c.in_ok-end.ensures.text

pub returns-clause-after : goal.returns-clause-after
returns-clause-after g c =
    read_through _ _ RECORDS _ (g.R.Read.remaining c.args.input) _
    (λ r. view c.play.new.cell ≡ after (meant g.C.Chooser) (view c.args.cell.now) (calls_in r.events))
    c.in_ok-reader.ensures.capacity
    c.in_ok-reader.ensures.empty
    (ap (λ t. t.limit) c.in_ok-reader.ensures.inner ∙ c.take.ensures.limit)
    (ap (λ t. g.R.Read.remaining t.inner) c.in_ok-reader.ensures.inner ∙ ap g.R.Read.remaining c.take.ensures.inner)
    c.in_ok-end.ensures.after

pub returns-clause-end : goal.returns-clause-end
returns-clause-end g c =
    read_through _ _ RECORDS _ (g.R.Read.remaining c.args.input) _ (λ r. EndOf r c.in_ok-end.end)
    c.in_ok-reader.ensures.capacity
    c.in_ok-reader.ensures.empty
    (ap (λ t. t.limit) c.in_ok-reader.ensures.inner ∙ c.take.ensures.limit)
    (ap (λ t. g.R.Read.remaining t.inner) c.in_ok-reader.ensures.inner ∙ ap g.R.Read.remaining c.take.ensures.inner)
    c.in_ok-end.ensures.end
