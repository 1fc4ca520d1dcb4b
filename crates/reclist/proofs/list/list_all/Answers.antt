-- The buffers keep the bytes, and the limit in bytes is that in records.
use Rattle.std.proofs.Common.{ap, ◌∙◌}
use Rattle.std.specs.Io.Buffered.{writer_buffer, writer_inner}
use Rattle.recording.specs.declared.TheConstants.{RECORDS}
use Rattle.recording.proofs.Limit.{all_through, drained_into, read_through}
use Rattle.reclist.specs.Ends.{EndOf}
use Rattle.reclist.specs.Listing.{listing}
use Rattle.reclist.proofs.list.list_all.Goals as goal

pub returns-clause-printed : goal.returns-clause-printed
returns-clause-printed g c =
    all_through (listing c.args.form) _ _ RECORDS _ (g.R.Read.remaining c.args.input) _ (g.W.Write.contents c.args.out) _ _ _ _ _
    c.in_ok-reader.ensures.capacity
    c.in_ok-reader.ensures.empty
    (ap (λ t. t.limit) c.in_ok-reader.ensures.inner ∙ c.take.ensures.limit)
    (ap (λ t. g.R.Read.remaining t.inner) c.in_ok-reader.ensures.inner ∙ ap g.R.Read.remaining c.take.ensures.inner)
    (ap g.W.Write.contents c.in_ok-writer.ensures.inner)
    c.in_ok-writer.ensures.empty
    c.in_ok-flush.ensures.bytes
    (drained_into (g.W.Write.contents (writer_inner c.flush.new.self)) (writer_buffer c.flush.new.self) _ c.in_ok-flush.ensures.ok
    (ap g.W.Write.contents c.into_parts-out.ensures.inner))
    c.in_ok-end.ensures.printed

pub returns-clause-end : goal.returns-clause-end
returns-clause-end g c =
    read_through _ _ RECORDS _ (g.R.Read.remaining c.args.input) _ (λ r. EndOf r c.in_ok-end.end)
    c.in_ok-reader.ensures.capacity
    c.in_ok-reader.ensures.empty
    (ap (λ t. t.limit) c.in_ok-reader.ensures.inner ∙ c.take.ensures.limit)
    (ap (λ t. g.R.Read.remaining t.inner) c.in_ok-reader.ensures.inner ∙ ap g.R.Read.remaining c.take.ensures.inner)
    c.in_ok-end.ensures.end
