-- The limit in bytes is that in records.
use Rattle.std.proofs.Common.{◌≡◌, ap, ◌∙◌}
use Rattle.std.specs.Io.Buffered.{reader_buffer, reader_capacity}
use Rattle.cell.specs.View.{view}
use Rattle.chooser.specs.Meaning.{meant}
use Rattle.model.specs.History.{after}
use Rattle.recording.specs.declared.TheConstants.{RECORDS}
use Rattle.replay.specs.Events.{calls_in}
use Rattle.recording.proofs.Limit.{read_through}
use Rattle.hall.proofs.playing.play.Goals as goal

pub returns : goal.returns
returns g c = record {
  after = read_through _ _ RECORDS _ (g.R.Read.remaining c.args.input) _
      (λ r. view c.play_records.new.hall.cell ≡ after (meant g.C.Chooser) (view c.args.hall.now.cell) (calls_in r.events))
      (ap (λ r. reader_capacity r.inner) c.new-reader.ensures ∙ c.in_ok-buffered.ensures.capacity)
      (ap (λ r. reader_buffer r.inner) c.new-reader.ensures ∙ c.in_ok-buffered.ensures.empty)
      (ap (λ r. r.inner.inner.limit) c.new-reader.ensures ∙ ap (λ t. t.limit) c.in_ok-buffered.ensures.inner ∙ c.take.ensures.limit)
      (ap (λ r. g.R.Read.remaining r.inner.inner.inner) c.new-reader.ensures ∙ ap (λ t. g.R.Read.remaining t.inner) c.in_ok-buffered.ensures.inner ∙ ap g.R.Read.remaining c.take.ensures.inner)
      c.in_ok-end.ensures.after;
}
