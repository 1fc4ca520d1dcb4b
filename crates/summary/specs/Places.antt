-- What all places got, after one more event.
use Rattle.std.specs.Prelude.{ℕ, List, map, slice_index_or, Result}
use Rattle.std.specs.List.{range_with_len}
use Rattle.answer.specs.declared.refusal.Refusal.{Refusal}
use Rattle.answer.specs.declared.turn.Answer.{Answer}
use Rattle.cell.specs.Asked.{standings}
use Rattle.model.specs.Calls.{asked}
use Rattle.model.specs.Cell.{Cell}
use Rattle.model.specs.Limits.{places}
use Rattle.record.specs.Layout.{Contents}
use Rattle.summary.specs.Getting.{got_after, nothing}
use Rattle.summary.specs.declared.got.Got.{Got}

module _ {C : Type 0} (c : Contents) (r : Result Answer Refusal) (x : Cell C) (gots : List Got) where
  abbrev pub got_at : ℕ → Got
  got_at k = got_after k c r (standings (asked x k)) (slice_index_or gots k nothing)

  -- by what the cell answered, and as it stands now
  unfoldable pub places_after : List Got
  places_after = map got_at (range_with_len 0 places)
