-- The schedule of zeros.
use Rattle.std.proofs.Common.{◌≡◌, false, replicate, pos, refl, lit<, lit≤, rules}
use Rattle.std.proofs.lemmas.List.Elements.{All-replicate}
use Rattle.model.proofs.Books.{new_sound}
use Rattle.model.specs.Calls.{new}
use Rattle.model.specs.Table.{vacancies}
use Rattle.queue.specs.Ring.{held, no_frame}
use Rattle.session.specs.declared.row.Row.{Row}
use Rattle.table.specs.Places.{table_of}
use Rattle.cell.specs.View.{alone}
use Rattle.cell.specs.Zero.{ZeroSchedule}
use Rattle.cell.specs.declared.schedule.Schedule.{Schedule}
use Rattle.cell.proofs.Sized.{table_vacant}

abbrev zero_row : Row
zero_row = record {
  booked = false;
  rate = 0;
  price = 0;
  virtual_time = 0;
  lag = pos 0;
  allowance = pos 0;
  good = false;
  active = false;
  queue = record { ring = record { frames = replicate 32 no_frame; head = 0; count = 0; inside = (lit< tt, lit≤ tt) } };
}

pub table_is_vacant : table_of (replicate 64 zero_row) ≡ vacancies 64
unfolding held
table_is_vacant = table_vacant 64 zero_row refl

abbrev pub zero_schedule : Schedule
zero_schedule = record {
  rows = replicate 64 zero_row;
  mark = 0;
  turns = 0;
  keep = 0;
  ordered = rw table_is_vacant (∣ new_sound 0 (tt {0}) (lit≤ tt) ∣₁);
}

pub zeros : ZeroSchedule zero_schedule
zeros = search (rules, All-replicate)
