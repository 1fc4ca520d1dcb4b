-- A schedule that is all zero, number by number.
use Rattle.std.specs.Prelude.{◌≡◌, false, length, replicate, pos}
use Rattle.std.specs.List.{All}
use Rattle.model.specs.Limits.{places}
use Rattle.queue.specs.Fifo.{no_frame, room}
use Rattle.session.specs.declared.row.Row.{Row}
use Rattle.cell.specs.declared.schedule.Schedule.{Schedule}

-- every number of a place is 0, and every flag is false
pub record ZeroRow (r : Row) : Type 0 where
  pub booked : r.booked ≡ false
  pub rate : r.rate ≡ 0
  pub price : r.price ≡ 0
  pub virtual_time : r.virtual_time ≡ 0
  pub lag : r.lag ≡ pos 0
  pub allowance : r.allowance ≡ pos 0
  pub good : r.good ≡ false
  pub active : r.active ≡ false
  pub frames : r.queue.ring.frames ≡ replicate room no_frame
  pub head : r.queue.ring.head ≡ 0
  pub count : r.queue.ring.count ≡ 0

pub record ZeroSchedule (s : Schedule) : Type 0 where
  pub size : length s.rows ≡ places
  pub rows : All ZeroRow s.rows
  pub mark : s.mark ≡ 0
  pub turns : s.turns ≡ 0
  pub keep : s.keep ≡ 0
