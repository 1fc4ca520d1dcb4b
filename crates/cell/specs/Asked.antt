-- What questions about an open place answer.
use Rattle.std.specs.Prelude.{ℕ, length, Option, Result}
use Rattle.std.specs.List.{slice_get}
use Rattle.std.specs.Result.{result_map_both}
use Rattle.answer.specs.declared.refusal.Refusal.{Refusal}
use Rattle.model.specs.Session.{Frame, Session}
use Rattle.cell.specs.declared.questions.Standing.{Standing}

-- every number of a session, and how many frames wait
abbrev pub standing : Session → Standing
standing s = record {
  rate = s.rate;
  price = s.price;
  virtual_time = s.virtual_time;
  lag = s.lag;
  allowance = s.allowance;
  good = s.good;
  active = s.active;
  waiting = length s.queue;
}

abbrev pub standings : Result Session Refusal → Result Standing Refusal
standings r = result_map_both standing (λ why. why) r

-- the frame that leaves after i others
abbrev pub frames : Result Session Refusal → ℕ → Result (Option Frame) Refusal
frames r i = result_map_both (λ s. slice_get s.queue i) (λ why. why) r
