-- What asking for a rate answers: the rate with its price if the tariff has it, and a refusal otherwise.
use Rattle.std.specs.Prelude.{ℕ, if◌then◌else◌, Ok, Err, Result}
use Rattle.answer.specs.declared.refusal.Refusal.{Refusal}
use Rattle.answer.specs.declared.refusal.Refusal.TheVariants.{RateNotInTariff}
use Rattle.tariff.specs.declared.rate.Rate.{Rate}
use Rattle.tariff.specs.Tariff.{in_tariff, price_of}

-- a booking by its two numbers
pub record Booked : Type 0 where
  pub rate : ℕ
  pub price : ℕ

abbrev pub booking : ℕ → Result Booked Refusal
booking rate =
    if in_tariff rate then Ok (record { rate = rate; price = price_of rate }) else Err RateNotInTariff

-- the same of what the code answered
abbrev pub booking_as : Result Rate Refusal → Result Booked Refusal
booking_as (Ok r) = Ok (record { rate = r.units; price = r.price })
booking_as (Err why) = Err why
