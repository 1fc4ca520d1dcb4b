-- What a rate costs, in words: as the tariff answers.
use Rattle.std.proofs.Common.{◌≡◌, ℕ, ◌++◌, Ok, Err, Result, codes, decimal, inl, inr, refl, ap}
use Rattle.std.proofs.lemmas.Bool.{cases_Bool}
use Rattle.answer.specs.declared.refusal.Refusal.{Refusal}
use Rattle.tariff.specs.declared.rate.Rate.{Rate}
use Rattle.tariff.specs.Booking.{Booked, booking, booking_as}
use Rattle.tariff.specs.Tariff.{in_tariff, price_of}
use Rattle.notation.specs.Words.{price_words}

abbrev price_in : Result Booked Refusal → ℕ
price_in (Ok b) = b.price
price_in (Err why) = 0

pub booked_words : (rate : ℕ) (r : Rate) → booking_as (Ok r) ≡ booking rate → price_words rate ≡ codes ", price " ++ decimal r.price
booked_words rate r e =
    elim (cases_Bool (in_tariff rate)) [
      | inl t ↦ let same : ◌≡◌ {A = Result Booked Refusal} (booking_as (Ok r)) (Ok (record { rate = rate; price = price_of rate })) = rw t at e in
          let price : r.price ≡ price_of rate = ap price_in same in
          rw (t, price) refl
      | inr f ↦ let other : ◌≡◌ {A = Result Booked Refusal} (booking_as (Ok r)) (Err _) = rw f at e in absurd cc
    ]

pub unbooked_words : (rate : ℕ) (why : Refusal) → booking_as (Err why) ≡ booking rate → price_words rate ≡ codes ", which is not in the tariff"
unbooked_words rate why e =
    elim (cases_Bool (in_tariff rate)) [
      | inl t ↦ let other : ◌≡◌ {A = Result Booked Refusal} (booking_as (Err why)) (Ok (record { rate = rate; price = price_of rate })) = rw t at e in absurd cc
      | inr f ↦ rw f refl
    ]
