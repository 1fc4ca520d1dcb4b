-- The number of each refusal, by which crews, recordings and documents name it.
use Rattle.std.specs.Prelude.{ℕ, Ok, Err, Result}
use Rattle.answer.specs.declared.refusal.Refusal.{Refusal}
use Rattle.answer.specs.declared.refusal.Refusal.TheVariants.{TruncatedRecord, UnknownLetter, UnusedByteNotZero}
use Rattle.answer.specs.declared.refusal.Refusal.TheVariants.{NoteNotPrintable, PlaceTooHigh, PlaceOpen, PlaceNotOpen}
use Rattle.answer.specs.declared.refusal.Refusal.TheVariants.{RateNotInTariff, LinkOverbooked, SessionActive}
use Rattle.answer.specs.declared.refusal.Refusal.TheVariants.{AheadOfMark, LengthOutOfRange, QueueFull, NoneActive}
use Rattle.answer.specs.declared.refusal.Refusal.TheVariants.{TurnsUsedUp, KeepTooHigh, BufferTooShort}

abbrev pub number_of : Refusal → ℕ
number_of TruncatedRecord = 1
number_of UnknownLetter = 2
number_of UnusedByteNotZero = 3
number_of NoteNotPrintable = 4
number_of PlaceTooHigh = 5
number_of PlaceOpen = 6
number_of PlaceNotOpen = 7
number_of RateNotInTariff = 8
number_of LinkOverbooked = 9
number_of SessionActive = 10
number_of AheadOfMark = 11
number_of LengthOutOfRange = 12
number_of QueueFull = 13
number_of NoneActive = 14
number_of TurnsUsedUp = 15
number_of KeepTooHigh = 16
number_of BufferTooShort = 17

-- of what a call came to: the refusal's number, and 0 of an answer
abbrev pub refusal_number : {X : Type 0} → Result X Refusal → ℕ
refusal_number (Ok x) = 0
refusal_number (Err why) = number_of why
