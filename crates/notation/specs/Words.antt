-- The words of an event: its call, and its note in brackets.
use Rattle.std.specs.Prelude.{ℕ, if◌then◌else◌, List, ◌++◌, codes, decimal}
use Rattle.record.specs.Layout.{Contents}
use Rattle.record.specs.declared.call.Call.{Call}
use Rattle.record.specs.declared.call.Call.TheVariants.{Open, Close, Arrive, Good, Bad, Turn}
use Rattle.record.specs.declared.letter.Letter.{Letter}
use Rattle.record.specs.declared.letter.Letter.TheVariants.{O, C, A, G, B, T}
use Rattle.tariff.specs.Tariff.{in_tariff, price_of}

-- what a rate costs
abbrev pub price_words : ℕ → List ℕ
price_words rate =
    if in_tariff rate then codes ", price " ++ decimal (price_of rate)
    else codes ", which is not in the tariff"

abbrev pub call_words : Call → List ℕ
call_words (Open place rate) =
    codes "place " ++ (decimal place ++ (codes " opens at rate "
    ++ (decimal rate ++ price_words rate)))
call_words (Close place) = codes "place " ++ (decimal place ++ codes " closes")
call_words (Arrive place size tag) =
    codes "place " ++ (decimal place ++ (codes " offers a frame of " ++ (decimal size
    ++ (codes " bytes, tag " ++ decimal tag))))
call_words (Good place) = codes "the channel of place " ++ (decimal place ++ codes " is good")
call_words (Bad place) = codes "the channel of place " ++ (decimal place ++ codes " is bad")
call_words Turn = codes "a turn"

abbrev pub note_words : List ℕ → List ℕ
note_words note = codes " [" ++ (note ++ codes "]")

abbrev pub words : Call → List ℕ → List ℕ
words call note = call_words call ++ note_words note

-- the call of an event as a record says it
abbrev pub call_of : Letter → Contents → Call
call_of O c = Open c.place c.value
call_of C c = Close c.place
call_of A c = Arrive c.place c.length c.value
call_of G c = Good c.place
call_of B c = Bad c.place
call_of T c = Turn

abbrev pub event_words : Contents → List ℕ
event_words c = words (call_of c.letter c) c.note
