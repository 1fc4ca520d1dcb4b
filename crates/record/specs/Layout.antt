-- A record has sixteen bytes: the letter, the place, the length in two bytes, the value in four, the note in eight.
-- Length and value are little-endian. The value is the rate of an opening, and the tag of an arrival.
use Rattle.std.specs.Prelude.{ℕ, zero, suc, ◌+◌, ◌*◌, ◌/◌, ◌%◌, List, [], ◌∷◌, ◌++◌, slice_index}
use Rattle.std.specs.List.{between}
use Rattle.std.specs.Borrow.{Bor}
use Rattle.std.specs.declared.ops.Range.{Range}
use Rattle.record.specs.declared.call.Call.{Call}
use Rattle.record.specs.declared.call.Call.TheVariants.{Open as Opening, Close as Closing, Arrive as Arriving}
use Rattle.record.specs.declared.call.Call.TheVariants.{Good as BeingGood, Bad as BeingBad, Turn as Turning}
use Rattle.record.specs.declared.event.Event.{Event}
use Rattle.record.specs.declared.event.Event.TheVariants.{Open, Close, Arrive, Good, Bad, Turn}
use Rattle.record.specs.declared.layout.TheConstants.{PLACE, LENGTH, VALUE, NOTE, RECORD}
use Rattle.record.specs.declared.letter.Letter.{Letter}
use Rattle.record.specs.declared.letter.Letter.TheVariants.{O, C, A, G, B, T}
use Rattle.record.specs.Letters.{byte_of}

abbrev pub from_to : ℕ → ℕ → Range ℕ
from_to a b = record { start = a; end = b }

-- what a letter leaves unused, from one byte up to another: all but T use the place, A alone the length, O and A the value
abbrev pub unused : Letter → Range ℕ
unused O = from_to LENGTH VALUE
unused C = from_to LENGTH NOTE
unused A = from_to NOTE NOTE
unused G = from_to LENGTH NOTE
unused B = from_to LENGTH NOTE
unused T = from_to PLACE NOTE

-- what a record says
pub record Contents : Type 0 where
  pub letter : Letter
  pub place : ℕ
  pub length : ℕ
  pub value : ℕ
  pub note : List ℕ

abbrev pub saying : Letter → ℕ → ℕ → ℕ → List ℕ → Contents
saying l p n v t = record { letter = l; place = p; length = n; value = v; note = t }

-- what an event of a letter takes over of the parts of a record
abbrev pub used : Letter → Contents → Contents
used O c = saying O c.place 0 c.value c.note
used C c = saying C c.place 0 0 c.note
used A c = saying A c.place c.length c.value c.note
used G c = saying G c.place 0 0 c.note
used B c = saying B c.place 0 0 c.note
used T c = saying T 0 0 0 c.note

-- a call as a record with this note says it, with 0 for what its letter leaves unused
abbrev pub recorded : Call → List ℕ → Contents
recorded (Opening place rate) note = saying O place 0 rate note
recorded (Closing place) note = saying C place 0 0 note
recorded (Arriving place size tag) note = saying A place size tag note
recorded (BeingGood place) note = saying G place 0 0 note
recorded (BeingBad place) note = saying B place 0 0 note
recorded Turning note = saying T 0 0 0 note

-- the call of an event, and its note
abbrev pub event_call : Event → Call
event_call (Open place rate note) = Opening place rate
event_call (Close place note) = Closing place
event_call (Arrive place size tag note) = Arriving place size tag
event_call (Good place note) = BeingGood place
event_call (Bad place note) = BeingBad place
event_call (Turn note) = Turning

abbrev pub event_note : Event → Bor (List ℕ)
event_note (Open place rate note) = note
event_note (Close place note) = note
event_note (Arrive place size tag note) = note
event_note (Good place note) = note
event_note (Bad place note) = note
event_note (Turn note) = note

-- an event as a record says it
abbrev pub contents : Event → Contents
contents event = recorded (event_call event) (event_note event).now

-- a number of some bytes, the lowest first
abbrev pub little : List ℕ → ℕ
little [] = 0
little (b ∷ bs) = b + 256 * little bs

-- its bytes, so many of them
abbrev pub spread : ℕ → ℕ → List ℕ
spread zero n = []
spread (suc k) n = n % 256 ∷ spread k (n / 256)

-- the parts of sixteen bytes
abbrev pub place_in : List ℕ → ℕ
place_in bytes = slice_index bytes PLACE

abbrev pub length_in : List ℕ → ℕ
length_in bytes = little (between LENGTH VALUE bytes)

abbrev pub value_in : List ℕ → ℕ
value_in bytes = little (between VALUE NOTE bytes)

abbrev pub note_in : List ℕ → List ℕ
note_in bytes = between NOTE RECORD bytes

-- what they say, under a letter
abbrev pub decoded : Letter → List ℕ → Contents
decoded l bytes = saying l (place_in bytes) (length_in bytes) (value_in bytes) (note_in bytes)

-- the bytes that say it
abbrev pub encoded : Contents → List ℕ
encoded c = byte_of c.letter ∷ c.place ∷ (spread 2 c.length ++ (spread 4 c.value ++ c.note))
