-- By what letter a line names the kind of a turn, by what word a layer goes, and what each refusal says.
use Rattle.std.specs.Prelude.{ℕ, List, ◌++◌, codes, decimal, slice_index}
use Prim.Native.String.{String}
use Rattle.answer.specs.Numbers.{number_of}
use Rattle.answer.specs.declared.fault.Fault.{Fault}
use Rattle.answer.specs.declared.fault.Layer.{Layer}
use Rattle.answer.specs.declared.fault.Layer.TheVariants.{Record, Cell}
use Rattle.answer.specs.declared.refusal.Refusal.{Refusal}
use Rattle.answer.specs.declared.refusal.Refusal.TheVariants.{TruncatedRecord, UnknownLetter, UnusedByteNotZero}
use Rattle.answer.specs.declared.refusal.Refusal.TheVariants.{NoteNotPrintable, PlaceTooHigh, PlaceOpen, PlaceNotOpen}
use Rattle.answer.specs.declared.refusal.Refusal.TheVariants.{RateNotInTariff, LinkOverbooked, SessionActive}
use Rattle.answer.specs.declared.refusal.Refusal.TheVariants.{AheadOfMark, LengthOutOfRange, QueueFull, NoneActive}
use Rattle.answer.specs.declared.refusal.Refusal.TheVariants.{TurnsUsedUp, KeepTooHigh, BufferTooShort}
use Rattle.answer.specs.declared.turn.Kind.{Kind}
use Rattle.answer.specs.declared.turn.Kind.TheVariants.{Normal, Credit, Kept, Extra, Idle}

-- the code of a text of one character
abbrev pub code : String → ℕ
code text = slice_index (codes text) 0

abbrev pub kind_byte : Kind → ℕ
kind_byte Normal = code "n"
kind_byte Credit = code "c"
kind_byte Kept = code "k"
kind_byte Extra = code "x"
kind_byte Idle = code "i"

abbrev pub layer_word : Layer → List ℕ
layer_word Record = codes "record"
layer_word Cell = codes "cell"

-- the condition on which a refusal is given
abbrev pub refusal_words : Refusal → List ℕ
refusal_words TruncatedRecord = codes "the input ends inside a record"
refusal_words UnknownLetter = codes "byte 0 is none of O, C, A, G, B, T"
refusal_words UnusedByteNotZero = codes "a byte that this letter leaves unused isn't zero"
refusal_words NoteNotPrintable = codes "a note byte outside 32 to 126; on writing, a note that isn't eight such bytes"
refusal_words PlaceTooHigh = codes "a place above 63"
refusal_words PlaceOpen = codes "opening a place that is open"
refusal_words PlaceNotOpen = codes "a call other than opening on a place that isn't open"
refusal_words RateNotInTariff = codes "a rate that doesn't divide 720,720 (0 too)"
refusal_words LinkOverbooked = codes "the booked total would pass 720,720"
refusal_words SessionActive = codes "closing an active session"
refusal_words AheadOfMark = codes "closing a session whose virtual time is above the mark"
refusal_words LengthOutOfRange = codes "a frame of 0 bytes, or of more than 1,536"
refusal_words QueueFull = codes "32 frames wait already"
refusal_words NoneActive = codes "a turn while no session is active"
refusal_words TurnsUsedUp = codes "2,000,000,000 turns were accepted already"
refusal_words KeepTooHigh = codes "a cell with a keep above 4"
refusal_words BufferTooShort = codes "a line buffer under 64 bytes; on writing, a record buffer under 16"

-- its number and its words
abbrev pub refusal_message : Refusal → List ℕ
refusal_message why = codes "refusal " ++ (decimal (number_of why) ++ (codes ": " ++ refusal_words why))

-- a fault: its refusal, who gave it, and where
abbrev pub fault_message : Fault → List ℕ
fault_message f =
    refusal_message f.refusal ++ (codes ", layer " ++ (layer_word f.layer
    ++ (codes ", record " ++ (decimal f.«record» ++ (codes ", byte " ++ decimal f.byte)))))
