use Rattle.std.proofs.Common.{◌≡◌, ℕ, ◌-◌, List, get_or, length, take, drop, Some, None, sym, ap, ◌∙◌, arith, rules}
use Rattle.record.specs.declared.letter.Letter.{Letter}
use Rattle.record.specs.Letters.{letter_of}
use Rattle.record.specs.Layout.{saying, unused, used, place_in, length_in, value_in, note_in}
use Rattle.record.specs.Reading.{first_not_zero, first_unprintable}
use Rattle.record.proofs.Numbers.{length_is, value_is}
use Rattle.record.proofs.Parsing.{accepted, says}
use Rattle.record.proofs.reader.parse.Goals as goal

pub returns : goal.returns
returns c =
    let bs : List ℕ = c.args.bytes.now in
    let l : Letter = c.in_ok-letter.letter in
    let some : Some l ≡ letter_of (get_or bs 0 0) = search rules in
    let zeros : None ≡ first_not_zero (unused l) bs = search rules in
    let clean : None ≡ first_unprintable (note_in bs) = search rules in
    let n : c.from_le_bytes-length.result ≡ length_in bs = c.from_le_bytes-length.ensures ∙ sym (length_is bs (omega arith)) in
    let v : c.from_le_bytes-value.result ≡ value_in bs = c.from_le_bytes-value.ensures ∙ sym (value_is bs (omega arith)) in
    let rest : List ℕ = take (length bs - 8) (drop 8 bs) in
    let t : rest ≡ note_in bs = ap (λ (k : ℕ). take (k - 8) (drop 8 bs)) c.told-bytes in
    accepted c.args.number bs l some zeros clean _
    (c.of.ensures ∙ (λ i. used l (saying l (place_in bs) (n i) (v i) (t i))) ∙ says bs c.told-bytes l (sym zeros))
