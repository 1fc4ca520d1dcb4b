-- The digits that are left finish the number that those so far began.
use Rattle.std.proofs.Common.{◌≡◌, drop}
use Rattle.console.specs.Words.{number_after}
use Rattle.console.proofs.words.number.Given as goal

abbrev pub invariant-loop-digit : goal.invariant-loop-digit
invariant-loop-digit l = number_after l.number (drop l.digit-index l.word) ≡ number_after 0 l.word
