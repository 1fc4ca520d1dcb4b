use Rattle.std.proofs.Common.{◌≡◌, ℕ, List, Option, Result, ◌++◌, codes, decimal, ap, sym, subst, ◌∙◌}
use Rattle.std.specs.Prelude.{OnOk}
use Rattle.std.specs.Io.KnownBytes.{Appends}
use Rattle.notation.specs.Words.{call_words}
use Rattle.notation.proofs.Prices.{booked_words, unbooked_words}
use Rattle.notation.proofs.printer.print_call.Goals as goal

-- the same of another text that is the same
reworded : {X E : Type 0} (r : Result X E) (old new : Option (List ℕ)) (a b : List ℕ) → a ≡ b → OnOk r (Appends old new a) → OnOk r (Appends old new b)
reworded r old new a b e h = subst (λ (t : List ℕ). OnOk r (Appends old new t)) e h

opened : ℕ → ℕ → List ℕ → List ℕ
opened place rate price = codes "place " ++ (decimal place ++ (codes " opens at rate " ++ (decimal rate ++ price)))

pub returns-in-Ok : goal.returns-in-Ok
unfolding opened
returns-in-Ok g c =
    let price = booked_words c.in-Open.rate c.in-Ok.booked c.in-Ok.ensures in
    let words = ap (opened c.in-Open.place c.in-Open.rate) (ap (λ (k : ℕ). codes ", price " ++ decimal k) c.price.ensures ∙ sym price) in
    reworded c.write.result _ _ _ _ (words ∙ ap call_words (sym c.in-Open.is)) c.write.ensures.bytes

pub returns-in-Err : goal.returns-in-Err
unfolding opened
returns-in-Err g c =
    let price = unbooked_words c.in-Open.rate c.in-Err.field-0 c.in-Err.ensures in
    reworded c.write-in-Err.result _ _ _ _ (ap (opened c.in-Open.place c.in-Open.rate) (sym price) ∙ ap call_words (sym c.in-Open.is)) c.write-in-Err.ensures.bytes

pub returns-in-Good : goal.returns-in-Good
returns-in-Good g c = reworded c.write-in-Good.result _ _ _ _ (ap call_words (sym c.in-Good.is)) c.write-in-Good.ensures.bytes

pub returns-in-Bad : goal.returns-in-Bad
returns-in-Bad g c = reworded c.write-in-Bad.result _ _ _ _ (ap call_words (sym c.in-Bad.is)) c.write-in-Bad.ensures.bytes
