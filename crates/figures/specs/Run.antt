-- The worked run: keep 2, least served, two sessions. Place 0 fades while place 1 sends, and is
-- paid back.
use Rattle.std.specs.Prelude.{ℕ, true, false, List, [], ◌∷◌, Some, Ok, Err, Result}
use Rattle.answer.specs.declared.refusal.Refusal.{Refusal}
use Rattle.answer.specs.declared.refusal.Refusal.TheVariants.{NoneActive}
use Rattle.answer.specs.declared.turn.Answer.{Answer}
use Rattle.answer.specs.declared.turn.Answer.TheVariants.{Done, Turn as Turned}
use Rattle.answer.specs.declared.turn.Kind.{Kind}
use Rattle.answer.specs.declared.turn.Kind.TheVariants.{Normal, Credit, Extra}
use Rattle.least_served.specs.declared.counts.LeastServed.{LeastServed}
use Rattle.chooser.specs.Meaning.{Meaning}
use Rattle.least_served.specs.Served.{unserved}
use Rattle.model.specs.Cell.{Cell}
use Rattle.model.specs.Calls.{Call, opening, closing, arrival, report, turn, answer_to, cell_after, new}

abbrev pub new_cell : Cell LeastServed
new_cell = new 2 unserved

abbrev pub run : List Call
run =
    opening 0 360360 ∷ opening 1 240240 ∷
    arrival 0 1 100 ∷ arrival 0 2 100 ∷ arrival 1 3 101 ∷ arrival 1 4 50 ∷ report 0 false ∷
    turn ∷ report 0 true ∷ turn ∷ turn ∷ turn ∷ turn ∷ closing 1 ∷ []

-- chosen, sender, tag, length, kind
abbrev pub sends : ℕ → ℕ → ℕ → ℕ → Kind → Result Answer Refusal
sends chosen sender tag bytes kind = Ok (Turned (record {
  chosen = chosen;
  sent = Some (record { sender = sender; tag = tag });
  length = bytes;
  kind = kind;
}))

abbrev pub ok : Result Answer Refusal
ok = Ok Done

abbrev pub run_answers : List (Result Answer Refusal)
run_answers =
    ok ∷ ok ∷ ok ∷ ok ∷ ok ∷ ok ∷ ok ∷
    sends 0 1 3 101 Extra ∷ ok ∷ sends 1 1 4 50 Normal ∷ sends 1 0 1 100 Credit ∷
    sends 0 0 2 100 Normal ∷ Err NoneActive ∷ ok ∷ []

-- the answers to some calls, one after the other
unfoldable pub answers : {C : Type 0} →
    Meaning C → Cell C → List Call → List (Result Answer Refusal)
answers M x [] = []
answers M x (k ∷ ks) = answer_to M x k ∷ answers M (cell_after M x k) ks
