-- The head comes first, and then a line for each place that is open.
use Rattle.std.proofs.Common.{◌≡◌, ℕ, ◌++◌, List, Option, refl, ap, sym, subst, ◌∙◌, arith}
use Rattle.std.proofs.Output.{has_written_append, has_written_of_eq}
use Rattle.std.specs.Fmt.{HasWritten}
use Rattle.cell.specs.View.{view}
use Rattle.record.specs.Lines.{newline}
use Rattle.joblags.specs.Sheets.{head_of, head_words, row_words, rows_words}
use Rattle.joblags.specs.declared.sheet.Head.{Head}
use Rattle.joblags.specs.declared.sheet.Line.{Line}
use Rattle.joblags.proofs.Rows.{no_row, nothing_more, one_row}
use Rattle.joblags.proofs.sheet.SheetDisplay.fmt.Goals as goal
use Rattle.joblags.proofs.sheet.SheetDisplay.fmt.Goals.{in-Some+in_ok-writeln-2, in_default}

pub loop-place-init : goal.loop-place-init
loop-place-init g c = λ plain.
    let head : List ℕ = head_words (head_of c.args.self.now.after (view c.args.self.now.cell.now)) in
    has_written_of_eq _ _ _ _ _
    (ap (λ (h : Head). head_words h ++ newline) c.of.ensures ∙ no_row (view c.args.self.now.cell.now) head newline)
    (c.in_ok-writeln.ensures.writes plain refl)

pub loop-place-preserved : goal.loop-place-preserved
loop-place-preserved g c = λ plain.
    let x = view c.args.self.now.cell.now in
    let head : List ℕ = head_words (head_of c.args.self.now.after x) in
    let so_far : List ℕ = head ++ (newline ++ rows_words x c.loop-place.place) in
    let row : Option Line = c.of-in-loop-place.result in
    let before = c.loop-place.invariant plain in
    let written = HasWritten g.W.Write.write_str_gives c.args.f.now (so_far ++ row_words row) in
    has_written_of_eq _ _ _ _ _
    (ap (λ (l : Option Line). so_far ++ row_words l) c.of-in-loop-place.ensures ∙ one_row x head newline c.loop-place.place)
    (elim c.match-of.branch [
      | in-Some+in_ok-writeln-2 w ↦
          subst written (sym w.f-is)
          (has_written_of_eq _ _ _ _ _ (ap (λ (l : Option Line). so_far ++ row_words l) (sym w.in-Some.is))
          (has_written_append _ _ _ _ _ _ before (w.in_ok-writeln-2.ensures.writes before.plain refl)))
      | in_default w ↦
          subst written (sym w.f-is) (has_written_of_eq _ _ _ _ _ (nothing_more so_far row w.in_default.not-Some) before)
    ])

pub returns-clause-writes : goal.returns-clause-writes
returns-clause-writes g c = λ plain ok.
    let head : List ℕ = head_words (head_of c.args.self.now.after (view c.args.self.now.cell.now)) in
    let all : c.loop-place.place ≡ 64 = omega arith in
    has_written_of_eq _ _ _ _ _ (ap (λ (n : ℕ). head ++ (newline ++ rows_words (view c.args.self.now.cell.now) n)) all) (c.loop-place.invariant plain)
