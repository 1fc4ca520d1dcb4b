-- Options that are added stand behind those that are there.
use Rattle.std.proofs.Common.{◌≡◌, List, [], ◌∷◌, ◌++◌, ℕ, Result, Ok, Err, codes, ap, ◌∙◌, append_assoc}
use Rattle.std.specs.Prelude.{IfOk}
use Rattle.std.proofs.lemmas.List.{map-append}
use Rattle.clap.specs.Words.{AddsArg, App, Rule, app_of, rule_of, with_rule}
use Rattle.clap.specs.declared.builder.arg.Arg.{Arg}
use Rattle.clap.specs.declared.builder.command.Command.{Command}
use Rattle.cli.specs.Choosing.{AddsCell, IsOption, options_of}

one_more : (before : App) (r : Rule) → options_of (with_rule before r) ≡ options_of before ++ (r.id, r.defaults) ∷ []
one_more before r = map-append (λ (r : Rule). (r.id, r.defaults)) before.top.rules (r ∷ [])

added : (name default : List ℕ) (old new : Command) (a : Arg) → IsOption name default a → AddsArg old a new
    → options_of (app_of new) ≡ options_of (app_of old) ++ (name, default ∷ []) ∷ []
added name default old new a is adds =
    ap options_of (adds.shape is.0)
    ∙ one_more (app_of old) (rule_of a)
    ∙ ap (λ (n : List ℕ). options_of (app_of old) ++ (n, (rule_of a).defaults) ∷ []) is.1
    ∙ ap (λ (d : List (List ℕ)). options_of (app_of old) ++ (name, d) ∷ []) is.2

module _ (keep chooser : Arg) (is_keep : IsOption (codes "keep") (codes "2") keep) (is_chooser : IsOption (codes "chooser") (codes "least-served") chooser) where
  both : (old mid new : Command) → AddsArg old keep mid → AddsArg mid chooser new → AddsCell (app_of old) (app_of new)
  both old mid new first second =
      added _ _ mid new chooser is_chooser second
      ∙ ap (λ (o : List (List ℕ × List (List ℕ))). o ++ (codes "chooser", codes "least-served" ∷ []) ∷ []) (added _ _ old mid keep is_keep first)
      ∙ append_assoc (options_of (app_of old)) ((codes "keep", codes "2" ∷ []) ∷ []) ((codes "chooser", codes "least-served" ∷ []) ∷ [])

  pub cell_added : {E : Type 0} (old mid : Command) (r : Result Command E) → AddsArg old keep mid
      → IfOk r (λ new. AddsArg mid chooser new) → IfOk r (λ new. AddsCell (app_of old) (app_of new))
  cell_added old mid (Ok new) first second = both old mid new first second
  cell_added old mid (Err e) first second = tt
