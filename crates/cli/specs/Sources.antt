-- Which source a word of the command line names.
use Rattle.std.specs.Prelude.{ℕ, List, Some, None, Option, codes, if◌then◌else◌}
use Rattle.std.specs.Str.{bytes_eq}
use Rattle.cli.specs.declared.input.Input.{Input}
use Rattle.cli.specs.declared.input.Input.TheVariants.{Standard as Streamed, File as Filed}
use Rattle.cli.specs.declared.input.Source.{Source as Chosen}
use Rattle.cli.specs.declared.input.Source.TheVariants.{Standard, File}

-- none for the standard input, and else the name of a file
abbrev pub source_of : Option (List ℕ) → Option (List ℕ)
source_of None = None
source_of (Some word) = if bytes_eq word (codes "-") then None else Some word

abbrev pub source_as : Chosen → Option (List ℕ)
source_as Standard = None
source_as (File name) = Some name.now

-- what is left of an input is what is left of the stream or the file in it
abbrev pub remaining_of : {S F : Type 0} → (S → Option (List ℕ)) → (F → Option (List ℕ)) → Input S F → Option (List ℕ)
remaining_of stream file (Streamed s) = stream s
remaining_of stream file (Filed f) = file f
