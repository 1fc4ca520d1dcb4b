-- A fault in words.
use Rattle.std.specs.Prelude.{ℕ, List, ◌++◌, codes, decimal}
use Rattle.answer.specs.Names.{layer_word}
use Rattle.answer.specs.Numbers.{number_of}
use Rattle.answer.specs.declared.fault.Fault.{Fault}

-- why nothing more is listed
abbrev pub stopped_words : Fault → List ℕ
stopped_words f =
    codes "refusal " ++ (decimal (number_of f.refusal) ++ (codes ", layer " ++ (layer_word f.layer
    ++ (codes ", record " ++ (decimal f.«record» ++ (codes ", byte " ++ decimal f.byte))))))
