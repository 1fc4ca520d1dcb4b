-- A line while it is made: a text goes to its end, where there is room for it. No line is so long.
use Rattle.std.specs.Prelude.{◌≡◌, ℕ, ◌+◌, ◌≤◌, List, ◌++◌, length}
use Rattle.record.specs.declared.layout.TheConstants.{LINE}

pub record Appends (line text now : List ℕ) : Type 0 where
  pub holds : length line + length text ≤ LINE → now ≡ line ++ text
