-- What a lag says: above 0 the session is owed, below 0 it is ahead.
use Rattle.std.specs.Prelude.{if◌then◌else◌, ℕ, ℤ, List, codes, pos, int_lt}
use Rattle.joblags.specs.declared.balance.Balance.{Balance}
use Rattle.joblags.specs.declared.balance.Balance.TheVariants.{Owed, Ahead, Even}

abbrev pub balance_of : ℤ → Balance
balance_of lag = if int_lt (pos 0) lag then Owed else (if int_lt lag (pos 0) then Ahead else Even)

abbrev pub balance_word : Balance → List ℕ
balance_word Owed = codes "owed"
balance_word Ahead = codes "ahead"
balance_word Even = codes "-"
