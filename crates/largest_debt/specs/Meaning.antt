-- What largest debt means to a cell: it goes by the offer alone, and tellings change nothing.
use Rattle.chooser.specs.Meaning.{Meaning, meaning}
use Rattle.largest_debt.specs.declared.LargestDebt.{LargestDebt}
use Rattle.largest_debt.specs.Largest.{largest_debt}

abbrev pub largest_debt_meaning : Meaning LargestDebt
largest_debt_meaning =
    meaning
    (λ c list o. largest_debt o.entries)
    (λ c list place length price. c)
    (λ c list place o. c)
    (λ c place. c)
