use Rattle.model.specs.Table.{active_count}
use Rattle.table.specs.Places.{table_of}
use Rattle.departure.proofs.midway.+depart.Given as goal

abbrev pub decreases-depart : goal.decreases-depart
decreases-depart l = active_count (table_of l.rows.now)
