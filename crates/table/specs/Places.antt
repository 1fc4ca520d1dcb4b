-- Rows as the table of sessions that they stand for.
use Rattle.std.specs.Prelude.{List, map}
use Rattle.model.specs.Table.{Table}
use Rattle.session.specs.Seen.{seen}
use Rattle.session.specs.declared.row.Row.{Row}

unfoldable pub table_of : List Row → Table
table_of rows = map seen rows
