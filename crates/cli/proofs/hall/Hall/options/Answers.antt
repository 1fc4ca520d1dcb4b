use Rattle.cli.proofs.Adding.{cell_added}
use Rattle.cli.proofs.hall.Hall.options.Goals as goal

pub returns : goal.returns
returns c = cell_added _ _ c.keep_option.ensures c.chooser_option.ensures _ _ c.arg-2.result c.in_ok-arg.ensures c.arg-2.ensures
