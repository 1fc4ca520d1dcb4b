use Rattle.figures.proofs.Computed.{twelfth_figures}
use Rattle.figures.proofs.twelfth_figures_stand.Goals as goal

pub returns : goal.returns
returns c = twelfth_figures
