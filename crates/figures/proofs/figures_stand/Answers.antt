use Rattle.figures.proofs.Computed.{all_figures}
use Rattle.figures.proofs.figures_stand.Goals as goal

pub returns : goal.returns
returns c = all_figures
