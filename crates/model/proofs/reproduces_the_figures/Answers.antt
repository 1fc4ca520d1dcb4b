use Rattle.model.proofs.Figures.{worked}
use Rattle.model.proofs.reproduces_the_figures.Goals as goal

pub returns : goal.returns
returns g c = worked _
