use mathlib.Core.Path.{refl}
use Rattle.cells.specs.Wide.{edges}
use Rattle.cells.proofs.wide_table.Goals as goal

pub returns : goal.returns
unfolding edges
returns c = refl
