-- By the definition. Assumes nothing.
use mathlib.Core.Path.{refl}
use Rattle.localsplus.specs.Kind.{has}
use Rattle.cellnames.proofs.has.Goals as goal

pub returns : goal.returns
unfolding has
returns c = refl
