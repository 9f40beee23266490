-- `is_tuple` is the test of its name.
-- Assumes nothing.
use mathlib.Core.Path.{refl}
use Rattle.readsteps.proofs.Letters.{tuple_none}
use Rattle.readsteps.proofs.is_tuple.Goals as goal

pub returns-in-40 : goal.returns-in-40
returns-in-40 c = rw c.in-40.is refl

pub returns-in-41 : goal.returns-in-41
returns-in-41 c = rw c.in-41.is refl

pub returns-in_default : goal.returns-in_default
returns-in_default c = tuple_none _ c.in_default.in_default-own.rest.0.1 c.in_default.in_default-own.rest.1
