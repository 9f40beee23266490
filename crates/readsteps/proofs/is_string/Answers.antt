-- `is_string` is the test of its name.
-- Assumes nothing.
use mathlib.Core.Path.{refl}
use Rattle.readsteps.proofs.Letters.{string_none}
use Rattle.readsteps.proofs.is_string.Goals as goal

pub returns-in-117 : goal.returns-in-117
returns-in-117 c = rw c.in-117.is refl

pub returns-in-116 : goal.returns-in-116
returns-in-116 c = rw c.in-116.is refl

pub returns-in-97 : goal.returns-in-97
returns-in-97 c = rw c.in-97.is refl

pub returns-in-65 : goal.returns-in-65
returns-in-65 c = rw c.in-65.is refl

pub returns-in-122 : goal.returns-in-122
returns-in-122 c = rw c.in-122.is refl

pub returns-in-90 : goal.returns-in-90
returns-in-90 c = rw c.in-90.is refl

pub returns-in_default : goal.returns-in_default
returns-in_default c = string_none _ c.in_default.in_default-own.rest.0.0.0.0.0.1 c.in_default.in_default-own.rest.0.0.0.0.1 c.in_default.in_default-own.rest.0.0.0.1 c.in_default.in_default-own.rest.0.0.1 c.in_default.in_default-own.rest.0.1 c.in_default.in_default-own.rest.1
