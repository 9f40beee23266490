-- `sillgarland::varints::sill_read_varint_with_start` meets its contract: the answer of `varintread::read_varint_with_start`, handed on as numbers.
-- Assumes nothing.
use mathlib.Core.Path.{ap, ◌∙◌}
use Rattle.sillgarland.specs.Varints.{found_struct}
use Rattle.sillgarland.proofs.varints.sill_read_varint_with_start.Goals as goal

pub returns : goal.returns
returns c = c.found_numbers.ensures ∙ ap (found_struct c.args.at) c.read_varint_with_start.ensures
