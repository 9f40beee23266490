-- `sillgarland::rowstarts::sill_starts_before` meets its contract: the answer of `starts::starts_before`, handed on as numbers.
-- Assumes nothing.
use mathlib.Core.Path.{ap, ◌∙◌}
use Rattle.sillgarland.specs.Starts.{start_struct}
use Rattle.sillgarland.proofs.rowstarts.sill_starts_before.Goals as goal

pub returns : goal.returns
returns c = c.from.ensures ∙ ap start_struct c.starts_before.ensures
