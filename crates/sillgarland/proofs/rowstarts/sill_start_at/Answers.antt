-- `sillgarland::rowstarts::sill_start_at` meets its contract: the answer of `starts::start_at`, handed on as numbers.
-- Assumes nothing.
use mathlib.Core.Path.{ap, ◌∙◌}
use Rattle.sillgarland.specs.Starts.{start_struct}
use Rattle.sillgarland.proofs.rowstarts.sill_start_at.Goals as goal

pub returns : goal.returns
returns c = c.from.ensures ∙ ap start_struct c.start_at.ensures
