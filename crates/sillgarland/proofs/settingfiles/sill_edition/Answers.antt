-- `sillgarland::settingfiles::sill_edition` meets its contract: the search's answer, handed on as numbers.
-- Assumes nothing.
use mathlib.Core.Path.{ap, ◌∙◌}
use Rattle.sillgarland.specs.Settingfiles.{edition_struct}
use Rattle.sillgarland.proofs.settingfiles.sill_edition.Goals as goal

pub returns : goal.returns
returns c = c.from.ensures ∙ ap edition_struct c.find_edition.ensures
