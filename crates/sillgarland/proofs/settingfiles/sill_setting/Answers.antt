-- `sillgarland::settingfiles::sill_setting` meets its contract: the lookup's answer, handed on as numbers.
-- Assumes nothing.
use mathlib.Core.Path.{ap, ◌∙◌}
use Rattle.sillgarland.specs.Settingfiles.{setting_struct}
use Rattle.sillgarland.proofs.settingfiles.sill_setting.Goals as goal

pub returns : goal.returns
returns c = c.from.ensures ∙ ap setting_struct c.find_setting.ensures
