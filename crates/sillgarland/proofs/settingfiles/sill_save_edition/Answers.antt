-- `sillgarland::settingfiles::sill_save_edition` meets its contract: the save's answer, handed on as numbers.
-- Assumes nothing.
use mathlib.Core.Path.{ap, ◌∙◌}
use Rattle.sillgarland.specs.Settingfiles.{kept_struct}
use Rattle.sillgarland.proofs.settingfiles.sill_save_edition.Goals as goal

pub returns : goal.returns
returns c =
    let known = c.save_edition.ensures in
    (c.from.ensures ∙ ap (λ p. kept_struct p.0) known, ap (λ p. p.1) known)
