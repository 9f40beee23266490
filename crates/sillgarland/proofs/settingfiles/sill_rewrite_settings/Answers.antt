-- `sillgarland::settingfiles::sill_rewrite_settings` meets its contract: the rewriting's answer, handed on as numbers.
-- Assumes nothing.
use mathlib.Core.Path.{ap, ◌∙◌}
use Rattle.sillgarland.specs.Settingfiles.{rewritten_struct}
use Rattle.sillgarland.proofs.settingfiles.sill_rewrite_settings.Goals as goal

pub returns : goal.returns
returns c =
    let known = c.rewrite.ensures in
    (c.from.ensures ∙ ap (λ p. rewritten_struct p.0) known, ap (λ p. p.1) known)
