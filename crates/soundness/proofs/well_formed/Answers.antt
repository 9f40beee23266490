-- `soundness::well_formed` meets its contract: the part that is lent is the contents of the definition.
-- Assumes nothing.
use mathlib.Core.Path.{ap, ◌∙◌}
use Rattle.wtf8.specs.Forms.{well_formed}
use Rattle.fields.proofs.Laws.{part}
use Rattle.soundness.proofs.well_formed.Goals as goal

pub returns : goal.returns
returns c = let a = c.args in c.is_wtf8.ensures ∙ ap well_formed (part a.s.now a.place a.size)
