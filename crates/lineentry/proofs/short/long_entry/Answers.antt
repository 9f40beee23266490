-- `lineentry::short::long_entry` meets its contract: what its numbers come to is the entry there.
use mathlib.Core.Path.{◌∙◌}
use Rattle.lineentry.proofs.Shorts.{long_by_is}
use Rattle.lineentry.proofs.short.long_entry.Goals as goal

pub returns : goal.returns
returns c = c.long_by.ensures ∙ long_by_is _ _ _ _ c.requires.0 c.requires.1
