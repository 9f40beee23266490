-- `lineentry::quick::long_of_four` meets its contract: what its bytes come to is the entry there.
use mathlib.Core.Path.{◌∙◌}
use Rattle.lineentry.proofs.Bytes.{long-entry_is}
use Rattle.lineentry.proofs.quick.long_of_four.Goals as goal

pub returns : goal.returns
returns c = c.long_of.ensures ∙ long-entry_is _ _ _ c.requires
