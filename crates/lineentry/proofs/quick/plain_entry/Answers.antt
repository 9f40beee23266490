-- `lineentry::quick::plain_entry` meets its contract: what its bytes come to is the entry there.
use native.Mathlib.Omega.{arith}
use mathlib.Core.Path.{◌∙◌}
use Rattle.lineentry.proofs.Bytes.{plain-entry_is}
use Rattle.lineentry.proofs.quick.plain_entry.Goals as goal

pub returns : goal.returns
returns c = c.plain_of.ensures ∙ plain-entry_is _ _ _ (omega (arith, c.ranges.line)) c.requires
