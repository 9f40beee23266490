-- By cases. Assumes nothing.
use Rattle.writeleaves.specs.Leaves.{text_if}
use mathlib.Core.Path.{sym, ap}
use Rattle.writeleaves.proofs.text_if.Goals as goal

pub returns-then-formed : goal.returns-then-formed
returns-then-formed c = sym (ap (λ b. text_if b c.args.place c.args.size) c.if-formed.true)

pub returns-else-formed : goal.returns-else-formed
returns-else-formed c = sym (ap (λ b. text_if b c.args.place c.args.size) c.if-formed.false)
