-- The kind, then the bytes. Assumes nothing.
use Rattle.cellnames.proofs.Groups.{first_not, first_so}
use Rattle.cellnames.proofs.local_is.Goals as goal

pub returns-then-not-has : goal.returns-then-not-has
returns-then-not-has c = first_not _ c.has.ensures c.if-not-has.true

pub returns : goal.returns
returns c = first_so _ c.has.ensures c.if-not-has.false c.same_name.ensures
