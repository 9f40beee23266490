-- `raising::raised` meets its contract: by its test. Assumes nothing.
use Rattle.std.proofs.Common.{eq-eqb, ne_eqb}
use Rattle.raising.proofs.raised.Goals as goal

pub returns-then-n-stays : goal.returns-then-n-stays
returns-then-n-stays c = rw (eq-eqb _ _ c.if-n-stays.true)

pub returns : goal.returns
returns c = rw (ne_eqb _ _ c.if-n-stays.false) c.wrapping_add_u32.ensures.value
