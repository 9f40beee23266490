-- Pairs are closed by a byte; behind another row nothing comes. Assumes nothing.
use Rattle.underway.proofs.Under.{start, done, puts_equal}
use Rattle.underway.specs.Rows.{closed}
use mathlib.Core.Path.{ap}
use Rattle.writevalue.proofs.close_row.Goals as goal

pub returns-then-pairs : goal.returns-then-pairs
returns-then-pairs c = puts_equal c.write_u8.ensures (ap closed c.if-pairs.true)

pub returns : goal.returns
returns c = puts_equal (done (start c.requires.inside)) (ap closed c.if-pairs.false)
