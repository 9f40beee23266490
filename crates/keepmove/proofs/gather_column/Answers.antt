-- `gather_column` meets its contract by the laws cited here. Assumes nothing.
use mathlib.Core.Path.{◌∙◌}
use Rattle.keepmove.proofs.Gathering.{all_stored, column-more, column_done}
use Rattle.keepmove.proofs.Laying.{length_column}
use Rattle.keepmove.proofs.gather_column.Goals as goal

pub loop-i-init : goal.loop-i-init
loop-i-init c =
    let a = c.args in
    record { comes = all_stored _ _ (length_column a.nodes.now a.column a.order.now ∙ c.requires.0); same = c.requires.0 }

pub loop-i-preserved : goal.loop-i-preserved
loop-i-preserved c = column-more _ c.loop-i.invariant c.loop-i-test.true c.number_of.ensures

pub returns : goal.returns
returns c = column_done c.loop-i.invariant c.loop-i-test.false
