-- The numbers of the record, one after another. Assumes nothing.
use Rattle.stores.proofs.node_of.Goals as goal

pub returns : goal.returns
returns c =
    cc (
      c.cell.ensures,
      c.cell-2.ensures,
      c.cell-3.ensures,
      c.cell-4.ensures,
      c.cell-5.ensures,
      c.cell-6.ensures,
      c.cell-7.ensures,
    )
