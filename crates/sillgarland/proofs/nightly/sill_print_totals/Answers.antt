-- `sillgarland::nightly::sill_print_totals` meets its contract: the answer of `printedtotals::print_totals`, handed on as numbers.
-- Assumes nothing.
use Rattle.sillgarland.specs.Varints.{written_struct}
use Rattle.sillgarland.proofs.Handing.{handed}
use Rattle.sillgarland.proofs.nightly.sill_print_totals.Goals as goal

pub returns : goal.returns
returns c = handed written_struct c.from.ensures c.print_totals.ensures
