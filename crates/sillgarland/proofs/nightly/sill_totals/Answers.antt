-- `sillgarland::nightly::sill_totals` meets its contract: the answer of `totals::count_answers`, handed on as numbers.
-- Assumes nothing.
use Rattle.sillgarland.specs.Nightly.{totalled_struct}
use Rattle.sillgarland.proofs.Handing.{handed}
use Rattle.sillgarland.proofs.nightly.sill_totals.Goals as goal

pub returns : goal.returns
returns c = handed totalled_struct c.from.ensures c.count_answers.ensures
