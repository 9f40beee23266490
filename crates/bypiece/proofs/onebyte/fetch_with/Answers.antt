-- `bypiece::onebyte::fetch_with` meets its contract: the byte stands behind the held ones.
use Rattle.bypiece.proofs.ByByte.{fetched}
use mathlib.Core.Path.{refl}
use Rattle.bypiece.proofs.onebyte.fetch_with.Goals as goal

pub returns : goal.returns
returns c = fetched c.args.held.now c.args.out.now _ c.fetch.ensures refl
