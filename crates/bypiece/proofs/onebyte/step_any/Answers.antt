-- `bypiece::onebyte::step_any` meets its contract: the held bytes and the byte stand in front, and their entry is read.
use mathlib.Core.Path.{refl}
use lib.ListN.{replicate}
use Rattle.bypiece.proofs.ByByte.{tells-any}
use Rattle.bypiece.proofs.onebyte.step_any.Goals as goal

pub returns : goal.returns
returns c = tells-any c.args.held.now (replicate 25 0) c.args.byte _ c.step_read.result c.requires refl c.fetch_with.ensures c.read_entry.ensures c.step_read.ensures
