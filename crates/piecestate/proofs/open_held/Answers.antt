-- `piecestate::open_held` meets its contract: the held bytes stand at the front.
use native.Mathlib.Omega.{arith}
use lib.ListN.{replicate}
use Rattle.piecestate.proofs.Looks.{open_front}
use Rattle.piecestate.proofs.open_held.Goals as goal

pub returns : goal.returns
returns c = open_front c.args.held.now (replicate 25 0) c.args.line (omega arith) c.open_entry.ensures c.fetch.ensures
