-- A copy between the output's front and its rest is `sets`. Assumes nothing.
use Rattle.output.proofs.Laws.{copied}
use Rattle.output.proofs.store_bytes.Goals as goal

pub returns : goal.returns
returns c = copied c.args.out.now c.args.at c.args.bytes.now c.requires c.copy_bytes.ensures
