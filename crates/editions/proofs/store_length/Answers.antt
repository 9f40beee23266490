-- `editions::store_length` meets its contract: the four bytes of a number, low byte first.
-- Assumes nothing.
use mathlib.Core.Path.{◌∙◌}
use Prim.Native.Nat.{◌+◌, ◌-◌}
use native.Mathlib.Omega.{arith}
use Rattle.taggedfields.proofs.Stored.{put_mid-sets}
use Rattle.editions.specs.Archive.{bytes32}
use Rattle.editions.proofs.Saving.{four-bytes}
use Rattle.editions.proofs.store_length.Goals as goal

pub returns : goal.returns
returns c =
    rw (c.copy_from_slice.ensures.after, c.to_le_bytes.ensures ∙ four-bytes c.args.n)
    (put_mid-sets c.args.out.now (bytes32 c.args.n) c.args.at (c.args.at + 4 - c.args.at) (omega arith) (omega arith))
