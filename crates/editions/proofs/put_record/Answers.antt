-- `editions::put_record` meets its contract, by the laws of this crate that it names.
-- Assumes nothing.
use mathlib.Core.Path.{◌≡◌}
use native.Mathlib.Omega.{arith}
use Prim.Native.Nat.{◌+◌, ◌-◌}
use lib.ListN.{length}
use Rattle.taggedfields.proofs.Stored.{put_mid-sets}
use Rattle.editions.proofs.Saving.{record_put}
use Rattle.editions.proofs.put_record.Goals as goal

pub returns : goal.returns
returns c =
    let a = c.args in
    record_put a.archive.now a.file.now a.out.now
    (rw c.copy_bytes.ensures (put_mid-sets a.out.now a.archive.now 0 (length a.archive.now - 0) (omega (arith, c.requires.0)) (omega arith)))
    c.store_length.ensures
    (rw c.copy_bytes-2.ensures (put_mid-sets c.store_length.new.out a.file.now (length a.archive.now + 4) _ (omega (arith, c.requires.0, c.store_length.auto.out)) (omega arith)))
