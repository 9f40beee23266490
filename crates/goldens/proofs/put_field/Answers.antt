-- `goldens::put_field` meets its contract, by the laws of this crate that it names.
use native.Mathlib.Omega.{arith}
use Prim.Native.Nat.{◌+◌, ◌-◌}
use lib.ListN.{length}
use Rattle.taggedfields.proofs.Stored.{put_mid-sets}
use Rattle.goldens.proofs.Moves.{field_put}
use Rattle.goldens.proofs.put_field.Goals as goal

pub returns : goal.returns
returns c =
    let a = c.args in
    field_put a.out.now a.at a.tag a.contents.now c.put_header.ensures
    (rw c.copy_bytes.ensures
    (put_mid-sets c.put_header.new.out a.contents.now (a.at + 3) _ (omega (arith, c.requires.0, c.put_header.auto.out)) (omega arith)))
