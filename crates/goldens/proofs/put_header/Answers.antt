-- `goldens::put_header` meets its contract, by the laws of this crate that it names.
use mathlib.Core.Path.{◌∙◌, ap}
use native.Mathlib.Numerals.{add-one}
use lib.Seq.{sets}
use mathlib.Core.List.{[], ◌∷◌}
use Prim.Native.Nat.{◌+◌, ◌-◌, ◌/◌, ◌%◌}
use native.Mathlib.Omega.{arith}
use lib.ListN.{set, length-set}
use Rattle.taggedfields.proofs.Stored.{put_mid-sets}
use Rattle.goldens.proofs.Moves.{two-bytes}
use Rattle.goldens.proofs.put_header.Goals as goal

pub returns : goal.returns
returns c =
    let a = c.args in
    rw (c.copy_from_slice.ensures.after, c.to_le_bytes.ensures ∙ two-bytes a.size (omega arith))
    (put_mid-sets (set a.out.now a.at a.tag) (a.size % 256 ∷ a.size / 256 ∷ []) (a.at + 1) (a.at + 3 - (a.at + 1))
    (omega (arith, length-set a.out.now a.at a.tag)) (omega arith)
    ∙ ap (λ i. sets (set a.out.now a.at a.tag) i (a.size % 256 ∷ a.size / 256 ∷ [])) (add-one a.at))
