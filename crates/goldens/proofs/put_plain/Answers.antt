-- `goldens::put_plain` meets its contract, by the laws of this crate that it names.
use mathlib.Core.Path.{◌≡◌, ap, ◌∙◌}
use Prim.Native.Nat.{◌+◌, ◌-◌}
use native.Mathlib.Omega.{arith}
use lib.ListN.{length}
use lib.Seq.{length-sets}
use Rattle.taggedfields.proofs.Stored.{put_mid-sets}
use Rattle.goldenparts.specs.Spans.{golden_in}
use Rattle.goldenparts.proofs.Judging.{part_length}
use Rattle.goldens.proofs.Moves.{plain-put}
use Rattle.goldens.proofs.put_plain.Goals as goal

pub returns : goal.returns
returns c =
    let file = c.args.golden.file.now in
    let parts = c.args.golden.parts in
    let out = c.args.out.now in
    let code = c.of-code.result.now in
    let result = c.of-result.result.now in
    let n : length code ≡ parts.code.size = ap length c.of-code.ensures ∙ part_length file parts.code c.args.golden.standing.code_in in
    let m : length result ≡ parts.result.size = ap length c.of-result.ensures ∙ part_length file parts.result c.args.golden.standing.result_in in
    let first = put_mid-sets out code 0 (length code - 0) (omega (arith, n, c.requires)) (omega arith) in
    let long = ap length first ∙ length-sets out 0 code in
    rw (c.copy_bytes.ensures, c.copy_bytes-2.ensures)
    (plain-put (golden_in file parts) c.of-code.ensures c.of-result.ensures out first
    (put_mid-sets _ result (length code) (length code + length result - length code) (omega (arith, n, m, c.requires, long)) (omega arith)))
