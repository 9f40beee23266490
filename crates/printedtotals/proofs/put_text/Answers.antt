-- `printedtotals::put_text` meets its contract: a part of the output that is overwritten.
-- Assumes nothing.
use Rattle.std.proofs.Common.{◌+◌, ◌++◌, List, ℕ, length, refl, sym, ap, ◌∙◌, append_assoc, take, drop, arith}
use lib.Seq.{sets-eq}
use borrow.Rule.Slice.PartMut.{Post-is}
use Rattle.printedtotals.proofs.put_text.Goals as goal

pub returns : goal.returns
returns c =
    let out = c.args.out.now in
    let text = c.args.text.now in
    let at = c.args.at in
    let after = drop (at + length text) out in (
      refl,
      rw c.copy_from_slice.ensures.after
          (ap (λ (rest : List ℕ). take at out ++ (text ++ rest)) (Post-is at (at + length text) out (omega arith))
          ∙ sym (append_assoc (take at out) text after) ∙ sym (sets-eq text out at c.requires)),
    )
