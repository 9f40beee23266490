-- `wtf8::greatest` meets its contract: what is kept is the least bound of the bytes passed.
-- Assumes nothing.
use native.Mathlib.Omega.{arith}
use borrow.Author.Count.{below_more}
use Rattle.wtf8.proofs.greatest.Goals as goal

pub loop-byte-preserved : goal.loop-byte-preserved
loop-byte-preserved c =
    let held = c.loop-byte.invariant in
    let kept = c.max-most.ensures in (
      below_more _ _ (λ k h. omega (arith, held.0 k h, kept)) (omega (arith, kept)),
      λ m all. omega (arith, kept, held.1 m (λ k h. all k (omega (arith, h))), all c.loop-byte.byte-index (omega arith)),
    )
