-- `localsplus::write_positions` meets its contract: the laws of a walk carry the loop, one turn of the positions each arm.
use mathlib.Core.Path.{sym, ap, ◌∙◌}
use borrow.Author.Rules.{rules}
use Rattle.clearing.specs.Lent.{zeros}
use Rattle.localsplus.proofs.Turns.{positions-has, positions-lacks, positions_end}
use Rattle.localsplus.proofs.Walk.{walk_start, walk_put, walk_pass, walk-done}
use Rattle.localsplus.proofs.write_positions.Goals as goal
use Rattle.localsplus.proofs.write_positions.Goals.{then-has_bit, else-has_bit}

pub loop-i-init : goal.loop-i-init
loop-i-init c = walk_start (c.clear_words.ensures ∙ ap zeros (sym c.clear_words.auto.words)) (search rules) (search rules)

pub loop-i-preserved : goal.loop-i-preserved
loop-i-preserved c =
    let inv = c.loop-i.invariant in
    let h = c.loop-i-test.true in
    let e = c.has_bit.ensures in
    elim c.if-has_bit.branch [
      | then-has_bit w ↦ walk_put inv h (positions-has _ _ h _ (sym e ∙ w.if-has_bit.true)) w.out-is w.n-is
      | else-has_bit w ↦ walk_pass inv h (positions-lacks _ _ h _ (sym e ∙ w.if-has_bit.false)) w.out-is w.n-is
    ]

pub returns : goal.returns
returns c = walk-done c.loop-i.invariant c.loop-i-test.false (positions_end _ _ c.loop-i-test.false _) c.clear_words.auto.words
