-- `settings::rewriting::put_new` meets its contract, by the laws of this crate that it names.
-- Assumes nothing.
use mathlib.Core.Path.{◌∙◌}
use native.Mathlib.Omega.{arith}
use Rattle.settings.proofs.Loops.{added_start, added-whole, added_more, added_short, added_end}
use borrow.Author.Rules.{rules}
use Rattle.settings.proofs.rewriting.put_new.Goals as goal

pub loop-at-init : goal.loop-at-init
loop-at-init c = added_start c.args.changes.sound.clean c.requires.0

pub put_added-requires : goal.put_added-requires
put_added-requires c = (added-whole c.loop-at.invariant c.loop-at-test.true, c.loop-at.invariant.upto, search rules, search rules)

pub size_at-requires : goal.size_at-requires
size_at-requires c = let w = added-whole c.loop-at.invariant c.loop-at-test.true in omega (arith, w)

pub returns-in_err-used : goal.returns-in_err-used
returns-in_err-used c = rw c.from_residual.ensures (added_short c.loop-at.invariant c.loop-at-test.true
    c.args.changes.sound.bytes
    c.noted-place.ensures c.in_err-used.ensures)

pub loop-at-preserved : goal.loop-at-preserved
loop-at-preserved c = added_more c.loop-at.invariant c.loop-at-test.true
    c.args.changes.sound.bytes
    c.noted-place.ensures c.size_at.ensures.0 c.put_added.auto.out
    c.in_ok-used.ensures

pub returns : goal.returns
returns c = added_end c.loop-at.invariant c.loop-at-test.false
