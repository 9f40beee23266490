-- `decimals::put_decimal` meets its contract: at each turn the digits that stand and those to go in front are the number's.
-- Assumes nothing.
use mathlib.Core.Path.{refl, ◌∙◌}
use lib.ListN.{length-set}
use borrow.Author.Rules.{rules}
use Rattle.decimals.proofs.Putting.{put-start, put-turn, put_end}
use Rattle.decimals.proofs.put_decimal.Goals as goal

pub loop-i-init : goal.loop-i-init
loop-i-init c = put-start _ _ _ _ (search rules) (search rules)

pub loop-i-preserved : goal.loop-i-preserved
loop-i-preserved c = put-turn c.loop-i.invariant c.loop-i-test.true

pub shape_of-out : goal.shape_of-out
shape_of-out c = c.loop-i.invariant.same ∙ simp length-set

pub returns : goal.returns
returns c = (search rules, put_end c.loop-i.invariant _ _ refl (search rules) c.loop-i-test.false)
