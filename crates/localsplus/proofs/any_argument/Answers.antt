-- `localsplus::any_argument` meets its contract: what is left of the list says as much as the whole on whether all are nothing.
-- Assumes nothing.
use mathlib.Core.Path.{sym, ◌∙◌}
use Rattle.localsplus.specs.Lists.{all_nothing}
use Rattle.localsplus.proofs.Turns.{argument_some, argument_none, arguments_end}
use Rattle.localsplus.proofs.any_argument.Goals as goal

pub returns-then-argument_of : goal.returns-then-argument_of
returns-then-argument_of c = rw (c.loop-i.invariant, argument_some _ _ c.loop-i-test.true _ (λ e. c.if-argument_of.true (c.argument_of.ensures ∙ e)))

pub loop-i-preserved : goal.loop-i-preserved
loop-i-preserved c = c.loop-i.invariant ∙ argument_none _ _ c.loop-i-test.true _ (sym c.argument_of.ensures ∙ c.if-argument_of.false)

pub returns : goal.returns
unfolding all_nothing
returns c = rw (c.loop-i.invariant, arguments_end _ _ c.loop-i-test.false _)
