-- `lostentry::may_heal` meets its contract: the laws of proofs/Told.
use mathlib.Core.Path.{refl, sym, ◌∙◌}
use borrow.Author.Tests.{eqb-true, ne_eqb}
use Rattle.lostentry.proofs.Told.{heal_none, heal_14, heal_other}
use Rattle.lostentry.proofs.may_heal.Goals as goal

pub returns-then-is_empty : goal.returns-then-is_empty
returns-then-is_empty c = heal_none c.args.held.now c.args.line (eqb-true _ _ (sym c.is_empty.ensures ∙ c.if-is_empty.true))

pub returns-then-held-eq14 : goal.returns-then-held-eq14
returns-then-held-eq14 c = heal_14 _ _ refl c.if-held-eq14.true c.end_open.ensures

pub returns-else-held-eq14 : goal.returns-else-held-eq14
returns-else-held-eq14 c = ne_eqb _ _ c.if-held-eq14.false ∙ heal_other c.args.held.now c.args.line refl c.if-held-eq14.false
