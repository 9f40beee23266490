-- `wtf8::sequence` meets its contract: Table 3-7 by ranges of the first byte.
-- Assumes nothing.
use borrow.Author.Rules.{rules}
use Rattle.wtf8.proofs.Reached.{no_lead}
use Rattle.wtf8.proofs.Leads.{stray, leads_two, leads_three, leads_four, beyond}
use Rattle.wtf8.proofs.sequence.Goals as goal

pub returns-then-lead-lt194 : goal.returns-then-lead-lt194
returns-then-lead-lt194 c =
    no_lead c.requires (stray c.if-lead-lt128.false c.if-lead-lt194.true)

pub two-requires : goal.two-requires
two-requires c = (search rules, leads_two c.if-lead-lt194.false c.if-lead-lt224.true)

pub three-requires : goal.three-requires
three-requires c = (search rules, leads_three c.if-lead-lt224.false c.if-lead-lt240.true c.low_after.ensures)

pub four-requires : goal.four-requires
four-requires c = (search rules, leads_four c.if-lead-lt240.false c.if-lead-lt245.true c.low_after-then-lead-lt245.ensures c.high_after.ensures)

pub returns : goal.returns
returns c =
    no_lead c.requires (beyond c.if-lead-lt245.false)
