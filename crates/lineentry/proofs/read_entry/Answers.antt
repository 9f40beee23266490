-- `lineentry::read_entry` meets its contract: the tests on the first byte and on the code decide the case.
use borrow.Author.Tests.{lt-ltb, le-ltb, eq-eqb, ne_eqb}
use Rattle.lineentry.specs.Entry.{by_code, entry_of}
use Rattle.lineentry.proofs.read_entry.Goals as goal

pub returns-then-head-lt128 : goal.returns-then-head-lt128
unfolding entry_of by_code
returns-then-head-lt128 c = rw (← c.lt_byte-first.ensures, lt-ltb _ _ c.if-head-lt128.true)

pub returns-then-code-lt10 : goal.returns-then-code-lt10
unfolding entry_of by_code
returns-then-code-lt10 c = rw (← c.lt_byte-first.ensures, le-ltb _ _ c.if-head-lt128.false, lt-ltb _ _ c.if-code-lt10.true) c.short_form.ensures

pub returns-then-code-lt13 : goal.returns-then-code-lt13
unfolding entry_of by_code
returns-then-code-lt13 c = rw (← c.lt_byte-first.ensures, le-ltb _ _ c.if-head-lt128.false, le-ltb _ _ c.if-code-lt10.false, lt-ltb _ _ c.if-code-lt13.true) c.one_line.ensures

pub returns-then-code-eq13 : goal.returns-then-code-eq13
unfolding entry_of by_code
returns-then-code-eq13 c = rw (← c.lt_byte-first.ensures, le-ltb _ _ c.if-head-lt128.false, le-ltb _ _ c.if-code-lt10.false, le-ltb _ _ c.if-code-lt13.false, eq-eqb _ _ c.if-code-eq13.true) c.no_columns.ensures

pub returns-then-code-eq14 : goal.returns-then-code-eq14
unfolding entry_of by_code
returns-then-code-eq14 c = rw (← c.lt_byte-first.ensures, le-ltb _ _ c.if-head-lt128.false, le-ltb _ _ c.if-code-lt10.false, le-ltb _ _ c.if-code-lt13.false, ne_eqb _ _ c.if-code-eq13.false, eq-eqb _ _ c.if-code-eq14.true) c.long_form.ensures

pub returns : goal.returns
unfolding entry_of by_code
returns c = rw (c.at_line.ensures, ← c.lt_byte-first.ensures, le-ltb _ _ c.if-head-lt128.false, le-ltb _ _ c.if-code-lt10.false, le-ltb _ _ c.if-code-lt13.false, ne_eqb _ _ c.if-code-eq13.false, ne_eqb _ _ c.if-code-eq14.false)
