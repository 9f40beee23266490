-- `piecestate::sound_going` meets its contract: each test decides a case of the definition.
use mathlib.Core.Path.{sym, ap, ◌∙◌}
use borrow.Author.Tests.{lt-ltb, le-ltb, eq-eqb, ne_eqb}
use Rattle.piecestate.specs.State.{open_entry, sound_going}
use Rattle.piecestate.proofs.Stores.{part_held}
use Rattle.piecestate.proofs.sound_going.Goals as goal

pub returns-then-not-is_counted : goal.returns-then-not-is_counted
unfolding sound_going
returns-then-not-is_counted c = rw (sym c.is_counted.ensures ∙ c.if-not-is_counted.true)

pub returns-then-k-gt-MOST_HELD : goal.returns-then-k-gt-MOST_HELD
unfolding sound_going
returns-then-k-gt-MOST_HELD c = rw (sym c.is_counted.ensures ∙ c.if-not-is_counted.false, lt-ltb _ _ c.if-k-gt-MOST_HELD.true)

pub returns-then-k : goal.returns-then-k
unfolding sound_going
returns-then-k c = rw (sym c.is_counted.ensures ∙ c.if-not-is_counted.false, le-ltb _ _ c.if-k-gt-MOST_HELD.false, lt-ltb _ _ c.if-k.true)

pub returns-then-k-2 : goal.returns-then-k-2
unfolding sound_going
returns-then-k-2 c = rw (sym c.is_counted.ensures ∙ c.if-not-is_counted.false, le-ltb _ _ c.if-k-gt-MOST_HELD.false, le-ltb _ _ c.if-k.false, lt-ltb _ _ c.if-k-2.true)

pub returns-then-k-eq0 : goal.returns-then-k-eq0
unfolding sound_going
returns-then-k-eq0 c = rw (sym c.is_counted.ensures ∙ c.if-not-is_counted.false, le-ltb _ _ c.if-k-gt-MOST_HELD.false, le-ltb _ _ c.if-k.false, le-ltb _ _ c.if-k-2.false, eq-eqb _ _ c.if-k-eq0.true)

pub returns : goal.returns
unfolding sound_going
returns c = rw (sym c.is_counted.ensures ∙ c.if-not-is_counted.false, le-ltb _ _ c.if-k-gt-MOST_HELD.false, le-ltb _ _ c.if-k.false, le-ltb _ _ c.if-k-2.false, ne_eqb _ _ c.if-k-eq0.false) (c.open_held.ensures ∙ ap (λ h. open_entry h c.args.k.line) (part_held c.args.state.now c.args.k.size))
