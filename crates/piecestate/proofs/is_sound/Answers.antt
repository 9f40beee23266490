-- `piecestate::is_sound` meets its contract: each test decides a case of the definition.
use borrow.Author.Tests.{eq-eqb, ne_eqb}
use Rattle.piecestate.specs.State.{sound_by}
use Rattle.piecestate.proofs.is_sound.Goals as goal

pub returns-then-k : goal.returns-then-k
unfolding sound_by
returns-then-k c = rw (eq-eqb _ _ c.if-k.true) c.sound_going.ensures

pub returns-then-k-2 : goal.returns-then-k-2
unfolding sound_by
returns-then-k-2 c = rw (ne_eqb _ _ c.if-k.false, eq-eqb _ _ c.if-k-2.true) c.is_counted.ensures

pub returns-then-k-3 : goal.returns-then-k-3
unfolding sound_by
returns-then-k-3 c = rw (ne_eqb _ _ c.if-k.false, ne_eqb _ _ c.if-k-2.false, eq-eqb _ _ c.if-k-3.true) c.kept_refusal.ensures

pub returns : goal.returns
unfolding sound_by
returns c = rw (ne_eqb _ _ c.if-k.false, ne_eqb _ _ c.if-k-2.false, ne_eqb _ _ c.if-k-3.false)
