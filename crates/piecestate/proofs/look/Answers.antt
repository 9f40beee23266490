-- `piecestate::look` meets its contract: each test decides a case of the definition.
use mathlib.Core.Path.{sym, ap, ◌∙◌}
use borrow.Author.Tests.{lt-ltb, le-ltb, eq-eqb, ne_eqb}
use Rattle.refusals.specs.Faults.{fault}
use Rattle.piecestate.specs.declared.Gate.TheVariants.{Shut, Stuck}
use Rattle.piecestate.specs.Answers.{gate}
use Rattle.piecestate.proofs.look.Goals as goal

pub returns-then-not-is_sound : goal.returns-then-not-is_sound
unfolding gate
returns-then-not-is_sound c = rw (sym c.is_sound.ensures ∙ c.if-not-is_sound.true) (ap Shut c.at.ensures)

pub returns-then-k : goal.returns-then-k
unfolding gate
returns-then-k c = rw (sym c.is_sound.ensures ∙ c.if-not-is_sound.false, eq-eqb _ _ c.if-k.true) (ap Shut (c.at-then-k.ensures ∙ ap (λ why. fault why c.args.k.place) c.kept_why.ensures))

pub returns-then-k-2 : goal.returns-then-k-2
unfolding gate
returns-then-k-2 c = rw (sym c.is_sound.ensures ∙ c.if-not-is_sound.false, ne_eqb _ _ c.if-k.false, eq-eqb _ _ c.if-k-2.true) (ap Shut c.at-then-k-2.ensures)

pub returns-then-room-k : goal.returns-then-room-k
unfolding gate
returns-then-room-k c = rw (sym c.is_sound.ensures ∙ c.if-not-is_sound.false, ne_eqb _ _ c.if-k.false, ne_eqb _ _ c.if-k-2.false, lt-ltb _ _ c.if-room-k.true) (ap Stuck c.at-then-room-k.ensures)

pub returns : goal.returns
unfolding gate
returns c = rw (sym c.is_sound.ensures ∙ c.if-not-is_sound.false, ne_eqb _ _ c.if-k.false, ne_eqb _ _ c.if-k-2.false, le-ltb _ _ c.if-room-k.false)
