-- `refusal_of` knows the three refusals of a letter.
-- Assumes nothing.
use borrow.Author.Tests.{ne_eqb}
use mathlib.Core.Path.{refl}
use Rattle.fields.proofs.refusal_of.Goals as goal

pub returns-in-18 : goal.returns-in-18
returns-in-18 c = rw c.in-18.is refl

pub returns-in-29 : goal.returns-in-29
returns-in-29 c = rw c.in-29.is refl

pub returns-in_default : goal.returns-in_default
returns-in_default c =
    let other = c.in_default.in_default-own.rest in
    rw (ne_eqb c.args.class 18 other.0.1, ne_eqb c.args.class 29 other.1) refl
