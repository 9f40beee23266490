-- `lineentry::short::short_of` meets its contract by what its callees ensure.
use mathlib.Core.Path.{refl}
use Rattle.lineentry.specs.Short.{short_of}
use Rattle.lineentry.proofs.short.short_of.Goals as goal

pub returns : goal.returns
unfolding short_of
returns c = (rw (c.after-next.ensures.0, c.upper.ensures.0, c.one_byte-more.ensures, c.one_byte-one.ensures) refl, c.after-next.ensures.1)
