-- By the letter. Assumes nothing.
use Rattle.grammar.specs.Letters.{is_tuple}
use mathlib.Core.Path.{sym, ap}
use Rattle.chains.proofs.is_tuple.Goals as goal

pub returns-in-40 : goal.returns-in-40
returns-in-40 c = sym (ap is_tuple c.in-40.is)

pub returns-in-41 : goal.returns-in-41
returns-in-41 c = sym (ap is_tuple c.in-41.is)
