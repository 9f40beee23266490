-- By the letter. Assumes nothing.
use Rattle.grammar.specs.Letters.{is_bytes}
use mathlib.Core.Path.{sym, ap}
use Rattle.chains.proofs.is_bytes.Goals as goal

pub returns-in-115 : goal.returns-in-115
returns-in-115 c = sym (ap is_bytes c.in-115.is)
