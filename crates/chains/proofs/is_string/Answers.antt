-- By the letter. Assumes nothing.
use Rattle.grammar.specs.Letters.{is_string}
use mathlib.Core.Path.{sym, ap}
use Rattle.chains.proofs.is_string.Goals as goal

pub returns-in-117 : goal.returns-in-117
returns-in-117 c = sym (ap is_string c.in-117.is)

pub returns-in-116 : goal.returns-in-116
returns-in-116 c = sym (ap is_string c.in-116.is)

pub returns-in-97 : goal.returns-in-97
returns-in-97 c = sym (ap is_string c.in-97.is)

pub returns-in-65 : goal.returns-in-65
returns-in-65 c = sym (ap is_string c.in-65.is)

pub returns-in-122 : goal.returns-in-122
returns-in-122 c = sym (ap is_string c.in-122.is)

pub returns-in-90 : goal.returns-in-90
returns-in-90 c = sym (ap is_string c.in-90.is)
