-- A byte of the input, or none. Assumes nothing.
use mathlib.Core.Path.{sym, ap}
use native.Mathlib.Omega.{arith}
use lib.ListN.{get_or-eq_default}
use Rattle.grammar.specs.Letters.{flag_of}
use Rattle.nodespan.proofs.flag_at.Goals as goal

pub returns-then-s-at : goal.returns-then-s-at
returns-then-s-at c = (sym (ap flag_of (get_or-eq_default c.args.s.now 0 c.if-s-at.true)), omega arith)
