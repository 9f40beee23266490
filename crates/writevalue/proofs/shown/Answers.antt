-- By the sign. Assumes nothing.
use borrow.Author.Tests.{lt-ltb, le-ltb}
use native.Mathlib.Omega.{arith}
use mathlib.Core.Bool.{cond}
use mathlib.Core.Path.{sym, ap}
use Rattle.writevalue.proofs.shown.Goals as goal

pub returns-then-line-lt2147483648 : goal.returns-then-line-lt2147483648
returns-then-line-lt2147483648 c = sym (ap (λ b. cond b c.args.line 0) (lt-ltb c.args.line 2147483648 (omega arith)))

pub returns : goal.returns
returns c = sym (ap (λ b. cond b c.args.line 0) (le-ltb c.args.line 2147483648 (omega arith)))
