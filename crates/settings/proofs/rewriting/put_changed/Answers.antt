-- `settings::rewriting::put_changed` meets its contract, by the laws of this crate that it names.
-- Assumes nothing.
use native.Mathlib.Omega.{arith}
use Rattle.settings.proofs.Puts.{puts_first, puts-second}
use Prim.Native.Nat.{◌-◌}
use Rattle.taggedfields.specs.Looking.{bytes_at}
use borrow.Author.Rules.{rules}
use Rattle.settings.proofs.rewriting.put_changed.Goals as goal

pub returns-then-place-eq0 : goal.returns-then-place-eq0
returns-then-place-eq0 c = puts_first (bytes_at c.args.changes.now
    (c.args.place - 1)) c.if-place-eq0.true c.put_field.ensures

pub put_field-requires-2 : goal.put_field-requires-2
put_field-requires-2 c = (c.requires.1 (omega (arith, c.if-place-eq0.false)), search rules, search rules)

pub returns : goal.returns
returns c = puts-second (bytes_at c.args.file.now
    c.args.at) c.if-place-eq0.false c.put_field-2.ensures
