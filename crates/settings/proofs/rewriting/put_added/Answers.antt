-- `settings::rewriting::put_added` meets its contract, by the laws of this crate that it names.
-- Assumes nothing.
use Rattle.settings.proofs.Puts.{puts_first, puts-second, puts-nothing}
use mathlib.Core.List.{[]}
use Rattle.taggedfields.specs.Looking.{bytes_at}
use Rattle.settings.proofs.rewriting.put_added.Goals as goal

pub returns-then-place-eq0 : goal.returns-then-place-eq0
returns-then-place-eq0 c = puts_first [] c.if-place-eq0.true c.put_field.ensures

pub returns : goal.returns
returns c = puts-second (bytes_at c.args.changes.now c.args.at) c.if-place-eq0.false (puts-nothing c.requires.1)
