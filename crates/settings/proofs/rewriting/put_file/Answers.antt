-- `settings::rewriting::put_file` meets its contract, by the laws of this crate that it names.
-- Assumes nothing.
use mathlib.Core.Path.{◌∙◌}
use native.Mathlib.Omega.{arith}
use Rattle.settings.proofs.Loops.{kept_start, kept_whole, kept_more, kept_short, kept_end, place-whole}
use borrow.Author.Rules.{rules}
use Rattle.settings.proofs.rewriting.put_file.Goals as goal

pub loop-at-init : goal.loop-at-init
loop-at-init c = kept_start c.args.own.sound.clean

pub put_changed-requires : goal.put_changed-requires
put_changed-requires c = (
  kept_whole c.loop-at.invariant c.loop-at-test.true,
  place-whole _ _ _ c.noted-place.ensures,
  search rules,
  search rules,
)

pub size_at-requires : goal.size_at-requires
size_at-requires c = let w = kept_whole c.loop-at.invariant c.loop-at-test.true in omega (arith, w)

pub returns-in_err-used : goal.returns-in_err-used
returns-in_err-used c = rw c.from_residual.ensures (kept_short c.loop-at.invariant c.loop-at-test.true
    c.args.own.sound.bytes
    c.args.changes.sound.bytes
    c.noted-place.ensures c.in_err-used.ensures)

pub loop-at-preserved : goal.loop-at-preserved
loop-at-preserved c = kept_more c.loop-at.invariant c.loop-at-test.true
    c.args.own.sound.bytes
    c.args.changes.sound.bytes
    c.noted-place.ensures c.size_at.ensures.0 c.put_changed.auto.out
    c.in_ok-used.ensures

pub returns : goal.returns
returns c = kept_end c.loop-at.invariant c.loop-at-test.false
