-- `settings::rewriting::put_all` meets its contract, by the laws of this crate that it names.
-- Assumes nothing.
use mathlib.Core.Path.{refl, subst}
use native.Mathlib.Omega.{arith}
use lib.ListN.{length}
use Rattle.std.specs.Prelude as rust
use Rattle.settings.specs.Rewriting.{rewritten}
use Rattle.settings.specs.Putting.{Puts}
use Rattle.settings.proofs.Whole.{all_fit, all_short}
use Rattle.settings.proofs.rewriting.put_all.Goals as goal

pub returns-in-Some : goal.returns-in-Some
returns-in-Some c =
    all_fit (rewritten c.args.own.file.now c.args.changes.file.now)
    (subst (λ o. Puts c.min-room.result 0 o (rewritten c.args.own.file.now c.args.changes.file.now) (rust.Some c.in-Some.used) c.put_both.new.out) c.requires c.in-Some.ensures)
    c.min-room.ensures (omega (arith, c.min-room.ensures)) refl

pub returns-in-None : goal.returns-in-None
returns-in-None c =
    rw (c.at.ensures, c.clear_bytes.ensures, c.put_both.auto.out)
    (all_short {len = length c.args.out.now} (rewritten c.args.own.file.now c.args.changes.file.now)
    (subst (λ o. Puts c.min-room.result 0 o (rewritten c.args.own.file.now c.args.changes.file.now) rust.None c.put_both.new.out) c.requires c.in-None.ensures)
    c.min-room.ensures (omega (arith, c.min-room.ensures)) refl)
