-- `settings::rewriting::put` meets its contract: the bytes do not fit, or they stand behind those that are written.
-- Assumes nothing.
use mathlib.Core.Path.{◌∙◌}
use native.Mathlib.Omega.{arith}
use Rattle.taggedfields.proofs.Stored.{put_mid-sets}
use Rattle.settings.proofs.Puts.{puts_none, puts-bytes}
use Rattle.settings.proofs.rewriting.put.Goals.{then-room-used-via-then-room-used, then-room-used-via-else-room-used+then-room-used-2}
use Rattle.settings.proofs.rewriting.put.Goals as goal

pub returns-then-room-used : goal.returns-then-room-used
returns-then-room-used c = puts_none (elim c.then-room-used.branch [ then-room-used-via-then-room-used w ↦ omega (arith, w.if-room-used) | then-room-used-via-else-room-used+then-room-used-2 w ↦ omega (arith, w.if-room-used, w.if-room-used-2) ])

pub returns : goal.returns
returns c = puts-bytes c.args.bytes.now c.if-room-used.false c.if-room-used-2.false
    (rw c.copy_bytes.ensures (put_mid-sets c.args.out.now c.args.bytes.now c.args.used _ (omega (arith, c.requires.0, c.if-room-used.false, c.if-room-used-2.false)) (omega arith)))
