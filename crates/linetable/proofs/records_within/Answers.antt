-- `linetable::records_within` meets its contract: 14, then 17 at the smaller capacity, then the walk.
use mathlib.Core.Path.{◌≡◌, ◌∙◌, ap}
use native.Mathlib.Omega.{arith}
use mir.Syntax.{w32}
use mir.Val.{of_z}
use mir.Facts.{to_z-of_z}
use Rattle.std.specs.Prelude.{Err}
use Rattle.refusals.specs.declared.Refusal.TheVariants.{InputTooLong, NoRoom}
use Rattle.lineentry.specs.Line.{as_signed}
use Rattle.linetable.specs.Answer.{first_line_of}
use Rattle.linetable.proofs.Outcomes.{ends_zero, located-long, located-short, ends-walk}
use Rattle.linetable.proofs.records_within.Goals as goal

pub returns-then-table : goal.returns-then-table
returns-then-table c = ends_zero _ InputTooLong (located-long _ _ _ _ c.if-table.true) (c.refuse.ensures.0 ∙ ap Err c.at.ensures, c.refuse.ensures.1)

pub returns-then-room-count : goal.returns-then-room-count
returns-then-room-count c = ends_zero _ NoRoom (located-short _ _ _ _ _ c.if-table.false c.min-room.ensures c.if-room-count.true) (c.refuse-then-room-count.ensures.0 ∙ ap Err c.at-then-room-count.ensures, c.refuse-then-room-count.ensures.1)

pub returns : goal.returns
returns c =
    let a = c.args in
    let first : c.as_signed-first.result ≡ first_line_of a.first_line = c.as_signed-first.ensures ∙ ap as_signed (c.bits32.ensures ∙ ap (of_z w32) (to_z-of_z c.ranges.first_line)) in
    ends-walk _ _ _ _ _ _ c.if-table.false (omega (arith, c.min-room.ensures)) first c.walk_entries.ensures
