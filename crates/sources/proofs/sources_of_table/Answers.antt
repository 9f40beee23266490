-- `sources::sources_of_table` meets its contract: 14, then 17 at the bytes lent, then the walk.
-- Assumes nothing.
use mathlib.Core.Path.{◌≡◌, ◌∙◌, ap}
use mir.Syntax.{w32}
use mir.Val.{of_z}
use mir.Facts.{to_z-of_z}
use Rattle.lineentry.specs.Line.{as_signed}
use Rattle.linetable.specs.Answer.{first_line_of}
use Rattle.sources.proofs.Going.{ends_zero, sources-long, sources-short, ends-walk}
use Rattle.sources.proofs.sources_of_table.Goals as goal

pub returns-then-table : goal.returns-then-table
returns-then-table c = ends_zero _ (sources-long _ _ _ _ c.if-table.true) c.refuse.ensures

pub returns-then-bytes-count : goal.returns-then-bytes-count
returns-then-bytes-count c = ends_zero _ (sources-short _ _ _ _ c.if-table.false c.if-bytes-count.true) c.refuse-then-bytes-count.ensures

pub returns : goal.returns
returns c =
    let first : c.as_signed-first.result ≡ first_line_of c.args.first_line = c.as_signed-first.ensures ∙ ap as_signed (c.bits32.ensures ∙ ap (of_z w32) (to_z-of_z c.ranges.first_line)) in
    ends-walk _ _ _ _ _ _ c.if-table.false c.if-bytes-count.false first c.walk_marks.ensures
