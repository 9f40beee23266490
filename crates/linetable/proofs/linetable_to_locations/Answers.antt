-- `linetable::linetable_to_locations` meets its contract: the locations of the records are those of the reading (proofs/Layer).
use Rattle.std.proofs.Common.{length}
use mir.Facts.{to_z-of_z}
use Rattle.linetable.specs.Answer.{first_line_of}
use Rattle.linetable.proofs.Layer.{layered}
use Rattle.linetable.proofs.linetable_to_locations.Goals as goal

pub returns : goal.returns
returns c =
    let a = c.args in
    let e = simp (to_z-of_z c.ranges.first_line) at c.records_within-r.ensures in
    (e.0, e.1, layered a.table.now (first_line_of a.first_line) a.count (length a.flat.now) (length a.out.now) e.1 c.fill_locations.ensures)
