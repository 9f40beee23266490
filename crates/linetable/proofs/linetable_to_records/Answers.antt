-- `linetable::linetable_to_records` meets its contract: its own capacity is the smaller of itself and itself.
use mathlib.Core.Path.{◌≡◌, ap}
use Prim.Native.Nat.{◌/◌, min}
use native.Mathlib.Omega.{arith}
use lib.ListN.{length}
use mir.Facts.{to_z-of_z}
use Rattle.linetable.specs.Answer.{first_line_of}
use Rattle.linetable.proofs.Outcomes.{ends_same}
use Rattle.linetable.proofs.linetable_to_records.Goals as goal

pub returns : goal.returns
returns c =
    let a = c.args in
    let n = length a.records.now in
    let own : min (n / 4) (n / 4) ≡ n / 4 = omega arith in
    ends_same a.table.now _ a.count _ _ _ _ (ap first_line_of (to_z-of_z c.ranges.first_line)) own c.records_within.ensures
