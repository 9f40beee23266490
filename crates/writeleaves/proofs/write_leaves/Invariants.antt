-- Carried by `Rowing`: the children that are left are still to come, and none that was done is done again. Assumes nothing.
use Rattle.underway.proofs.Under.{Rowing}
use Rattle.writeleaves.specs.Leaves.{row_from}
use Rattle.writecheck.specs.Looking.{lent_of}
use Rattle.writing.specs.Steps.{writing}
use Prim.Native.Nat.{◌≤◌}
use Rattle.writeleaves.proofs.write_leaves.Given as goal

abbrev pub invariant-loop-i : goal.invariant-loop-i
invariant-loop-i l =
    let t = lent_of l.values.lent in
    Rowing t (writing l.allowance t) (λ vs. Unit) l.count l.initial.out l.initial.at (row_from t l.allowance l.count l.first l.done) l.out l.i l.entry l.at × (l.done ≤ l.i)
