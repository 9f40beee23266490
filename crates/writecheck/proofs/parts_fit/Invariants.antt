-- Carried by `Fitting`: the parts that are left still tell the same. Assumes nothing.
use Rattle.writecheck.proofs.Codes.{Fitting}
use Rattle.writecheck.specs.Looking.{lent_of}
use Rattle.writecheck.proofs.parts_fit.Given as goal

abbrev pub invariant-loop-part : goal.invariant-loop-part
invariant-loop-part l = Fitting (lent_of l.values.lent) l.first l.part l.e
