-- Carried by `Grouping`: the names that are left still come to the same answer and the same count. Assumes nothing.
use Rattle.writenames.proofs.Naming.{Grouping}
use Rattle.writecheck.specs.Looking.{lent_of}
use Rattle.writing.specs.Steps.{string_part}
use Rattle.writenames.proofs.write_group.Given as goal

abbrev pub invariant-loop-i : goal.invariant-loop-i
invariant-loop-i l =
    let t = lent_of l.lent in Grouping t l.locals l.bit (string_part t l.allowance) l.counted l.initial.out l.at l.out l.i l.entry l.end l.n
