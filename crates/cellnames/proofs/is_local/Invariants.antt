-- Carried by `Along`: the names that are left tell the same. Assumes nothing.
use Rattle.cellnames.proofs.Groups.{Along, asks, answer}
use Rattle.writecheck.specs.Looking.{lent_of}
use Rattle.grammar.specs.Fields.{contents}
use Rattle.cellnames.proofs.is_local.Given as goal

abbrev pub invariant-loop-i : goal.invariant-loop-i
invariant-loop-i l =
    let t = lent_of l.lent in
    let name = contents l.lent.input.now l.own.place l.own.size in
    Along t (record { first = l.initial.e; count = l.count; kinds = l.kinds }) (asks t name) (answer t name (record { first = l.initial.e; count = l.count; kinds = l.kinds })) l.i l.e
