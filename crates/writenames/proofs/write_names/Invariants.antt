-- Carried by `Rowing`: the names that are left are still to come. Assumes nothing.
use Rattle.writenames.proofs.Naming.{Texts}
use Rattle.underway.proofs.Under.{Rowing}
use Rattle.underway.specs.Rows.{kids_from}
use Rattle.writecheck.specs.Looking.{lent_of}
use Rattle.writing.specs.Steps.{string_part}
use Rattle.writing.specs.Writing.{each}
use Rattle.writenames.proofs.write_names.Given as goal

abbrev pub invariant-loop : goal.invariant-loop
invariant-loop l =
    let t = lent_of l.lent in
    Rowing t (string_part t l.allowance) (Texts t) l.count l.initial.out l.at (each (string_part t l.allowance) (kids_from t l.count l.first)) l.out l.counter l.entry l.end
