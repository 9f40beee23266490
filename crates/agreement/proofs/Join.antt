-- One answer for each call of the functions of `join`: answer and output, by an equation each.
use Rattle.join.proofs as join
use Rattle.join.specs.contracts as join_contracts
use Rattle.agreement.specs.Agreement.{Agree}
use Rattle.agreement.proofs.Same.{one}
use mathlib.Core.Path.{refl}

pub line_after-agrees : Agree join_contracts.line_after.ended join.line_after.Reads.Asked join.line_after.Reads.Learnt
line_after-agrees κs a asked r r' ws ws' p p' = (one p p', refl)

pub join-tables-agrees : Agree join_contracts.join_tables.ended join.join_tables.Reads.Asked join.join_tables.Reads.Learnt
join-tables-agrees κs a asked r r' ws ws' p p' = (one p.0 p'.0, λ i. (tt, (tt, (tt, (tt, (tt, (tt, (one p.1 p'.1 i, tt))))))))
