-- One answer for each call of the functions of `salvage`: the list and the output, by an equation each.
use mathlib.Core.Path.{refl}
use Rattle.salvage.proofs as salvage
use Rattle.salvage.specs.contracts as salvage_contracts
use Rattle.agreement.specs.Agreement.{Agree}
use Rattle.agreement.proofs.Same.{one}

pub salvage_table_agrees : Agree salvage_contracts.salvage_table.ended salvage.salvage_table.Reads.Asked salvage.salvage_table.Reads.Learnt
salvage_table_agrees κs a asked r r' ws ws' p p' = (one p.0 p'.0, λ i. (tt, (tt, (tt, (one p.1 p'.1 i, tt)))))

pub short-place-agrees : Agree salvage_contracts.short_place.ended salvage.short_place.Reads.Asked salvage.short_place.Reads.Learnt
short-place-agrees κs a asked r r' ws ws' p p' = (one p p', refl)
