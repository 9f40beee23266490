-- One answer for each call of the functions of `wtf8`: the truth value, by an equation.
use mathlib.Core.Path.{refl}
use Rattle.wtf8.proofs as wtf8
use Rattle.wtf8.specs.contracts as wtf8_contracts
use Rattle.agreement.specs.Agreement.{Agree}
use Rattle.agreement.proofs.Same.{one}

pub is_wtf8_agrees : Agree wtf8_contracts.is_wtf8.ended wtf8.is_wtf8.Reads.Asked wtf8.is_wtf8.Reads.Learnt
is_wtf8_agrees κs a asked r r' ws ws' p p' = (one p p', refl)

pub is_wtf8_by_table_agrees : Agree wtf8_contracts.is_wtf8_by_table.ended wtf8.is_wtf8_by_table.Reads.Asked wtf8.is_wtf8_by_table.Reads.Learnt
is_wtf8_by_table_agrees κs a asked r r' ws ws' p p' = (one p p', refl)
