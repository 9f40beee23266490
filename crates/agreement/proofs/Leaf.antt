-- One answer for each call of the functions of `leaf`: the answer, by an equation.
use mathlib.Core.Path.{refl}
use Rattle.grammar.proofs.Numbered.{numbered_injective}
use Rattle.leaf.proofs as leaf
use Rattle.leaf.specs.contracts as leaf_contracts
use Rattle.agreement.specs.Agreement.{Agree}
use Rattle.agreement.proofs.Same.{one}

pub kind_of-agrees : Agree leaf_contracts.kind_of.ended leaf.kind_of.Reads.Asked leaf.kind_of.Reads.Learnt
kind_of-agrees κs a asked r r' ws ws' p p' = (one p p', refl)

pub float_of_agrees : Agree leaf_contracts.float_of.ended leaf.float_of.Reads.Asked leaf.float_of.Reads.Learnt
float_of_agrees κs a asked r r' ws ws' p p' = (one p p', refl)

pub leaf_of-agrees : Agree leaf_contracts.leaf_of.ended leaf.leaf_of.Reads.Asked leaf.leaf_of.Reads.Learnt
leaf_of-agrees κs a asked r r' ws ws' p p' = (numbered_injective r r' (one p p'), refl)
