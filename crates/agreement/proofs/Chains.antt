-- One answer for each call of the functions of `chains`: the answer, by an equation.
use mathlib.Core.Path.{refl}
use Rattle.chains.proofs as chains
use Rattle.chains.specs.contracts as chains_contracts
use Rattle.agreement.specs.Agreement.{Agree}
use Rattle.agreement.proofs.Same.{one}

pub linked-agrees : Agree chains_contracts.linked.ended chains.linked.Reads.Asked chains.linked.Reads.Learnt
linked-agrees κs a asked r r' ws ws' p p' = (one p p', refl)

pub is_tuple-agrees : Agree chains_contracts.is_tuple.ended chains.is_tuple.Reads.Asked chains.is_tuple.Reads.Learnt
is_tuple-agrees κs a asked r r' ws ws' p p' = (one p p', refl)

pub is_string-agrees : Agree chains_contracts.is_string.ended chains.is_string.Reads.Asked chains.is_string.Reads.Learnt
is_string-agrees κs a asked r r' ws ws' p p' = (one p p', refl)

pub string_at-agrees : Agree chains_contracts.string_at.ended chains.string_at.Reads.Asked chains.string_at.Reads.Learnt
string_at-agrees κs a asked r r' ws ws' p p' = (one p p', refl)

pub bytes_at-agrees : Agree chains_contracts.bytes_at.ended chains.bytes_at.Reads.Asked chains.bytes_at.Reads.Learnt
bytes_at-agrees κs a asked r r' ws ws' p p' = (one p p', refl)
