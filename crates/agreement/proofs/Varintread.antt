-- One answer for each call of the functions of `varintread`: the answer, by an equation.
use mathlib.Core.Path.{refl}
use Rattle.varintread.proofs as varintread
use Rattle.varintread.specs.contracts as varintread_contracts
use Rattle.agreement.specs.Agreement.{Agree}
use Rattle.agreement.proofs.Same.{one}

pub read_varint-agrees : Agree varintread_contracts.read_varint.ended varintread.read_varint.Reads.Asked varintread.read_varint.Reads.Learnt
read_varint-agrees κs a asked r r' ws ws' p p' = (one p p', refl)

pub read_varint_with_start-agrees : Agree varintread_contracts.read_varint_with_start.ended varintread.read_varint_with_start.Reads.Asked varintread.read_varint_with_start.Reads.Learnt
read_varint_with_start-agrees κs a asked r r' ws ws' p p' = (one p p', refl)
