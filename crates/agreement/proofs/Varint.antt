-- One answer for each call of the functions of `varint`: answer and store, or the answer alone, by one equation.
use mathlib.Core.Path.{refl}
use Rattle.varint.proofs as varint
use Rattle.varint.specs.contracts as varint_contracts
use Rattle.agreement.specs.Agreement.{Agree}
use Rattle.agreement.proofs.Same.{one}

pub write_varint_agrees : Agree varint_contracts.write_varint.ended varint.write_varint.Reads.Asked varint.write_varint.Reads.Learnt
write_varint_agrees κs a asked r r' ws ws' p p' = (λ i. (one p p' i).0, λ i. ((one p p' i).1, (tt, tt)))

pub write_signed_varint_agrees : Agree varint_contracts.write_signed_varint.ended varint.write_signed_varint.Reads.Asked varint.write_signed_varint.Reads.Learnt
write_signed_varint_agrees κs a asked r r' ws ws' p p' = (λ i. (one p p' i).0, λ i. ((one p p' i).1, (tt, tt)))

pub write_varint_be_agrees : Agree varint_contracts.write_varint_be.ended varint.write_varint_be.Reads.Asked varint.write_varint_be.Reads.Learnt
write_varint_be_agrees κs a asked r r' ws ws' p p' = (λ i. (one p p' i).0, λ i. ((one p p' i).1, (tt, tt)))

pub write_varint_with_start_agrees : Agree varint_contracts.write_varint_with_start.ended varint.write_varint_with_start.Reads.Asked varint.write_varint_with_start.Reads.Learnt
write_varint_with_start_agrees κs a asked r r' ws ws' p p' = (λ i. (one p p' i).0, λ i. ((one p p' i).1, (tt, tt)))

pub byte-count-agrees : Agree varint_contracts.byte_count.ended varint.byte_count.Reads.Asked varint.byte_count.Reads.Learnt
byte-count-agrees κs a asked r r' ws ws' p p' = (one p.0 p'.0, refl)

pub put_varint_be_agrees : Agree varint_contracts.put_varint_be.ended varint.put_varint_be.Reads.Asked varint.put_varint_be.Reads.Learnt
put_varint_be_agrees κs a asked r r' ws ws' p p' = (one p.0 p'.0, λ i. (one p.1 p'.1 i, (tt, (tt, tt))))

pub put_varint_with_start_agrees : Agree varint_contracts.put_varint_with_start.ended varint.put_varint_with_start.Reads.Asked varint.put_varint_with_start.Reads.Learnt
put_varint_with_start_agrees κs a asked r r' ws ws' p p' = (one p.0 p'.0, λ i. (one p.1 p'.1 i, (tt, (tt, tt))))
