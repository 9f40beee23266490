-- One answer for each call of the functions of `exceptiontable`: answer and store by one equation.
use Rattle.exceptiontable.proofs as exceptiontable
use Rattle.exceptiontable.specs.contracts as exceptiontable_contracts
use Rattle.agreement.specs.Agreement.{Agree}
use Rattle.agreement.proofs.Same.{one}

pub decode_exception_table_agrees : Agree exceptiontable_contracts.decode_exception_table.ended exceptiontable.decode_exception_table.Reads.Asked exceptiontable.decode_exception_table.Reads.Learnt
decode_exception_table_agrees κs a asked r r' ws ws' p p' = (λ i. (one p p' i).0, λ i. (tt, ((one p p' i).1, tt)))

pub encode_exception_table_agrees : Agree exceptiontable_contracts.encode_exception_table.ended exceptiontable.encode_exception_table.Reads.Asked exceptiontable.encode_exception_table.Reads.Learnt
encode_exception_table_agrees κs a asked r r' ws ws' p p' = (λ i. (one p p' i).0, λ i. (tt, ((one p p' i).1, tt)))
