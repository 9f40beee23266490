-- One answer for each call of the functions of `writenames`: as of `puts`, the answer, and the output where it accepts.
use Rattle.writenames.proofs as writenames
use Rattle.writenames.specs.contracts as writenames_contracts
use Rattle.agreement.specs.Agreement.{AgreeAs}
use Rattle.agreement.specs.Partly.{WhereDone}
use Rattle.agreement.proofs.Output.{puts_one}

pub write_string-agrees : AgreeAs writenames_contracts.write_string.ended (λ κs a. WhereDone) writenames.write_string.Reads.Asked writenames.write_string.Reads.Learnt
write_string-agrees κs a asked r r' ws ws' p p' = ((puts_one r r' p p').0, λ done i. (tt, ((puts_one r r' p p').1 done i, (tt, (tt, (tt, tt))))))

pub write_marshal_name_tuple-agrees : AgreeAs writenames_contracts.write_marshal_name_tuple.ended (λ κs a. WhereDone) writenames.write_marshal_name_tuple.Reads.Asked writenames.write_marshal_name_tuple.Reads.Learnt
write_marshal_name_tuple-agrees κs a asked r r' ws ws' p p' = ((puts_one r r' p p').0, λ done i. (tt, ((puts_one r r' p p').1 done i, (tt, (tt, (tt, tt))))))

pub write_locals-agrees : AgreeAs writenames_contracts.write_locals.ended (λ κs a. WhereDone) writenames.write_locals.Reads.Asked writenames.write_locals.Reads.Learnt
write_locals-agrees κs a asked r r' ws ws' p p' = ((puts_one r r' p p').0, λ done i. (tt, ((puts_one r r' p p').1 done i, (tt, (tt, (tt, (tt, tt)))))))
