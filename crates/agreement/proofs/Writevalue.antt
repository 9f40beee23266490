-- One answer for each call of the functions of `writevalue`: as of `puts`, the answer, and the output where it accepts.
use Rattle.writevalue.proofs as writevalue
use Rattle.writevalue.specs.contracts as writevalue_contracts
use Rattle.agreement.specs.Agreement.{AgreeAs}
use Rattle.agreement.specs.Partly.{WhereDone}
use Rattle.agreement.proofs.Output.{puts_one}

pub write_value-agrees : AgreeAs writevalue_contracts.write_value.ended (λ κs a. WhereDone) writevalue.write_value.Reads.Asked writevalue.write_value.Reads.Learnt
write_value-agrees κs a asked r r' ws ws' p p' = ((puts_one r r' p p').0, λ done i. (tt, ((puts_one r r' p p').1 done i, (tt, (tt, (tt, tt))))))
