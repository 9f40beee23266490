-- One answer for each call of the functions of `writeleaves`: as of `puts`, the answer, and the output where it accepts.
-- `write_leaves` has none: how many leaves it takes is open (docs/EXCEPTIONS.md).
use Rattle.writeleaves.proofs as writeleaves
use Rattle.writeleaves.specs.contracts as writeleaves_contracts
use Rattle.agreement.specs.Agreement.{AgreeAs}
use Rattle.agreement.specs.Partly.{WhereDone}
use Rattle.agreement.proofs.Output.{puts_one}

pub write_bytes-agrees : AgreeAs writeleaves_contracts.write_bytes.ended (λ κs a. WhereDone) writeleaves.write_bytes.Reads.Asked writeleaves.write_bytes.Reads.Learnt
write_bytes-agrees κs a asked r r' ws ws' p p' = ((puts_one r r' p p').0, λ done i. (tt, ((puts_one r r' p p').1 done i, (tt, (tt, (tt, tt))))))
