-- One answer for each call that puts an integer: as for every put, the answer, and where it accepts the output.
use Rattle.outputlongs.proofs as outputlongs
use Rattle.outputlongs.specs.contracts as outputlongs_contracts
use Rattle.agreement.specs.Agreement.{AgreeAs}
use Rattle.agreement.specs.Partly.{WhereDone}
use Rattle.agreement.proofs.Output.{puts_one}

pub write_int64_agrees : AgreeAs outputlongs_contracts.write_int64.ended (λ κs a. WhereDone) outputlongs.write_int64.Reads.Asked outputlongs.write_int64.Reads.Learnt
write_int64_agrees κs a asked r r' ws ws' p p' = ((puts_one r r' p p').0, λ done i. ((puts_one r r' p p').1 done i, (tt, (tt, tt))))

pub write_pylong-agrees : AgreeAs outputlongs_contracts.write_pylong.ended (λ κs a. WhereDone) outputlongs.write_pylong.Reads.Asked outputlongs.write_pylong.Reads.Learnt
write_pylong-agrees κs a asked r r' ws ws' p p' = ((puts_one r r' p p').0, λ done i. ((puts_one r r' p p').1 done i, (tt, (tt, (tt, (tt, tt))))))
