-- One answer for each call that puts a code string: as for every put, the answer, and where it accepts the output.
use Rattle.outputtext.proofs as outputtext
use Rattle.outputtext.specs.contracts as outputtext_contracts
use Rattle.agreement.specs.Agreement.{AgreeAs}
use Rattle.agreement.specs.Partly.{WhereDone}
use Rattle.agreement.proofs.Output.{puts_one}

pub write_marshal_str_agrees : AgreeAs outputtext_contracts.write_marshal_str.ended (λ κs a. WhereDone) outputtext.write_marshal_str.Reads.Asked outputtext.write_marshal_str.Reads.Learnt
write_marshal_str_agrees κs a asked r r' ws ws' p p' = ((puts_one r r' p p').0, λ done i. ((puts_one r r' p p').1 done i, (tt, (tt, tt))))
