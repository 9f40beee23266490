-- One answer for each call of the functions of `clearing`: the store, by an equation.
use mathlib.Core.Path.{refl}
use Rattle.clearing.proofs as clearing
use Rattle.clearing.specs.contracts as clearing_contracts
use Rattle.agreement.specs.Agreement.{Agree}
use Rattle.agreement.proofs.Same.{one}

pub clear_bytes-agrees : Agree clearing_contracts.clear_bytes.ended clearing.clear_bytes.Reads.Asked clearing.clear_bytes.Reads.Learnt
clear_bytes-agrees κs a asked r r' ws ws' p p' = (refl, λ i. (one p p' i, tt))

pub clear_words-agrees : Agree clearing_contracts.clear_words.ended clearing.clear_words.Reads.Asked clearing.clear_words.Reads.Learnt
clear_words-agrees κs a asked r r' ws ws' p p' = (refl, λ i. (one p p' i, tt))
