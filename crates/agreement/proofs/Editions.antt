-- One answer for each call of the functions of `editions`: an answer, and of a saving the output too, by one equation.
use mathlib.Core.Path.{refl}
use Rattle.editions.proofs as editions
use Rattle.editions.specs.contracts as editions_contracts
use Rattle.agreement.specs.Agreement.{Agree}
use Rattle.agreement.proofs.Same.{one}

pub find_edition-agrees : Agree editions_contracts.find_edition.ended editions.find_edition.Reads.Asked editions.find_edition.Reads.Learnt
find_edition-agrees κs a asked r r' ws ws' p p' = (one p p', refl)

pub save_edition_agrees : Agree editions_contracts.save_edition.ended editions.save_edition.Reads.Asked editions.save_edition.Reads.Learnt
save_edition_agrees κs a asked r r' ws ws' p p' = (λ i. (one p p' i).0, λ i. (tt, (tt, ((one p p' i).1, tt))))
