-- One answer for each call of the functions of `soundness`: the answer, by an equation.
use mathlib.Core.Path.{refl}
use Rattle.soundness.proofs as soundness
use Rattle.soundness.specs.contracts as soundness_contracts
use Rattle.agreement.specs.Agreement.{Agree}
use Rattle.agreement.proofs.Same.{one}

pub sound-agrees : Agree soundness_contracts.sound.ended soundness.sound.Reads.Asked soundness.sound.Reads.Learnt
sound-agrees κs a asked r r' ws ws' p p' = (one p p', refl)

pub sound_at-agrees : Agree soundness_contracts.sound_at.ended soundness.sound_at.Reads.Asked soundness.sound_at.Reads.Learnt
sound_at-agrees κs a asked r r' ws ws' p p' = (one p p', refl)

pub text-sound-agrees : Agree soundness_contracts.text_sound.ended soundness.text_sound.Reads.Asked soundness.text_sound.Reads.Learnt
text-sound-agrees κs a asked r r' ws ws' p p' = (one p p', refl)
