-- `code_end` is done or refused at the code's header.
-- Assumes nothing.
use mathlib.Core.Path.{refl}
use native.Mathlib.Omega.{arith}
use Rattle.refusals.proofs.Faults.{number_in_table}
use Rattle.readsteps.proofs.code_end.Goals as goal

pub returns-in-Err : goal.returns-in-Err
returns-in-Err c =
    let told = c.in-Err.ensures in
    rw c.at.ensures (λ h. absurd (omega (arith, h, c.requires.0)), λ h. (refl, told, λ e. omega (arith, e, (number_in_table c.in-Err.refusal).0)))
