-- `next_part` asks for the next part or ends the code.
-- Assumes nothing.
use mathlib.Core.Path.{sym, ◌∙◌}
use native.Mathlib.Omega.{arith}
use Rattle.readsteps.proofs.next_part.Goals as goal

pub returns-in-Err : goal.returns-in-Err
returns-in-Err c = (λ h. sym c.first_line.ensures ∙ c.in-Err.is, λ h. absurd (omega (arith, h, c.if-line-ge-CODE_PARTS.false)))

pub returns-in-Ok : goal.returns-in-Ok
returns-in-Ok c = (sym c.first_line.ensures ∙ c.in-Ok.is, c.rule_at.ensures, c.if-line-ge-CODE_PARTS.false)
