-- `varint::write_signed_varint` meets its contract: what `write_varint` says of the number's code, the smallest number aside.
-- A signed argument reaches a callee by its bits.
use Rattle.std.proofs.Common.{◌≡◌, ap, ◌∙◌, to_z-of_z, w32, of_z, eq-eqb, ne_eqb}
use Rattle.varint.specs.Answers.{stored_signed}
use Rattle.varint.proofs.write_signed_varint.Goals as goal

pub returns-then-bits : goal.returns-then-bits
unfolding stored_signed
returns-then-bits c =
    let bits : c.bits32-bits.result ≡ of_z w32 c.args.val = c.bits32-bits.ensures ∙ ap (of_z w32) (to_z-of_z c.ranges.val) in
    rw (← bits, eq-eqb _ _ c.if-bits.true, c.clear_bytes.ensures, c.at.ensures)

pub returns : goal.returns
unfolding stored_signed
returns c =
    let bits : c.bits32-bits.result ≡ of_z w32 c.args.val = c.bits32-bits.ensures ∙ ap (of_z w32) (to_z-of_z c.ranges.val) in
    rw (← bits, ne_eqb _ _ c.if-bits.false, ← c.signed_code.ensures) c.write_varint.ensures
