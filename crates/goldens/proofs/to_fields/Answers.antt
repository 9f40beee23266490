-- `goldens::to_fields` meets its contract, by the laws of this crate that it names.
use mathlib.Core.Path.{ap, sym, ◌∙◌}
use lib.ListN.{length}
use Rattle.std.proofs.lemmas.Result.{err_from_is_err_and}
use Rattle.clearing.specs.Lent.{zeros}
use Rattle.readalone.specs.Alone.{lent}
use Rattle.goldens.proofs.Moves.{old_stopped, old_moved}
use Rattle.goldens.proofs.to_fields.Goals as goal

pub returns-in_err-parts : goal.returns-in_err-parts
returns-in_err-parts c =
    let p = err_from_is_err_and c.from_residual.result c.from_residual.ensures.1 in
    let known = c.in_err-parts.ensures in
    rw (p.1, p.2, c.clear_bytes.ensures) (old_stopped (lent _ _ _ _) c.args.plain.now (length c.args.out.now) known.0, known.2, known.3, known.4)

pub write_fields-requires : goal.write_fields-requires
write_fields-requires c = c.clear_bytes.ensures ∙ ap zeros (sym c.clear_bytes.auto.bytes)

pub invariant_of-write_fields : goal.invariant_of-write_fields
invariant_of-write_fields c = record { standing = c.in_ok-parts.ensures.1 }

pub returns : goal.returns
returns c =
    let known = c.in_ok-parts.ensures in
    (old_moved (lent _ _ _ _) c.args.plain.now (length c.args.out.now) known.0 c.clear_bytes.auto.bytes c.write_fields.ensures, known.2, known.3, known.4)
