-- `settings::rewriting::rewrite` meets its contract, by the laws of this crate that it names.
-- Assumes nothing.
use mathlib.Core.Path.{◌∙◌, ap, sym}
use native.Mathlib.Omega.{arith}
use lib.ListN.{length}
use Rattle.std.proofs.lemmas.Result.{err_from_is_err_and}
use Rattle.clearing.specs.Lent.{zeros}
use Rattle.taggedfields.proofs.Looks.{no_fault}
use Rattle.settings.specs.Rewriting.{in_room, rewritten}
use Rattle.settings.proofs.Whole.{first_fault, second-fault, no_faults}
use Rattle.settings.proofs.rewriting.rewrite.Goals as goal

pub returns-in_err-index_fields : goal.returns-in_err-index_fields
returns-in_err-index_fields c =
    let p = err_from_is_err_and c.from_residual.result c.from_residual.ensures.1 in
    rw (p.1, p.2, c.clear_bytes.ensures) (first_fault c.args.file.now c.args.changes.now _ c.in_err-index_fields.ensures.0)

pub returns-in_err-index_fields-2 : goal.returns-in_err-index_fields-2
returns-in_err-index_fields-2 c =
    let r = c.from_residual-in_err-index_fields-2 in
    let p = err_from_is_err_and r.result r.ensures.1 in
    rw (p.1, p.2, c.clear_bytes.ensures) (second-fault c.args.file.now c.args.changes.now _ c.in_ok-index_fields.ensures.0 c.in_err-index_fields-2.ensures.0)

pub put_all-requires : goal.put_all-requires
put_all-requires c = c.clear_bytes.ensures ∙ ap zeros (sym c.clear_bytes.auto.bytes)

pub invariant_of-own : goal.invariant_of-own
invariant_of-own c =
    record { sound = record { bytes = λ i. omega (arith, c.type_inv.file i); clean = no_fault _ c.in_ok-index_fields.ensures.0 }; noted = c.index_fields.ensures.1 }

pub invariant_of-changes : goal.invariant_of-changes
invariant_of-changes c =
    record { sound = record { bytes = λ i. omega (arith, c.type_inv.changes i); clean = no_fault _ c.in_ok-index_fields-2.ensures.0 }; noted = c.index_fields-2.ensures.1 }

pub returns : goal.returns
returns c =
    let a = c.args in
    c.put_all.ensures ∙ ap (in_room (rewritten a.file.now a.changes.now)) c.clear_bytes.auto.bytes
    ∙ no_faults a.file.now a.changes.now (length a.out.now) c.in_ok-index_fields.ensures.0 c.in_ok-index_fields-2.ensures.0
