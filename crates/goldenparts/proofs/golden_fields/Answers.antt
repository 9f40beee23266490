-- `goldenparts::golden_fields` meets its contract, by the laws of this crate that it names.
use Rattle.std.proofs.lemmas.Result.{err_from_is_err_and}
use Rattle.taggedfields.proofs.Looks.{no_fault}
use Rattle.goldenparts.proofs.Apart.{fields-fault, fields-sound, fields_standing}
use Rattle.goldenparts.proofs.golden_fields.Goals as goal

pub returns-in_err-index_fields : goal.returns-in_err-index_fields
returns-in_err-index_fields c =
    let p = err_from_is_err_and c.from_residual.result c.from_residual.ensures.1 in
    rw (p.1, p.2) (fields-fault c.args.file.now c.in_err-index_fields.ensures.0, tt)

pub exact_fields-requires : goal.exact_fields-requires
exact_fields-requires c = no_fault _ c.in_ok-index_fields.ensures.0

pub returns : goal.returns
returns c =
    rw (c.ok_or.ensures.value, c.at.ensures)
    (fields-sound _ (no_fault _ c.in_ok-index_fields.ensures.0) c.exact_fields.ensures.0, fields_standing _ _ c.exact_fields.ensures.1)
