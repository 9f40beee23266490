-- `goldens::put_fields` meets its contract, by the laws of this crate that it names.
use Rattle.goldenparts.specs.Spans.{golden_in}
use Rattle.goldens.proofs.Moves.{fields-put}
use Rattle.goldens.proofs.put_fields.Goals as goal

pub returns : goal.returns
returns c =
    fields-put (golden_in c.args.golden.file.now c.args.golden.parts) c.of-code.ensures c.of.ensures c.args.out.now
    c.put_edition.ensures c.put_field.ensures c.put_field-2.ensures
