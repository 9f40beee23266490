-- `goldens::write_fields` meets its contract, by the laws of this crate that it names.
use mathlib.Core.Path.{◌∙◌, ap}
use lib.ListN.{length}
use Rattle.refusals.specs.Numbers.{value_too_long}
use Rattle.grammar.specs.Reading.{stops}
use Rattle.goldens.proofs.Moves.{Answered, code-too_long, result-too_long, both_held}
use Rattle.goldens.proofs.write_fields.Goals as goal

pub returns-then-parts-gt-MOST_CONTENTS : goal.returns-then-parts-gt-MOST_CONTENTS
returns-then-parts-gt-MOST_CONTENTS c =
    let file = c.args.golden.file.now in
    let out = c.args.out.now in
    let parts = c.args.golden.parts in
    rw c.at.ensures (ap {B = Answered} (λ o. (stops value_too_long parts.code.start, o)) c.requires ∙ code-too_long file parts c.args.golden.standing (length out) c.if-parts-gt-MOST_CONTENTS.true)

pub returns-then-parts-gt-MOST_CONTENTS-2 : goal.returns-then-parts-gt-MOST_CONTENTS-2
returns-then-parts-gt-MOST_CONTENTS-2 c =
    let file = c.args.golden.file.now in
    let out = c.args.out.now in
    let parts = c.args.golden.parts in
    rw c.at-then-parts-gt-MOST_CONTENTS-2.ensures (ap {B = Answered} (λ o. (stops value_too_long parts.result.start, o)) c.requires ∙ result-too_long file parts c.args.golden.standing (length out) c.if-parts-gt-MOST_CONTENTS.false c.if-parts-gt-MOST_CONTENTS-2.true)

pub returns : goal.returns
returns c =
    let file = c.args.golden.file.now in
    let out = c.args.out.now in
    let parts = c.args.golden.parts in
    c.fields_in_room.ensures ∙ both_held file parts c.args.golden.standing (length out) c.if-parts-gt-MOST_CONTENTS.false c.if-parts-gt-MOST_CONTENTS-2.false
