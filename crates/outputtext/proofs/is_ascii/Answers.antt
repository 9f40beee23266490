-- Carried by `each_ascii`: what the chain tests of each byte is `ascii`. Assumes nothing.
use Rattle.outputtext.proofs.Strings.{each_ascii}
use Rattle.std.proofs.lemmas.Iterator.{YieldsList-from_slice}
use Rattle.std.proofs.lemmas.Iterator.Search.{all_from_yields_List}
use Rattle.std.proofs.Common.{rules, tests}
use mathlib.Core.Path.{◌∙◌}
use Rattle.std.specs.Prelude.{ltb}
use Rattle.outputtext.proofs.is_ascii.Goals as goal

pub returns : goal.returns
returns c =
    let bytes = c.args.bytes.now in
    all_from_yields_List (λ byte. ltb byte 128) _ _ c.all.result c.all.ensures.ran (YieldsList-from_slice bytes cc) (λ x b q k. search (rules, tests))
    ∙ each_ascii bytes
