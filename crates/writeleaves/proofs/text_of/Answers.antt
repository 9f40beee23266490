-- A string by its letter and its record test. Assumes nothing.
use Rattle.writeleaves.specs.Leaves.{LeafIs}
use Rattle.writeleaves.proofs.Leafing.{leaf_string}
use Rattle.stores.specs.Written.{node_of}
use mathlib.Core.Path.{sym, subst, ◌∙◌}
use Rattle.writeleaves.proofs.text_of.Goals as goal

pub text_sound-requires : goal.text_sound-requires
text_sound-requires c = (c.args.values.now.bound, sym c.is_string.ensures ∙ c.if-not-is_string.false)

pub returns : goal.returns
returns c =
    let s = c.args.values.now.lent.input.now in
    let n = node_of c.args.n in
    subst (LeafIs s n) (sym c.text_if.ensures)
    (leaf_string s n c.args.values.now.lent.bytes (sym c.is_string.ensures ∙ c.if-not-is_string.false) c.text_sound.result c.text_sound.ensures)
