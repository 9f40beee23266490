-- The level, then the bytes, as the code has tested them. Assumes nothing.
use Rattle.underway.proofs.Under.{start, left_as, stopped, puts_equal}
use Rattle.output.proofs.Laws.{vec_puts}
use Rattle.writeleaves.proofs.Leafing.{bytes_in_lem, bytes-written, deep-written}
use Rattle.writeleaves.specs.Leaves.{sized_at}
use Rattle.writecheck.specs.Looking.{lent_of}
use Rattle.grammar.specs.State.{Node}
use native.Mathlib.Omega.{arith}
use mathlib.Core.Path.{ap, sym, ◌∙◌}
use Rattle.writeleaves.proofs.write_bytes.Goals as goal

pub returns-then-allowance-eq0 : goal.returns-then-allowance-eq0
returns-then-allowance-eq0 c =
    let a = c.args in
    let t = lent_of a.lent.now in
    stopped (left_as (start c.requires.0.inside) (deep-written t a.node a.allowance c.if-allowance-eq0.true)) c.at.ensures

pub contents-bytes-requires : goal.contents-bytes-requires
contents-bytes-requires c =
    let a = c.args in
    let t = lent_of a.lent.now in
    let place = ap (λ (n : Node). n.place) c.node_of-n.ensures in
    let size = ap (λ (n : Node). n.size) c.node_of-n.ensures in
    omega (arith, place, size, bytes_in_lem t a.lent.now.bytes a.node c.requires.1)

pub returns : goal.returns
returns c =
    let a = c.args in
    let t = lent_of a.lent.now in
    puts_equal (vec_puts c.write_vec.ensures c.contents-bytes.ensures)
    (bytes-written t a.lent.now.bytes a.node c.requires.1 a.allowance (omega arith)
    ∙ sym (ap (λ (n : Node). sized_at a.lent.now.input.now 0x73 n.place n.size) c.node_of-n.ensures))
