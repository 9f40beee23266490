-- Sizes first, then bytes. Assumes nothing.
use Rattle.cellnames.proofs.Groups.{string-within, string-stored, sizes_differ, same_as_lem}
use Rattle.grammar.specs.State.{Node}
use native.Mathlib.Omega.{arith}
use mathlib.Core.Path.{ap}
use Rattle.cellnames.proofs.same_name.Goals as goal

pub node_at-n-requires : goal.node_at-n-requires
node_at-n-requires c =
    let a = c.args in string-stored a.lent.now.input.now a.lent.now.nodes.now a.lent.now.used.nodes a.name c.requires.1

pub returns-then-size-n : goal.returns-then-size-n
returns-then-size-n c =
    let a = c.args in
    let q = ap (λ (m : Node). m.size) c.node_at-n.ensures in
    sizes_differ a.lent.now.input.now _ _ _ _ c.requires.0 (string-within a.lent.now.input.now a.lent.now.nodes.now a.lent.now.used.nodes a.name c.requires.1) (λ e. omega arith)

pub same_bytes-requires : goal.same_bytes-requires
same_bytes-requires c =
    let a = c.args in
    let q = ap (λ (m : Node). m.size) c.node_at-n.ensures in
    let y = ap (λ (m : Node). m.place) c.node_at-n.ensures in
    omega (arith, string-within a.lent.now.input.now a.lent.now.nodes.now a.lent.now.used.nodes a.name c.requires.1, c.requires.0, c.if-size-n.false)

pub returns : goal.returns
returns c =
    let q = ap (λ (m : Node). m.size) c.node_at-n.ensures in
    same_as_lem c.args.lent.now.input.now c.args.place c.same_bytes.ensures (ap (λ (m : Node). m.place) c.node_at-n.ensures) (omega (arith, c.if-size-n.false))
