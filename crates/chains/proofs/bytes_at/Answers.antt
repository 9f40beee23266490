-- The number, then the letter, then the span and the count. Assumes nothing.
use Rattle.chains.proofs.Told.{and-false, bytes-told}
use Rattle.grammar.specs.State.{Node}
use Rattle.grammar.specs.Record.{sound_at}
use Rattle.grammar.specs.Letters.{is_bytes}
use Rattle.stores.specs.Written.{node_of}
use borrow.Author.Tests.{le-ltb, lt-leb, le-leb}
use lib.Dec.{eqb}
use native.Mathlib.Omega.{arith}
use mathlib.Core.Bool.{◌&&◌}
use mathlib.Core.Path.{ap, sym, ◌∙◌}
use Rattle.chains.proofs.bytes_at.Goals as goal

pub returns-then-nodes_in-node : goal.returns-then-nodes_in-node
unfolding sound_at
returns-then-nodes_in-node c = rw (← c.nodes_in.ensures, le-ltb _ _ c.if-nodes_in-node.true)

pub returns-then-not-is_bytes : goal.returns-then-not-is_bytes
returns-then-not-is_bytes c =
    let a = c.args in
    let s = sound_at a.s.now a.nodes.now a.used a.node in
    and-false s
    ∙ ap (λ b. s && b) (sym c.if-not-is_bytes.true ∙ c.is_bytes.ensures ∙ ap (λ (n : Node). is_bytes n.letter) c.node_at-n.ensures)

pub returns-then-s-n : goal.returns-then-s-n
returns-then-s-n c =
    let a = c.args in
    let n = node_of c.node_at-n.result in
    bytes-told a.s.now a.nodes.now a.used a.node (omega (arith, c.nodes_in.ensures)) c.node_at-n.ensures (sym c.is_bytes.ensures ∙ c.if-not-is_bytes.false)
    (sym (ap (λ b. b && eqb n.count 0) (lt-leb _ _ c.if-s-n.true)))

pub returns : goal.returns
returns c =
    let a = c.args in
    let n = node_of c.node_at-n.result in
    bytes-told a.s.now a.nodes.now a.used a.node (omega (arith, c.nodes_in.ensures)) c.node_at-n.ensures (sym c.is_bytes.ensures ∙ c.if-not-is_bytes.false)
    (sym (ap (λ b. b && eqb n.count 0) (le-leb _ _ c.if-s-n.false)))
