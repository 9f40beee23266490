-- The level, then the string. Assumes nothing.
use Rattle.writing.specs.Names.{contents_of}
use Rattle.writing.specs.Canonical.{code_string}
use Rattle.writing.specs.Writing.{emit, ended}
use Rattle.output.proofs.Laws.{puts_as}
use Rattle.writenames.proofs.Naming.{no_level, string-put}
use Rattle.cellnames.proofs.Groups.{string-within}
use Rattle.writecheck.specs.Looking.{lent_of}
use Rattle.grammar.specs.State.{Node}
use native.Mathlib.Omega.{arith}
use mathlib.Core.Path.{ap, sym}
use Rattle.writenames.proofs.write_string.Goals as goal

pub returns-then-allowance-eq0 : goal.returns-then-allowance-eq0
returns-then-allowance-eq0 c =
    no_level c.args.allowance c.args.node (emit (code_string (contents_of (lent_of c.args.lent.now) c.args.node)) ended) (omega arith) c.at.ensures

pub contents-requires : goal.contents-requires
contents-requires c =
    let a = c.args in
    let asked = c.requires in
    let p = (ap (λ (m : Node). m.place) c.node_of-n.ensures) in
    let m = (ap (λ (m : Node). m.size) c.node_of-n.ensures) in
    omega (arith, string-within a.lent.now.input.now a.lent.now.nodes.now a.lent.now.used.nodes a.node asked.1)

pub returns : goal.returns
returns c =
    let a = c.args in
    let t = lent_of a.lent.now in
    let node_of_lem = c.node_of-n.ensures in
    string-put t a.allowance a.node (omega arith) (ap (λ (m : Node). m.place) node_of_lem) (ap (λ (m : Node). m.size) node_of_lem) (puts_as c.write_marshal_str.ensures (ap code_string (sym c.contents.ensures)))
