-- By the letter: the tests are those of a sound record. Assumes nothing.
use Rattle.writeleaves.proofs.Leafing.{leaf_four, leaf_bytes}
use Rattle.grammar.specs.Letters.{class_of, letters, found}
use Rattle.stores.specs.Written.{node_of}
use native.Mathlib.Omega.{arith}
use mathlib.Core.Path.{ap}
use Rattle.writeleaves.proofs.leaf_of.Goals as goal

pub returns-else-n-ne4 : goal.returns-else-n-ne4
unfolding class_of letters found
returns-else-n-ne4 c =
    let a = c.args in
    leaf_four a.values.now.lent.input.now (node_of a.n) (omega arith) (omega arith) a.values.now.lent.bytes (ap class_of c.in-105.is) c.if-n-ne4.false

pub returns-in-115 : goal.returns-in-115
unfolding class_of letters found
returns-in-115 c =
    let a = c.args in
    leaf_bytes a.values.now.lent.input.now (node_of a.n) (omega arith) (omega arith) a.values.now.lent.bytes (ap class_of c.in-115.is)
