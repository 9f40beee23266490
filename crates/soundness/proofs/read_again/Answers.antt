-- `soundness::read_again` meets its contract: the fields are read again by the function that the reader uses.
-- Assumes nothing.
use borrow.Author.Tests.{ne_eqb}
use Rattle.soundness.proofs.Laws.{again-refused, again_differs, again-counted}
use Rattle.stores.specs.Written.{node_of}
use Rattle.soundness.proofs.read_again.Goals as goal

pub returns-else-node-read : goal.returns-else-node-read
returns-else-node-read c =
    let a = c.args in
    rw (ne_eqb _ _ c.if-node-read.false)
    (again_differs a.s.now (node_of a.node) a.class c.requires.0 c.read_form.ensures c.in-Ok.is c.if-node-read.false)

pub returns-in-Err : goal.returns-in-Err
returns-in-Err c =
    let a = c.args in
    again-refused a.s.now (node_of a.node) a.class c.requires.0
    c.read_form.ensures c.in-Err.is

pub returns-then-node-read : goal.returns-then-node-read
returns-then-node-read c =
    let a = c.args in
    again-counted a.s.now (node_of a.node) a.class c.requires.0
    c.read_form.ensures c.in-Ok.is
    c.if-node-read.true c.counted.ensures
