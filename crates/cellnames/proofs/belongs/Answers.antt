-- The kind, then for a cell the name. Assumes nothing.
use Rattle.cellnames.proofs.Groups.{member_not, member-plain, member_cell}
use Rattle.cellnames.specs.Groups.{locals_in}
use Rattle.writecheck.specs.Looking.{lent_of}
use native.Mathlib.Omega.{arith}
use Rattle.cellnames.proofs.belongs.Goals as goal

pub returns-then-not-has : goal.returns-then-not-has
returns-then-not-has c =
    let a = c.args in
    let t = lent_of a.lent.now in
    member_not t (locals_in t a.locals) a.bit a.kind a.node c.has.ensures c.if-not-has.true

pub returns-then-bit-ne-CELL : goal.returns-then-bit-ne-CELL
returns-then-bit-ne-CELL c =
    let a = c.args in
    let t = lent_of a.lent.now in
    member-plain t (locals_in t a.locals) a.bit a.kind a.node c.has.ensures c.if-not-has.false (λ e. omega arith)

pub is_local-requires : goal.is_local-requires
is_local-requires c = (c.requires.0, c.requires.1)

pub returns : goal.returns
returns c =
    let a = c.args in
    let t = lent_of a.lent.now in
    member_cell t (locals_in t a.locals) a.bit a.kind a.node c.has.ensures c.if-not-has.false (omega arith) c.is_local.ensures
