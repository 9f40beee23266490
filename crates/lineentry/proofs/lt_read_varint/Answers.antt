-- `lineentry::lt_read_varint` meets its contract: the end and a last byte by the laws of the varint, the rest by `varint_within`.
use mathlib.Core.Path.{sym}
use native.Mathlib.Omega.{arith}
use Rattle.lineentry.proofs.Varints.{varint_end, varint_last}
use Rattle.lineentry.proofs.lt_read_varint.Goals as goal

pub returns-then-table-at : goal.returns-then-table-at
returns-then-table-at c = sym (varint_end _ _ _ c.if-table-at.true)

pub returns-then-b-lt64 : goal.returns-then-b-lt64
returns-then-b-lt64 c =
    let a = c.args in
    let e = c.wide-b.ensures.0 in
    rw e (sym (varint_last 6 a.table.now a.at (omega arith) (omega arith) (omega (arith, e))))
