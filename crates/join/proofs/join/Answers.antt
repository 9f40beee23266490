-- `join::join` meets its contract: each way out is a law of proofs/Told. Assumes nothing.
use mathlib.Core.Path.{◌≡◌, ap, ◌∙◌}
use Prim.Native.Nat.{min}
use native.Mathlib.Omega.{arith}
use borrow.Author.Rules.{rules}
use Rattle.std.specs.Prelude.{None, Some}
use Rattle.refusals.specs.Faults.{fault, refused}
use Rattle.refusals.specs.declared.Refusal.TheVariants.{NoRoom, NotJoined}
use Rattle.join.proofs.Told.{met-small, joins_long, joins-apart, joins-short, joins-done}
use Rattle.join.proofs.join.Goals as goal

pub returns-then-size : goal.returns-then-size
returns-then-size c = joins_long _ _ _ _ _ _ _ c.if-size.true c.at.ensures c.clear_bytes.ensures

pub returns-in_err-line : goal.returns-in_err-line
returns-in_err-line c =
    let apart : c.meet-met.result ≡ None = search rules in
    let told : c.from_residual.result ≡ refused NotJoined 0 = search rules in
    joins-apart _ _ _ _ _ _ _ c.if-size.false c.meet-met.ensures apart told c.clear_bytes.ensures

pub returns-then-out-size : goal.returns-then-out-size
returns-then-out-size c =
    let l = c.clear_bytes.auto.bytes in
    let line : c.meet-met.result ≡ Some c.in_ok-line.line = search rules in
    joins-short _ _ _ _ _ _ _ c.if-size.false c.meet-met.ensures line (omega (arith, l, c.if-out-size.true))
    (c.at-then-out-size.ensures ∙ ap (fault NoRoom) (c.short_place.ensures ∙ ap (λ i. min i 4294967295) l)) c.clear_bytes.ensures

pub overflow_add-result : goal.overflow_add-result
overflow_add-result c =
    let a = c.args in
    let line : c.meet-met.result ≡ Some c.in_ok-line.line = search rules in
    omega (arith, met-small a.a.bytes.now a.a.first a.a.count a.b.bytes.now a.b.first a.b.count c.meet-met.ensures line c.if-size.false)

pub returns : goal.returns
returns c =
    let l = c.clear_bytes.auto.bytes in
    let line : c.meet-met.result ≡ Some c.in_ok-line.line = search rules in
    joins-done _ _ _ _ _ _ _ c.if-size.false c.meet-met.ensures line (omega (arith, l, c.if-out-size.false)) c.clear_bytes.ensures c.write_both.ensures
