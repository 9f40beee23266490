-- `lineentry::varint_within`: at each return the varint a byte at a time, a law of proofs/Varints a case.
use Rattle.std.proofs.Common.{arith, sym, ap, subst, ◌∙◌, get_or, ◌+◌, ◌*◌, ◌%◌, ◌<◌, ◌≤◌}
use Rattle.lineentry.specs.Varint.{varint_within}
use Rattle.lineentry.proofs.Varints.{varint_end, varint_none, varint_last, varint_next, on_more, more_large, more_small}
use Rattle.lineentry.proofs.+varint_within.Goals as goal

pub returns-then-table-at : goal.returns-then-table-at
returns-then-table-at t c = sym (varint_end _ _ _ (omega arith))

pub returns-then-most-eq0 : goal.returns-then-most-eq0
returns-then-most-eq0 t c =
    let a = c.args in
    sym (ap (λ m. varint_within m a.table.now a.at) c.if-most-eq0.true ∙ varint_none a.table.now a.at (omega arith))

pub returns-then-b-lt64 : goal.returns-then-b-lt64
returns-then-b-lt64 t c =
    let a = c.args in
    let e = c.wide-b.ensures.0 in
    rw e (sym (varint_last a.most a.table.now a.at (omega arith) (omega arith) (omega (arith, e))))

pub returns-in_err-rest : goal.returns-in_err-rest
returns-in_err-rest t c =
    let a = c.args in
    let e = c.wide-b.ensures.0 in
    c.from_residual.ensures ∙ sym (varint_next a.most a.table.now a.at (omega arith) (omega arith) (omega (arith, e))
    ∙ ap (on_more (get_or a.table.now a.at 0)) (sym c.varint_within.ensures ∙ c.in_err-rest.was))

pub returns-then-sum-ge4294967296 : goal.returns-then-sum-ge4294967296
returns-then-sum-ge4294967296 t c =
    let a = c.args in
    let e = c.wide-b.ensures.0 in
    sym (varint_next a.most a.table.now a.at (omega arith) (omega arith) (omega (arith, e))
    ∙ ap (on_more (get_or a.table.now a.at 0)) (sym c.varint_within.ensures ∙ c.in_ok-rest.was)
    ∙ more_large (get_or a.table.now a.at 0) _ _ _ (subst (λ b. 4294967296 ≤ b % 64 + 64 * c.in_ok-rest.rest.value) e c.if-sum-ge4294967296.true))

pub returns : goal.returns
returns t c =
    let a = c.args in
    let e = c.wide-b.ensures.0 in
    rw e (sym (varint_next a.most a.table.now a.at (omega arith) (omega arith) (omega (arith, e))
    ∙ ap (on_more (get_or a.table.now a.at 0)) (sym c.varint_within.ensures ∙ c.in_ok-rest.was)
    ∙ more_small (get_or a.table.now a.at 0) _ _ _ (subst (λ b. b % 64 + 64 * c.in_ok-rest.rest.value < 4294967296) e c.if-sum-ge4294967296.false)))
