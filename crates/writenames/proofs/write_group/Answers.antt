-- Carried by `Grouping`: the names that are left still come to the same answer and the same count. Assumes nothing.
use Rattle.writenames.proofs.Naming.{grouping_none, member_next, member-refused, member_more, grouping_all, counts_one}
use Rattle.writecheck.specs.Looking.{lent_of}
use Rattle.writing.specs.Steps.{string_part}
use Rattle.std.proofs.Common.{rules, ◌≡◌, Err}
use native.Mathlib.Omega.{arith}
use Rattle.writenames.proofs.write_group.Goals as goal

pub loop-i-init : goal.loop-i-init
loop-i-init c =
    let a = c.args in
    let t = lent_of a.lent.now in
    let f = string_part t a.allowance in
    grouping_none t a.locals a.bit f a.counted a.out.now a.at c.requires.1 c.requires.0.inside

pub overflow_add-kind : goal.overflow_add-kind
overflow_add-kind c = omega (arith, c.requires.1.kinds)

pub bounds-lent-kinds : goal.bounds-lent-kinds
bounds-lent-kinds c = omega (arith, c.requires.1.kinds)

pub belongs-member-requires : goal.belongs-member-requires
belongs-member-requires c =
    let a = c.args in
    let t = lent_of a.lent.now in
    let f = string_part t a.allowance in
    (c.requires.1, (member_next t a.locals a.bit f a.counted a.out.now a.at _ c.requires.1 c.loop-i.invariant c.loop-i-test.true c.child_of-name.ensures).text, c.requires.2)

pub write_member-requires : goal.write_member-requires
write_member-requires c =
    let a = c.args in
    let t = lent_of a.lent.now in
    let f = string_part t a.allowance in
    let g = c.loop-i.invariant in (
      record { inside = omega (arith, g.inside, g.same); counts = omega (arith, g.same, c.requires.0.counts) },
      (member_next t a.locals a.bit f a.counted a.out.now a.at _ c.requires.1 c.loop-i.invariant c.loop-i-test.true c.child_of-name.ensures).text,
    )

pub returns-in_err-end : goal.returns-in_err-end
returns-in_err-end c =
    let a = c.args in
    let t = lent_of a.lent.now in
    let f = string_part t a.allowance in
    let passed : c.from_residual.result ≡ Err c.in_err-end.field-0.0 = search rules in
    rw passed (member-refused t a.locals a.bit f a.counted a.out.now a.at c.loop-i.invariant (member_next t a.locals a.bit f a.counted a.out.now a.at _ c.requires.1 c.loop-i.invariant c.loop-i-test.true c.child_of-name.ensures) c.belongs-member.ensures c.write_member.ensures c.in_err-end.was)

pub overflow_add-n : goal.overflow_add-n
overflow_add-n c =
    omega (arith, c.loop-i.invariant.most, c.loop-i-test.true, (counts_one _ c.from-n.ensures).1, c.requires.3)

pub loop-i-preserved : goal.loop-i-preserved
loop-i-preserved c =
    let a = c.args in
    let t = lent_of a.lent.now in
    let f = string_part t a.allowance in
    member_more t a.locals a.bit f a.counted a.out.now a.at c.loop-i.invariant (member_next t a.locals a.bit f a.counted a.out.now a.at _ c.requires.1 c.loop-i.invariant c.loop-i-test.true c.child_of-name.ensures) c.belongs-member.ensures c.write_member.ensures c.in_ok-end.was (counts_one _ c.from-n.ensures) c.loop-i-test.true c.next_of-entry.ensures

pub returns : goal.returns
returns c =
    let a = c.args in
    let t = lent_of a.lent.now in
    let f = string_part t a.allowance in
    grouping_all t a.locals a.bit f a.counted a.out.now a.at c.loop-i.invariant (omega arith)
