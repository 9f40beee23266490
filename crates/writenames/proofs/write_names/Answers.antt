-- Carried by `Rowing`: the names that are left are still to come. Assumes nothing.
use Rattle.writenames.proofs.Naming.{text-here, texts_later}
use Rattle.underway.proofs.Under.{opens, row_start, row-turn, row_more, row-refused, row_end_lem}
use Rattle.underway.specs.Rows.{kids_from}
use Rattle.writecheck.specs.Looking.{lent_of}
use Rattle.writing.specs.Steps.{string_part}
use Rattle.writing.specs.Writing.{each}
use Rattle.std.proofs.Common.{rules, ◌≡◌, Err}
use native.Mathlib.Omega.{arith}
use mathlib.Core.Path.{refl}
use Rattle.writenames.proofs.write_names.Goals as goal

pub loop-init : goal.loop-init
loop-init c = row_start c.requires.1 c.requires.2 refl c.requires.0.inside

pub write_string-requires : goal.write_string-requires
write_string-requires c =
    let a = c.args in
    let t = lent_of a.lent.now in
    (opens c.loop.invariant.way c.requires.0.counts, text-here t _ _ (row-turn c.loop.invariant c.loop-test.true c.child_of-name.ensures).fine)

pub returns-in_err-end : goal.returns-in_err-end
returns-in_err-end c =
    let passed : c.from_residual.result ≡ Err c.in_err-end.field-0.0 = search rules in
    rw passed (row-refused (row-turn c.loop.invariant c.loop-test.true c.child_of-name.ensures) c.write_string.ensures c.in_err-end.was)

pub loop-preserved : goal.loop-preserved
loop-preserved c =
    let a = c.args in
    let t = lent_of a.lent.now in
    row_more {w₀ = each (string_part t a.allowance) (kids_from t a.count a.first)} (row-turn c.loop.invariant c.loop-test.true c.child_of-name.ensures) (texts_later t c.child_of-name.result) c.loop-test.true c.next_of-entry.ensures
    c.write_string.ensures c.in_ok-end.was

pub returns : goal.returns
returns c = row_end_lem c.loop.invariant (omega arith)
