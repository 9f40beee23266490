-- `exceptiontable::read_entries` meets its contract: at each turn the entries still to come make the same answer and store.
-- Assumes nothing.
use Rattle.std.proofs.Common.{◌≡◌, sym, ◌∙◌, Err, rules, arith}
use Rattle.exceptiontable.proofs.Decoding.{decoded_start, decoded_long, decoded_as_lem, decoded_stop, decoded_full, placed, decoded_turn, decoded_end}
use Rattle.exceptiontable.proofs.read_entries.Goals as goal

pub returns-then-table : goal.returns-then-table
returns-then-table c = decoded_long _ _ c.if-table.true c.at.ensures

pub loop-at-init : goal.loop-at-init
loop-at-init c = decoded_start _ c.args.entries.now c.requires

pub returns-in_err-handler : goal.returns-in_err-handler
returns-in_err-handler c =
    let passed : c.from_residual.result ≡ Err c.in_err-handler.field-0.0 = search rules in
    decoded_as_lem _ _ c.if-table.false
    (decoded_stop c.loop-at.invariant c.loop-at-test.true (sym c.in_err-handler.was ∙ c.read_entry.ensures) passed)

pub returns-then-entries-count : goal.returns-then-entries-count
returns-then-entries-count c =
    decoded_as_lem _ _ c.if-table.false
    (decoded_full c.loop-at.invariant c.loop-at-test.true (sym c.in_ok-handler.was ∙ c.read_entry.ensures) c.if-entries-count.true c.at-then-entries-count.ensures)

pub loop-at-smaller : goal.loop-at-smaller
loop-at-smaller c =
    let p = placed c.loop-at.invariant c.loop-at-test.true (sym c.in_ok-handler.was ∙ c.read_entry.ensures) in
    omega (arith, p.0, p.1)

pub loop-at-preserved : goal.loop-at-preserved
loop-at-preserved c =
    decoded_turn c.loop-at.invariant c.loop-at-test.true (sym c.in_ok-handler.was ∙ c.read_entry.ensures) c.if-entries-count.false c.store_entry.ensures

pub returns : goal.returns
returns c = decoded_as_lem _ _ c.if-table.false (decoded_end c.loop-at.invariant c.loop-at-test.false)
