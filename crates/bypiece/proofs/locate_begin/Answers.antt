-- `bypiece::locate_begin` meets its contract: the tests decide.
use mathlib.Core.Path.{refl}
use Rattle.bypiece.proofs.Entering.{start_none, start_few, start_on}
use Rattle.bypiece.proofs.locate_begin.Goals as goal

pub returns-then-state-lt-STATE_NUMBERS : goal.returns-then-state-lt-STATE_NUMBERS
returns-then-state-lt-STATE_NUMBERS c =
    let a = c.args in
    start_none a.first_line a.count a.state.now a.records.now c.if-state-lt-STATE_NUMBERS.true c.no_state.ensures

pub returns-then-room-count : goal.returns-then-room-count
returns-then-room-count c =
    let a = c.args in
    start_few a.first_line a.count a.state.now a.records.now c.ranges.first_line c.bits32.ensures c.as_signed.ensures c.freshen.ensures c.if-state-lt-STATE_NUMBERS.false c.if-room-count.true c.at.ensures c.stick_fault.ensures

pub returns : goal.returns
returns c =
    let a = c.args in
    start_on a.first_line a.count a.state.now a.records.now c.ranges.first_line c.bits32.ensures c.as_signed.ensures c.freshen.ensures c.if-state-lt-STATE_NUMBERS.false c.if-room-count.false (refl, c.clear_words.ensures)
