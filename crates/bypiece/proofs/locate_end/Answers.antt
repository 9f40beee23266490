-- `bypiece::locate_end` meets its contract: what is looked at first decides.
use Rattle.pieces.proofs.Gates.{entered}
use Rattle.bypiece.proofs.Entering.{end_none, end_shut, end_stuck, end_open_lem}
use Rattle.bypiece.proofs.locate_end.Goals as goal

pub returns-then-state-lt-STATE_NUMBERS : goal.returns-then-state-lt-STATE_NUMBERS
returns-then-state-lt-STATE_NUMBERS c =
    let a = c.args in
    end_none a.state.now a.records.now c.if-state-lt-STATE_NUMBERS.true c.no_state.ensures

pub take_end-requires : goal.take_end-requires
take_end-requires c =
    let a = c.args in
    entered a.state.now a.records.now c.if-state-lt-STATE_NUMBERS.false c.kept_at-k.ensures c.look.ensures c.in-Open.is

pub returns-in-Shut : goal.returns-in-Shut
returns-in-Shut c =
    let a = c.args in
    end_shut a.state.now a.records.now c.if-state-lt-STATE_NUMBERS.false c.kept_at-k.ensures c.look.ensures c.in-Shut.is c.refuse.ensures

pub returns-in-Stuck : goal.returns-in-Stuck
returns-in-Stuck c =
    let a = c.args in
    end_stuck a.state.now a.records.now c.if-state-lt-STATE_NUMBERS.false c.kept_at-k.ensures c.look.ensures c.in-Stuck.is c.stick_fault.ensures

pub returns-in-Open : goal.returns-in-Open
returns-in-Open c =
    let a = c.args in
    end_open_lem a.state.now a.records.now c.if-state-lt-STATE_NUMBERS.false c.kept_at-k.ensures c.look.ensures c.in-Open.is c.take_end.ensures
