-- `lostentry::end_open` meets its contract: the laws of proofs/Told.
use Rattle.lostentry.proofs.Told.{open_long, open_cut, open_outside, open_to}
use Rattle.lostentry.proofs.end_open.Goals as goal

pub returns-in_default : goal.returns-in_default
returns-in_default c = open_long _ _ c.lt_read_varint.ensures c.in_default.is

pub returns-then-step : goal.returns-then-step
returns-then-step c = open_cut _ _ c.lt_read_varint.ensures c.in-Some.is c.if-step.true

pub returns-in-None : goal.returns-in-None
returns-in-None c = open_outside _ _ c.lt_read_varint.ensures c.in-Some.is c.if-step.false c.step_of.ensures c.move_line.ensures c.in-None.is

pub returns-in-Some-move_line : goal.returns-in-Some-move_line
returns-in-Some-move_line c = open_to _ _ c.lt_read_varint.ensures c.in-Some.is c.if-step.false c.step_of.ensures c.move_line.ensures c.in-Some-move_line.is c.cut_early.ensures
