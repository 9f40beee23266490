-- `lostentry::cut_early` meets its contract: the laws of proofs/Told.
use Rattle.lostentry.proofs.Told.{reads_on, early_long, early_cut, early_all}
use mathlib.Core.Path.{◌∙◌}
use native.Mathlib.Omega.{arith}
use Rattle.lostentry.proofs.cut_early.Goals as goal

pub returns-in_default : goal.returns-in_default
returns-in_default c = early_long _ _ c.lt_read_varint.ensures c.in_default.is

pub overflow_sub-result : goal.overflow_sub-result
overflow_sub-result c = omega (arith, reads_on _ _ c.lt_read_varint.ensures c.in-Some.is)

pub returns-then-read : goal.returns-then-read
returns-then-read c = early_cut _ _ c.lt_read_varint.ensures c.in-Some.is c.if-read.true

pub returns-else-read : goal.returns-else-read
returns-else-read c = c.if-read.false ∙ early_all _ _ c.lt_read_varint.ensures c.in-Some.is c.if-read.false
