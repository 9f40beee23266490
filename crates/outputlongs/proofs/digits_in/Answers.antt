-- Carried by the laws that count digits. Assumes nothing.
use Rattle.writing.proofs.Digits.{three-digits, four_digits, five-digits}
use mathlib.Core.Path.{sym}
use native.Mathlib.Omega.{arith}
use Rattle.outputlongs.proofs.digits_in.Goals as goal

pub returns-then-magnitude-lt35184372088832 : goal.returns-then-magnitude-lt35184372088832
returns-then-magnitude-lt35184372088832 c = (sym (three-digits c.args.magnitude (omega arith) (omega arith)), omega arith, omega arith)

pub returns-then-magnitude-lt1152921504606846976 : goal.returns-then-magnitude-lt1152921504606846976
returns-then-magnitude-lt1152921504606846976 c = (sym (four_digits c.args.magnitude (omega arith) (omega arith) (omega arith)), omega arith, omega arith)

pub returns : goal.returns
returns c = (sym (five-digits c.args.magnitude (omega arith) (omega arith) (omega arith)), omega arith, omega arith)
