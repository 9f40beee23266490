-- Carried by `Digiting`: the digits of what is left still come to the same output. Assumes nothing.
use Rattle.outputlongs.proofs.Integers.{digiting_none, digiting_room, digiting_more, digiting_all}
use lib.Seq.{sets}
use mathlib.Core.Path.{ap, ◌∙◌}
use native.Mathlib.Omega.{arith}
use Rattle.outputlongs.proofs.store_digits.Goals as goal

pub loop-left-init : goal.loop-left-init
loop-left-init c = digiting_none c.requires

pub store_bytes-requires : goal.store_bytes-requires
store_bytes-requires c = omega (arith, digiting_room c.loop-left.invariant c.loop-left-test.true)

pub overflow_add-place : goal.overflow_add-place
overflow_add-place c = omega (arith, digiting_room c.loop-left.invariant c.loop-left-test.true)

pub loop-left-preserved : goal.loop-left-preserved
loop-left-preserved c =
    digiting_more c.loop-left.invariant c.loop-left-test.true (c.store_bytes.ensures ∙ ap (sets c.loop-left.out c.loop-left.place) c.to_le_bytes.ensures)

pub shape_of-out : goal.shape_of-out
shape_of-out c = c.loop-left.invariant.same

pub returns : goal.returns
returns c = digiting_all c.loop-left.invariant (omega arith)
