-- A value's measure is four times its allowance, a child's one more, and that of what a node holds two more.
use Prim.Native.Nat.{◌+◌, ◌*◌, ◌-◌}
use lib.ListN.{length}
use Rattle.readleaves.specs.Turns.{InvBody}
use Rattle.reader.proofs.+child_typed_value.Given as goal

abbrev pub decreases-child : goal.decreases-child
decreases-child l = 4 * l.allowance + 1

abbrev pub decreases-typed : goal.decreases-typed
decreases-typed l = 4 * l.allowance + 2

abbrev pub decreases-value : goal.decreases-value
decreases-value l = 4 * l.allowance

abbrev pub invariant-typed-loop-refusal : goal.invariant-typed-loop-refusal
invariant-typed-loop-refusal l =
    InvBody l.kids l.header l.s l.room l.allowance l.initial.l l.initial.nodes l.initial.entries l.initial.slots l.nodes l.entries l.slots l.l

abbrev pub decreases-typed-loop-refusal : goal.decreases-typed-loop-refusal
decreases-typed-loop-refusal l = length l.s - l.l.walk.at
