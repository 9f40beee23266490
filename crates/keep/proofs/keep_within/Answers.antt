-- `keep_within` meets its contract by the laws of Keeping. Assumes nothing.
use Rattle.keep.proofs.Keeping.{kept-beyond, kept-fault, kept_all, kept-room, kept-few}
use native.Mathlib.Omega.{arith}
use mathlib.Core.Path.{refl, ap}
use Rattle.std.specs.Prelude.{Err}
use Rattle.keep.proofs.keep_within.Goals as goal

pub returns-then-bound-node : goal.returns-then-bound-node
returns-then-bound-node c =
    kept-beyond c.requires c.args.node c.args.slots.now c.if-bound-node.true (ap Err c.at.ensures)

pub returns-in-Err : goal.returns-in-Err
returns-in-Err c =
    kept-fault c.requires c.args.node c.args.slots.now c.visit.new.s c.visit.ensures c.in-Err.is c.visit.auto.s c.clear_words.ensures refl

pub overflow_sub-freed : goal.overflow_sub-freed
overflow_sub-freed c =
    omega (arith, c.node_capacity.ensures, kept-few c.requires c.args.node c.visit.new.s c.visit.ensures c.in-Ok.is)

pub overflow_sub-freed_entries : goal.overflow_sub-freed_entries
overflow_sub-freed_entries c =
    omega (arith, c.entry_capacity.ensures, kept-few c.requires c.args.node c.visit.new.s c.visit.ensures c.in-Ok.is)

pub move_all-requires : goal.move_all-requires
move_all-requires c =
    kept-room c.requires c.args.node c.visit.new.s c.visit.ensures c.in-Ok.is c.visit.auto.s

pub returns-in-Ok : goal.returns-in-Ok
returns-in-Ok c =
    kept_all c.requires c.args.node c.args.slots.now c.visit.new.s c.visit.ensures c.in-Ok.is c.visit.auto.s c.move_all.ensures c.node_capacity.ensures c.entry_capacity.ensures refl
