-- `readmore::read_more` meets its contract: turned away, refused while it is read, or read and raised, by the laws of Appending. Assumes nothing.
use mathlib.Core.Path.{refl}
use native.Mathlib.Omega.{arith}
use lib.ListN.{length}
use Rattle.refusals.proofs.Faults.{handed_on}
use Rattle.readmore.specs.More.{keeping}
use Rattle.readmore.proofs.Appending.{let_in, turned_away_lem, refused-reading, reads-value, room_for_lem, read-raised}
use Rattle.readmore.proofs.read_more.Goals as goal

pub returns-in-Err : goal.returns-in-Err
returns-in-Err c =
    let b = c.args in
    turned_away_lem b.input.now b.nodes.now b.entries.now b.slots.now b.nesting b.keptnodes b.keptentries b.number c.in-Err.ensures c.at.ensures c.refuse.ensures

pub read_behind-requires : goal.read_behind-requires
read_behind-requires c =
    let b = c.args in
    let_in b.input.now (length b.nodes.now) (length b.entries.now) (keeping b.keptnodes b.keptentries 0) c.in-Ok.ensures refl

pub raise_read-requires : goal.raise_read-requires
raise_read-requires c =
    let b = c.args in
    let f = let_in b.input.now (length b.nodes.now) (length b.entries.now) (keeping b.keptnodes b.keptentries 0) c.in-Ok.ensures refl in
    let d = c.read_behind.ensures in
    room_for_lem b.input.now b.nodes.now b.entries.now b.slots.now b.nesting b.keptnodes b.keptentries b.number f d (reads-value b.input.now b.nodes.now b.entries.now b.slots.now b.nesting b.keptnodes b.keptentries b.number f d c.in_ok-read-in-Ok.was)

pub overflow_add-result : goal.overflow_add-result
overflow_add-result c =
    let b = c.args in
    let f = let_in b.input.now (length b.nodes.now) (length b.entries.now) (keeping b.keptnodes b.keptentries 0) c.in-Ok.ensures refl in
    let d = c.read_behind.ensures in
    let v = reads-value b.input.now b.nodes.now b.entries.now b.slots.now b.nesting b.keptnodes b.keptentries b.number f d c.in_ok-read-in-Ok.was in
    record { fits = omega (arith, v.bounds.few-nodes, v.as_nodes) }

pub overflow_add-result-in-Ok : goal.overflow_add-result-in-Ok
overflow_add-result-in-Ok c =
    let b = c.args in
    let f = let_in b.input.now (length b.nodes.now) (length b.entries.now) (keeping b.keptnodes b.keptentries 0) c.in-Ok.ensures refl in
    let d = c.read_behind.ensures in
    let v = reads-value b.input.now b.nodes.now b.entries.now b.slots.now b.nesting b.keptnodes b.keptentries b.number f d c.in_ok-read-in-Ok.was in
    record { fits = omega (arith, v.bounds.few-entries, v.as_entries) }

pub returns-in_err-read-in-Ok : goal.returns-in_err-read-in-Ok
returns-in_err-read-in-Ok c =
    let b = c.args in
    let f = let_in b.input.now (length b.nodes.now) (length b.entries.now) (keeping b.keptnodes b.keptentries 0) c.in-Ok.ensures refl in
    let d = c.read_behind.ensures in
    rw (handed_on c.from_residual.ensures.1) (refused-reading b.input.now b.nodes.now b.entries.now b.slots.now b.nesting b.keptnodes b.keptentries b.number f d c.in_err-read-in-Ok.was)

pub returns-in_ok-read-in-Ok : goal.returns-in_ok-read-in-Ok
returns-in_ok-read-in-Ok c =
    let b = c.args in
    let f = let_in b.input.now (length b.nodes.now) (length b.entries.now) (keeping b.keptnodes b.keptentries 0) c.in-Ok.ensures refl in
    let d = c.read_behind.ensures in
    let v = reads-value b.input.now b.nodes.now b.entries.now b.slots.now b.nesting b.keptnodes b.keptentries b.number f d c.in_ok-read-in-Ok.was in
    read-raised b.input.now b.nodes.now b.entries.now b.slots.now b.nesting b.keptnodes b.keptentries b.number f d v c.raise_read.ensures
