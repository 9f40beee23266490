-- `pieces::take_front` meets its contract: both ways are laws of proofs/Taken.
use native.Mathlib.Omega.{arith}
use Rattle.pieces.proofs.Taken.{other_walks, other-leaves, from_low, from_high, whole_walks, whole-leaves}
use Rattle.pieces.proofs.take_front.Goals as goal

pub walk_on-requires : goal.walk_on-requires
walk_on-requires c =
    let a = c.args in
    other_walks a.front.now a.piece.now a.bytes a.k a.state.now a.records.now
    c.requires

pub overflow_sub-next : goal.overflow_sub-next
overflow_sub-next c =
    let a = c.args in
    omega
    (arith, from_low a.front.now a.piece.now a.bytes a.k a.state.now a.records.now c.requires _ c.first_of.ensures c.in-Some.is)

pub slice_bounds-walk_on-count : goal.slice_bounds-walk_on-count
slice_bounds-walk_on-count c =
    let a = c.args in
    let p = c.requires in
    let f' = c.first_of in
    omega
    (arith, from_low a.front.now a.piece.now a.bytes a.k a.state.now a.records.now p _ f'.ensures c.in-Some.is, from_high a.front.now a.piece.now a.bytes a.k a.state.now a.records.now p _ f'.ensures c.in-Some.is)

pub slice_bounds-walk_on-start : goal.slice_bounds-walk_on-start
slice_bounds-walk_on-start c =
    let a = c.args in
    let p = c.requires in
    let f' = c.first_of in
    omega
    (arith, from_low a.front.now a.piece.now a.bytes a.k a.state.now a.records.now p _ f'.ensures c.in-Some.is, from_high a.front.now a.piece.now a.bytes a.k a.state.now a.records.now p _ f'.ensures c.in-Some.is)

pub overflow_cast-behind-in-Some : goal.overflow_cast-behind-in-Some
overflow_cast-behind-in-Some c =
    let a = c.args in
    let p = c.requires in
    omega
    (arith, from_high a.front.now a.piece.now a.bytes a.k a.state.now a.records.now p _ c.first_of.ensures c.in-Some.is, p.opened.small)

pub overflow_add-behind-in-Some : goal.overflow_add-behind-in-Some
overflow_add-behind-in-Some c =
    let a = c.args in
    let p = c.requires in
    omega
    (arith, from_high a.front.now a.piece.now a.bytes a.k a.state.now a.records.now p _ c.first_of.ensures c.in-Some.is, p.opened.small)

pub walk_on-requires-in-Some : goal.walk_on-requires-in-Some
walk_on-requires-in-Some c =
    let a = c.args in
    whole_walks a.front.now a.piece.now a.bytes a.k a.state.now a.records.now
    c.requires _
    c.first_of.ensures
    c.in-Some.is
    c.fill.auto.records

pub returns-in-None : goal.returns-in-None
returns-in-None c =
    let a = c.args in
    other-leaves a.front.now a.piece.now a.bytes a.k a.state.now a.records.now
    c.requires (omega arith)
    c.first_of.ensures
    c.in-None.is c.walk_on.ensures

pub returns-in-Some : goal.returns-in-Some
returns-in-Some c =
    let a = c.args in
    whole-leaves a.front.now a.piece.now a.bytes a.k a.state.now a.records.now
    c.requires _
    c.first_of.ensures
    c.in-Some.is
    c.fill.ensures
    c.walk_on-in-Some.ensures
