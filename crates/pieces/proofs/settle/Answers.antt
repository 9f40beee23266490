-- `pieces::settle` meets its contract: what the walk tells decides, and each way is a law of proofs/Settles.
use mathlib.Core.Path.{refl}
use Prim.Native.Nat.{◌+◌, ◌-◌}
use mathlib.Core.List.{[]}
use lib.ListN.{length, take, drop}
use native.Mathlib.Omega.{arith}
use Rattle.pieces.proofs.Settles.{place-upto, left_upto, unlost_part, out_part, short-part, cut-part, settles_past, settles_stop, settles_end, settles_all, goes_on, leaves_same}
use Rattle.pieces.proofs.settle.Goals as goal

pub overflow_cast-to-2 : goal.overflow_cast-to-2
overflow_cast-to-2 c =
    let a = c.args in
    let p = c.requires in
    omega (arith, place-upto a.table.now a.k.start a.bytes a.k.count a.k.line (a.k.count - a.k.placed) a.state.now a.records.now p.tells, p.small)

pub overflow_add-to : goal.overflow_add-to
overflow_add-to c =
    let a = c.args in
    let p = c.requires in
    omega (arith, place-upto a.table.now a.k.start a.bytes a.k.count a.k.line (a.k.count - a.k.placed) a.state.now a.records.now p.tells, p.small)

pub overflow_cast-to : goal.overflow_cast-to
overflow_cast-to c =
    let a = c.args in
    let p = c.requires in
    omega (arith, left_upto a.table.now a.k.start a.bytes a.k.count a.k.line (a.k.count - a.k.placed) a.state.now a.records.now p.tells, p.few)

pub overflow_sub-to : goal.overflow_sub-to
overflow_sub-to c =
    let a = c.args in
    let p = c.requires in
    omega (arith, left_upto a.table.now a.k.start a.bytes a.k.count a.k.line (a.k.count - a.k.placed) a.state.now a.records.now p.tells, p.few)

pub slice_bounds-settle_refused-count : goal.slice_bounds-settle_refused-count
slice_bounds-settle_refused-count c =
    let a = c.args in
    let p = c.requires in
    omega (arith, place-upto a.table.now a.k.start a.bytes a.k.count a.k.line (a.k.count - a.k.placed) a.state.now a.records.now p.tells)

pub slice_bounds-settle_refused-start : goal.slice_bounds-settle_refused-start
slice_bounds-settle_refused-start c =
    let a = c.args in
    let p = c.requires in
    omega (arith, place-upto a.table.now a.k.start a.bytes a.k.count a.k.line (a.k.count - a.k.placed) a.state.now a.records.now p.tells)

pub settle_refused-requires : goal.settle_refused-requires
settle_refused-requires c =
    let a = c.args in
    let p = c.requires in
    (p.numbers, refl, unlost_part a.table.now a.k.start a.bytes a.k.count a.k.line (a.k.count - a.k.placed) a.state.now a.records.now p.tells c.in-Refused.is)

pub returns-in-Refused : goal.returns-in-Refused
returns-in-Refused c =
    let a = c.args in
    let p = c.requires in
    leaves_same (out_part a.table.now a.k.start a.bytes a.k.count a.k.line (a.k.count - a.k.placed) a.state.now a.records.now p.tells c.in-Refused.is) c.settle_refused.ensures

pub slice_bounds-go_on-count : goal.slice_bounds-go_on-count
slice_bounds-go_on-count c =
    let a = c.args in
    let p = c.requires in
    omega (arith, place-upto a.table.now a.k.start a.bytes a.k.count a.k.line (a.k.count - a.k.placed) a.state.now a.records.now p.tells)

pub slice_bounds-go_on-start : goal.slice_bounds-go_on-start
slice_bounds-go_on-start c =
    let a = c.args in
    let p = c.requires in
    omega (arith, place-upto a.table.now a.k.start a.bytes a.k.count a.k.line (a.k.count - a.k.placed) a.state.now a.records.now p.tells)

pub go_on-requires : goal.go_on-requires
go_on-requires c =
    let a = c.args in
    let p = c.requires in
    (p.numbers, short-part a.table.now a.k.start a.bytes a.k.count a.k.line (a.k.count - a.k.placed) a.state.now a.records.now p.tells c.in-Cut.is)

pub returns-in-Cut : goal.returns-in-Cut
returns-in-Cut c =
    let a = c.args in
    let p = c.requires in
    goes_on a.state.now a.records.now a.x.line (a.k.count - a.x.left) (a.k.start + a.x.place) a.bytes 1 (take (length a.table.now - a.x.place) (drop a.x.place a.table.now)) (cut-part a.table.now a.k.start a.bytes a.k.count a.k.line (a.k.count - a.k.placed) a.state.now a.records.now p.tells c.in-Cut.is) c.go_on.ensures.0 c.go_on.ensures.1

pub returns-in-PastCount : goal.returns-in-PastCount
returns-in-PastCount c =
    let a = c.args in
    let p = c.requires in
    goes_on a.state.now a.records.now a.x.line a.k.count (a.k.start + a.x.place) a.bytes 2 [] (settles_past a.table.now a.k.start a.bytes a.k.count a.k.line (a.k.count - a.k.placed) a.state.now a.records.now p.tells c.in-PastCount.is) c.go_bare.ensures.0 c.go_bare.ensures.1

pub returns-then-place-table : goal.returns-then-place-table
returns-then-place-table c =
    let a = c.args in
    let p = c.requires in
    goes_on a.state.now a.records.now a.x.line (a.k.count - a.x.left) (a.k.start + a.x.place) a.bytes 2 [] (settles_stop a.table.now a.k.start a.bytes a.k.count a.k.line (a.k.count - a.k.placed) a.state.now a.records.now p.tells c.in-Ended.is c.if-place-table.true) c.go_bare-then-place-table.ensures.0 c.go_bare-then-place-table.ensures.1

pub returns-else-place-table : goal.returns-else-place-table
returns-else-place-table c =
    let a = c.args in
    let p = c.requires in
    goes_on a.state.now a.records.now a.x.line (a.k.count - a.x.left) (a.k.start + a.x.place) a.bytes 1 [] (settles_end a.table.now a.k.start a.bytes a.k.count a.k.line (a.k.count - a.k.placed) a.state.now a.records.now p.tells c.in-Ended.is c.if-place-table.false) c.go_bare-in-Ended.ensures.0 c.go_bare-in-Ended.ensures.1

pub returns-in-AllPlaced : goal.returns-in-AllPlaced
returns-in-AllPlaced c =
    let a = c.args in
    let p = c.requires in
    goes_on a.state.now a.records.now a.x.line (a.k.count - a.x.left) (a.k.start + a.x.place) a.bytes 1 [] (settles_all a.table.now a.k.start a.bytes a.k.count a.k.line (a.k.count - a.k.placed) a.state.now a.records.now p.tells c.in-AllPlaced.is) c.go_bare-in-AllPlaced.ensures.0 c.go_bare-in-AllPlaced.ensures.1
