-- `salvage::salvage` meets its contract: each way out is a law of proofs/Told. Assumes nothing.
use mathlib.Core.Path.{sym, ap, ◌∙◌}
use Prim.Native.Nat.{◌+◌, ◌/◌, min}
use native.Mathlib.Omega.{arith}
use lib.ListN.{length}
use Rattle.std.specs.Prelude.{Ok, Err}
use Rattle.refusals.specs.Faults.{fault}
use Rattle.refusals.specs.declared.Refusal.TheVariants.{NoRoom}
use Rattle.salvage.specs.Repair.{listed}
use Rattle.salvage.proofs.Told.{told-past, told_filled, repairs_long, repairs_large, repairs_short, repairs_done}
use Rattle.salvage.proofs.salvage.Goals as goal

pub returns-then-table : goal.returns-then-table
returns-then-table c = repairs_long _ _ _ _ c.if-table.true (ap Err c.at.ensures) c.clear_bytes.ensures

pub returns-then-out-e : goal.returns-then-out-e
returns-then-out-e c =
    let a = c.args in
    let p = told-past _ _ _ c.walk_row-e.ensures c.in-PastCount.is in
    let l = c.clear_bytes.auto.bytes in
    repairs_short a.table.now a.first a.count (length a.out.now) _ (omega arith) p.size (omega (arith, p.inside)) (omega (arith, l)) (ap Err (c.at-then-out-e.ensures ∙ ap (fault NoRoom) (c.short_place.ensures ∙ ap (λ i. min i 4294967295) l))) c.clear_bytes.ensures

pub write_past-requires : goal.write_past-requires
write_past-requires c = let p = told-past _ _ _ c.walk_row-e.ensures c.in-PastCount.is in let l = c.clear_bytes.auto.bytes in (p.starts, p.inside, omega (arith, l), p.some, p.few)

pub overflow_cast-result : goal.overflow_cast-result
overflow_cast-result c =
    let a = c.args in
    let p = told-past a.table.now a.first a.count c.walk_row-e.ensures c.in-PastCount.is in
    omega (arith, p.inside, p.counted, c.ranges.count)

pub overflow_cast-result-in-PastCount : goal.overflow_cast-result-in-PastCount
overflow_cast-result-in-PastCount c =
    let a = c.args in
    let p = told-past a.table.now a.first a.count c.walk_row-e.ensures c.in-PastCount.is in
    omega (arith, p.inside, p.counted, c.ranges.count)

pub overflow_add-result : goal.overflow_add-result
overflow_add-result c =
    let a = c.args in
    let p = told-past a.table.now a.first a.count c.walk_row-e.ensures c.in-PastCount.is in
    omega (arith, p.inside, p.counted, c.ranges.count)

pub overflow_sub-result : goal.overflow_sub-result
overflow_sub-result c =
    let a = c.args in
    let p = told-past a.table.now a.first a.count c.walk_row-e.ensures c.in-PastCount.is in
    omega (arith, p.inside, p.counted, c.ranges.count)

pub returns-in-PastCount : goal.returns-in-PastCount
returns-in-PastCount c =
    let a = c.args in
    let p = told-past _ _ _ c.walk_row-e.ensures c.in-PastCount.is in
    let l = c.clear_bytes.auto.bytes in
    repairs_done a.table.now a.first a.count (length a.out.now) _ (omega arith) p.size (omega (arith, p.inside)) (omega (arith, l)) p.bytes c.clear_bytes.ensures c.write_past.ensures (ap (λ x. Ok (listed c.walk_row-e.result.next x)) (sym p.list))

pub overflow_add-size : goal.overflow_add-size
overflow_add-size c =
    let a = c.args in
    let p = told_filled a.table.now a.first a.count c.walk_row-e.ensures c.in_default.not-PastCount in
    omega (arith, p.inside, p.within, p.counted, c.ranges.count)

pub overflow_add-size-2 : goal.overflow_add-size-2
overflow_add-size-2 c =
    let a = c.args in
    let p = told_filled a.table.now a.first a.count c.walk_row-e.ensures c.in_default.not-PastCount in
    omega (arith, p.inside, p.within, p.counted, c.ranges.count)

pub returns-then-size : goal.returns-then-size
returns-then-size c =
    let a = c.args in
    let p = told_filled _ _ _ c.walk_row-e.ensures c.in_default.not-PastCount in
    repairs_large a.table.now a.first a.count (length a.out.now) _ (omega arith) p.size c.if-size.true (ap Err c.at-then-size.ensures) c.clear_bytes.ensures

pub returns-then-out-size : goal.returns-then-out-size
returns-then-out-size c =
    let a = c.args in
    let p = told_filled _ _ _ c.walk_row-e.ensures c.in_default.not-PastCount in
    let l = c.clear_bytes.auto.bytes in
    repairs_short a.table.now a.first a.count (length a.out.now) _ (omega arith) p.size (omega (arith, p.inside)) (omega (arith, l)) (ap Err (c.at-then-out-size.ensures ∙ ap (fault NoRoom) (c.short_place-then-out-size.ensures ∙ ap (λ i. min i 4294967295) l))) c.clear_bytes.ensures

pub write_covered-requires : goal.write_covered-requires
write_covered-requires c = let p = told_filled _ _ _ c.walk_row-e.ensures c.in_default.not-PastCount in let l = c.clear_bytes.auto.bytes in (p.inside, omega (arith, l), omega (arith, p.within))

pub overflow_cast-result-3 : goal.overflow_cast-result-3
overflow_cast-result-3 c =
    let a = c.args in
    let p = told_filled a.table.now a.first a.count c.walk_row-e.ensures c.in_default.not-PastCount in
    omega (arith, p.inside, p.within, p.counted, c.ranges.count)

pub overflow_sub-result-2 : goal.overflow_sub-result-2
overflow_sub-result-2 c =
    let a = c.args in
    let p = told_filled a.table.now a.first a.count c.walk_row-e.ensures c.in_default.not-PastCount in
    omega (arith, p.inside, p.within, p.counted, c.ranges.count)

pub returns : goal.returns
returns c =
    let a = c.args in
    let p = told_filled _ _ _ c.walk_row-e.ensures c.in_default.not-PastCount in
    let l = c.clear_bytes.auto.bytes in
    repairs_done a.table.now a.first a.count (length a.out.now) _ (omega arith) p.size (omega (arith, p.inside)) (omega (arith, l)) p.bytes c.clear_bytes.ensures c.write_covered.ensures (ap (λ x. Ok (listed (c.walk_row-e.result.place + (c.walk_row-e.result.left + 7) / 8) x)) (sym p.list))
