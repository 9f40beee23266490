-- `editions::search` meets its contract, by the laws of this crate that it names.
-- Assumes nothing.
use mathlib.Core.Path.{refl}
use native.Mathlib.Omega.{arith}
use Rattle.editions.proofs.Searching.{search_start, search_end, search_cut-length, search_cut, met-place, search_fault, search_more}
use Rattle.editions.proofs.search.Goals as goal

pub loop-at-init : goal.loop-at-init
loop-at-init c = search_start

pub returns-then-archive-at-lt4 : goal.returns-then-archive-at-lt4
returns-then-archive-at-lt4 c = rw c.at.ensures (search_cut-length c.loop-at.invariant c.loop-at-test.true c.if-archive-at-lt4.true)

pub returns-then-archive-start : goal.returns-then-archive-start
returns-then-archive-start c = rw c.at-then-archive-start.ensures (search_cut c.loop-at.invariant (omega arith) c.length_at-size.ensures.0 c.if-archive-start.true)

pub overflow_add-start-in-Err : goal.overflow_add-start-in-Err
overflow_add-start-in-Err c = let p = met-place c.loop-at.invariant
    c.length_at-size.ensures.0 refl (omega arith) c.in-Err.ensures in record { fits = omega (arith, p, c.requires) }

pub returns-in-Err : goal.returns-in-Err
returns-in-Err c = rw c.at-in-Err.ensures (search_fault c.loop-at.invariant c.length_at-size.ensures.0 refl (omega arith) c.in-Err.ensures)

pub loop-at-preserved : goal.loop-at-preserved
loop-at-preserved c = search_more c.loop-at.invariant
    c.length_at-size.ensures.0 refl (omega arith) c.in-Ok.ensures c.or_this-found.ensures

pub returns : goal.returns
returns c = search_end c.loop-at.invariant c.loop-at-test.false
