-- `linetable::walk_entries` meets its contract: the loop's invariant is that what is left still comes to the same reading,
-- and each way out of a turn is a law of proofs/Walking.
use mathlib.Core.Path.{refl, sym, ap, ◌∙◌}
use native.Mathlib.Omega.{arith}
use Rattle.std.specs.Prelude.{Err}
use Rattle.lineentry.proofs.Entries.{entry-places, refused-inside}
use Rattle.linetable.proofs.Stores.{cleared_behind, cleared-length}
use Rattle.linetable.proofs.Walking.{going_start, at_length, fits, ends-stop, ends-refused, ends-beyond, goes_on, ends_all}
use Rattle.linetable.proofs.walk_entries.Goals as goal

pub loop-i-init : goal.loop-i-init
loop-i-init c =
    let a = c.args in
    going_start a.table.now a.count a.first a.records.now _ _ c.requires.1 (cleared-length _ _ c.requires.1 c.clear_words.ensures) (cleared_behind _ _ c.requires.1 c.clear_words.ensures) c.at_line-left_over.ensures

pub overflow_cast-at : goal.overflow_cast-at
overflow_cast-at c = omega (arith, refused-inside _ _ _ (sym c.next_entry.ensures ∙ c.in-OutOfRange.is))

pub shape_of-records-in-OutOfRange : goal.shape_of-records-in-OutOfRange
shape_of-records-in-OutOfRange c = c.refuse.auto.records ∙ c.loop-i.invariant.same ∙ (cleared-length _ _ c.requires.1 c.clear_words.ensures)

pub returns-in-OutOfRange : goal.returns-in-OutOfRange
returns-in-OutOfRange c = at_length _ (cleared-length _ _ c.requires.1 c.clear_words.ensures) (ends-refused c.loop-i.invariant _ _ (omega arith) (sym c.next_entry.ensures ∙ c.in-OutOfRange.is) (c.refuse.ensures.0 ∙ ap Err c.at.ensures, c.refuse.ensures.1))

pub fill-requires : goal.fill-requires
fill-requires c = fits c.loop-i.invariant _ (omega arith)

pub shape_of-records-in-Stop : goal.shape_of-records-in-Stop
shape_of-records-in-Stop c = c.fill.auto.records ∙ c.loop-i.invariant.same ∙ (cleared-length _ _ c.requires.1 c.clear_words.ensures)

pub returns-in-Stop : goal.returns-in-Stop
returns-in-Stop c = at_length _ (cleared-length _ _ c.requires.1 c.clear_words.ensures) (ends-stop c.loop-i.invariant _ (omega arith) (sym c.next_entry.ensures ∙ c.in-Stop.is) c.fill.ensures)

pub fill-requires-then-total-i : goal.fill-requires-then-total-i
fill-requires-then-total-i c = fits c.loop-i.invariant _ (omega arith)

pub shape_of-records-then-total-i : goal.shape_of-records-then-total-i
shape_of-records-then-total-i c = c.fill-then-total-i.auto.records ∙ c.loop-i.invariant.same ∙ (cleared-length _ _ c.requires.1 c.clear_words.ensures)

pub returns-then-total-i : goal.returns-then-total-i
returns-then-total-i c = at_length _ (cleared-length _ _ c.requires.1 c.clear_words.ensures) (ends-beyond c.loop-i.invariant _ _ (omega arith) (sym c.next_entry.ensures ∙ c.in-Covers.is) c.if-total-i.true c.fill-then-total-i.ensures)

pub fill-requires-in-Covers : goal.fill-requires-in-Covers
fill-requires-in-Covers c = fits c.loop-i.invariant _ (omega arith)

pub loop-i-smaller : goal.loop-i-smaller
loop-i-smaller c =
    let z = entry-places _ _ _ _ (sym c.next_entry.ensures ∙ c.in-Covers.is) in
    omega (arith, z)

pub loop-i-preserved : goal.loop-i-preserved
loop-i-preserved c = goes_on c.loop-i.invariant _ _ _ (omega arith) (sym c.next_entry.ensures ∙ c.in-Covers.is) c.if-total-i.false c.fill-in-Covers.ensures refl

pub shape_of-records : goal.shape_of-records
shape_of-records c = c.loop-i.invariant.same ∙ (cleared-length _ _ c.requires.1 c.clear_words.ensures)

pub returns : goal.returns
returns c = at_length _ (cleared-length _ _ c.requires.1 c.clear_words.ensures) (ends_all c.loop-i.invariant _ (omega arith) c.all_used.ensures)
