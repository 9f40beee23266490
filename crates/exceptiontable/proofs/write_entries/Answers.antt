-- `exceptiontable::write_entries` meets its contract: at each turn the entries still to come make the same answer and output.
-- Assumes nothing.
use mathlib.Core.Path.{◌≡◌, ap, ◌∙◌}
use Prim.Native.Nat.{◌/◌, ◌-◌, min}
use borrow.Author.Rules.{rules}
use lib.ListN.{length}
use native.Mathlib.Omega.{arith}
use Rattle.refusals.specs.Faults.{fault}
use Rattle.refusals.specs.Limits.{nothing}
use Rattle.refusals.specs.declared.Refusal.TheVariants.{NoRoom}
use Rattle.exceptiontable.proofs.Encoding.{encoded_start, encoded_deep, encoded_no_bit, encoded_full, encoded_turn, encoded_end}
use Rattle.exceptiontable.proofs.write_entries.Goals as goal

pub loop-i-init : goal.loop-i-init
loop-i-init c =
    let all : length c.args.entries.now / 5 - 0 ≡ length c.args.entries.now / 5 = omega arith in
    rw all (encoded_start _ c.args.out.now c.requires)

pub returns-then-entries-i-ge2147483648 : goal.returns-then-entries-i-ge2147483648
returns-then-entries-i-ge2147483648 c = encoded_deep c.loop-i.invariant (omega (arith, c.loop-i-test.true)) c.if-entries-i-ge2147483648.true c.at.ensures

pub returns-then-entries-i-ge2 : goal.returns-then-entries-i-ge2
returns-then-entries-i-ge2 c = encoded_no_bit c.loop-i.invariant (omega (arith, c.loop-i-test.true)) c.if-entries-i-ge2.true c.at-then-entries-i-ge2.ensures

pub returns-then-room-used : goal.returns-then-room-used
returns-then-room-used c =
    let most : c.min-room.result ≡ min (length c.args.out.now) nothing = search rules in
    encoded_full c.loop-i.invariant (omega (arith, c.loop-i-test.true)) c.if-entries-i-ge2147483648.false c.if-entries-i-ge2.false
    (omega (arith, c.if-room-used.true, c.entry_size.ensures.0, most)) (c.at-then-room-used.ensures ∙ ap (fault NoRoom) most)

pub loop-i-preserved : goal.loop-i-preserved
loop-i-preserved c =
    let most : c.min-room.result ≡ min (length c.args.out.now) nothing = search rules in
    encoded_turn c.loop-i.invariant (omega (arith, c.loop-i-test.true)) c.if-entries-i-ge2147483648.false c.if-entries-i-ge2.false
    (omega (arith, c.if-room-used.false, c.entry_size.ensures.0, most)) c.put_entry-used.ensures.0 c.put_entry-used.ensures.1
    (omega arith) (omega arith)

pub returns : goal.returns
returns c = encoded_end c.loop-i.invariant (omega (arith, c.loop-i-test.false))
