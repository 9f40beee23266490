-- `varintread::read_varint_with_start` meets its contract: each answer by the test that led to it.
-- Assumes nothing.
use Prim.Native.Nat.{ℕ}
use lib.ListN.{get_or-eq_default}
use borrow.Author.Tests.{le-leb, lt-leb}
use Rattle.varintread.specs.Reading.{read_varint_with_start}
use Rattle.varintread.proofs.read_varint_with_start.Goals as goal

pub returns-then-data-at : goal.returns-then-data-at
unfolding read_varint_with_start
returns-then-data-at c = simp (get_or-eq_default {A = ℕ} c.args.«data».now 0 c.if-data-at.true)

pub returns-then-data-at-lt128 : goal.returns-then-data-at-lt128
unfolding read_varint_with_start
returns-then-data-at-lt128 c = simp (lt-leb _ _ c.if-data-at-lt128.true)

pub returns : goal.returns
unfolding read_varint_with_start
returns c = simp (le-leb _ _ c.if-data-at-lt128.false) c.read_varint.ensures
