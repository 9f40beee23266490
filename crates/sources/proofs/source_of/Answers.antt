-- `sources::source_of` meets its contract: the code of the first byte decides.
-- Assumes nothing.
use mathlib.Core.Path.{◌≡◌}
use mathlib.Core.Bool.{true, false}
use Prim.Native.Nat.{ℕ, ◌<◌}
use native.Mathlib.Omega.{arith}
use lib.Dec.{ltb, eqb}
use borrow.Author.Tests.{ne_eqb, lt-ltb, le-ltb}
use Rattle.sources.specs.Source.{long_source, source_of}
use Rattle.sources.proofs.source_of.Goals as goal

below_13 : (code : ℕ) → code < 13 → (eqb code 15 ≡ false) × (eqb code 14 ≡ false) × (ltb code 13 ≡ true)
below_13 code h = (ne_eqb code 15 (λ z. omega arith), ne_eqb code 14 (λ z. omega arith), lt-ltb code 13 h)

pub returns-then-code-lt13 : goal.returns-then-code-lt13
unfolding source_of
returns-then-code-lt13 c =
    let code = below_13 _ c.if-code-lt13.true in
    rw (← c.lt_byte-first.ensures, code.0, code.1, code.2, ← c.is_above.ensures) c.sum_of.ensures

pub returns-then-code-eq15 : goal.returns-then-code-eq15
unfolding source_of
returns-then-code-eq15 c = rw (← c.lt_byte-first.ensures, c.if-code-eq15.true) c.sum_of-then-code-eq15.ensures

pub long_source-requires : goal.long_source-requires
long_source-requires c =
    let first = c.lt_byte-first.ensures in
    rw first (c.requires (rw (← first) c.if-code-eq14.true))

pub returns-then-code-eq14 : goal.returns-then-code-eq14
unfolding source_of long_source
returns-then-code-eq14 c = rw (← c.lt_byte-first.ensures, c.if-code-eq14.true) c.long_source.ensures

pub returns : goal.returns
unfolding source_of
returns c =
    rw (← c.lt_byte-first.ensures, ne_eqb _ _ c.if-code-eq15.false, ne_eqb _ _ c.if-code-eq14.false, le-ltb _ _ c.if-code-lt13.false, ← c.is_above-2.ensures)
    c.sum_of-2.ensures
