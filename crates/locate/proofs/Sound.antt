-- What a sound bytes node says: its span is in the input, and it is read as a table; any other node is refused.
-- Assumes nothing.
use mathlib.Core.Path.{◌≡◌}
use Prim.Native.Nat.{ℕ, ◌+◌, ◌≤◌, ◌<◌}
use mathlib.Core.Bool.{true, false}
use mathlib.Core.List.{List}
use lib.ListN.{length}
use borrow.Author.Tests.{le-ltb, lt-ltb, eq-eqb, ne_eqb}
use Rattle.refusals.specs.Numbers.{input_too_long, bad_table}
use Rattle.refusals.specs.Limits.{most_bytes}
use Rattle.grammar.specs.Fields.{contents}
use Rattle.grammar.specs.State.{node_at}
use Rattle.grammar.specs.Record.{sound_at}
use Rattle.grammar.proofs.Passed.{sound-ruled}
use Rattle.soundness.proofs.Soundness.{sound-node}
use Rattle.linetable.specs.Walk.{refused}
use Rattle.linetable.specs.Answer.{located}
use Rattle.locate.specs.Part.{located_at}

module _ (s nodes : List ℕ) (used n : ℕ) where
  -- its span is in the input
  pub sound-span : sound_at s nodes used n ≡ true → (node_at nodes n).place + (node_at nodes n).size ≤ length s
  sound-span e = (sound-ruled s (node_at nodes n) (sound-node s nodes used n e)).0

  module _ (first count capacity : ℕ) where
    pub too_long : most_bytes < length s → located_at s nodes used n first count capacity ≡ refused input_too_long 0
    unfolding located_at
    too_long h = rw (lt-ltb most_bytes (length s) h)

    pub unsound : length s ≤ most_bytes → sound_at s nodes used n ≡ false → located_at s nodes used n first count capacity ≡ refused bad_table n
    unfolding located_at
    unsound h e = rw (le-ltb most_bytes (length s) h, e)

    pub other : length s ≤ most_bytes → sound_at s nodes used n ≡ true → ((node_at nodes n).letter ≡ 0x73 → ⊥)
        → located_at s nodes used n first count capacity ≡ refused bad_table n
    unfolding located_at
    other h e differs = rw (le-ltb most_bytes (length s) h, e, ne_eqb (node_at nodes n).letter 0x73 differs)

    pub table : length s ≤ most_bytes → sound_at s nodes used n ≡ true → (node_at nodes n).letter ≡ 0x73
        → (place size : ℕ) → place ≡ (node_at nodes n).place → size ≡ (node_at nodes n).size
        → located_at s nodes used n first count capacity ≡ located (contents s place size) first count capacity
    unfolding located_at
    table h e is place size ep ez = rw (ep, ez, le-ltb most_bytes (length s) h, e, eq-eqb (node_at nodes n).letter 0x73 is)
