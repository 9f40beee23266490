-- 01, 'What is lent and what is kept': "Floats carry the stored bits." Of every pattern, a NaN's too: the bits beside the answer are the
-- stored payload and each float is the one that they stand for (and, by `own_bits` of Patterns, has them as its own if it is no NaN).
-- Assumes nothing.
use mathlib.Core.Path.{◌≡◌}
use Prim.Native.Nat.{ℕ, ◌+◌, ◌≤◌}
use mathlib.Core.Bool.{true}
use mathlib.Core.List.{List}
use lib.ListN.{length}
use lib.Ieee.{binary64, of_bits}
use borrow.Author.Tests.{le-ltb}
use Rattle.refusals.specs.Limits.{most_bytes}
use Rattle.grammar.specs.Reading.{gives}
use Rattle.grammar.specs.Fields.{le64}
use Rattle.grammar.specs.State.{node_at}
use Rattle.grammar.specs.Record.{sound_at}
use Rattle.grammar.specs.Leaf.{leaf_as, leaf_of}
use Rattle.leaf.specs.Answers.{answered_of}
use Rattle.leaf.specs.declared.Leaf.TheVariants as leaf

module _ (s nodes : List ℕ) (used n : ℕ) (short : length s ≤ most_bytes) (ok : sound_at s nodes used n ≡ true) where
  pub one_float : (node_at nodes n).letter ≡ 0x67
      → answered_of (leaf_of s nodes used n)
      ≡ gives
      (record {
        leaf = leaf.Float (of_bits binary64 (le64 s (node_at nodes n).place));
        first = le64 s (node_at nodes n).place;
        second = 0;
      })
  unfolding leaf_as leaf_of
  one_float is = rw (le-ltb most_bytes (length s) short, ok, is)

  pub two_floats : (node_at nodes n).letter ≡ 0x79
      → answered_of (leaf_of s nodes used n)
      ≡ gives
      (record {
        leaf = leaf.Complex (of_bits binary64 (le64 s (node_at nodes n).place)) (of_bits binary64 (le64 s ((node_at nodes n).place + 8)));
        first = le64 s (node_at nodes n).place;
        second = le64 s ((node_at nodes n).place + 8);
      })
  unfolding leaf_as leaf_of
  two_floats is = rw (le-ltb most_bytes (length s) short, ok, is)
