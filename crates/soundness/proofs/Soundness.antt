-- What a sound record says of the input: the fields of its letter are there. For whoever reads a node that was tested.
-- Assumes nothing.
use mathlib.Core.Path.{◌≡◌, refl}
use Prim.Native.Nat.{ℕ, zero, suc, ◌+◌, ◌-◌, ◌*◌, ◌≤◌, ◌<◌}
use mathlib.Core.Bool.{Bool, true, false, cond}
use mathlib.Core.List.{List}
use native.Mathlib.Omega.{arith}
use lib.ListN.{length}
use lib.Dec.{leb, ltb, eqb}
use borrow.Author.Tests.{leb-true, ltb-true, eqb-false}
use Rattle.refusals.specs.Numbers.{data_too_short, invalid_bytecode}
use Rattle.grammar.specs.Reading.{Answer, stops}
use Rattle.grammar.specs.Letters as letter
use Rattle.grammar.specs.Letters.{keeps, class_of}
use Rattle.grammar.specs.Fields.{Fields, field, fields, le16, le32, digits, last_digit, pylong, digit_count}
use Rattle.grammar.specs.State.{Node, node_at}
use Rattle.grammar.specs.Record.{reads_as, ruled, sound, sound_at, nodes_in}
use Rattle.grammar.proofs.Tests.{never, both_true}
use Rattle.grammar.proofs.Passed.{sound-ruled}
use Rattle.stores.specs.Written.{NodeIn}
use Rattle.soundness.specs.Held.{LongAt}

module _ (s : List ℕ) (n : Node) where
  -- a field that was read is there, and the rest was read
  field_held : (at size : ℕ) (rest : Answer Fields) → reads_as (field s at size rest) n ≡ true
      → (at + size ≤ length s) × (reads_as rest n ≡ true)
  field_held at size rest e = go (leb (at + size) (length s)) refl e
    where
      go : (t : Bool) → leb (at + size) (length s) ≡ t → reads_as (cond t rest (stops data_too_short at)) n ≡ true
          → (at + size ≤ length s) × (reads_as rest n ≡ true)
      go true q e = (leb-true (at + size) (length s) q, e)
      go false q e = never e

  digit_held : (at : ℕ) (rest : Answer Fields) → reads_as (cond (ltb (le16 s at) 32768) rest (stops invalid_bytecode at)) n ≡ true
      → reads_as rest n ≡ true
  digit_held at rest e = go (ltb (le16 s at) 32768) e
    where
      go : (t : Bool) → reads_as (cond t rest (stops invalid_bytecode at)) n ≡ true → reads_as rest n ≡ true
      go true e = e
      go false e = never e

  digits_held : (count at : ℕ) (rest : Answer Fields) → at ≤ length s → reads_as (digits s count at rest) n ≡ true
      → (at + 2 * count ≤ length s) × (reads_as rest n ≡ true)
  unfolding digits
  digits_held zero at rest le e = (omega arith, e)
  digits_held (suc more) at rest le e =
      let held = field_held at 2 _ e in
      let later = digits_held more (at + 2) rest held.0 (digit_held at (digits s more (at + 2) rest) held.1) in
      (omega (arith, later.0), later.1)

  last_held : (count at : ℕ) (rest : Answer Fields) → reads_as (last_digit s count at rest) n ≡ true → 0 < count
      → 0 < le16 s (at + 2 * (count - 1))
  last_held zero at rest e h = absurd (omega arith)
  last_held (suc more) at rest e h =
      let back : suc more - 1 ≡ more = omega arith in
      rw back (go (eqb (le16 s (at + 2 * more)) 0) refl e)
    where
      go : (t : Bool) → eqb (le16 s (at + 2 * more)) 0 ≡ t
          → reads_as (cond t (stops invalid_bytecode (at + 2 * more)) rest) n ≡ true → 0 < le16 s (at + 2 * more)
      go true q e = never e
      go false q e = let some : le16 s (at + 2 * more) ≡ 0 → ⊥ = eqb-false _ _ q in omega arith

  module _ (ok : sound s n ≡ true) where
    rules : ruled s n (class_of n.letter) ≡ true
    rules = (sound-ruled s n ok).1

    pub fixed_held : (size : ℕ) → class_of n.letter ≡ keeps (letter.fixed size) → n.place + size ≤ length s
    unfolding fields
    fixed_held size is = (field_held n.place size _ (rw is at rules)).0

    pub double_held : class_of n.letter ≡ keeps letter.double → n.place + 8 + 8 ≤ length s
    unfolding fields
    double_held is = (field_held (n.place + 8) 8 _ (field_held n.place 8 _ (rw is at rules)).1).0

    pub long_held : class_of n.letter ≡ keeps letter.long → LongAt s n.place
    unfolding fields pylong
    long_held is =
        let held = field_held n.place 4 _ (rw is at rules) in
        let count = digit_count (le32 s n.place) in
        let judged = digits_held count (n.place + 4) _ held.0 held.1 in
        record { here = held.0; digits = judged.0; last = last_held count (n.place + 4) _ judged.1 }

-- A node that was found sound by its number is in the store.
module _ (s nodes : List ℕ) (used n : ℕ) (ok : sound_at s nodes used n ≡ true) where
  pub in_store : NodeIn nodes n
  unfolding sound_at
  in_store =
      let below : n < nodes_in nodes used = ltb-true _ _ (both_true (ltb n (nodes_in nodes used)) (sound s (node_at nodes n)) ok).0 in
      omega arith

  pub sound-node : sound s (node_at nodes n) ≡ true
  unfolding sound_at
  sound-node = (both_true (ltb n (nodes_in nodes used)) (sound s (node_at nodes n)) ok).1
