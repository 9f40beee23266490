-- What holds at each turn of the reader's loop: the bytes that are left still read as the same number, or as one too large.
-- Assumes nothing.
use mathlib.Core.Path.{◌≡◌, refl}
use mathlib.Core.Bool.{Bool, true, false, cond}
use mathlib.Core.List.{List, [], ◌∷◌}
use Prim.Native.Nat.{ℕ, ◌+◌, ◌*◌, ◌/◌, ◌%◌, ◌^◌, ◌≤◌, ◌<◌}
use native.Mathlib.Numerals.{add-one}
use native.Mathlib.Omega.{arith}
use borrow.Author.Tests.{eq-eqb, ne_eqb, lt-ltb, le-ltb, ltb-true, ltb-false}
use lib.Dec.{ltb}
use lib.ListN.{length, drop, get_or, drop_of_length-le}
use lib.Seq.{drop-cons}
use Rattle.refusals.specs.declared.Refusal.TheVariants.{DataTooShort}
use Rattle.varintread.specs.Reading.{unread, whole_at, read_groups, read_varint}

-- a number that is too large stays so, and how large it is does not show
too_large : (bytes : List ℕ) (at a b next : ℕ) → 2 ^ 32 ≤ a → 2 ^ 32 ≤ b → read_groups at a next bytes ≡ read_groups at b next bytes
unfolding read_groups
too_large [] at a b next h k = refl
too_large (byte ∷ bytes) at a b next h k =
    let x = a * 64 + byte % 64 in
    let y = b * 64 + byte % 64 in
    rw (too_large bytes at x y (next + 1) (omega arith) (omega arith), le-ltb x (2 ^ 32) (omega arith), le-ltb y (2 ^ 32) (omega arith))

-- what is kept of a number: the number itself, or that it is too large
abbrev kept : ℕ → ℕ
kept n = cond (ltb n (2 ^ 32)) n (2 ^ 32)

kept-within : (n : ℕ) → kept n ≤ 2 ^ 32
kept-within n = go (ltb n (2 ^ 32)) refl
  where
    go : (t : Bool) → ltb n (2 ^ 32) ≡ t → kept n ≤ 2 ^ 32
    go true e = rw e (omega (arith, ltb-true n (2 ^ 32) e))
    go false e = rw e (omega arith)

kept-reads : (bytes : List ℕ) (at n next : ℕ) → read_groups at (kept n) next bytes ≡ read_groups at n next bytes
kept-reads bytes at n next = go (ltb n (2 ^ 32)) refl
  where
    go : (t : Bool) → ltb n (2 ^ 32) ≡ t → read_groups at (kept n) next bytes ≡ read_groups at n next bytes
    go true e = rw e
    go false e = rw e (too_large bytes at (2 ^ 32) n next (omega arith) (ltb-false n (2 ^ 32) e))

kept_whole : (at n next : ℕ) → whole_at at (kept n) next ≡ whole_at at n next
kept_whole at n next = go (ltb n (2 ^ 32)) refl
  where
    go : (t : Bool) → ltb n (2 ^ 32) ≡ t → whole_at at (kept n) next ≡ whole_at at n next
    go true e = rw (e, e)
    go false e = rw e

-- the bytes before `next` are read
pub record ReadSoFar (bytes : List ℕ) (at val next : ℕ) : Type 0 where
  pub comes : read_groups at val next (drop next bytes) ≡ read_varint bytes at
  pub within : next ≤ length bytes
  pub fits : val ≤ 2 ^ 32

pub read_start : (bytes : List ℕ) (at : ℕ) → at < length bytes → ReadSoFar bytes at 0 at
unfolding read_varint
read_start bytes at h =
    record {
      comes = rw (lt-ltb at (length bytes) h);
      within = omega arith;
      fits = omega arith;
    }

module _ {bytes : List ℕ} {at val next : ℕ} (k : ReadSoFar bytes at val next) where
  -- 0x40: the next byte's group goes below those read
  pub read-turn : {up : ℕ} → next < length bytes → (get_or bytes next 0 / 0x40 % 2 ≡ 0 → ⊥)
      → up ≡ kept (val * 64 + get_or bytes next 0 % 64) → ReadSoFar bytes at up (next + 1)
  unfolding read_groups
  read-turn {up} h m e =
      let b = get_or bytes next 0 in
      let set : b / 0x40 % 2 ≡ 1 = omega arith in
      record {
        comes =
            rw (e, kept-reads (drop (next + 1) bytes) at (val * 64 + b % 64) (next + 1), add-one)
            (rw (drop-cons bytes next 0 h, eq-eqb _ _ set, add-one) at k.comes);
        within = omega arith;
        fits = rw e (kept-within (val * 64 + b % 64));
      }

  -- no 0x40: the number is whole
  pub read_end : {up : ℕ} → next < length bytes → get_or bytes next 0 / 0x40 % 2 ≡ 0
      → up ≡ kept (val * 64 + get_or bytes next 0 % 64) → whole_at at up (next + 1) ≡ read_varint bytes at
  unfolding read_groups
  read_end {up} h m e =
      let b = get_or bytes next 0 in
      rw (e, kept_whole at (val * 64 + b % 64) (next + 1))
      (rw (drop-cons bytes next 0 h, ne_eqb (b / 0x40 % 2) 1 (λ z. omega arith)) at k.comes)

  -- nothing left: the number is cut
  pub read-cut : length bytes ≤ next → unread DataTooShort at ≡ read_varint bytes at
  unfolding read_groups
  read-cut h = rw (drop_of_length-le bytes {i = next} h) at k.comes
