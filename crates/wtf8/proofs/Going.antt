-- The two loops over sequences. Going from one to the next, what is left is well-formed just where the whole is;
-- going over blocks of ASCII, all bytes passed are ASCII. Assumes nothing.
use mathlib.Core.Path.{◌≡◌, refl, sym, ◌∙◌}
use mathlib.Core.Bool.{true, false}
use mathlib.Core.List.{List}
use Prim.Native.Nat.{ℕ, ◌+◌, ◌-◌, ◌≤◌, ◌<◌}
use native.Mathlib.Omega.{arith}
use lib.ListN.{length, get_or, take, drop, drop_of_length-le}
use borrow.Author.Tests.{eq-eqb, ne_eqb}
use Rattle.wtf8.specs.Forms.{allows, point, well_formed}
use Rattle.wtf8.specs.Ascii.{UpTo}
use Rattle.wtf8.specs.Sequence.{Taken, Reached}
use Rattle.wtf8.proofs.Ascii.{in_whole}
use Rattle.wtf8.proofs.Reached.{lows, joined}

pub record Going (bytes : List ℕ) (at : ℕ) : Type 0 where
  pub inside : at ≤ length bytes
  pub comes : allows (drop at bytes) point ≡ well_formed bytes

module _ {bytes : List ℕ} where
  pub begun : Going bytes 0
  begun = record { inside = omega arith; comes = refl }

  -- a sequence taken
  pub onward : {at size : ℕ} → Going bytes at → Taken bytes at size → (size ≡ 0 → ⊥) → Going bytes (at + size)
  onward {at} {size} g t n =
      record { inside = t.inside; comes = rw (ne_eqb size 0 n) at (sym t.leaves) ∙ g.comes }

  -- no sequence
  pub refused : {at size : ℕ} → Going bytes at → Taken bytes at size → size ≡ 0 → false ≡ well_formed bytes
  refused {at} {size} g t z = rw (eq-eqb size 0 z) at (sym t.leaves) ∙ g.comes

  -- nothing left
  pub ended : {at : ℕ} → Going bytes at → length bytes ≤ at → true ≡ well_formed bytes
  unfolding allows
  ended {at} g h = rw (drop_of_length-le bytes {i = at} h) at g.comes

-- All bytes from `at` to `end` are ASCII.
pub record Low (bytes : List ℕ) (at end : ℕ) : Type 0 where
  pub from : at ≤ end
  pub inside : end ≤ length bytes
  pub all : Reached bytes at (end - at) point

pub low_none : {bytes : List ℕ} {at : ℕ} → at ≤ length bytes → Low bytes at at
low_none {bytes} {at} h =
    let none : at - at ≡ 0 = omega arith in
    record { from = omega arith; inside = h; all = rw none (lows 0 (omega arith) (λ k l. absurd (omega (arith, l)))) }

-- so many bytes more, looked at as a part
pub low_more :
    {bytes : List ℕ} {at end most : ℕ} (n : ℕ) → Low bytes at end → n ≤ length bytes - end
    → UpTo most (take (end + n - end) (drop end bytes)) → most < 0x80 → Low bytes at (end + n)
low_more {bytes} {at} {end} {most} n w h part l =
    let here : at + (end - at) ≡ end = omega arith in
    let far : end + n - at ≡ end - at + n = omega arith in
    let each : (k : ℕ) → k < n → get_or bytes (end + k) 0 < 0x80 =
    λ k i. omega (arith, l, in_whole bytes end (end + n - end) part (end + k) (omega arith) (omega (arith, i)) (omega (arith, i))) in
    record { from = omega arith; inside = omega arith; all = rw far (joined w.all (rw here (lows n (omega arith) each))) }
