-- What the test of the room tells those who write. Assumes nothing.
use mathlib.Core.Path.{◌≡◌, refl}
use mathlib.Core.Bool.{Bool, true, false, cond}
use Prim.Native.Nat.{ℕ, ◌≤◌, min}
use native.Mathlib.Omega.{arith}
use lib.Dec.{ltb}
use borrow.Author.Tests.{ltb-false}
use Rattle.std.specs.Prelude.{Result, Ok, Err}
use Rattle.refusals.specs.declared.Fault.{Fault}
use Rattle.refusals.specs.declared.Refusal.TheVariants.{NoRoom}
use Rattle.refusals.specs.Faults.{fault, refused}
use Rattle.refusals.specs.Limits.{nothing}
use Rattle.taggedfields.specs.Fitting.{fitting}

module _ (room size : ℕ) where
  -- the bytes do not fit
  pub record Short (why : Fault) : Type 0 where
    pub test : ltb (min room nothing) size ≡ true
    pub is : why ≡ fault NoRoom (min room nothing)

  pub short : {why : Fault} → Err why ≡ fitting room size → Short why
  short {why} e = go (ltb (min room nothing) size) refl e
    where
      go : (c : Bool) → ltb (min room nothing) size ≡ c → Err why ≡ cond {A = Result ℕ Fault} c (refused NoRoom (min room nothing)) (Ok size) → Short why
      go true q d = record { test = q; is = cc }
      go false q d = absurd (cc)

  -- they fit
  pub record Fits (count : ℕ) : Type 0 where
    pub test : ltb (min room nothing) size ≡ false
    pub is : count ≡ size
    pub within : size ≤ room

  pub fits : {count : ℕ} → Ok count ≡ fitting room size → Fits count
  fits {count} e = go (ltb (min room nothing) size) refl e
    where
      go : (c : Bool) → ltb (min room nothing) size ≡ c → Ok count ≡ cond {A = Result ℕ Fault} c (refused NoRoom (min room nothing)) (Ok size) → Fits count
      go true q d = absurd (cc)
      go false q d = record { test = q; is = cc; within = omega (arith, ltb-false (min room nothing) size q) }
