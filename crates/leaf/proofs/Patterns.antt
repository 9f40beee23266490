-- Which stored bits are a NaN's, and that every other float's own bits are the stored ones. Assumes nothing.
use mathlib.Core.Path.{◌≡◌, refl, sym, subst, ◌∙◌}
use mathlib.Core.Bool.{Bool, true, false, not}
use Prim.Native.Nat.{ℕ, ◌%◌, ◌^◌, ◌≤◌, ◌<◌}
use borrow.Author.Tests.{lt-ltb, le-ltb}
use lib.Dec.{T}
use lib.Ieee.{Float, nan, inf, fin, binary64, nan_bits, of_bits, to_bits, is_nan}
use lib.Ieee.Bits.{nan_bits_above, nan_bits_is, to_bits-of_bits}

-- bits at most the infinity's, the sign aside, are no NaN's
pub no_nan : (bits : ℕ) → bits % 0x8000000000000000 ≤ 0x7FF0000000000000 → T (not (nan_bits binary64 bits))
no_nan bits h = subst (λ (b : Bool). T (not b)) (sym (nan_bits_above binary64 bits ∙ le-ltb _ _ h)) tt

the_nan : (x : Float) → is_nan x ≡ true → x ≡ nan
unfolding is_nan
the_nan nan e = refl
the_nan (inf sign) e = let apart : ◌≡◌ {A = Bool} false true = e in cc
the_nan (fin sign m k) e = let apart : ◌≡◌ {A = Bool} false true = e in cc

-- bits above the infinity's, the sign aside, are a NaN's
pub a_nan : (bits : ℕ) → 0x7FF0000000000000 < bits % 0x8000000000000000 → of_bits binary64 bits ≡ nan
a_nan bits h = the_nan (of_bits binary64 bits) (sym (nan_bits_is binary64 bits) ∙ nan_bits_above binary64 bits ∙ lt-ltb _ _ h)

-- 01: "Floats carry the stored bits": of a float that is no NaN they are its own
pub own_bits : (bits : ℕ) → bits < 2 ^ 64 → T (not (nan_bits binary64 bits)) → to_bits binary64 (of_bits binary64 bits) ≡ bits
own_bits bits h proper = to_bits-of_bits binary64 bits h (subst (λ (b : Bool). T (not b)) (nan_bits_is binary64 bits) proper)
