-- Table 3-7 by ranges of the first byte, and by the bounds of the second that the code computes from it.
-- Assumes nothing.
use mathlib.Core.Path.{◌≡◌, refl}
use mathlib.Core.Bool.{Bool, true, false, cond}
use Prim.Native.Nat.{ℕ, ◌+◌, ◌*◌, ◌≤◌, ◌<◌}
use native.Mathlib.Omega.{arith}
use lib.Dec.{ltb, eqb}
use borrow.Author.Tests.{lt-ltb, le-ltb, ne_eqb, eqb-true, eqb-false}
use Rattle.wtf8.specs.Forms.{trail, wrong, after_lead}
use Rattle.wtf8.specs.Sequence.{low_after, high_after}

-- a byte 80..BF leads nothing, nor do C0 and C1
pub stray : {b : ℕ} → 0x80 ≤ b → b < 0xC2 → after_lead b ≡ wrong
unfolding after_lead
stray {b} g l = rw (le-ltb b 0x80, lt-ltb b 0xC2)

pub leads_two : {b : ℕ} → 0xC2 ≤ b → b < 0xE0 → after_lead b ≡ trail 0x80 0xBF 0
unfolding after_lead
leads_two {b} g l = rw (le-ltb b 0x80 (omega arith), le-ltb b 0xC2, lt-ltb b 0xE0)

pub leads_three : {b low : ℕ} → 0xE0 ≤ b → b < 0xF0 → low ≡ low_after b → after_lead b ≡ trail low 0xBF 1
unfolding after_lead
leads_three {b} g l e =
    rw (e, le-ltb b 0x80 (omega arith), le-ltb b 0xC2 (omega arith), le-ltb b 0xE0, lt-ltb b 0xF0, ne_eqb b 0xF0 (λ e. omega (arith, e))) (go (eqb b 0xE0))
  where
    go : (t : Bool) → cond t (trail 0xA0 0xBF 1) (trail 0x80 0xBF 1) ≡ trail (cond t 0xA0 0x80) 0xBF 1
    go true = refl
    go false = refl

pub leads_four : {b low high : ℕ} → 0xF0 ≤ b → b < 0xF5 → low ≡ low_after b → high ≡ high_after b → after_lead b ≡ trail low high 2
unfolding after_lead
leads_four {b} g l e f =
    rw (e, f, le-ltb b 0x80 (omega arith), le-ltb b 0xC2 (omega arith), le-ltb b 0xE0 (omega arith), ne_eqb b 0xE0 (λ e. omega (arith, e)), le-ltb b 0xF0)
    (go (eqb b 0xF0) refl (eqb b 0xF4) refl)
  where
    go : (t : Bool) → eqb b 0xF0 ≡ t → (u : Bool) → eqb b 0xF4 ≡ u
        → cond t (trail 0x90 0xBF 2) (cond (ltb b 0xF4) (trail 0x80 0xBF 2) (cond u (trail 0x80 0x8F 2) wrong)) ≡ trail (cond t 0x90 0x80) (cond u 0x8F 0xBF) 2
    go true e true f = absurd (omega (arith, eqb-true b 0xF0 e, eqb-true b 0xF4 f))
    go true e false f = refl
    go false e true f = rw (le-ltb b 0xF4 (omega (arith, eqb-true b 0xF4 f)))
    go false e false f = let other : b ≡ 0xF4 → ⊥ = eqb-false b 0xF4 f in rw (lt-ltb b 0xF4 (omega arith))

-- past F4 nothing leads
pub beyond : {b : ℕ} → 0xF5 ≤ b → after_lead b ≡ wrong
unfolding after_lead
beyond {b} g =
    rw (
      le-ltb b 0x80 (omega arith),
      le-ltb b 0xC2 (omega arith),
      le-ltb b 0xE0 (omega arith),
      ne_eqb b 0xE0 (λ e. omega (arith, e)),
      le-ltb b 0xF0 (omega arith),
      ne_eqb b 0xF0 (λ e. omega (arith, e)),
      le-ltb b 0xF4 (omega arith),
      ne_eqb b 0xF4 (λ e. omega (arith, e)),
    )

-- The bounds of a second byte, from both sides.
pub low-holds : {b n : ℕ} → 0x80 ≤ n → (b ≡ 0xE0 → 0xA0 ≤ n) → (b ≡ 0xF0 → 0x90 ≤ n) → low_after b ≤ n
low-holds {b} {n} g e f = go (eqb b 0xE0) refl (eqb b 0xF0) refl
  where
    go : (t : Bool) → eqb b 0xE0 ≡ t → (u : Bool) → eqb b 0xF0 ≡ u → cond t 0xA0 (cond u 0x90 0x80) ≤ n
    go true t u u' = e (eqb-true b 0xE0 t)
    go false t true u = f (eqb-true b 0xF0 u)
    go false t false u = g

pub high_holds : {b n : ℕ} → n ≤ 0xBF → (b ≡ 0xF4 → n ≤ 0x8F) → n ≤ high_after b
high_holds {b} {n} l f = go (eqb b 0xF4) refl
  where
    go : (t : Bool) → eqb b 0xF4 ≡ t → n ≤ cond t 0x8F 0xBF
    go true t = f (eqb-true b 0xF4 t)
    go false t = l

pub low-three : {b n : ℕ} → 0xE0 ≤ b → b < 0xF0 → low_after b ≤ n → (0x80 ≤ n) × (0xE0 * 64 + 0xA0 ≤ b * 64 + n)
low-three {b} {n} g l = go (eqb b 0xE0) refl (eqb b 0xF0) refl
  where
    go : (t : Bool) → eqb b 0xE0 ≡ t → (u : Bool) → eqb b 0xF0 ≡ u → cond t 0xA0 (cond u 0x90 0x80) ≤ n → (0x80 ≤ n) × (0xE0 * 64 + 0xA0 ≤ b * 64 + n)
    go true t u u' h = (omega arith, omega arith)
    go false t true u h = absurd (omega (arith, eqb-true b 0xF0 u))
    go false t false u h = let other : b ≡ 0xE0 → ⊥ = eqb-false b 0xE0 t in (omega arith, omega arith)

pub low_four : {b n : ℕ} → 0xF0 ≤ b → low_after b ≤ n → (0x80 ≤ n) × (0xF0 * 64 + 0x90 ≤ b * 64 + n)
low_four {b} {n} g = go (eqb b 0xE0) refl (eqb b 0xF0) refl
  where
    go : (t : Bool) → eqb b 0xE0 ≡ t → (u : Bool) → eqb b 0xF0 ≡ u → cond t 0xA0 (cond u 0x90 0x80) ≤ n → (0x80 ≤ n) × (0xF0 * 64 + 0x90 ≤ b * 64 + n)
    go true t u u' h = absurd (omega (arith, eqb-true b 0xE0 t))
    go false t true u h = (omega arith, omega arith)
    go false t false u h = let other : b ≡ 0xF0 → ⊥ = eqb-false b 0xF0 u in (omega arith, omega arith)

pub high_four : {b n : ℕ} → b < 0xF5 → n ≤ high_after b → (n ≤ 0xBF) × (b * 64 + n ≤ 0xF4 * 64 + 0x8F)
high_four {b} {n} l = go (eqb b 0xF4) refl
  where
    go : (t : Bool) → eqb b 0xF4 ≡ t → n ≤ cond t 0x8F 0xBF → (n ≤ 0xBF) × (b * 64 + n ≤ 0xF4 * 64 + 0x8F)
    go true t h = (omega arith, omega arith)
    go false t h = let other : b ≡ 0xF4 → ⊥ = eqb-false b 0xF4 t in (omega arith, omega arith)
