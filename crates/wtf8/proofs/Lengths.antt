-- The encoding of a code point by its length, one to four bytes, and proof by these four cases.
-- Assumes nothing.
use mathlib.Core.Path.{◌≡◌, refl}
use mathlib.Core.Bool.{Bool, true, false}
use mathlib.Core.List.{[], ◌∷◌}
use Prim.Native.Nat.{ℕ, ◌+◌, ◌/◌, ◌%◌, ◌≤◌, ◌<◌}
use native.Mathlib.Omega.{arith}
use lib.Dec.{ltb}
use lib.ListN.{length}
use borrow.Author.Tests.{lt-ltb, le-ltb, ltb-true, ltb-false}
use Rattle.wtf8.specs.Encoding.{encoding}

-- Encodings by their length.
pub one : {c : ℕ} → c < 0x80 → encoding c ≡ c ∷ []
unfolding encoding
one {c} l = rw (lt-ltb c 0x80)

pub two : {c : ℕ} → 0x80 ≤ c → c < 0x800 → encoding c ≡ (0xC0 + c / 64) ∷ (0x80 + c % 64) ∷ []
unfolding encoding
two {c} g l = rw (le-ltb c 0x80, lt-ltb c 0x800)

pub three : {c : ℕ} → 0x800 ≤ c → c < 0x10000 → encoding c ≡ (0xE0 + c / 64 / 64) ∷ (0x80 + c / 64 % 64) ∷ (0x80 + c % 64) ∷ []
unfolding encoding
three {c} g l = rw (le-ltb c 0x80 (omega arith), le-ltb c 0x800, lt-ltb c 0x10000)

pub four : {c : ℕ} → 0x10000 ≤ c → encoding c ≡ (0xF0 + c / 64 / 64 / 64) ∷ (0x80 + c / 64 / 64 % 64) ∷ (0x80 + c / 64 % 64) ∷ (0x80 + c % 64) ∷ []
unfolding encoding
four {c} g = rw (le-ltb c 0x80 (omega arith), le-ltb c 0x800 (omega arith), le-ltb c 0x10000)

-- Any code point is of one length.
pub by_length : (P : ℕ → Type 0) → ((c : ℕ) → c < 0x80 → P c) → ((c : ℕ) → 0x80 ≤ c → c < 0x800 → P c) → ((c : ℕ) → 0x800 ≤ c → c < 0x10000 → P c)
    → ((c : ℕ) → 0x10000 ≤ c → P c) → (c : ℕ) → P c
by_length P p₁ p₂ p₃ p₄ c = go (ltb c 0x80) refl (ltb c 0x800) refl (ltb c 0x10000) refl
  where
    go : (t : Bool) → ltb c 0x80 ≡ t → (u : Bool) → ltb c 0x800 ≡ u → (v : Bool) → ltb c 0x10000 ≡ v → P c
    go true t u u' v v' = p₁ c (ltb-true c 0x80 t)
    go false t true u v v' = p₂ c (ltb-false c 0x80 t) (ltb-true c 0x800 u)
    go false t false u true v = p₃ c (ltb-false c 0x800 u) (ltb-true c 0x10000 v)
    go false t false u false v = p₄ c (ltb-false c 0x10000 v)

-- an encoding has a byte at least
pub some : (c : ℕ) → 1 ≤ length (encoding c)
some =
    by_length (λ c. 1 ≤ length (encoding c)) (λ c l. rw (one l) (omega arith)) (λ c g l. rw (two g l) (omega arith)) (λ c g l. rw (three g l) (omega arith))
    (λ c g. rw (four g) (omega arith))
