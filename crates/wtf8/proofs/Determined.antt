-- The bytes determine the code points: the first is read back from the bytes, and so is what is left.
-- Assumes nothing.
use mathlib.Core.Path.{◌≡◌, refl, sym, ap, ◌∙◌}
use mathlib.Core.Bool.{cond}
use mathlib.Core.List.{List, [], ◌∷◌, ◌++◌}
use Prim.Native.Nat.{ℕ, ◌+◌, ◌-◌, ◌*◌, ◌/◌, ◌%◌, ◌≤◌, ◌<◌}
use native.Mathlib.Omega.{arith}
use lib.Dec.{ltb}
use lib.ListN.{length, get_or, drop, length-append}
use borrow.Author.Tests.{lt-ltb, le-ltb}
use Rattle.wtf8.specs.Encoding.{encoding, encodings}
use Rattle.wtf8.proofs.Lengths.{one, two, three, four, by_length, some}

-- The first code point and what is left, read back from the bytes.
back : List ℕ → ℕ × List ℕ
back s =
    cond (ltb (get_or s 0 0) 0x80) (get_or s 0 0, drop 1 s)
    (cond (ltb (get_or s 0 0) 0xE0) ((get_or s 0 0 - 0xC0) * 64 + (get_or s 1 0 - 0x80), drop 2 s)
    (cond (ltb (get_or s 0 0) 0xF0) (((get_or s 0 0 - 0xE0) * 64 + (get_or s 1 0 - 0x80)) * 64 + (get_or s 2 0 - 0x80), drop 3 s)
    ((((get_or s 0 0 - 0xF0) * 64 + (get_or s 1 0 - 0x80)) * 64 + (get_or s 2 0 - 0x80)) * 64 + (get_or s 3 0 - 0x80), drop 4 s)))

back_encoding : (r : List ℕ) (c : ℕ) → back (encoding c ++ r) ≡ (c, r)
unfolding back
back_encoding r = by_length (λ c. back (encoding c ++ r) ≡ (c, r)) back_one back_two back_three back_four
  where
    opened : (c : ℕ) {bs : List ℕ} → encoding c ≡ bs → back (encoding c ++ r) ≡ back (bs ++ r)
    opened c e = ap (λ l. back (l ++ r)) e

    back_one : (c : ℕ) → c < 0x80 → back (encoding c ++ r) ≡ (c, r)
    back_one c l = opened c (one l) ∙ rw (lt-ltb c 0x80)

    back_two : (c : ℕ) → 0x80 ≤ c → c < 0x800 → back (encoding c ++ r) ≡ (c, r)
    back_two c g l =
        let b : ℕ = 0xC0 + c / 64 in
        let same : (b - 0xC0) * 64 + (0x80 + c % 64 - 0x80) ≡ c = omega arith in
        opened c (two g l) ∙ rw (le-ltb b 0x80 (omega arith), lt-ltb b 0xE0 (omega arith), same)

    back_three : (c : ℕ) → 0x800 ≤ c → c < 0x10000 → back (encoding c ++ r) ≡ (c, r)
    back_three c g l =
        let b : ℕ = 0xE0 + c / 64 / 64 in
        let same : ((b - 0xE0) * 64 + (0x80 + c / 64 % 64 - 0x80)) * 64 + (0x80 + c % 64 - 0x80) ≡ c = omega arith in
        opened c (three g l) ∙ rw (le-ltb b 0x80 (omega arith), le-ltb b 0xE0 (omega arith), lt-ltb b 0xF0 (omega arith), same)

    back_four : (c : ℕ) → 0x10000 ≤ c → back (encoding c ++ r) ≡ (c, r)
    back_four c g =
        let b : ℕ = 0xF0 + c / 64 / 64 / 64 in
        let same : (((b - 0xF0) * 64 + (0x80 + c / 64 / 64 % 64 - 0x80)) * 64 + (0x80 + c / 64 % 64 - 0x80)) * 64 + (0x80 + c % 64 - 0x80) ≡ c = omega arith in
        opened c (four g) ∙ rw (le-ltb b 0x80 (omega arith), le-ltb b 0xE0 (omega arith), le-ltb b 0xF0 (omega arith), same)

not_none : (c : ℕ) (r : List ℕ) → [] ≡ encoding c ++ r → ⊥
not_none c r e = omega (arith, some c, ap length e, length-append (encoding c) r)

-- The bytes determine the code points.
pub determined : (cs ds : List ℕ) → encodings cs ≡ encodings ds → cs ≡ ds
unfolding encodings
determined [] [] e = refl
determined [] (d ∷ ds) e = absurd (not_none d (encodings ds) e)
determined (c ∷ cs) [] e = absurd (not_none c (encodings cs) (sym e))
determined (c ∷ cs) (d ∷ ds) e =
    let both = sym (back_encoding (encodings cs) c) ∙ ap back e ∙ back_encoding (encodings ds) d in
    let first : c ≡ d = ap (λ p. p.0) both in
    let others : cs ≡ ds = determined cs ds (ap (λ p. p.1) both) in
    rw (first, others)
