-- The low bits of a word, as the code takes them: by a mask. Assumes nothing.
use Rattle.std.proofs.Common.{◌≡◌, ℕ, ◌-◌, ◌*◌, ◌%◌, ◌^◌, ◌<◌, ◌≤◌, sym, ap, ◌∙◌, subst, one-mul, arith, lit<, pow_pos, shl_exact}
use lib.Bits.{bit_and, and_mask}

pub one_shifted : (n : ℕ) → n < 64 → (1 * 2 ^ n) % 2 ^ 64 ≡ 2 ^ n
one_shifted n h = shl_exact {a = 1} 1 n 64 (lit< tt) (omega arith) ∙ one-mul (2 ^ n)

pub mask_some : (n : ℕ) → n < 64 → 1 ≤ (1 * 2 ^ n) % 2 ^ 64
mask_some n h = subst (λ (m : ℕ). 1 ≤ m) (sym (one_shifted n h)) (pow_pos n)

pub masked : (word n : ℕ) → n < 64 → bit_and word ((1 * 2 ^ n) % 2 ^ 64 - 1) ≡ word % 2 ^ n
masked word n h = ap (λ (m : ℕ). bit_and word (m - 1)) (one_shifted n h) ∙ and_mask word n
