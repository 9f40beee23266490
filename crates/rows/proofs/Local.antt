-- A number in a line table: its digits, where they end, and that it is a matter of its own bytes only, wherever they stand.
use mathlib.Core.Path.{◌≡◌, refl, sym, ap, subst, ◌∙◌}
use mathlib.Core.Bool.{Bool, true, false, cond, ◌&&◌}
use mathlib.Core.List.{List, [], ◌∷◌}
use Prim.Native.Nat.{ℕ, suc, ◌+◌, ◌≤◌, ◌<◌}
use native.Mathlib.Omega.{arith}
use lib.ListN.{length, drop, get_or, length-drop}
use lib.Seq.{get_or-drop}
use lib.Dec.{leb, ltb}
use borrow.Author.Tests.{lt-ltb, le-leb, ltb-true, leb-true}
use Rattle.std.specs.Prelude.{None}
use Rattle.lineentry.specs.Varint.{read_as, more, digits, number, cut, varint_within, varint_at}
use Rattle.lineentry.proofs.Varints.{same-parts}

pub never : {A : Type 0} → true ≡ false → A
never e = let z : ◌≡◌ {A = ℕ} 1 0 = ap (λ c. cond c 1 0) e in absurd (omega arith)

-- ---- the digits of a number
digits_on : (t : Bool) (b : ℕ) (s : List ℕ) → length (digits s) ≤ length s → length (b ∷ cond t (digits s) []) ≤ length (b ∷ s)
digits_on true b s h = omega arith
digits_on false b s h = omega arith

pub digits_le : (s : List ℕ) → length (digits s) ≤ length s
digits_le [] = omega arith
digits_le (b ∷ s) = digits_on (more b) b s (digits_le s)

-- a cut number goes to the end
cut_on : (t : Bool) (b : ℕ) (s : List ℕ) → (cut s ≡ true → length (digits s) ≡ length s) → (t && cut s) ≡ true → length (b ∷ cond t (digits s) []) ≡ length (b ∷ s)
cut_on true b s h k = ap suc (h k)
cut_on false b s h k = never (sym k)

pub cut-end : (s : List ℕ) → cut s ≡ true → length (digits s) ≡ length s
cut-end [] h = refl
cut-end (b ∷ s) h = cut_on (more b) b s (cut-end s) h

-- digits that are all there are a matter of themselves
same_on : (t : Bool) (x : ℕ) (a b : List ℕ) → (t && cut a) ≡ false → (t ≡ true → (digits b ≡ digits a) × (cut b ≡ false))
    → ((x ∷ cond t (digits b) []) ≡ (x ∷ cond t (digits a) [])) × ((t && cut b) ≡ false)
same_on true x a b c h = (ap {B = List ℕ} (λ r. x ∷ r) (h refl).0, (h refl).1)
same_on false x a b c h = (refl, refl)

pub digits_local : (a b : List ℕ) → cut a ≡ false → length (digits a) ≤ length b → ((i : ℕ) → i < length (digits a) → get_or a i 0 ≡ get_or b i 0)
    → (digits b ≡ digits a) × (cut b ≡ false)
digits_local [] b c h g = never c
digits_local (x ∷ a) [] c h g = absurd (omega arith)
digits_local (x ∷ a) (y ∷ b) c h g =
    let e : x ≡ y = g 0 (omega arith) in
    subst (λ z. (digits (z ∷ b) ≡ digits (x ∷ a)) × (cut (z ∷ b) ≡ false)) e
    (same_on (more x) x a b c
    (λ q. digits_local a b (rw q at c) (let k : suc (length (digits a)) ≤ suc (length b) = rw q at h in omega arith)
    (λ i k. g (suc i) (rw q (let l : suc i < suc (length (digits a)) = omega arith in l)))))

-- ---- a number as it is read
pub record Parsed (s : List ℕ) (p x q : ℕ) (m : Bool) : Type 0 where
  pub wide : p + length (digits (drop p s)) ≡ q
  pub few : length (digits (drop p s)) ≤ 6
  pub value : number (digits (drop p s)) ≡ x
  pub small : number (digits (drop p s)) < 4294967296
  pub cuts : cut (drop p s) ≡ m

parsed_on : (s : List ℕ) (p x q : ℕ) (m w z : Bool) → leb (length (digits (drop p s))) 6 ≡ w → ltb (number (digits (drop p s))) 4294967296 ≡ z
    → cond (w && z) (read_as (number (digits (drop p s))) (p + length (digits (drop p s))) (cut (drop p s))) None ≡ read_as x q m → Parsed s p x q m
parsed_on s p x q m true true h k e =
    let r = same-parts e in
    record { wide = r.1; few = leb-true _ 6 h; value = r.0; small = ltb-true _ 4294967296 k; cuts = r.2 }
parsed_on s p x q m true false h k e = let z : ◌≡◌ {A = ℕ} 0 1 = cc in absurd (omega arith)
parsed_on s p x q m false z h k e = let z : ◌≡◌ {A = ℕ} 0 1 = cc in absurd (omega arith)

pub parsed : (s : List ℕ) (p x q : ℕ) (m : Bool) → varint_at s p ≡ read_as x q m → Parsed s p x q m
unfolding varint_within
parsed s p x q m e = parsed_on s p x q m (leb (length (digits (drop p s))) 6) (ltb (number (digits (drop p s))) 4294967296) refl refl e

pub parses : (s : List ℕ) (p x q : ℕ) (m : Bool) → Parsed s p x q m → varint_at s p ≡ read_as x q m
unfolding varint_within
parses s p x q m h = rw (le-leb (length (digits (drop p s))) 6 h.few, lt-ltb (number (digits (drop p s))) 4294967296 h.small, h.value, h.wide, h.cuts)

-- s and t have the same bytes from p to k
pub record Same (s t : List ℕ) (p k : ℕ) : Type 0 where
  pub inside : k ≤ length s
  pub within : k ≤ length t
  pub bytes : (i : ℕ) → p ≤ i → i < k → get_or s i 0 ≡ get_or t i 0

pub narrow : {s t : List ℕ} {p k : ℕ} (q j : ℕ) → p ≤ q → j ≤ k → Same s t p k → Same s t q j
narrow q j h l m = record { inside = omega (arith, m.inside); within = omega (arith, m.within); bytes = λ i a b. m.bytes i (omega arith) (omega arith) }

pub varint_local : (s t : List ℕ) (p x q : ℕ) → varint_at s p ≡ read_as x q false → Same s t p q → varint_at t p ≡ read_as x q false
varint_local s t p x q e m =
    let a = parsed s p x q false e in
    let d = digits_local (drop p s) (drop p t) a.cuts (omega (arith, a.wide, m.within, length-drop p t))
    (λ i k. get_or-drop p s i 0 ∙ m.bytes (p + i) (omega arith) (omega (arith, a.wide)) ∙ sym (get_or-drop p t i 0)) in
    parses t p x q false (record { wide = rw d.0 a.wide; few = rw d.0 a.few; value = rw d.0 a.value; small = rw d.0 a.small; cuts = d.1 })
