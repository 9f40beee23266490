-- The varint a byte at a time, as `varint_within` reads it: the end, a byte too many, a last byte, and a byte that more follow.
use mathlib.Core.Path.{◌≡◌, refl, ap, ◌∙◌}
use mathlib.Core.Bool.{Bool, true, false, cond, ◌&&◌}
use mathlib.Core.List.{List}
use Prim.Native.Nat.{ℕ, suc, ◌+◌, ◌-◌, ◌*◌, ◌%◌, ◌^◌, ◌≤◌, ◌<◌}
use native.Mathlib.Numerals.{add-one}
use native.Mathlib.Omega.{arith}
use Rattle.std.specs.Prelude.{Option, Some, None}
use lib.ListN.{length, drop, get_or, drop_of_length-le}
use lib.Seq.{drop-cons}
use lib.Dec.{leb, ltb}
use borrow.Author.Tests.{le-leb, lt-leb, leb-true, leb-false, lt-ltb, le-ltb, ltb-false}
use Rattle.lineentry.specs.declared.Varint.{Varint}
use Rattle.lineentry.specs.Varint.{read_as, digits, number, cut, varint_within}

value_eq : {v w n k : ℕ} {b c : Bool} → v ≡ w → n ≡ k → b ≡ c → read_as v n b ≡ read_as w k c
value_eq p q r = cc

pub same-parts : {v w n k : ℕ} {b c : Bool} → read_as v n b ≡ read_as w k c → (v ≡ w) × (n ≡ k) × (b ≡ c)
same-parts {v} {w} {n} {k} {b} {c} e =
    let r : ◌≡◌ {A = Varint} (record { value = v; next = n; missing = b }) (record { value = w; next = k; missing = c }) = cc in
    (ap (λ x. x.value) r, ap (λ x. x.next) r, ap (λ x. x.missing) r)

-- nothing is left: 0, and a byte is missing
pub varint_end : (m : ℕ) (s : List ℕ) (p : ℕ) → length s ≤ p → varint_within m s p ≡ read_as 0 p true
unfolding varint_within
varint_end m s p h = rw (drop_of_length-le s h, le-leb 0 m (omega arith)) (value_eq refl (omega arith) refl)

suc_leb_zero : (n : ℕ) → leb (suc n) 0 ≡ false
suc_leb_zero n = lt-leb (suc n) 0 (omega arith)

-- a byte is there, and none may come
pub varint_none : (s : List ℕ) (p : ℕ) → p < length s → varint_within 0 s p ≡ None
unfolding varint_within
varint_none s p h = rw (drop-cons s p 0, suc_leb_zero)

-- a last byte
pub varint_last : (m : ℕ) (s : List ℕ) (p : ℕ) → p < length s → 0 < m → get_or s p 0 % 128 < 64 → varint_within m s p ≡ read_as (get_or s p 0 % 64) (p + 1) false
unfolding varint_within
varint_last m s p h k l =
    let z : get_or s p 0 % 64 + 64 * 0 < 4294967296 = omega arith in
    rw (drop-cons s p 0, lt-leb 64 (get_or s p 0 % 128), le-leb 1 m, lt-ltb (get_or s p 0 % 64 + 64 * 0) 4294967296 z) (value_eq (omega arith) refl refl)

-- what a byte that more follow adds to what they hold
abbrev pub on_more : ℕ → Option Varint → Option Varint
on_more b (Some v) = cond (leb (2 ^ 32) (b % 64 + 64 * v.value)) None (read_as (b % 64 + 64 * v.value) v.next v.missing)
on_more b None = None

more_holds : (m b p r v : ℕ) (c : Bool) (t u w : Bool) → leb r m ≡ t → ltb v (2 ^ 32) ≡ u → leb (2 ^ 32) (b % 64 + 64 * v) ≡ w
    → cond (leb (suc r) (suc m) && ltb (b % 64 + 64 * v) (2 ^ 32)) (read_as (b % 64 + 64 * v) (p + suc r) c) None ≡ on_more b (cond (leb r m && ltb v (2 ^ 32)) (read_as v (suc p + r) c) None)
more_holds m b p r v c true true true e f g =
    let h : suc r ≤ suc m = omega (arith, leb-true r m e) in
    let k : 4294967296 ≤ b % 64 + 64 * v = leb-true _ _ g in
    rw (e, f, g, le-leb (suc r) (suc m) h, le-ltb (b % 64 + 64 * v) 4294967296 k)
more_holds m b p r v c true true false e f g =
    let h : suc r ≤ suc m = omega (arith, leb-true r m e) in
    let k : b % 64 + 64 * v < 4294967296 = leb-false _ _ g in
    rw (e, f, g, le-leb (suc r) (suc m) h, lt-ltb (b % 64 + 64 * v) 4294967296 k) (value_eq refl (omega arith) refl)
more_holds m b p r v c true false w e f g =
    let h : suc r ≤ suc m = omega (arith, leb-true r m e) in
    let k : 4294967296 ≤ b % 64 + 64 * v = omega (arith, ltb-false v 4294967296 f) in
    rw (e, f, le-leb (suc r) (suc m) h, le-ltb (b % 64 + 64 * v) 4294967296 k)
more_holds m b p r v c false u w e f g =
    let h : suc m < suc r = omega (arith, leb-false r m e) in
    rw (e, lt-leb (suc r) (suc m) h)

varint_more : (m : ℕ) (s : List ℕ) (p : ℕ) → p < length s → 64 ≤ get_or s p 0 % 128 → varint_within (suc m) s p ≡ on_more (get_or s p 0) (varint_within m s (p + 1))
unfolding varint_within
varint_more m s p h l =
    rw (drop-cons s p 0, le-leb 64 (get_or s p 0 % 128), add-one p)
    (more_holds m (get_or s p 0) p (length (digits (drop (suc p) s))) (number (digits (drop (suc p) s))) (cut (drop (suc p) s)) _ _ _ refl refl refl)

-- a byte that more follow
pub varint_next : (m : ℕ) (s : List ℕ) (p : ℕ) → p < length s → 0 < m → 64 ≤ get_or s p 0 % 128 → varint_within m s p ≡ on_more (get_or s p 0) (varint_within (m - 1) s (p + 1))
varint_next m s p h k l =
    let e : m ≡ suc (m - 1) = omega arith in
    ap (λ i. varint_within i s p) e ∙ varint_more (m - 1) s p h l

-- and whether that is 2^32 or more
pub more_large : (b v n : ℕ) (c : Bool) → 4294967296 ≤ b % 64 + 64 * v → on_more b (read_as v n c) ≡ None
more_large b v n c h = rw (le-leb 4294967296 (b % 64 + 64 * v) h)

pub more_small : (b v n : ℕ) (c : Bool) → b % 64 + 64 * v < 4294967296 → on_more b (read_as v n c) ≡ read_as (b % 64 + 64 * v) n c
more_small b v n c h = rw (lt-leb 4294967296 (b % 64 + 64 * v) h)
