-- What `short` reads by its bytes is the entry there: a number of one byte or two ends with the byte that has no 0x40.
use mathlib.Core.Path.{◌≡◌, refl, sym, ap, ◌∙◌}
use mathlib.Core.Bool.{Bool, true, false, cond, ◌&&◌, ◌||◌}
use mathlib.Core.List.{List}
use Prim.Native.Nat.{ℕ, ◌+◌, ◌-◌, ◌*◌, ◌/◌, ◌%◌, ◌≤◌, ◌<◌}
use native.Mathlib.Omega.{arith}
use lib.ListN.{length, get_or}
use lib.Dec.{ltb, eqb}
use borrow.Author.Tests.{lt-ltb, le-ltb, ltb-true, ltb-false, eqb-true}
use Rattle.lineentry.specs.declared.short.Numbers.{Numbers}
use Rattle.lineentry.specs.Varint.{read_as, varint_at, signed_at}
use Rattle.lineentry.specs.Entry.{long_form, long_columns, by_code, entry_of, entry_at}
use Rattle.lineentry.specs.Quick.{one_byte}
use Rattle.lineentry.specs.Short.{is_long, Long, short_of, short_at, numbers_at, long_by, Read}
use Rattle.lineentry.proofs.Varints.{on_more, varint_last, varint_next, more_small}
use Rattle.lineentry.proofs.Bytes.{and_left, and_right}

-- ---- the test
pub too_few-long : (s : List ℕ) (p : ℕ) {n : ℕ} → n ≡ length s - p → n ≤ 8 → false ≡ is_long s p
unfolding is_long
too_few-long s p e h = rw (le-ltb 8 (length s - p) (omega (arith, e, h)))

pub long_test : (s : List ℕ) (p : ℕ) {n : ℕ} → n ≡ length s - p → 8 < n → eqb (get_or s p 0 / 8) 30 ≡ is_long s p
unfolding is_long
long_test s p e h = rw (lt-ltb 8 (length s - p) (omega (arith, e, h)))

pub long_is : (s : List ℕ) (p : ℕ) → is_long s p ≡ true → Long s p
unfolding is_long
long_is s p e =
    let more : 8 < length s - p = ltb-true _ _ (and_left (ltb 8 (length s - p)) _ e) in
    let head : get_or s p 0 / 8 ≡ 30 = eqb-true _ _ (and_right (ltb 8 (length s - p)) _ e) in
    record { room = omega (arith, more); starts = omega (arith, head); below = omega (arith, head) }

-- ---- a number
pub short_next : (s : List ℕ) (p : ℕ) → (short_at s p).next ≤ p + 2
unfolding short_of
short_next s p = go (one_byte (get_or s p 0)) where
  go : (t : Bool) → cond t (p + 1) (p + 2) ≤ p + 2
  go true = omega arith
  go false = omega arith

value_at_lem : {v w q r : ℕ} → v ≡ w → q ≡ r → read_as v q false ≡ read_as w r false
value_at_lem e f = cc

pub short-read : (s : List ℕ) (p : ℕ) → p + 1 < length s → (short_at s p).short ≡ true → varint_at s p ≡ read_as (short_at s p).value (short_at s p).next false
unfolding short_of
short-read s p h = go (one_byte (get_or s p 0)) refl where
  b : ℕ
  b = get_or s p 0

  c : ℕ
  c = get_or s (p + 1) 0

  go : (t : Bool) → one_byte b ≡ t → (t || one_byte c) ≡ true → varint_at s p ≡ read_as (b % 64 + cond t 0 (64 * (c % 64))) (cond t (p + 1) (p + 2)) false
  go true e k = varint_last 6 s p (omega arith) (omega arith) (ltb-true _ _ e) ∙ value_at_lem (omega arith) refl
  go false e k =
      varint_next 6 s p (omega arith) (omega arith) (ltb-false _ _ e)
      ∙ ap (on_more b) (varint_last 5 s (p + 1) h (omega arith) (ltb-true _ _ k))
      ∙ more_small b (c % 64) (p + 1 + 1) false (omega arith) ∙ value_at_lem refl (omega arith)

-- ---- the four
pub numbers-read : (s : List ℕ) (p : ℕ) → p + 7 < length s → (numbers_at s p).short ≡ true → Read s p (numbers_at s p)
unfolding numbers_at
numbers-read s p h e =
    let q₁ : ℕ = (short_at s p).next in
    let q₂ : ℕ = (short_at s q₁).next in
    let q₃ : ℕ = (short_at s q₂).next in
    let l₁ : q₁ ≤ p + 2 = short_next s p in
    let l₂ : q₂ ≤ q₁ + 2 = short_next s q₁ in
    let l₃ : q₃ ≤ q₂ + 2 = short_next s q₂ in
    let lines : ((short_at s p).short && (short_at s q₁).short) ≡ true = and_left ((short_at s p).short && (short_at s q₁).short) _ e in
    let columns : ((short_at s q₂).short && (short_at s q₃).short) ≡ true = and_right ((short_at s p).short && (short_at s q₁).short) _ e in
    record {
      second = q₁;
      third = q₂;
      fourth = q₃;
      steps = short-read s p (omega (arith, h)) (and_left (short_at s p).short _ lines);
      ends = short-read s q₁ (omega (arith, h, l₁)) (and_right (short_at s p).short _ lines);
      columns = short-read s q₂ (omega (arith, h, l₁, l₂)) (and_left (short_at s q₂).short _ columns);
      end_columns = short-read s q₃ (omega (arith, h, l₁, l₂, l₃)) (and_right (short_at s q₂).short _ columns);
    }

-- what the callers have: the numbers were read, and each is short
pub read-numbers : (s : List ℕ) (p : ℕ) {x : Numbers} → Long s p → x ≡ numbers_at s (p + 1) → x.short ≡ true → Read s (p + 1) x
read-numbers s p g e k = rw e (numbers-read s (p + 1) (omega (arith, g.room)) (ap (λ t. t.short) (sym e) ∙ k))

-- ---- the entry
pub long_by_is : (s : List ℕ) (line p : ℕ) (x : Numbers) → Long s p → Read s (p + 1) x → long_by line (get_or s p 0 % 8 + 1) x ≡ entry_at s line p
unfolding entry_of by_code long_form long_columns signed_at long_by
long_by_is s line p x g r =
    let code : get_or s p 0 / 8 % 16 ≡ 14 = omega (arith, g.starts, g.below) in
    rw (
      lt-ltb p (length s) (omega (arith, g.room)),
      le-ltb (get_or s p 0) 128 (omega (arith, g.starts)),
      code,
      r.steps,
      r.ends,
      r.columns,
      r.end_columns,
    )
