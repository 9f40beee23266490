-- What `quick` reads by its bytes is the entry there: its bytes are all in the table, and a number of one byte ends with it.
use mathlib.Core.Path.{◌≡◌, refl, ◌∙◌}
use mathlib.Core.Bool.{Bool, true, false, cond, ◌&&◌}
use mathlib.Core.List.{List}
use Prim.Native.Nat.{ℕ, ◌+◌, ◌-◌, ◌*◌, ◌/◌, ◌%◌, ◌^◌, ◌≤◌, ◌<◌}
use native.Mathlib.Omega.{arith}
use lib.ListN.{length, get_or}
use lib.Dec.{leb, ltb, eqb}
use lib.Bits.{bit_or, or_lt}
use borrow.Author.Tests.{lt-ltb, le-ltb, ltb-true, ltb-false, leb-true, eqb-true}
use Rattle.std.specs.Prelude.{Some, None}
use Rattle.lineentry.specs.Varint.{signed_at}
use Rattle.lineentry.specs.declared.Entry.TheVariants.{OutOfRange}
use Rattle.lineentry.specs.Line.{origin, moved, shown}
use Rattle.lineentry.specs.Entry.{location, covers, short_column, short_form, one_line, long_form, long_columns, by_code, entry_of, entry_at}
use Rattle.lineentry.specs.Quick.{is_plain, Plain, plain_of, one_byte, is_long_of_four, LongOfFour, long_of}
use Rattle.lineentry.proofs.Varints.{varint_last}

pub and_left : (a b : Bool) → (a && b) ≡ true → a ≡ true
and_left true b e = refl
and_left false b e = e

pub and_right : (a b : Bool) → (a && b) ≡ true → b ≡ true
and_right true b e = e
and_right false true e = refl
and_right false false e = e

-- ---- the tests
pub plain-told : (s : List ℕ) (p : ℕ) → is_plain s p ≡ true → Plain s p
unfolding is_plain
plain-told s p e =
    let more : 2 < length s - p = ltb-true _ _ (and_left (ltb 2 (length s - p)) _ e) in
    let rest : (leb 128 (get_or s p 0) && ltb (get_or s p 0) 232) ≡ true = and_right (ltb 2 (length s - p)) _ e in
    record {
      room = omega (arith, more);
      starts = leb-true _ _ (and_left (leb 128 (get_or s p 0)) _ rest);
      below = ltb-true _ _ (and_right (leb 128 (get_or s p 0)) _ rest);
    }

pub long-told : (s : List ℕ) (p : ℕ) → is_long_of_four s p ≡ true → LongOfFour s p
unfolding is_long_of_four
long-told s p e =
    let more : 4 < length s - p = ltb-true _ _ (and_left (ltb 4 (length s - p)) _ e) in
    let lines : Bool = one_byte (get_or s (p + 1) 0) && one_byte (get_or s (p + 2) 0) in
    let columns : Bool = one_byte (get_or s (p + 3) 0) && one_byte (get_or s (p + 4) 0) in
    let rest : (eqb (get_or s p 0 / 8) 30 && (lines && columns)) ≡ true = and_right (ltb 4 (length s - p)) _ e in
    let head : get_or s p 0 / 8 ≡ 30 = eqb-true _ _ (and_left (eqb (get_or s p 0 / 8) 30) _ rest) in
    let bytes : (lines && columns) ≡ true = and_right (eqb (get_or s p 0 / 8) 30) _ rest in
    let l : lines ≡ true = and_left lines columns bytes in
    let k : columns ≡ true = and_right lines columns bytes in
    record {
      room = omega (arith, more);
      starts = omega (arith, head);
      below = omega (arith, head);
      first = ltb-true _ _ (and_left (one_byte (get_or s (p + 1) 0)) _ l);
      second = ltb-true _ _ (and_right (one_byte (get_or s (p + 1) 0)) _ l);
      third = ltb-true _ _ (and_left (one_byte (get_or s (p + 3) 0)) _ k);
      fourth = ltb-true _ _ (and_right (one_byte (get_or s (p + 3) 0)) _ k);
    }

-- by the code's tests, each answer
pub too_few : (s : List ℕ) (p : ℕ) {n : ℕ} → n ≡ length s - p → n ≤ 2 → false ≡ is_plain s p
unfolding is_plain
too_few s p e h = rw (le-ltb 2 (length s - p) (omega (arith, e, h)))

pub plain_test : (s : List ℕ) (p : ℕ) {n : ℕ} {r : Bool} → n ≡ length s - p → 2 < n → r ≡ (leb 128 (get_or s p 0) && ltb (get_or s p 0) 232) → r ≡ is_plain s p
unfolding is_plain
plain_test s p e h q = q ∙ rw (lt-ltb 2 (length s - p) (omega (arith, e, h)))

pub too_few_of_four : (s : List ℕ) (p : ℕ) {n : ℕ} → n ≡ length s - p → n ≤ 4 → false ≡ is_long_of_four s p
unfolding is_long_of_four
too_few_of_four s p e h = rw (le-ltb 4 (length s - p) (omega (arith, e, h)))

pub four_test : (s : List ℕ) (p : ℕ) {n : ℕ} {r x l k a b c d : Bool} → n ≡ length s - p → 4 < n → a ≡ one_byte (get_or s (p + 1) 0) → b ≡ one_byte (get_or s (p + 2) 0) → l ≡ (a && b)
    → c ≡ one_byte (get_or s (p + 3) 0) → d ≡ one_byte (get_or s (p + 4) 0) → k ≡ (c && d) → x ≡ (l && k) → r ≡ (eqb (get_or s p 0 / 8) 30 && x) → r ≡ is_long_of_four s p
unfolding is_long_of_four
four_test s p e h ea eb el ec ed ek ex er = rw (er, ex, el, ek, ea, eb, ec, ed, lt-ltb 4 (length s - p) (omega (arith, e, h)))

-- ---- codes 0 to 12
-- a step down stays in 32 bits, or the line is outside
moved_down : (line x : ℕ) → moved line (origin + x) ≡ cond (ltb (line + x) (2 ^ 32)) (Some (line + x)) None
unfolding moved
moved_down line x = go (ltb (line + x) 4294967296) refl where
  go : (t : Bool) → ltb (line + x) 4294967296 ≡ t
      → cond (ltb (line + (origin + x)) origin) None (cond (ltb (line + (origin + x)) (origin + 4294967296)) (Some (line + (origin + x) - origin)) None) ≡ cond (ltb (line + x) 4294967296) (Some (line + x)) None
  go true e =
      let h : line + x < 4294967296 = ltb-true _ _ e in
      let z : line + (origin + x) - origin ≡ line + x = omega arith in
      rw (e, le-ltb (line + (origin + x)) origin (omega arith), lt-ltb (line + (origin + x)) (origin + 4294967296) (omega arith), z)
  go false e =
      let h : 4294967296 ≤ line + x = ltb-false _ _ e in
      rw (e, le-ltb (line + (origin + x)) origin (omega arith), le-ltb (line + (origin + x)) (origin + 4294967296) (omega arith))

-- a column of the short form, whatever the code
pub code_column_lt : (code d : ℕ) → code < 16 → d < 256 → bit_or (code * 8) (d / 16) < 128
code_column_lt code d h k = or_lt 7 (code * 8) (d / 16) (omega arith) (omega arith)

pub plain_out : (line code n b c p : ℕ) {down : ℕ} → down ≡ code - 10 → 4294967295 - down < line → OutOfRange ≡ plain_of line code n b c p
unfolding plain_of
plain_out line code n b c p e h = rw (le-ltb (line + (code - 10)) 4294967296 (omega (arith, e, h)))

pub plain_in : (line code n b c p : ℕ) {down l start end next : ℕ} → down ≡ code - 10 → line ≤ 4294967295 - down → l ≡ shown (line + down) → start ≡ cond (ltb code 10) (short_column code b) b
    → end ≡ cond (ltb code 10) (short_column code b + b % 16) c → next ≡ p + cond (ltb code 10) 2 3 → code < 16
    → covers n (line + down) (location l (start + 1) l (end + 1)) next false ≡ plain_of line code n b c p
unfolding plain_of
plain_in line code n b c p e h el es ee en k = rw (en, ee, es, el, e, lt-ltb (line + (code - 10)) 4294967296 (omega (arith, e, h)))

-- the short form: codes 0 to 9
plain-short : (s : List ℕ) (line p : ℕ) → line < 4294967296 → Plain s p → ltb (get_or s p 0 / 8 % 16) 10 ≡ true
    → plain_of line (get_or s p 0 / 8 % 16) (get_or s p 0 % 8 + 1) (get_or s (p + 1) 0) (get_or s (p + 2) 0) p ≡ entry_at s line p
unfolding entry_of by_code short_form plain_of
plain-short s line p small g e =
    let h : get_or s p 0 / 8 % 16 < 10 = ltb-true _ _ e in
    let z : line + (get_or s p 0 / 8 % 16 - 10) ≡ line = omega (arith, h) in
    let q : p + 1 + 1 ≡ p + 2 = omega arith in
    rw (z, lt-ltb line 4294967296 small, lt-ltb p (length s) (omega (arith, g.room)), le-ltb (get_or s p 0) 128 g.starts, e, lt-ltb (p + 1) (length s) (omega (arith, g.room)), q)

-- the one line form: codes 10 to 12
plain_one : (s : List ℕ) (line p : ℕ) → Plain s p → ltb (get_or s p 0 / 8 % 16) 10 ≡ false → (u : Bool) → ltb (line + (get_or s p 0 / 8 % 16 - 10)) 4294967296 ≡ u
    → plain_of line (get_or s p 0 / 8 % 16) (get_or s p 0 % 8 + 1) (get_or s (p + 1) 0) (get_or s (p + 2) 0) p ≡ entry_at s line p
unfolding entry_of by_code one_line plain_of
plain_one s line p g e true f =
    let h : get_or s p 0 / 8 % 16 < 13 = omega (arith, g.starts, g.below) in
    let q : p + 1 + 1 ≡ p + 2 = omega arith in
    let q₂ : p + 2 + 1 ≡ p + 3 = omega arith in
    rw (f, lt-ltb p (length s) (omega (arith, g.room)), le-ltb (get_or s p 0) 128 g.starts, e, lt-ltb (get_or s p 0 / 8 % 16) 13 h, moved_down line (get_or s p 0 / 8 % 16 - 10), f, lt-ltb (p + 1) (length s) (omega (arith, g.room)), q, lt-ltb (p + 2) (length s) g.room, q₂)
plain_one s line p g e false f =
    let h : get_or s p 0 / 8 % 16 < 13 = omega (arith, g.starts, g.below) in
    rw (f, lt-ltb p (length s) (omega (arith, g.room)), le-ltb (get_or s p 0) 128 g.starts, e, lt-ltb (get_or s p 0 / 8 % 16) 13 h, moved_down line (get_or s p 0 / 8 % 16 - 10), f)

pub plain-entry_is : (s : List ℕ) (line p : ℕ) → line < 4294967296 → Plain s p
    → plain_of line (get_or s p 0 / 8 % 16) (get_or s p 0 % 8 + 1) (get_or s (p + 1) 0) (get_or s (p + 2) 0) p ≡ entry_at s line p
plain-entry_is s line p small g = go (ltb (get_or s p 0 / 8 % 16) 10) refl where
  go : (t : Bool) → ltb (get_or s p 0 / 8 % 16) 10 ≡ t → plain_of line (get_or s p 0 / 8 % 16) (get_or s p 0 % 8 + 1) (get_or s (p + 1) 0) (get_or s (p + 2) 0) p ≡ entry_at s line p
  go true e = plain-short s line p small g e
  go false e = plain_one s line p g e _ refl

-- ---- code 14
pub long-entry_is : (s : List ℕ) (line p : ℕ) → LongOfFour s p
    → long_of line (get_or s p 0 % 8 + 1) (get_or s (p + 1) 0) (get_or s (p + 2) 0) (get_or s (p + 3) 0) (get_or s (p + 4) 0) p ≡ entry_at s line p
unfolding entry_of by_code long_form long_columns signed_at long_of
long-entry_is s line p g =
    let code : get_or s p 0 / 8 % 16 ≡ 14 = omega (arith, g.starts, g.below) in
    let q : p + 1 + 1 ≡ p + 2 = omega arith in
    let q₂ : p + 2 + 1 ≡ p + 3 = omega arith in
    let q₃ : p + 3 + 1 ≡ p + 4 = omega arith in
    let q₄ : p + 4 + 1 ≡ p + 5 = omega arith in
    rw (
      lt-ltb p (length s) (omega (arith, g.room)),
      le-ltb (get_or s p 0) 128 (omega (arith, g.starts)),
      code,
      varint_last 6 s (p + 1) (omega (arith, g.room)) (omega arith) g.first,
      q,
      varint_last 6 s (p + 2) (omega (arith, g.room)) (omega arith) g.second,
      q₂,
      varint_last 6 s (p + 3) (omega (arith, g.room)) (omega arith) g.third,
      q₃,
      varint_last 6 s (p + 4) g.room (omega arith) g.fourth,
      q₄,
    )
