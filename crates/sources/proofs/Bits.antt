-- The bits of an entry's byte are the facts that it was summed from; and an entry whose lines are not above 0 shows 1.
-- Assumes nothing.
use mathlib.Core.Path.{◌≡◌, refl, sym, ap, subst, ◌∙◌}
use mathlib.Core.Bool.{Bool, true, false, ◌&&◌, cond}
use mathlib.Core.List.{List}
use Prim.Native.Nat.{ℕ, ◌+◌, ◌-◌, ◌*◌, ◌/◌, ◌%◌, ◌≤◌, min}
use native.Mathlib.Omega.{arith}
use lib.Dec.{ltb, eqb}
use borrow.Author.Tests.{eq-eqb, ne_eqb, ltb-true, ltb-false, eqb-true}
use Rattle.std.specs.Prelude.{Option, Some, None}
use Rattle.lineentry.specs.declared.Varint.{Varint}
use Rattle.lineentry.specs.declared.Span.{Span}
use Rattle.lineentry.specs.declared.Entry.{Entry}
use Rattle.lineentry.specs.declared.Entry.TheVariants.{Covers, Stop, OutOfRange}
use Rattle.lineentry.specs.Varint.{byte_at, varint_at, signed_of, signed, signed_at}
use Rattle.lineentry.specs.Line.{origin, as_signed, moved, shown}
use Rattle.lineentry.specs.Entry.{with_number, with_line, short_form, one_line, no_columns, long_columns, long_form, by_code, entry_of, entry_at}
use Rattle.sources.specs.declared.LongForm.{LongForm}
use Rattle.sources.specs.Source.{code_at, number_in, number_at, long_from, long_at, has_line, has_column, above, lines_above, bit, sum, source_of}
use Rattle.sources.specs.Marks.{has}
use Rattle.sources.specs.Beside.{Shows}

-- ---- the bits of a sum
scaled : (weight : ℕ) (t : Bool) → bit weight t ≡ weight * bit 1 t
scaled weight true = omega arith
scaled weight false = omega arith

unit : (t : Bool) → bit 1 t ≤ 1
unit true = omega arith
unit false = omega arith

module _ (a b c d e : Bool) where
  pub has_one : has 1 (sum a b c d e) ≡ true
  has_one = eq-eqb (sum a b c d e / 1 % 2) 1 (omega (arith, scaled 2 a, scaled 4 b, scaled 8 c, scaled 16 d, scaled 32 e))

pub has-two : (a b c d e : Bool) → has 2 (sum a b c d e) ≡ a
has-two true b c d e = eq-eqb (sum true b c d e / 2 % 2) 1 (omega (arith, scaled 4 b, scaled 8 c, scaled 16 d, scaled 32 e))
has-two false b c d e = ne_eqb (sum false b c d e / 2 % 2) 1 (λ z. omega (arith, scaled 4 b, scaled 8 c, scaled 16 d, scaled 32 e))

pub has_sixteen : (a b c d e : Bool) → has 16 (sum a b c d e) ≡ d
has_sixteen a b c true e =
    let q : sum a b c true e / 16 ≡ 1 + 2 * bit 1 e = omega (arith, scaled 2 a, scaled 4 b, scaled 8 c, scaled 32 e, unit a, unit b, unit c) in
    eq-eqb (sum a b c true e / 16 % 2) 1 (omega (arith, q))
has_sixteen a b c false e =
    let q : sum a b c false e / 16 ≡ 2 * bit 1 e = omega (arith, scaled 2 a, scaled 4 b, scaled 8 c, scaled 32 e, unit a, unit b, unit c) in
    ne_eqb (sum a b c false e / 16 % 2) 1 (λ z. omega (arith, q))

pub has_last : (a b c d e : Bool) → has 32 (sum a b c d e) ≡ e
has_last a b c d true =
    let q : sum a b c d true / 32 ≡ 1 = omega (arith, scaled 2 a, scaled 4 b, scaled 8 c, scaled 16 d, unit a, unit b, unit c, unit d) in
    eq-eqb (sum a b c d true / 32 % 2) 1 (omega (arith, q))
has_last a b c d false =
    let q : sum a b c d false / 32 ≡ 0 = omega (arith, scaled 2 a, scaled 4 b, scaled 8 c, scaled 16 d, unit a, unit b, unit c, unit d) in
    ne_eqb (sum a b c d false / 32 % 2) 1 (λ z. omega (arith, q))

-- ---- an entry whose line or end line is not above 0 shows 1
abbrev Low : ℕ → LongForm → Entry → Type 0
Low code long (Covers e) = lines_above code e.line long ≡ false → min e.location.line e.location.end_line ≡ 1
Low code long Stop = Unit {0}
Low code long OutOfRange = Unit {0}

low-cond : (code : ℕ) (long : LongForm) (t : Bool) (a b : Entry) → (t ≡ true → Low code long a) → (t ≡ false → Low code long b) → Low code long (cond t a b)
low-cond code long true a b p q = p refl
low-cond code long false a b p q = q refl

low-number : (code : ℕ) (long : LongForm) (v : Option Varint) (go : ℕ → ℕ → Bool → Entry) → ((x p : ℕ) (m : Bool) → Low code long (go x p m)) → Low code long (with_number v go)
low-number code long (Some v) go h = h v.value v.next v.missing
low-number code long None go h = tt

low-line : (code : ℕ) (long : LongForm) (l : Option ℕ) (go : ℕ → Entry) → ((x : ℕ) → Low code long (go x)) → Low code long (with_line l go)
low-line code long (Some x) go h = h x
low-line code long None go h = tt

-- where the end line is the line
one_shown : (code line : ℕ) (long : LongForm) → eqb code 14 ≡ false → lines_above code line long ≡ false → min (shown line) (shown line) ≡ 1
one_shown code line long n h =
    let l : line ≤ origin = ltb-false origin line (rw n at (h)) in
    omega arith

-- code 14
both-shown : (to end : ℕ) (a b : Bool) → above to ≡ a → above end ≡ b → (a && b) ≡ false → min (shown to) (shown end) ≡ 1
both-shown to end false b p q h = omega (arith, ltb-false origin to p)
both-shown to end true false p q h = omega (arith, ltb-false origin end q)
both-shown to end true true p q h =
    let z : ◌≡◌ {A = ℕ} 1 0 = ap (λ t. cond t 1 0) h in
    absurd (omega arith)

low_end : (s : List ℕ) (to n p : ℕ) (long : LongForm) (m : Option ℕ) → moved to (as_signed long.end_step) ≡ m → Low 14 long (with_line m λ end. long_columns s to end n p)
unfolding long_columns
low_end s to n p long None q = tt
low_end s to n p long (Some end) q =
    low-number 14 long (varint_at s p) _ (λ column p₁ _. low-number 14 long (varint_at s p₁) _ (λ last p₂ _ h. both-shown to end _ _ refl refl (rw q at (h))))

low-to : (s : List ℕ) (n p x : ℕ) (long : LongForm) (m : Option ℕ) → long.end_step ≡ x → Low 14 long (with_line m λ to. with_line (moved to (as_signed x)) λ end. long_columns s to end n p)
low-to s n p x long None e = tt
low-to s n p x long (Some to) e = low_end s to n p long (moved to (as_signed x)) (ap (λ v. moved to (as_signed v)) e)

low_step : (s : List ℕ) (line step n q : ℕ) (long : LongForm) (w : Option Varint) → long.end_step ≡ (number_in q w).value
    → Low 14 long (with_number w λ end_step p₂ _. with_line (moved line step) λ to. with_line (moved to (as_signed end_step)) λ end. long_columns s to end n p₂)
low_step s line step n q long None e = tt
low_step s line step n q long (Some v) e = low-to s n v.next v.value long (moved line step) e

low_first : (s : List ℕ) (line n p : ℕ) (v : Option Varint)
    → Low 14 (long_from s (number_in p v).next) (with_number (signed v) λ step p₁ _. with_number (varint_at s p₁) λ end_step p₂ _. with_line (moved line step) λ to. with_line (moved to (as_signed end_step)) λ end. long_columns s to end n p₂)
unfolding number_at
low_first s line n p None = tt
low_first s line n p (Some w) = low_step s line (signed_of w.value) n w.next (long_from s w.next) (varint_at s w.next) refl

low-long : (s : List ℕ) (line n p : ℕ) → Low 14 (long_at s p) (long_form s line n p)
unfolding long_form long_at number_at signed_at
low-long s line n p = low_first s line n p (varint_at s p)

low-code : (s : List ℕ) (line code n p : ℕ) → Low code (long_at s p) (by_code s line code n p)
unfolding by_code short_form one_line no_columns
low-code s line code n p =
    let long = long_at s p in
    low-cond code long (ltb code 10) _ _ (λ t h. one_shown code line long (ne_eqb code 14 (λ z. omega (arith, ltb-true code 10 t))) h)
    (λ _. low-cond code long (ltb code 13) _ _
    (λ t. low-line code long (moved line (origin + (code - 10))) _ (λ to h. one_shown code to long (ne_eqb code 14 (λ z. omega (arith, ltb-true code 13 t))) h))
    (λ _. low-cond code long (eqb code 13) _ _
    (λ t. low-number code long (signed_at s p) _ (λ step q m. low-line code long (moved line step) _ (λ to h. one_shown code to long (ne_eqb code 14 (λ z. omega (arith, eqb-true code 13 t))) h)))
    (λ _. low-cond code long (eqb code 14) _ _ (λ t. subst (λ k. Low k long (long_form s line n p)) (sym (eqb-true code 14 t)) (low-long s line n p))
    (λ t h. one_shown code line long t h))))

low-entry : (s : List ℕ) (line p : ℕ) → Low (code_at s p) (long_at s (byte_at s p).next) (entry_at s line p)
unfolding entry_of
low-entry s line p =
    low-cond (code_at s p) (long_at s (byte_at s p).next) (ltb (byte_at s p).value 128) _ _ (λ _. tt)
    (λ _. low-code s line (code_at s p) ((byte_at s p).value % 8 + 1) (byte_at s p).next)

and_low : (a b : Bool) → a ≡ true → (a && b) ≡ false → b ≡ false
and_low true b p q = q
and_low false b p q =
    let z : ◌≡◌ {A = ℕ} 0 1 = ap (λ t. cond t 1 0) p in
    absurd (omega arith)

-- what an entry's byte tells
pub entry-shows : (s : List ℕ) (line p : ℕ) (e : Span) → entry_at s line p ≡ Covers e → Shows e.location (source_of s p e.line e.missing)
unfolding source_of
entry-shows s line p e q x y z =
    let code = code_at s p in
    let long = long_at s (byte_at s p).next in
    let lines = lines_above code e.line long in
    let first = has_column code long.column in
    let last = has_column code long.end_column in
    subst (Low code long) q (low-entry s line p)
    (and_low (has_line code) lines (sym (has-two (has_line code) first last (has_line code && lines) e.missing) ∙ y) (sym (has_sixteen (has_line code) first last (has_line code && lines) e.missing) ∙ z))

module _ (s : List ℕ) (p line : ℕ) (missing : Bool) where
  facts : (P : Bool → Bool → Bool → Bool → Type 0) → ((a b c d : Bool) → P a b c d)
      → P (has_line (code_at s p)) (has_column (code_at s p) (long_at s (byte_at s p).next).column) (has_column (code_at s p) (long_at s (byte_at s p).next).end_column)
      (has_line (code_at s p) && lines_above (code_at s p) line (long_at s (byte_at s p).next))
  facts P h = h _ _ _ _

  pub source-placed : has 1 (source_of s p line missing) ≡ true
  unfolding source_of
  source-placed = facts (λ a b c d. has 1 (sum a b c d missing) ≡ true) (λ a b c d. has_one a b c d missing)

  pub source_missing : has 32 (source_of s p line missing) ≡ missing
  unfolding source_of
  source_missing = facts (λ a b c d. has 32 (sum a b c d missing) ≡ missing) (λ a b c d. has_last a b c d missing)
