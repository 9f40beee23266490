-- An entry of code 14 by its location: what the location shows of the entry's numbers, and that one which shows no 1 tells its byte.
-- Assumes nothing.
use mathlib.Core.Path.{◌≡◌, refl, sym, ap, subst, ◌∙◌}
use mathlib.Core.Bool.{Bool, true, false, ◌&&◌, cond}
use mathlib.Core.List.{List}
use Prim.Native.Nat.{ℕ, ◌+◌, ◌%◌, max}
use native.Mathlib.Omega.{arith}
use lib.Dec.{ltb}
use borrow.Author.Tests.{lt-ltb, ltb-true}
use Rattle.std.specs.Prelude.{Option, Some, None}
use Rattle.lineentry.specs.declared.Varint.{Varint}
use Rattle.lineentry.specs.declared.Location.{Location}
use Rattle.lineentry.specs.declared.Span.{Span}
use Rattle.lineentry.specs.declared.Entry.{Entry}
use Rattle.lineentry.specs.declared.Entry.TheVariants.{Covers, Stop, OutOfRange}
use Rattle.lineentry.specs.Varint.{byte_at, varint_at, signed_of, signed, signed_at}
use Rattle.lineentry.specs.Line.{origin, as_signed, moved, shown}
use Rattle.lineentry.specs.Entry.{covers, location, with_number, with_line, long_columns, long_form, by_code, entry_of, entry_at}
use Rattle.sources.specs.declared.LongForm.{LongForm}
use Rattle.sources.specs.Source.{code_at, number_in, number_at, long_from, long_at, sum, source_by, LongShown, above_one}

-- ---- what the location shows, by the reading of the entry
abbrev Shown : LongForm → Entry → Type 0
Shown long (Covers e) = LongShown long e.line e.location
Shown long Stop = Unit {0}
Shown long OutOfRange = Unit {0}

module _ (s : List ℕ) (to end n : ℕ) (long : LongForm) (ends : moved to (as_signed long.end_step) ≡ Some end) where
  shown_last : (x q : ℕ) (w : Option Varint) → long.column ≡ x → long.end_column ≡ (number_in q w).value
      → Shown long (with_number w λ last p missing. covers n to (location (shown to) (max 1 x) (shown end) (max 1 last)) p missing)
  shown_last x q None a b = tt
  shown_last x q (Some v) a b =
      record { end = end; ends = ends; lines = refl; end_lines = refl; columns = ap (max 1) (sym a); end_columns = ap (max 1) (sym b) }

  shown_column : (p : ℕ) (v : Option Varint) → long.column ≡ (number_in p v).value → long.end_column ≡ (number_at s (number_in p v).next).value
      → Shown long (with_number v λ x q _. with_number (varint_at s q) λ last r missing. covers n to (location (shown to) (max 1 x) (shown end) (max 1 last)) r missing)
  unfolding number_at
  shown_column p None a b = tt
  shown_column p (Some v) a b = shown_last v.value v.next (varint_at s v.next) a b

shown-columns : (s : List ℕ) (to n p : ℕ) (long : LongForm) (m : Option ℕ) → moved to (as_signed long.end_step) ≡ m → long.column ≡ (number_at s p).value
    → long.end_column ≡ (number_at s (number_at s p).next).value → Shown long (with_line m λ end. long_columns s to end n p)
unfolding long_columns number_at
shown-columns s to n p long None e a b = tt
shown-columns s to n p long (Some end) e a b = shown_column s to end n long e p (varint_at s p) a b

shown-to : (s : List ℕ) (n p x : ℕ) (long : LongForm) (m : Option ℕ) → long.end_step ≡ x → long.column ≡ (number_at s p).value
    → long.end_column ≡ (number_at s (number_at s p).next).value → Shown long (with_line m λ to. with_line (moved to (as_signed x)) λ end. long_columns s to end n p)
shown-to s n p x long None e a b = tt
shown-to s n p x long (Some to) e a b = shown-columns s to n p long (moved to (as_signed x)) (ap (λ v. moved to (as_signed v)) e) a b

shown_step : (s : List ℕ) (line step n q : ℕ) (long : LongForm) (w : Option Varint) → long.end_step ≡ (number_in q w).value → long.column ≡ (number_at s (number_in q w).next).value
    → long.end_column ≡ (number_at s (number_at s (number_in q w).next).next).value
    → Shown long (with_number w λ end_step p₂ _. with_line (moved line step) λ to. with_line (moved to (as_signed end_step)) λ end. long_columns s to end n p₂)
shown_step s line step n q long None e a b = tt
shown_step s line step n q long (Some v) e a b = shown-to s n v.next v.value long (moved line step) e a b

shown_first : (s : List ℕ) (line n p : ℕ) (v : Option Varint)
    → Shown (long_from s (number_in p v).next) (with_number (signed v) λ step p₁ _. with_number (varint_at s p₁) λ end_step p₂ _. with_line (moved line step) λ to. with_line (moved to (as_signed end_step)) λ end. long_columns s to end n p₂)
unfolding number_at
shown_first s line n p None = tt
shown_first s line n p (Some w) = shown_step s line (signed_of w.value) n w.next (long_from s w.next) (varint_at s w.next) refl refl refl

shown-long : (s : List ℕ) (line n p : ℕ) → Shown (long_at s p) (long_form s line n p)
unfolding long_form long_at number_at signed_at
shown-long s line n p = shown_first s line n p (varint_at s p)

-- what an entry of code 14 shows
pub entry-long : (s : List ℕ) (line p : ℕ) (e : Span) → entry_at s line p ≡ Covers e → code_at s p ≡ 14 → LongShown (long_at s (byte_at s p).next) e.line e.location
unfolding entry_of by_code
entry-long s line p e q h = go (ltb (byte_at s p).value 128) q where
  n : ℕ
  n = (byte_at s p).value % 8 + 1

  long : by_code s line (code_at s p) n (byte_at s p).next ≡ long_form s line n (byte_at s p).next
  long = rw h

  go : (t : Bool) → cond t Stop (by_code s line (code_at s p) n (byte_at s p).next) ≡ Covers e → LongShown (long_at s (byte_at s p).next) e.line e.location
  go true k = let z : ◌≡◌ {A = ℕ} 0 1 = cc in absurd (omega arith)
  go false k = subst (Shown (long_at s (byte_at s p).next)) (sym long ∙ k) (shown-long s line n (byte_at s p).next)

-- ---- the byte by the location
differ : {A : Type 0} → false ≡ true → A
differ e =
    let z : ◌≡◌ {A = ℕ} 0 1 = ap (λ t. cond t 1 0) e in
    absurd (omega arith)

all_four : (a b c d : Bool) → (a && (b && (c && d))) ≡ true → (a ≡ true) × (b ≡ true) × (c ≡ true) × (d ≡ true)
all_four true true true d h = (refl, refl, refl, h)
all_four true true false d h = differ h
all_four true false c d h = differ h
all_four false b c d h = differ h

pub long-known : (long : LongForm) (line : ℕ) (l : Location) (missing : Bool) → LongShown long line l → above_one l ≡ true
    → sum true true true true missing ≡ source_by 14 line long missing
long-known long line l missing k h =
    let a = all_four (ltb 1 l.line) (ltb 1 l.end_line) (ltb 1 l.column) (ltb 1 l.end_column) h in
    let one = ltb-true 1 l.line a.0 in
    let two = ltb-true 1 l.end_line a.1 in
    let three = ltb-true 1 l.column a.2 in
    let four = ltb-true 1 l.end_column a.3 in
    rw (lt-ltb 0 long.column (omega (arith, k.columns)), lt-ltb 0 long.end_column (omega (arith, k.end_columns)), lt-ltb origin line (omega (arith, k.lines)), k.ends, lt-ltb origin k.end (omega (arith, k.end_lines))) refl
