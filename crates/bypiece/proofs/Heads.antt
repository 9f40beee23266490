-- The entries of codes 0 to 12 and 15 by their bytes, one byte after the other; of codes 13 and 14 the first.
use mathlib.Core.Path.{◌≡◌, refl, ap, ◌∙◌}
use mathlib.Core.Bool.{Bool, true, false}
use mathlib.Core.List.{[], ◌∷◌}
use Prim.Native.Nat.{ℕ, ◌+◌, ◌-◌, ◌*◌, ◌/◌, ◌%◌, ◌≤◌, ◌<◌, max}
use native.Mathlib.Omega.{arith}
use lib.Dec.{eqb}
use lib.Bits.{bit_or}
use borrow.Author.Tests.{lt-ltb, le-ltb, eq-eqb, ne_eqb, eqb-false}
use Rattle.std.specs.Prelude.{Some}
use Rattle.lineentry.specs.declared.Location.{Location}
use Rattle.lineentry.specs.declared.Entry.{Entry}
use Rattle.lineentry.specs.Line.{origin, as_signed, moved, shown}
use Rattle.lineentry.specs.Varint.{signed_at}
use Rattle.lineentry.specs.Entry.{location, covers, at_line, short_column, short_form, one_line, no_columns, long_columns, long_form, by_code, entry_of, entry_at}
use Rattle.lineentry.proofs.Varints.{varint_end}
use Rattle.lostentry.proofs.Grows.{moved_to}
use Rattle.bypiece.specs.Byte.{Cut, Ended, line_span}

pub cut_of : (n line : ℕ) (at : Location) (p : ℕ) {x : Entry} → x ≡ covers n line at p true → Cut x
cut_of n line at p e = record { span = record { instructions = n; line = line; location = at; next = p; missing = true }; covers = e; lacks = refl }

-- ---- codes 0 to 9
module _ (h line : ℕ) (a : 128 ≤ h) (b : h < 208) where
  pub short_cut : Cut (entry_at (h ∷ []) line 0)
  unfolding entry_of by_code short_form
  short_cut =
      cut_of (h % 8 + 1) line (location (shown line) (short_column (h / 8 % 16) 0 + 1) (shown line) (short_column (h / 8 % 16) 0 + 0 % 16 + 1)) 1
      (rw (le-ltb h 128 a, lt-ltb (h / 8 % 16) 10 (omega arith)))

  pub short-ends : (d : ℕ) {l : ℕ} → l ≡ shown line
      → Ended (entry_at (h ∷ d ∷ []) line 0) 1
      (record { instructions = h % 8 + 1; line = line; location = location l (bit_or (h / 8 % 16 * 8) (d / 16) + 1) l (bit_or (h / 8 % 16 * 8) (d / 16) + d % 16 + 1); next = 2; missing = false })
  unfolding entry_of by_code short_form
  short-ends d e = record { covers = rw (le-ltb h 128 a, lt-ltb (h / 8 % 16) 10 (omega arith), e); there = refl; last = omega arith }

-- ---- codes 10 to 12
module _ (h line to : ℕ) (a : 208 ≤ h) (b : h < 232) (m : moved line (origin + (h / 8 % 16 - 10)) ≡ Some to) where
  pub line-cut : Cut (entry_at (h ∷ []) line 0)
  unfolding entry_of by_code one_line
  line-cut =
      cut_of (h % 8 + 1) to (location (shown to) (0 + 1) (shown to) (0 + 1)) 1
      (rw (le-ltb h 128 (omega arith), le-ltb (h / 8 % 16) 10 (omega arith), lt-ltb (h / 8 % 16) 13 (omega arith), m))

  pub line-cut_2 : (d : ℕ) → Cut (entry_at (h ∷ d ∷ []) line 0)
  unfolding entry_of by_code one_line
  line-cut_2 d =
      cut_of (h % 8 + 1) to (location (shown to) (d + 1) (shown to) (0 + 1)) 2
      (rw (le-ltb h 128 (omega arith), le-ltb (h / 8 % 16) 10 (omega arith), lt-ltb (h / 8 % 16) 13 (omega arith), m))

  pub line-ends : (c d : ℕ) → Ended (entry_at (h ∷ c ∷ d ∷ []) line 0) 2 (line_span h c d to)
  unfolding entry_of by_code one_line
  line-ends c d = record { covers = rw (le-ltb h 128 (omega arith), le-ltb (h / 8 % 16) 10 (omega arith), lt-ltb (h / 8 % 16) 13 (omega arith), m); there = refl; last = omega arith }

-- ---- codes 13 and 14, of which every number is missing: no line is passed
stays : (line : ℕ) → line < 4294967296 → moved line origin ≡ Some line
stays line h = let z : line + origin - origin ≡ line = omega arith in moved_to line origin (omega arith) (omega arith) ∙ ap Some z

pub number_cut : (h line : ℕ) → 232 ≤ h → h < 248 → line < 4294967296 → Cut (entry_at (h ∷ []) line 0)
unfolding entry_of by_code no_columns long_form long_columns signed_at as_signed
number_cut h line a b f = on (eqb (h / 8 % 16) 13) refl where
  on : (t : Bool) → eqb (h / 8 % 16) 13 ≡ t → Cut (entry_at (h ∷ []) line 0)
  on true e =
      cut_of (h % 8 + 1) line (at_line line) 1
      (rw (le-ltb h 128 (omega arith), le-ltb (h / 8 % 16) 10 (omega arith), le-ltb (h / 8 % 16) 13 (omega arith), e, varint_end 6 (h ∷ []) 1 (omega arith), stays line f))
  on false e =
      let c = eqb-false (h / 8 % 16) 13 e in
      let none = varint_end 6 (h ∷ []) 1 (omega arith) in
      cut_of (h % 8 + 1) line (location (shown line) (max 1 0) (shown line) (max 1 0)) 1
      (rw (le-ltb h 128 (omega arith), le-ltb (h / 8 % 16) 10 (omega arith), le-ltb (h / 8 % 16) 13 (omega arith), e, eq-eqb (h / 8 % 16) 14 (omega (arith, c)), none, stays line f, none, stays line f, none, none))

-- ---- code 15
pub bare_ends : (h line : ℕ) {l : Location} → 248 ≤ h → h < 256 → l ≡ at_line line
    → Ended (entry_at (h ∷ []) line 0) 0 (record { instructions = h % 8 + 1; line = line; location = l; next = 1; missing = false })
unfolding entry_of by_code
bare_ends h line a b e =
    record {
      covers = rw (le-ltb h 128 (omega arith), le-ltb (h / 8 % 16) 10 (omega arith), le-ltb (h / 8 % 16) 13 (omega arith), ne_eqb (h / 8 % 16) 13 (λ y. omega arith), ne_eqb (h / 8 % 16) 14 (λ y. omega arith), e);
      there = refl;
      last = omega arith;
    }
