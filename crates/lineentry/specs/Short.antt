-- No export and no promise rests on this page.
-- Entries of code 14 whose numbers are one byte or two each, by their bytes. That they are the entries there is proofs/Shorts.
use Rattle.std.specs.Prelude.{◌≡◌, Bool, false, cond, ◌&&◌, ◌||◌, List, ℕ, ◌+◌, ◌-◌, ◌*◌, ◌/◌, ◌%◌, ◌≤◌, ◌<◌, max, length, get_or, ltb, eqb}
use Rattle.lineentry.specs.declared.Entry.{Entry}
use Rattle.lineentry.specs.declared.short.Short.{Short}
use Rattle.lineentry.specs.declared.short.Numbers.{Numbers}
use Rattle.lineentry.specs.Line.{as_signed, moved, shown}
use Rattle.lineentry.specs.Varint.{read_as, varint_at, signed_of}
use Rattle.lineentry.specs.Entry.{location, covers, with_line}
use Rattle.lineentry.specs.Quick.{one_byte}

-- a first byte of code 14, and eight more: two for each number
unfoldable pub is_long : List ℕ → ℕ → Bool
is_long s p = ltb 8 (length s - p) && eqb (get_or s p 0 / 8) 30

pub record Long (s : List ℕ) (p : ℕ) : Type 0 where
  pub room : p + 8 < length s
  pub starts : 240 ≤ get_or s p 0
  pub below : get_or s p 0 < 248

-- A number at p whose first byte is b, with c behind it: its value, the place after it, and whether it is of one byte or two. "six bits a byte,
-- 0x40 meaning more"
unfoldable pub short_of : ℕ → ℕ → ℕ → Short
short_of b c p =
    record {
      value = b % 64 + cond (one_byte b) 0 (64 * (c % 64));
      next = cond (one_byte b) (p + 1) (p + 2);
      short = one_byte b || one_byte c;
    }

abbrev pub short_at : List ℕ → ℕ → Short
short_at s p = short_of (get_or s p 0) (get_or s (p + 1) 0) p

-- four numbers, one behind another
abbrev pub numbers_of : Short → Short → Short → Short → Numbers
numbers_of a b c d =
    record {
      step = a.value;
      end_step = b.value;
      column = c.value;
      end_column = d.value;
      next = d.next;
      short = (a.short && b.short) && (c.short && d.short);
    }

abbrev pub third_at : List ℕ → ℕ → ℕ
third_at s p = (short_at s (short_at s p).next).next

unfoldable pub numbers_at : List ℕ → ℕ → Numbers
numbers_at s p = numbers_of (short_at s p) (short_at s (short_at s p).next) (short_at s (third_at s p)) (short_at s (short_at s (third_at s p)).next)

-- x are the four numbers from p on, and no byte of them is missing
pub record Read (s : List ℕ) (p : ℕ) (x : Numbers) : Type 0 where
  pub second : ℕ
  pub third : ℕ
  pub fourth : ℕ
  pub steps : varint_at s p ≡ read_as x.step second false
  pub ends : varint_at s second ≡ read_as x.end_step third false
  pub columns : varint_at s third ≡ read_as x.column fourth false
  pub end_columns : varint_at s fourth ≡ read_as x.end_column x.next false

-- code 14 by its numbers
unfoldable pub long_by : ℕ → ℕ → Numbers → Entry
long_by line n x =
    with_line (moved line (signed_of x.step)) λ to.
    with_line (moved to (as_signed x.end_step)) λ end.
    covers n to (location (shown to) (max 1 x.column) (shown end) (max 1 x.end_column)) x.next false
