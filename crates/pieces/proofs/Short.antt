-- How many bytes an entry has, and how many are held between pieces.
use mathlib.Core.Path.{◌≡◌, refl, sym, subst}
use mathlib.Core.Bool.{Bool, true, false, cond, not}
use mathlib.Core.List.{List}
use Prim.Native.Nat.{ℕ, ◌+◌, ◌-◌, ◌/◌, ◌%◌, ◌≤◌, ◌<◌}
use native.Mathlib.Omega.{arith}
use lib.ListN.{length, drop, get_or, length-drop}
use lib.Dec.{ltb, eqb}
use borrow.Author.Tests.{ltb-true}
use Rattle.std.specs.Prelude.{Option, Some, None}
use Rattle.lineentry.specs.declared.Byte.{Byte}
use Rattle.lineentry.specs.declared.Varint.{Varint}
use Rattle.lineentry.specs.declared.Span.{Span}
use Rattle.lineentry.specs.declared.Entry.{Entry}
use Rattle.lineentry.specs.declared.Entry.TheVariants.{Covers, Stop, OutOfRange}
use Rattle.lineentry.specs.Varint.{read_as, byte_at, varint_at, signed_of}
use Rattle.lineentry.specs.Line.{origin, moved, as_signed}
use Rattle.lineentry.specs.Entry.{with_number, with_line, short_form, one_line, no_columns, long_columns, long_form, by_code, entry_of, entry_at}
use Rattle.lineentry.proofs.Entries.{refused-inside}
use Rattle.rows.proofs.Local.{never, parsed}
use Rattle.rows.proofs.Extent.{ran, signed_at_lem, entry_runs}
use Rattle.rows.proofs.Chains.{chain-upto, rowed}
use Rattle.lostentry.proofs.Losing.{and_split, lost-refuses}
use Rattle.pieces.proofs.Settled.{Settled, all, stop, past, gone}
use Rattle.pieces.proofs.Shown.{held_out}
use Rattle.rows.specs.Row.{Ending, placed_all, table_end, stop_byte, cut_short, out_of_range, past_count, row, Ends, total, line_after, place_after}
use Rattle.lostentry.specs.Lost.{in_range, cut_early, end_open, may_heal, lost}

-- ---- an entry has at most 25 bytes
abbrev UpTo : ℕ → Entry → Type 0
UpTo b (Covers e) = e.next ≤ b
UpTo b Stop = Unit {0}
UpTo b OutOfRange = Unit {0}

upto-number : (s : List ℕ) (p b : ℕ) (go : ℕ → ℕ → Bool → Entry) → ((x q : ℕ) (m : Bool) → q ≤ p + 6 → UpTo b (go x q m)) → UpTo b (with_number (varint_at s p) go)
upto-number s p b go f = on (varint_at s p) refl where
  on : (v : Option Varint) → varint_at s p ≡ v → UpTo b (with_number v go)
  on (Some v) e = let a = parsed s p v.value v.next v.missing e in f v.value v.next v.missing (omega (arith, a.wide, a.few))
  on None e = tt

upto-line : (b : ℕ) (l : Option ℕ) (go : ℕ → Entry) → ((x : ℕ) → UpTo b (go x)) → UpTo b (with_line l go)
upto-line b (Some x) go f = f x
upto-line b None go f = tt

upto-cond : (b : ℕ) (t : Bool) (x y : Entry) → UpTo b x → UpTo b y → UpTo b (cond t x y)
upto-cond b true x y p q = p
upto-cond b false x y p q = q

byte-upto : (s : List ℕ) (p : ℕ) → (byte_at s p).next ≤ p + 1
byte-upto s p = on (ltb p (length s)) where
  on : (t : Bool) → (cond {A = Byte} t (record { value = get_or s p 0; next = p + 1; missing = false }) (record { value = 0; next = p; missing = true })).next ≤ p + 1
  on true = omega arith
  on false = omega arith

step_upto : (s : List ℕ) (line n p : ℕ) → UpTo (p + 24) (no_columns s line n p)
unfolding no_columns
step_upto s line n p = rw (signed_at_lem s p) (upto-number s p (p + 24) _ λ x q m h. upto-line (p + 24) (moved line (signed_of x)) _ λ to. omega arith)

long-upto : (s : List ℕ) (line n p : ℕ) → UpTo (p + 24) (long_form s line n p)
unfolding long_form long_columns
long-upto s line n p =
    rw (signed_at_lem s p)
    (upto-number s p (p + 24) _ λ x q m h. upto-number s q (p + 24) _ λ y q₁ m₁ h₁.
    upto-line (p + 24) (moved line (signed_of x)) _ λ to. upto-line (p + 24) (moved to (as_signed y)) _ λ end.
    upto-number s q₁ (p + 24) _ λ c q₂ m₂ h₂. upto-number s q₂ (p + 24) _ λ d q₃ m₃ h₃. omega arith)

code-upto : (s : List ℕ) (line code n p : ℕ) → UpTo (p + 24) (by_code s line code n p)
unfolding by_code short_form one_line
code-upto s line code n p =
    let a = byte-upto s p in
    let b = byte-upto s (byte_at s p).next in
    upto-cond (p + 24) (ltb code 10) _ _ (omega arith)
    (upto-cond (p + 24) (ltb code 13) _ _ (upto-line (p + 24) (moved line (origin + (code - 10))) _ λ x. omega arith)
    (upto-cond (p + 24) (eqb code 13) _ _ (step_upto s line n p)
    (upto-cond (p + 24) (eqb code 14) _ _ (long-upto s line n p) (omega arith))))

pub entry-upto : (s : List ℕ) (line p : ℕ) (e : Span) → entry_at s line p ≡ Covers e → e.next ≤ p + 25
unfolding entry_of
entry-upto s line p e q =
    let b = (byte_at s p).value in
    let n = byte-upto s p in
    let r = subst (UpTo ((byte_at s p).next + 24)) q (upto-cond ((byte_at s p).next + 24) (ltb b 128) _ _ tt (code-upto s line (b / 8 % 16) (b % 8 + 1) (byte_at s p).next)) in
    omega arith

-- ---- what is held: at most 25 bytes, unless no later byte matters
-- A row that goes on: the table has ended, or an entry is cut, or it refuses and is not lost.
pub data Goes (u : List ℕ) (line p : ℕ) : Ending → Type 0 where
  nothing : Goes u line p table_end
  incomplete : {e : Span} → Goes u line p (cut_short e)
  unsure : lost (drop p u) line ≡ false → Goes u line p out_of_range

heal_short : (u : List ℕ) (line : ℕ) → 0 < length u → end_open u line (varint_at u 1) ≡ true → length u ≤ 25
heal_short u line h e = on (varint_at u 1) refl e where
  on : (w : Option Varint) → varint_at u 1 ≡ w → end_open u line w ≡ true → length u ≤ 25
  on None a k = never (sym k)
  on (Some v) a k = of v.value v.next v.missing a k where
    of : (x q : ℕ) (m : Bool) → varint_at u 1 ≡ read_as x q m → end_open u line (read_as x q m) ≡ true → length u ≤ 25
    of x q true a k = never (sym k)
    of x q false a k = at (varint_at u q) refl (and_split (in_range (moved line (signed_of x))) (cut_early q (varint_at u q)) k).1 where
      ended : (y q₁ : ℕ) (m : Bool) → varint_at u q ≡ read_as y q₁ m → cut_early q (read_as y q₁ m) ≡ true → length u ≤ 25
      ended y q₁ false b j = never (sym j)
      ended y q₁ true b j =
          let z = h in
          let p = parsed u 1 x q false a in
          let r = ran u 1 x q false (omega arith) a in
          omega (arith, p.wide, p.few, (ran u q y q₁ true r.upto b).late refl, ltb-true (q₁ - q) 6 j)

      at : (w : Option Varint) → varint_at u q ≡ w → cut_early q w ≡ true → length u ≤ 25
      at None b j = never (sym j)
      at (Some w) b j = ended w.value w.next w.missing b j

open_of : (u : List ℕ) (line : ℕ) → entry_at u line 0 ≡ OutOfRange → lost u line ≡ false → end_open u line (varint_at u 1) ≡ true
unfolding lost
open_of u line e h = on (may_heal u line) refl (rw e at h) where
  on : (t : Bool) → may_heal u line ≡ t → not t ≡ false → end_open u line (varint_at u 1) ≡ true
  on true t k = (and_split (eqb (get_or u 0 0 / 8 % 16) 14) (end_open u line (varint_at u 1)) t).1
  on false t k = never k

held_ends : (u : List ℕ) (line p left : ℕ) (x : Ending) → p ≤ length u → Ends u line p left x → Goes u line p x → length (drop p u) ≤ 25
held_ends u line p left placed_all h d g = elim g [ ]
held_ends u line p left stop_byte h d g = elim g [ ]
held_ends u line p left (past_count _) h d g = elim g [ ]
held_ends u line p left table_end h d g = omega (arith, length-drop p u, d.1)
held_ends u line p left (cut_short e) h d g =
    omega (arith, length-drop p u, entry-upto u line p e d.1, (entry_runs u line p e d.1).late d.2)
held_ends u line p left out_of_range h d (unsure l) =
    let o = held_out u line p left out_of_range h d refl in
    heal_short (drop p u) line (refused-inside (drop p u) line 0 o.1) (open_of (drop p u) line o.1 l)

-- THEOREM: where later bytes matter, at most 25 bytes are held.
pub held_short : (u : List ℕ) (first count : ℕ) → Goes u (line_after first (row u first 0 count).entries) (place_after 0 (row u first 0 count).entries) (row u first 0 count).ending
    → length (drop (place_after 0 (row u first 0 count).entries) u) ≤ 25
held_short u first count g =
    let h = rowed u first 0 count in
    held_ends u _ _ (count - total (row u first 0 count).entries) (row u first 0 count).ending (chain-upto u first 0 (row u first 0 count).entries (omega arith) h.chain) h.ends g

-- every ending is settled or goes on
pub data Which (u : List ℕ) (line p : ℕ) (x : Ending) : Type 0 where
  over : Settled u line p x → Which u line p x
  going : Goes u line p x → Which u line p x

pub which : (u : List ℕ) (line p : ℕ) (x : Ending) → line < 4294967296 → Which u line p x
which u line p placed_all b = over all
which u line p table_end b = going nothing
which u line p stop_byte b = over stop
which u line p (cut_short e) b = going incomplete
which u line p (past_count e) b = over past
which u line p out_of_range b = on (lost (drop p u) line) refl where
  on : (t : Bool) → lost (drop p u) line ≡ t → Which u line p out_of_range
  on true e = over (gone (lost-refuses (drop p u) line b e))
  on false e = going (unsure e)
