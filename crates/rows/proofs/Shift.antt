-- An entry behind other bytes, which is the same entry so many bytes further on, and an entry for another number of instructions, which is the
-- same but for that. Equations, form by form.
use mathlib.Core.Path.{◌≡◌, refl, ap}
use mathlib.Core.Bool.{Bool, true, false, cond, ◌&&◌}
use mathlib.Core.List.{List, ◌++◌}
use Prim.Native.Nat.{ℕ, ◌+◌, ◌-◌, ◌/◌, ◌%◌, ◌≤◌, ◌<◌}
use native.Mathlib.Nat.{add_assoc}
use native.Mathlib.Omega.{arith}
use lib.ListN.{length, drop, length-append}
use lib.Seq.{drop-append-add, get_or-append-add}
use lib.Dec.{leb, ltb, eqb}
use borrow.Author.Tests.{le-ltb, lt-ltb, ltb-true, ltb-false}
use Rattle.std.specs.Prelude.{Option, Some, None}
use Rattle.lineentry.specs.declared.Byte.{Byte}
use Rattle.lineentry.specs.declared.Varint.{Varint}
use Rattle.lineentry.specs.declared.Span.{Span}
use Rattle.lineentry.specs.declared.Entry.{Entry}
use Rattle.lineentry.specs.declared.Entry.TheVariants.{Covers, Stop, OutOfRange}
use Rattle.lineentry.specs.Varint.{read_as, byte_at, digits, number, cut, varint_within, varint_at, signed_of, signed_at}
use Rattle.lineentry.specs.Line.{origin, moved, as_signed}
use Rattle.lineentry.specs.Entry.{with_number, with_line, short_form, one_line, no_columns, long_columns, long_form, by_code, entry_of, entry_at}
use Rattle.rows.proofs.Extent.{signed_at_lem}
use Rattle.rows.specs.Row.{shift_span}

abbrev pub shift_byte : ℕ → Byte → Byte
shift_byte k b = record { value = b.value; next = k + b.next; missing = b.missing }

abbrev pub shift_entry : ℕ → Entry → Entry
shift_entry k (Covers e) = Covers (shift_span k e)
shift_entry k Stop = Stop
shift_entry k OutOfRange = OutOfRange

abbrev shift_varint : ℕ → Option Varint → Option Varint
shift_varint k (Some w) = read_as w.value (k + w.next) w.missing
shift_varint k None = None

byte_eq : {v w n k : ℕ} {b : Bool} → v ≡ w → n ≡ k → ◌≡◌ {A = Byte} (record { value = v; next = n; missing = b }) (record { value = w; next = k; missing = b })
byte_eq p q = cc

byte-shift : (xs s : List ℕ) (p : ℕ) → byte_at (xs ++ s) (length xs + p) ≡ shift_byte (length xs) (byte_at s p)
byte-shift xs s p = on (ltb p (length s)) refl where
  on : (t : Bool) → ltb p (length s) ≡ t → byte_at (xs ++ s) (length xs + p) ≡ shift_byte (length xs) (byte_at s p)
  on true e =
      let h : length xs + p < length (xs ++ s) = omega (arith, length-append xs s, ltb-true p (length s) e) in
      rw (lt-ltb (length xs + p) (length (xs ++ s)) h, e) (byte_eq (get_or-append-add xs s p 0) (omega arith))
  on false e =
      let h : length (xs ++ s) ≤ length xs + p = omega (arith, length-append xs s, ltb-false p (length s) e) in
      rw (le-ltb (length xs + p) (length (xs ++ s)) h, e)

varint_shift : (xs s : List ℕ) (p : ℕ) → varint_at (xs ++ s) (length xs + p) ≡ shift_varint (length xs) (varint_at s p)
unfolding varint_within
varint_shift xs s p = rw (drop-append-add xs s p) (on (leb (length (digits (drop p s))) 6 && ltb (number (digits (drop p s))) 4294967296)) where
  on : (t : Bool) → cond t (read_as (number (digits (drop p s))) (length xs + p + length (digits (drop p s))) (cut (drop p s))) None
      ≡ shift_varint (length xs) (cond t (read_as (number (digits (drop p s))) (p + length (digits (drop p s))) (cut (drop p s))) None)
  on true = ap (λ q. read_as (number (digits (drop p s))) q (cut (drop p s))) (add_assoc (length xs) p (length (digits (drop p s))))
  on false = refl

number-shift : (xs s : List ℕ) (p : ℕ) (go go' : ℕ → ℕ → Bool → Entry) → ((x q : ℕ) (m : Bool) → go' x (length xs + q) m ≡ shift_entry (length xs) (go x q m))
    → with_number (varint_at (xs ++ s) (length xs + p)) go' ≡ shift_entry (length xs) (with_number (varint_at s p) go)
number-shift xs s p go go' f = rw (varint_shift xs s p) (on (varint_at s p)) where
  on : (v : Option Varint) → with_number (shift_varint (length xs) v) go' ≡ shift_entry (length xs) (with_number v go)
  on (Some v) = f v.value v.next v.missing
  on None = refl

line-shift : (k : ℕ) (l : Option ℕ) (go go' : ℕ → Entry) → ((x : ℕ) → go' x ≡ shift_entry k (go x)) → with_line l go' ≡ shift_entry k (with_line l go)
line-shift k (Some x) go go' f = f x
line-shift k None go go' f = refl

shift-cond : (k : ℕ) (t : Bool) (a b a' b' : Entry) → a' ≡ shift_entry k a → b' ≡ shift_entry k b → cond t a' b' ≡ shift_entry k (cond t a b)
shift-cond k true a b a' b' x y = x
shift-cond k false a b a' b' x y = y

short-shift : (xs s : List ℕ) (line code n p : ℕ) → short_form (xs ++ s) line code n (length xs + p) ≡ shift_entry (length xs) (short_form s line code n p)
unfolding short_form
short-shift xs s line code n p = rw (byte-shift xs s p)

one_shift : (xs s : List ℕ) (line code n p : ℕ) → one_line (xs ++ s) line code n (length xs + p) ≡ shift_entry (length xs) (one_line s line code n p)
unfolding one_line
one_shift xs s line code n p =
    rw (byte-shift xs s p, byte-shift xs s (byte_at s p).next) (line-shift (length xs) (moved line (origin + (code - 10))) _ _ λ to. refl)

step_shift : (xs s : List ℕ) (line n p : ℕ) → no_columns (xs ++ s) line n (length xs + p) ≡ shift_entry (length xs) (no_columns s line n p)
unfolding no_columns
step_shift xs s line n p =
    rw (signed_at_lem s p, signed_at_lem (xs ++ s) (length xs + p)) (number-shift xs s p _ _ λ x q m. line-shift (length xs) (moved line (signed_of x)) _ _ λ to. refl)

long-shift : (xs s : List ℕ) (line n p : ℕ) → long_form (xs ++ s) line n (length xs + p) ≡ shift_entry (length xs) (long_form s line n p)
unfolding long_form long_columns
long-shift xs s line n p =
    rw (signed_at_lem s p, signed_at_lem (xs ++ s) (length xs + p))
    (number-shift xs s p _ _ λ x q m. number-shift xs s q _ _ λ y q₁ m₁.
    line-shift (length xs) (moved line (signed_of x)) _ _ λ to. line-shift (length xs) (moved to (as_signed y)) _ _ λ end.
    number-shift xs s q₁ _ _ λ c q₂ m₂. number-shift xs s q₂ _ _ λ d q₃ m₃. refl)

code-shift : (xs s : List ℕ) (line code n p : ℕ) → by_code (xs ++ s) line code n (length xs + p) ≡ shift_entry (length xs) (by_code s line code n p)
unfolding by_code
code-shift xs s line code n p =
    shift-cond (length xs) (ltb code 10) _ _ _ _ (short-shift xs s line code n p)
    (shift-cond (length xs) (ltb code 13) _ _ _ _ (one_shift xs s line code n p)
    (shift-cond (length xs) (eqb code 13) _ _ _ _ (step_shift xs s line n p)
    (shift-cond (length xs) (eqb code 14) _ _ _ _ (long-shift xs s line n p) refl)))

-- An entry behind other bytes is the same entry, further on.
pub entry-shift : (xs s : List ℕ) (line p : ℕ) → entry_at (xs ++ s) line (length xs + p) ≡ shift_entry (length xs) (entry_at s line p)
unfolding entry_of
entry-shift xs s line p =
    let b = (byte_at s p).value in
    rw (byte-shift xs s p) (shift-cond (length xs) (ltb b 128) Stop _ Stop _ refl (code-shift xs s line (b / 8 % 16) (b % 8 + 1) (byte_at s p).next))

-- ---- the same entry for another number of instructions
abbrev pub resize : ℕ → Span → Span
resize n e = record { instructions = n; line = e.line; location = e.location; next = e.next; missing = e.missing }

abbrev pub resize_entry : ℕ → Entry → Entry
resize_entry n (Covers e) = Covers (resize n e)
resize_entry n Stop = Stop
resize_entry n OutOfRange = OutOfRange

number_resize : (n : ℕ) (v : Option Varint) (go go' : ℕ → ℕ → Bool → Entry) → ((x q : ℕ) (m : Bool) → go' x q m ≡ resize_entry n (go x q m)) → with_number v go' ≡ resize_entry n (with_number v go)
number_resize n (Some v) go go' f = f v.value v.next v.missing
number_resize n None go go' f = refl

line_resize : (n : ℕ) (l : Option ℕ) (go go' : ℕ → Entry) → ((x : ℕ) → go' x ≡ resize_entry n (go x)) → with_line l go' ≡ resize_entry n (with_line l go)
line_resize n (Some x) go go' f = f x
line_resize n None go go' f = refl

resize_cond : (n : ℕ) (t : Bool) (a b a' b' : Entry) → a' ≡ resize_entry n a → b' ≡ resize_entry n b → cond t a' b' ≡ resize_entry n (cond t a b)
resize_cond n true a b a' b' x y = x
resize_cond n false a b a' b' x y = y

pub code_resize : (s : List ℕ) (line code n k p : ℕ) → by_code s line code k p ≡ resize_entry k (by_code s line code n p)
unfolding by_code short_form one_line no_columns long_form long_columns
code_resize s line code n k p =
    resize_cond k (ltb code 10) _ _ _ _ refl
    (resize_cond k (ltb code 13) _ _ _ _ (line_resize k (moved line (origin + (code - 10))) _ _ λ to. refl)
    (resize_cond k (eqb code 13) _ _ _ _ (number_resize k (signed_at s p) _ _ λ x q m. line_resize k (moved line x) _ _ λ to. refl)
    (resize_cond k (eqb code 14) _ _ _ _
    (number_resize k (signed_at s p) _ _ λ x q m. number_resize k (varint_at s q) _ _ λ y q₁ m₁.
    line_resize k (moved line x) _ _ λ to. line_resize k (moved to (as_signed y)) _ _ λ end.
    number_resize k (varint_at s q₁) _ _ λ c q₂ m₂. number_resize k (varint_at s q₂) _ _ λ d q₃ m₃. refl)
    refl)))
