-- Laws on entries that every walk over a table leans on: an entry covers one instruction or more, and only the inside of a table has one.
use mathlib.Core.Path.{◌≡◌, refl, sym, subst, ◌∙◌}
use mathlib.Core.Bool.{Bool, true, false, cond}
use mathlib.Core.List.{List}
use Prim.Native.Nat.{ℕ, ◌+◌, ◌-◌, ◌*◌, ◌/◌, ◌%◌, ◌≤◌, ◌<◌}
use native.Mathlib.Omega.{arith}
use lib.ListN.{length}
use lib.Dec.{ltb, eqb}
use lib.Bits.{bit_or, or_lt}
use borrow.Author.Tests.{le-ltb, ltb-true, ltb-false}
use Rattle.lineentry.specs.declared.Varint.{Varint}
use Rattle.std.specs.Prelude.{Option, Some, None}
use Rattle.lineentry.specs.declared.Span.{Span}
use Rattle.lineentry.specs.declared.Entry.{Entry}
use Rattle.lineentry.specs.declared.Entry.TheVariants.{Covers, Stop, OutOfRange}
use Rattle.lineentry.specs.Varint.{byte_at, varint_at, signed_at}
use Rattle.lineentry.specs.Line.{origin, moved, as_signed}
use Rattle.lineentry.specs.Entry.{with_number, with_line, short_form, one_line, no_columns, long_columns, long_form, by_code, entry_of, entry_at}

-- a short entry's column is below 128
pub column_lt : (code d : ℕ) → code < 10 → d < 256 → bit_or (code * 8) (d / 16) < 128
column_lt code d h k = or_lt 7 (code * 8) (d / 16) (omega arith) (omega arith)

-- an entry that covers something covers one instruction or more
abbrev Places : Entry → Type 0
Places (Covers e) = 0 < e.instructions
Places Stop = Unit {0}
Places OutOfRange = Unit {0}

places-cond : (t : Bool) (a b : Entry) → Places a → Places b → Places (cond t a b)
places-cond true a b p q = p
places-cond false a b p q = q

places-number : (v : Option Varint) (go : ℕ → ℕ → Bool → Entry) → ((x p : ℕ) (m : Bool) → Places (go x p m)) → Places (with_number v go)
places-number (Some v) go h = h v.value v.next v.missing
places-number None go h = tt

places-line : (l : Option ℕ) (go : ℕ → Entry) → ((x : ℕ) → Places (go x)) → Places (with_line l go)
places-line (Some x) go h = h x
places-line None go h = tt

places-long : (s : List ℕ) (line n p : ℕ) → 0 < n → Places (long_form s line n p)
unfolding long_form long_columns
places-long s line n p h =
    places-number (signed_at s p) _ (λ step p₁ _. places-number (varint_at s p₁) _ (λ end_step p₂ _.
    places-line (moved line step) _ (λ to. places-line (moved to (as_signed end_step)) _ (λ end.
    places-number (varint_at s p₂) _ (λ column p₃ _. places-number (varint_at s p₃) _ (λ end_column p₄ _. h))))))

places-code : (s : List ℕ) (line code n p : ℕ) → 0 < n → Places (by_code s line code n p)
unfolding by_code short_form one_line no_columns
places-code s line code n p h =
    places-cond (ltb code 10) _ _ h
    (places-cond (ltb code 13) _ _ (places-line (moved line (origin + (code - 10))) _ (λ to. h))
    (places-cond (eqb code 13) _ _ (places-number (signed_at s p) _ (λ step q m. places-line (moved line step) _ (λ to. h)))
    (places-cond (eqb code 14) _ _ (places-long s line n p h) h)))

pub entry-places : (s : List ℕ) (line p : ℕ) (e : Span) → entry_at s line p ≡ Covers e → 0 < e.instructions
unfolding entry_of
entry-places s line p e q =
    let b = (byte_at s p).value in
    subst Places q (places-cond (ltb b 128) _ _ tt (places-code s line (b / 8 % 16) (b % 8 + 1) (byte_at s p).next (omega arith)))

-- past the end there is only a stop
pub entry_past : (s : List ℕ) (line p : ℕ) → length s ≤ p → entry_at s line p ≡ Stop
unfolding entry_of
entry_past s line p h = rw (le-ltb p (length s) h)

inside : (s : List ℕ) (line p : ℕ) (e : Entry) (t : Bool) → entry_at s line p ≡ e → (e ≡ Stop → ⊥) → ltb p (length s) ≡ t → p < length s
inside s line p e true q k h = ltb-true p (length s) h
inside s line p e false q k h = absurd (k (sym q ∙ entry_past s line p (ltb-false p (length s) h)))

-- what is refused stands inside the table
pub refused-inside : (s : List ℕ) (line p : ℕ) → entry_at s line p ≡ OutOfRange → p < length s
refused-inside s line p q = inside s line p OutOfRange _ q (λ e. let z : ◌≡◌ {A = ℕ} 0 1 = cc in omega arith) refl

-- and so does what covers something
pub covers-inside : (s : List ℕ) (line p : ℕ) (e : Span) → entry_at s line p ≡ Covers e → p < length s
covers-inside s line p x q = inside s line p (Covers x) _ q (λ e. let z : ◌≡◌ {A = ℕ} 0 1 = cc in omega arith) refl
