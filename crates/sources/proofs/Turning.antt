-- A turn of the walk and the entry that it takes: the one told by the other, and the byte of each way to an entry. Assumes nothing.
use mathlib.Core.Path.{◌≡◌, refl, sym, ap, ◌∙◌}
use mathlib.Core.Bool.{Bool, true}
use mathlib.Core.List.{List}
use Prim.Native.Nat.{ℕ, ◌+◌, ◌/◌, ◌%◌, ◌<◌}
use native.Mathlib.Omega.{arith}
use lib.ListN.{length, get_or}
use borrow.Author.Tests.{ne_eqb, lt-ltb}
use Rattle.lineentry.specs.declared.Span.{Span}
use Rattle.lineentry.specs.declared.Entry.{Entry}
use Rattle.lineentry.specs.declared.Entry.TheVariants.{Covers, Stop, OutOfRange}
use Rattle.lineentry.specs.declared.short.Numbers.{Numbers}
use Rattle.lineentry.specs.Entry.{entry_at}
use Rattle.lineentry.specs.Quick.{Plain}
use Rattle.lineentry.specs.Short.{Long, Read}
use Rattle.sources.specs.declared.Mark.{Mark}
use Rattle.sources.specs.declared.LongForm.{LongForm}
use Rattle.sources.specs.declared.Turn.{Turn}
use Rattle.sources.specs.declared.Turn.TheVariants.{Gives, Stops, Refuses}
use Rattle.sources.specs.Source.{number_at, long_at, above, sum, source_by, source_of}
use Rattle.sources.specs.Turns.{mark, turn_of, turn_at}

-- ---- the turn by the entry
pub turn-stops : (s : List ℕ) (line p : ℕ) → entry_at s line p ≡ Stop → Stops ≡ turn_at s line p
turn-stops s line p e = sym (ap (turn_of s p) e)

pub turn-refuses : (s : List ℕ) (line p : ℕ) → entry_at s line p ≡ OutOfRange → Refuses ≡ turn_at s line p
turn-refuses s line p e = sym (ap (turn_of s p) e)

pub turn-gives : (s : List ℕ) (line p : ℕ) (x : Span) {byte : ℕ} → entry_at s line p ≡ Covers x → byte ≡ source_of s p x.line x.missing
    → Gives (mark x.instructions x.line x.next byte) ≡ turn_at s line p
turn-gives s line p x e b = ap (λ t. Gives (mark x.instructions x.line x.next t)) b ∙ sym (ap (turn_of s p) e)

-- ---- the entry by the turn
pub record Given (s : List ℕ) (line p : ℕ) (m : Mark) : Type 0 where
  pub entry : Span
  pub stands : entry_at s line p ≡ Covers entry
  pub instructions_same : m.instructions ≡ entry.instructions
  pub line_same : m.line ≡ entry.line
  pub next_same : m.next ≡ entry.next
  pub byte_same : m.byte ≡ source_of s p entry.line entry.missing

abbrev marked : Turn → Mark
marked (Gives m) = m
marked Stops = mark 0 0 0 0
marked Refuses = mark 0 0 0 0

pub given : (s : List ℕ) (line p : ℕ) (m : Mark) → Gives m ≡ turn_at s line p → Given s line p m
given s line p m = go (entry_at s line p) refl where
  go : (e : Entry) → entry_at s line p ≡ e → Gives m ≡ turn_of s p e → Given s line p m
  go (Covers x) q k =
      let same : m ≡ mark x.instructions x.line x.next (source_of s p x.line x.missing) = ap marked k in
      record {
        entry = x;
        stands = q;
        instructions_same = ap (λ t. t.instructions) same;
        line_same = ap (λ t. t.line) same;
        next_same = ap (λ t. t.next) same;
        byte_same = ap (λ t. t.byte) same;
      }
  go Stop q k = let z : ◌≡◌ {A = ℕ} 0 1 = cc in absurd (omega arith)
  go OutOfRange q k = let z : ◌≡◌ {A = ℕ} 0 1 = cc in absurd (omega arith)

pub stopped : (s : List ℕ) (line p : ℕ) → Stops ≡ turn_at s line p → entry_at s line p ≡ Stop
stopped s line p = go (entry_at s line p) where
  go : (e : Entry) → Stops ≡ turn_of s p e → e ≡ Stop
  go (Covers x) k = let z : ◌≡◌ {A = ℕ} 0 1 = cc in absurd (omega arith)
  go Stop k = refl
  go OutOfRange k = let z : ◌≡◌ {A = ℕ} 0 1 = cc in absurd (omega arith)

pub refused : (s : List ℕ) (line p : ℕ) → Refuses ≡ turn_at s line p → entry_at s line p ≡ OutOfRange
refused s line p = go (entry_at s line p) where
  go : (e : Entry) → Refuses ≡ turn_of s p e → e ≡ OutOfRange
  go (Covers x) k = let z : ◌≡◌ {A = ℕ} 0 1 = cc in absurd (omega arith)
  go Stop k = let z : ◌≡◌ {A = ℕ} 0 1 = cc in absurd (omega arith)
  go OutOfRange k = refl

-- ---- the byte of an entry of codes 0 to 12, and of one of code 14 by its numbers
plain-source : (s : List ℕ) (p line : ℕ) (missing : Bool) → Plain s p → sum true true true (above line) missing ≡ source_of s p line missing
unfolding source_of
plain-source s p line missing g =
    let code : get_or s p 0 / 8 % 16 < 13 = omega (arith, g.starts, g.below) in
    rw (
      lt-ltb p (length s) (omega (arith, g.room)),
      ne_eqb (get_or s p 0 / 8 % 16) 15 (λ z. omega arith),
      ne_eqb (get_or s p 0 / 8 % 16) 14 (λ z. omega arith),
      lt-ltb (get_or s p 0 / 8 % 16) 13 code,
    )

pub plain_byte : (s : List ℕ) (p line : ℕ) (missing a : Bool) {byte : ℕ} → Plain s p → byte ≡ sum true true true a missing → a ≡ above line → byte ≡ source_of s p line missing
plain_byte s p line missing a g e q = e ∙ ap (λ t. sum true true true t missing) q ∙ plain-source s p line missing g

abbrev pub form_of : Numbers → LongForm
form_of x = record { end_step = x.end_step; column = x.column; end_column = x.end_column }

pub numbers-source : (s : List ℕ) (p line : ℕ) (missing : Bool) (x : Numbers) → Long s p → Read s (p + 1) x → source_by 14 line (form_of x) missing ≡ source_of s p line missing
unfolding source_of long_at number_at
numbers-source s p line missing x g r =
    let code : get_or s p 0 / 8 % 16 ≡ 14 = omega (arith, g.starts, g.below) in
    rw (lt-ltb p (length s) (omega (arith, g.room)), code, r.steps, r.ends, r.columns, r.end_columns)
