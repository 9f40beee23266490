-- What the test of a lost entry comes to, by what a number, a line and an entry were read as.
use mathlib.Core.Path.{◌≡◌, refl, sym, ap, ◌∙◌}
use mathlib.Core.Bool.{Bool, true, false, not, ◌&&◌}
use mathlib.Core.List.{List, [], ◌∷◌}
use Prim.Native.Nat.{ℕ, ◌-◌, ◌/◌, ◌%◌, ◌≤◌}
use native.Mathlib.Omega.{arith}
use lib.ListN.{length, get_or}
use lib.Dec.{ltb}
use borrow.Author.Tests.{eq-eqb, ne_eqb}
use Rattle.std.specs.Prelude.{Option, Some, None}
use Rattle.lineentry.specs.declared.Varint.{Varint}
use Rattle.lineentry.specs.declared.Span.{Span}
use Rattle.lineentry.specs.declared.Entry.{Entry}
use Rattle.lineentry.specs.declared.Entry.TheVariants.{Covers, Stop, OutOfRange}
use Rattle.lineentry.specs.Varint.{read_as, varint_at, signed_of}
use Rattle.lineentry.specs.Line.{moved}
use Rattle.lineentry.specs.Entry.{entry_at}
use Rattle.rows.proofs.Local.{parsed}
use Rattle.lostentry.specs.Lost.{cut_early, end_open, may_heal, lost}

pub reads_on : (s : List ℕ) (p : ℕ) {x q : ℕ} {m : Bool} {r : Option Varint} → r ≡ varint_at s p → r ≡ read_as x q m → p ≤ q
reads_on s p {x} {q} {m} a b = omega (arith, (parsed s p x q m (sym a ∙ b)).wide)

pub early_long : (s : List ℕ) (p : ℕ) {r : Option Varint} → r ≡ varint_at s p → r ≡ None → false ≡ cut_early p (varint_at s p)
early_long s p a b = sym (ap (cut_early p) (sym a ∙ b))

pub early_cut : (s : List ℕ) (p : ℕ) {x q : ℕ} {m : Bool} {r : Option Varint} → r ≡ varint_at s p → r ≡ read_as x q m → m ≡ true → ltb (q - p) 6 ≡ cut_early p (varint_at s p)
early_cut s p {q = q} a b h = sym (ap (cut_early p) (sym a ∙ b) ∙ ap (λ t. t && ltb (q - p) 6) h)

pub early_all : (s : List ℕ) (p : ℕ) {x q : ℕ} {m : Bool} {r : Option Varint} → r ≡ varint_at s p → r ≡ read_as x q m → m ≡ false → false ≡ cut_early p (varint_at s p)
early_all s p {q = q} a b h = sym (ap (cut_early p) (sym a ∙ b) ∙ ap (λ t. t && ltb (q - p) 6) h)

-- ---- the two steps of code 14
module _ (s : List ℕ) (line : ℕ) {r : Option Varint} (a : r ≡ varint_at s 1) where
  pub open_long : r ≡ None → false ≡ end_open s line (varint_at s 1)
  open_long b = sym (ap (end_open s line) (sym a ∙ b))

  of : (x q : ℕ) (m : Bool) → r ≡ read_as x q m → end_open s line (varint_at s 1) ≡ end_open s line (read_as x q m)
  of x q m b = ap (end_open s line) (sym a ∙ b)

  pub open_cut : {x q : ℕ} {m : Bool} → r ≡ read_as x q m → m ≡ true → false ≡ end_open s line (varint_at s 1)
  open_cut {x} {q} {m} b h = sym (of x q m b ∙ rw h)

  pub open_outside : {x q : ℕ} {m : Bool} {step : ℕ} {l : Option ℕ} → r ≡ read_as x q m → m ≡ false → step ≡ signed_of x → l ≡ moved line step → l ≡ None → false ≡ end_open s line (varint_at s 1)
  open_outside {x} {q} {m} b h e f g = let o : moved line (signed_of x) ≡ None = sym (ap (moved line) e) ∙ sym f ∙ g in sym (of x q m b ∙ rw (h, o))

  pub open_to : {x q to : ℕ} {m t : Bool} {step : ℕ} {l : Option ℕ} → r ≡ read_as x q m → m ≡ false → step ≡ signed_of x → l ≡ moved line step → l ≡ Some to → t ≡ cut_early q (varint_at s q)
      → t ≡ end_open s line (varint_at s 1)
  open_to {x} {q} {to} {m} b h e f g k = let o : moved line (signed_of x) ≡ Some to = sym (ap (moved line) e) ∙ sym f ∙ g in sym (of x q m b ∙ rw (h, o) (sym k))

-- ---- the first byte
pub heal_none : (s : List ℕ) (line : ℕ) → length s ≡ 0 → false ≡ may_heal s line
heal_none [] line h = refl
heal_none (b ∷ s) line h = absurd (omega arith)

pub heal_14 : (s : List ℕ) (line : ℕ) {b : ℕ} {t : Bool} → b ≡ get_or s 0 0 → b / 8 % 16 ≡ 14 → t ≡ end_open s line (varint_at s 1) → t ≡ may_heal s line
heal_14 s line {b} a e h = h ∙ sym (rw (eq-eqb (get_or s 0 0 / 8 % 16) 14 (rw a at e)))

pub heal_other : (s : List ℕ) (line : ℕ) {b : ℕ} → b ≡ get_or s 0 0 → (b / 8 % 16 ≡ 14 → ⊥) → false ≡ may_heal s line
heal_other s line {b} a e = sym (rw (ne_eqb (get_or s 0 0 / 8 % 16) 14 (rw a at e)))

-- ---- the entry
pub lost-covers : (s : List ℕ) (line : ℕ) {r : Entry} {e : Span} → r ≡ entry_at s line 0 → r ≡ Covers e → false ≡ lost s line
unfolding lost
lost-covers s line a b = sym (rw (sym a ∙ b))

pub lost-stop : (s : List ℕ) (line : ℕ) {r : Entry} → r ≡ entry_at s line 0 → r ≡ Stop → false ≡ lost s line
unfolding lost
lost-stop s line a b = sym (rw (sym a ∙ b))

pub lost_out : (s : List ℕ) (line : ℕ) {r : Entry} {t : Bool} → r ≡ entry_at s line 0 → r ≡ OutOfRange → t ≡ may_heal s line → not t ≡ lost s line
unfolding lost
lost_out s line a b h = let e : lost s line ≡ not (may_heal s line) = rw (sym a ∙ b) in ap not h ∙ sym e
