-- One turn of a row: nothing left, an entry that is cut, one that fits, one that runs past the count.
use mathlib.Core.Path.{◌≡◌, refl, sym, ap, subst, ◌∙◌}
use mathlib.Core.Bool.{Bool, true, false, cond}
use mathlib.Core.List.{List, [], ◌∷◌}
use Prim.Native.Nat.{ℕ, zero, suc, ◌-◌, ◌≤◌, ◌<◌}
use native.Mathlib.Omega.{arith}
use lib.Dec.{leb, eqb}
use borrow.Author.Tests.{le-leb, lt-leb, eq-eqb, ne_eqb}
use Rattle.lineentry.specs.declared.Span.{Span}
use Rattle.lineentry.specs.declared.Entry.{Entry}
use Rattle.lineentry.specs.declared.Entry.TheVariants.{Covers, Stop, OutOfRange}
use Rattle.lineentry.specs.Entry.{entry_at}
use Rattle.lineentry.proofs.Entries.{entry-places}
use Rattle.rows.specs.Row.{placed_all, cut_short, past_count, Row, alone, before, from_entry, rows, row}

module _ (on : ℕ → ℕ → ℕ → Row) (s : List ℕ) (p left : ℕ) (e : Span) where
  pub from_cut : e.missing ≡ true → from_entry on s p left (Covers e) ≡ alone (cut_short e)
  from_cut m = ap (λ t. cond t (alone (cut_short e)) (cond (leb e.instructions left) (before (e ∷ []) (on e.line e.next (left - e.instructions))) (alone (past_count e)))) m

  from-whole : (w : Bool) → e.missing ≡ false → leb e.instructions left ≡ w
      → from_entry on s p left (Covers e) ≡ cond w (before (e ∷ []) (on e.line e.next (left - e.instructions))) (alone (past_count e))
  from-whole w m k =
      ap (λ t. cond t (alone (cut_short e)) (cond (leb e.instructions left) (before (e ∷ []) (on e.line e.next (left - e.instructions))) (alone (past_count e)))) m
      ∙ ap (λ t. cond t (before (e ∷ []) (on e.line e.next (left - e.instructions))) (alone (past_count e))) k

  pub from_on : e.missing ≡ false → e.instructions ≤ left → from_entry on s p left (Covers e) ≡ before (e ∷ []) (on e.line e.next (left - e.instructions))
  from_on m h = from-whole true m (le-leb e.instructions left h)

  pub from_past : e.missing ≡ false → left < e.instructions → from_entry on s p left (Covers e) ≡ alone (past_count e)
  from_past m h = from-whole false m (lt-leb e.instructions left h)

pub rows_none : (turns : ℕ) (s : List ℕ) (line p left : ℕ) → left ≡ 0 → rows turns s line p left ≡ alone placed_all
rows_none zero s line p left h = refl
rows_none (suc turns) s line p left h = rw (eq-eqb left 0 h)

-- more turns change nothing
fuel_entry : (f g : ℕ → ℕ → ℕ → Row) (s : List ℕ) (p left : ℕ) (e : Entry) → ((x : Span) → e ≡ Covers x → f x.line x.next (left - x.instructions) ≡ g x.line x.next (left - x.instructions))
    → from_entry f s p left e ≡ from_entry g s p left e
fuel_entry f g s p left (Covers x) h = ap (λ r. cond x.missing (alone (cut_short x)) (cond (leb x.instructions left) (before (x ∷ []) r) (alone (past_count x)))) (h x refl)
fuel_entry f g s p left Stop h = refl
fuel_entry f g s p left OutOfRange h = refl

pub rows_fuel : (t u : ℕ) (s : List ℕ) (line p left : ℕ) → left ≤ t → left ≤ u → rows t s line p left ≡ rows u s line p left
rows_fuel zero u s line p left h k = sym (rows_none u s line p left (omega arith))
rows_fuel (suc t) zero s line p left h k = rows_none (suc t) s line p left (omega arith)
rows_fuel (suc t) (suc u) s line p left h k =
    ap (λ r. cond (eqb left 0) (alone placed_all) r)
    (fuel_entry (rows t s) (rows u s) s p left (entry_at s line p)
    (λ x q. let z = entry-places s line p x q in rows_fuel t u s x.line x.next (left - x.instructions) (omega arith) (omega arith)))

pub row-none : (s : List ℕ) (line p left : ℕ) → left ≡ 0 → row s line p left ≡ alone placed_all
unfolding row
row-none s line p left h = rows_none left s line p left h

row_succ : (s : List ℕ) (line p n : ℕ) → row s line p (suc n) ≡ from_entry (row s) s p (suc n) (entry_at s line p)
unfolding row
row_succ s line p n =
    rw (ne_eqb (suc n) 0 (λ z. omega arith))
    (fuel_entry (rows n s) (λ l q m. rows m s l q m) s p (suc n) (entry_at s line p)
    (λ x q. let z = entry-places s line p x q in rows_fuel n (suc n - x.instructions) s x.line x.next (suc n - x.instructions) (omega arith) (omega arith)))

-- The row where instructions are left is the row of its first entry, without turns.
pub row-entry : (s : List ℕ) (line p left : ℕ) → 0 < left → row s line p left ≡ from_entry (row s) s p left (entry_at s line p)
row-entry s line p left h =
    let e : left ≡ suc (left - 1) = omega arith in
    subst (λ n. row s line p n ≡ from_entry (row s) s p n (entry_at s line p)) (sym e) (row_succ s line p (left - 1))
