-- Code-15 entries that cover n instructions are a whole table, which shows the running line. By one table behind another. Assumes nothing.
use mathlib.Core.Path.{◌≡◌, refl}
use mathlib.Core.Bool.{Bool, true, false, cond}
use mathlib.Core.List.{[], ◌∷◌, append-nil}
use Prim.Native.Nat.{ℕ, zero, suc, ◌+◌, ◌*◌, ◌/◌, ◌%◌, ◌≤◌, ◌<◌}
use native.Mathlib.Omega.{arith}
use lib.ListN.{replicate, replicate-append-replicate}
use lib.Dec.{eqb}
use borrow.Author.Tests.{eqb-true, eqb-false, le-ltb}
use Rattle.lineentry.specs.declared.Span.{Span}
use Rattle.lineentry.specs.declared.Entry.TheVariants.{Covers}
use Rattle.lineentry.specs.Entry.{at_line, by_code, entry_of, entry_at}
use Rattle.rows.proofs.Joins.{spells_join, spells_none}
use Rattle.rows.specs.Spells.{Spells}
use Rattle.salvage.specs.Salvage.{fill}

abbrev placeless : ℕ → ℕ → Span
placeless line n = record { instructions = n; line = line; location = at_line line; next = 1; missing = false }

placeless_entry : (line n : ℕ) → 0 < n → n ≤ 8 → entry_at ((247 + n) ∷ []) line 0 ≡ Covers (placeless line n)
unfolding entry_of by_code
placeless_entry line n h k =
    let a : 128 ≤ 247 + n = omega arith in
    let c : (247 + n) / 8 % 16 ≡ 15 = omega arith in
    let m : (247 + n) % 8 + 1 ≡ n = omega arith in
    rw (le-ltb (247 + n) 128 a, c, m)

spells_one : (line n : ℕ) → 0 < n → n ≤ 8 → Spells ((247 + n) ∷ []) line n line (replicate n (at_line line))
spells_one line n h k =
    record {
      entries = placeless line n ∷ [];
      chain = (placeless_entry line n h k, refl, tt);
      ends = refl;
      sum = omega arith;
      line = refl;
      shows = append-nil (replicate n (at_line line));
    }

spells_eights : (line k : ℕ) → Spells (replicate k 255) line (k * 8) line (replicate (k * 8) (at_line line))
spells_eights line zero = spells_none line
spells_eights line (suc k) =
    let e : 8 + k * 8 ≡ suc k * 8 = omega arith in
    let r = spells_join (spells_one line 8 (omega arith) (omega arith)) (spells_eights line k) in
    rw (replicate-append-replicate 8 (k * 8) (at_line line), e) at r

spells_rest : (line n : ℕ) → n < 8 → Spells (cond (eqb n 0) [] ((247 + n) ∷ [])) line n line (replicate n (at_line line))
spells_rest line n h = go (eqb n 0) refl where
  go : (t : Bool) → eqb n 0 ≡ t → Spells (cond t [] ((247 + n) ∷ [])) line n line (replicate n (at_line line))
  go true e = rw (eqb-true n 0 e) (spells_none line)
  go false e = spells_one line n (omega (arith, eqb-false n 0 e)) (omega arith)

pub spells_fill : (line n : ℕ) → Spells (fill n) line n line (replicate n (at_line line))
spells_fill line n =
    let e : n / 8 * 8 + n % 8 ≡ n = omega arith in
    let r = spells_join (spells_eights line (n / 8)) (spells_rest line (n % 8) (omega arith)) in
    rw (replicate-append-replicate (n / 8 * 8) (n % 8) (at_line line), e) at r
