-- How long a repaired table is, and that the list leaves out neither an instruction nor a byte. Assumes nothing.
use mathlib.Core.Path.{◌≡◌, refl, ◌∙◌}
use mathlib.Core.Bool.{Bool, true, false, cond}
use mathlib.Core.List.{List, [], ◌∷◌, ◌++◌}
use Prim.Native.Nat.{ℕ, ◌+◌, ◌-◌, ◌/◌, ◌%◌, ◌≤◌}
use native.Mathlib.Omega.{arith}
use lib.ListN.{length, replicate, take, drop, get_or, length-append, length-drop, length-replicate}
use lib.Seq.{length-take-le}
use lib.Dec.{eqb}
use borrow.Author.Tests.{eqb-true, eqb-false}
use Rattle.lineentry.specs.declared.Location.{Location}
use Rattle.lineentry.specs.declared.Span.{Span}
use Rattle.rows.proofs.Extent.{entry_runs}
use Rattle.rows.proofs.Chains.{chain-upto, rowed}
use Rattle.rows.proofs.Joins.{spells_row}
use Rattle.salvage.proofs.Kept.{under}
use Rattle.rows.specs.Row.{Ending, placed_all, table_end, stop_byte, cut_short, out_of_range, past_count, Row, row, Ends, Rowed, total, line_after, place_after}
use Rattle.salvage.specs.Salvage.{fill, head_for, mend_row, salvaged, account, salvage}
use Rattle.rows.specs.Spells.{Spells}

pub length-fill : (n : ℕ) → length (fill n) ≡ (n + 7) / 8
length-fill n = length-append (replicate (n / 8) 255) _ ∙ rw (length-replicate {A = ℕ} (n / 8) 255) (on (eqb (n % 8) 0) refl) where
  on : (t : Bool) → eqb (n % 8) 0 ≡ t → n / 8 + length (cond {A = List ℕ} t [] ((247 + n % 8) ∷ [])) ≡ (n + 7) / 8
  on true e = omega (arith, eqb-true (n % 8) 0 e)
  on false e = omega (arith, eqb-false (n % 8) 0 e)

-- bytes of the original that stay, and bytes that are added
abbrev pub staying : Row → ℕ
staying r = of r.ending where
  of : Ending → ℕ
  of (past_count e) = e.next
  of placed_all = place_after 0 r.entries
  of table_end = place_after 0 r.entries
  of stop_byte = place_after 0 r.entries
  of (cut_short e) = place_after 0 r.entries
  of out_of_range = place_after 0 r.entries

mend_length : (s : List ℕ) (f count : ℕ) (es : List Span) (x : Ending) → Rowed s f 0 count (record { entries = es; ending = x })
    → length (mend_row s count (record { entries = es; ending = x })) ≡ staying (record { entries = es; ending = x }) + ((account s count (record { entries = es; ending = x })).covered + 7) / 8
mend_length s f count es x r = on x r.ends where
  k : place_after 0 es ≤ length s
  k = chain-upto s f 0 es (omega arith) r.chain

  l : length (take (place_after 0 es) s) ≡ place_after 0 es
  l = length-take-le (place_after 0 es) s k

  filled : length (take (place_after 0 es) s ++ fill (count - total es)) ≡ place_after 0 es + (count - total es + 7) / 8
  filled = length-append (take (place_after 0 es) s) (fill (count - total es)) ∙ rw (l, length-fill (count - total es))

  on : (x : Ending) → Ends s (line_after f es) (place_after 0 es) (count - total es) x
      → length (mend_row s count (record { entries = es; ending = x })) ≡ staying (record { entries = es; ending = x }) + ((account s count (record { entries = es; ending = x })).covered + 7) / 8
  on placed_all d = filled
  on table_end d = filled
  on stop_byte d = filled
  on (cut_short e) d = filled
  on out_of_range d = filled
  on (past_count e) d =
      let p = place_after 0 es in
      let g = entry_runs s (line_after f es) p e d.1 in
      let w = length-take-le (e.next - (p + 1)) (drop (p + 1) s) (omega (arith, length-drop (p + 1) s, g.upto)) in
      let a = l in
      omega (arith, length-append (take p s) (head_for (get_or s p 0) (count - total es) ∷ take (e.next - (p + 1)) (drop (p + 1) s)), g.from)

pub salvaged-length : (s : List ℕ) (f count : ℕ) → length (salvaged s f count) ≡ staying (row s f 0 count) + ((salvage s f count).covered + 7) / 8
unfolding salvaged salvage
salvaged-length s f count = mend_length s f count (row s f 0 count).entries (row s f 0 count).ending (rowed s f 0 count)

-- the list: kept and covered instructions are all, staying and dropped bytes are all
account-sum : (s : List ℕ) (f count : ℕ) (es : List Span) (x : Ending) → Rowed s f 0 count (record { entries = es; ending = x })
    → (under count (record { entries = es; ending = x }) + (account s count (record { entries = es; ending = x })).covered ≡ count)
    × (staying (record { entries = es; ending = x }) + (account s count (record { entries = es; ending = x })).dropped ≡ length s)
account-sum s f count es x r = on x r.ends where
  k : place_after 0 es ≤ length s
  k = chain-upto s f 0 es (omega arith) r.chain

  on : (x : Ending) → Ends s (line_after f es) (place_after 0 es) (count - total es) x
      → (under count (record { entries = es; ending = x }) + (account s count (record { entries = es; ending = x })).covered ≡ count)
      × (staying (record { entries = es; ending = x }) + (account s count (record { entries = es; ending = x })).dropped ≡ length s)
  on placed_all d = (omega (arith, r.within), omega (arith, k))
  on table_end d = (omega (arith, r.within), omega (arith, k))
  on stop_byte d = (omega (arith, r.within), omega (arith, k))
  on (cut_short e) d = (omega (arith, r.within), omega (arith, k))
  on out_of_range d = (omega (arith, r.within), omega (arith, k))
  on (past_count e) d = (omega arith, omega (arith, (entry_runs s (line_after f es) (place_after 0 es) e d.1).upto))

pub salvage-sum : (s : List ℕ) (f count : ℕ) → (under count (row s f 0 count) + (salvage s f count).covered ≡ count) × (staying (row s f 0 count) + (salvage s f count).dropped ≡ length s)
unfolding salvage
salvage-sum s f count = account-sum s f count (row s f 0 count).entries (row s f 0 count).ending (rowed s f 0 count)

-- a whole table: all entries kept, nothing else
pub whole-salvage : {s : List ℕ} {f count g : ℕ} {ls : List Location} (S : Spells s f count g ls)
    → salvage s f count ≡ record { kept = length S.entries; dropped = 0; shortened = 0; covered = 0 }
unfolding salvage
whole-salvage {s} {f} {count} S =
    let a : length s - place_after 0 S.entries ≡ 0 = omega (arith, S.ends) in
    let b : count - total S.entries ≡ 0 = omega (arith, S.sum) in
    rw (spells_row S, a, b)
