-- THEOREM: 01's walk is the reading of the row: its entries' locations, then what its ending gives. An induction over turns, clause by clause.
use mathlib.Core.Path.{◌≡◌, refl, sym, ap, ◌∙◌}
use mathlib.Core.Bool.{Bool, true, false, cond}
use mathlib.Core.List.{List, [], ◌∷◌, append-nil}
use Prim.Native.Nat.{ℕ, zero, suc, ◌+◌, ◌-◌, ◌≤◌, ◌<◌, min}
use native.Mathlib.Omega.{arith}
use lib.ListN.{length, replicate}
use lib.Dec.{leb, ltb, eqb}
use borrow.Author.Tests.{leb-true, leb-false, eqb-true, eqb-false}
use Rattle.lineentry.specs.declared.Location.{Location}
use Rattle.lineentry.specs.declared.Span.{Span}
use Rattle.lineentry.specs.declared.Entry.{Entry}
use Rattle.lineentry.specs.declared.Entry.TheVariants.{Covers, Stop, OutOfRange}
use Rattle.lineentry.specs.Entry.{entry_at}
use Rattle.lineentry.proofs.Entries.{entry-places, entry_past}
use Rattle.linetable.specs.Walk.{done, joined, ended, left_over, after, walk}
use Rattle.linetable.proofs.Walking.{joined-none, joined-twice, walk-ended, walk-entry}
use Rattle.rows.proofs.Extent.{entry_runs}
use Rattle.rows.proofs.Turns.{from_cut, from_on, from_past}
use Rattle.rows.specs.Row.{Ending, placed_all, table_end, stop_byte, cut_short, out_of_range, past_count, Row, alone, before, from_entry, rows, row, total, locations, place_after, partly, ending_reads, row_reads}

-- a row without entries
reads-alone : (s : List ℕ) (first : Location) (p left : ℕ) (x : Ending) → row_reads s first p left (alone x) ≡ ending_reads s first p left x
reads-alone s first p left x =
    let z : left - 0 ≡ left = omega arith in
    rw z (joined-none (ending_reads s first p left x))

done_eq : {xs ys : List Location} {i j : ℕ} → xs ≡ ys → i ≡ j → done xs i false ≡ done ys j false
done_eq p q = cc

-- where a byte of the entry is missing the table has ended behind it
after-cut : (turns : ℕ) (s : List ℕ) (first : Location) (p left : ℕ) (e : Span) → left ≤ suc turns → 0 < e.instructions → e.missing ≡ true → e.next ≡ length s
    → after (walk turns s first) first p left (Covers e) ≡ partly first left e
after-cut turns s first p left e h z m l = go (leb e.instructions left) refl (eqb (left - e.instructions) 0) refl where
  go : (a : Bool) → leb e.instructions left ≡ a → (b : Bool) → eqb (left - e.instructions) 0 ≡ b → after (walk turns s first) first p left (Covers e) ≡ partly first left e
  go true a true b =
      let k : min e.instructions left ≡ e.instructions = omega (arith, leb-true e.instructions left a) in
      let n : left - e.instructions ≡ 0 = eqb-true _ 0 b in
      rw (a, m, walk-ended turns s first e.line e.next (left - e.instructions) n, k, n) (done_eq refl (omega arith))
  go true a false b =
      let k : min e.instructions left ≡ e.instructions = omega (arith, leb-true e.instructions left a) in
      let n : 0 < left - e.instructions = omega (arith, eqb-false (left - e.instructions) 0 b) in
      rw (a, m, walk-entry turns s first e.line e.next (left - e.instructions) n (omega arith), entry_past s e.line e.next (omega arith), k) (done_eq refl (omega arith))
  go false a b c =
      let k : min e.instructions left ≡ left = omega (arith, leb-false e.instructions left a) in
      let n : left - e.instructions ≡ 0 = omega (arith, leb-false e.instructions left a) in
      rw (a, k, n) (done_eq (sym (append-nil (replicate left e.location))) refl)

-- one more entry before a row
reads_more : (s : List ℕ) (first : Location) (p left : ℕ) (e : Span) (r : Row) → e.instructions ≤ left
    → row_reads s first p left (before (e ∷ []) r) ≡ joined (replicate e.instructions e.location) e.instructions false (row_reads s first e.next (left - e.instructions) r)
reads_more s first p left e r h =
    let z : left - (e.instructions + total r.entries) ≡ left - e.instructions - total r.entries = omega arith in
    rw z (sym (joined-twice (replicate e.instructions e.location) (locations r.entries) e.instructions (total r.entries) false false
    (ending_reads s first (place_after e.next r.entries) (left - e.instructions - total r.entries) r.ending)))

reads-stop : (s : List ℕ) (first : Location) (p left : ℕ) (t : Bool) → left_over first left ≡ row_reads s first p left (alone (cond t stop_byte table_end))
reads-stop s first p left true = sym (reads-alone s first p left stop_byte)
reads-stop s first p left false = sym (reads-alone s first p left table_end)

reads-entry : (turns : ℕ) (s : List ℕ) (first : Location) (line p left : ℕ) (e : Entry) → left ≤ suc turns → entry_at s line p ≡ e
    → ((x : Span) → e ≡ Covers x → walk turns s first x.line x.next (left - x.instructions) ≡ row_reads s first x.next (left - x.instructions) (rows turns s x.line x.next (left - x.instructions)))
    → after (walk turns s first) first p left e ≡ row_reads s first p left (from_entry (rows turns s) s p left e)
reads-entry turns s first line p left (Covers x) h q f = go x.missing refl (leb x.instructions left) refl where
  go : (a : Bool) → x.missing ≡ a → (b : Bool) → leb x.instructions left ≡ b → after (walk turns s first) first p left (Covers x) ≡ row_reads s first p left (from_entry (rows turns s) s p left (Covers x))
  go true a b c =
      after-cut turns s first p left x h (entry-places s line p x q) a ((entry_runs s line p x q).late a)
      ∙ sym (reads-alone s first p left (cut_short x)) ∙ ap (row_reads s first p left) (sym (from_cut (rows turns s) s p left x a))
  go false a true c =
      let k = leb-true x.instructions left c in
      rw (a, c) (ap (joined (replicate x.instructions x.location) x.instructions false) (f x refl))
      ∙ sym (reads_more s first p left x (rows turns s x.line x.next (left - x.instructions)) k) ∙ ap (row_reads s first p left) (sym (from_on (rows turns s) s p left x a k))
  go false a false c =
      let l = leb-false x.instructions left c in
      let k : min x.instructions left ≡ left = omega arith in
      let n : left - x.instructions ≡ 0 = omega arith in
      rw (c, k, n) (done_eq (sym (append-nil (replicate left x.location))) refl)
      ∙ sym (reads-alone s first p left (past_count x)) ∙ ap (row_reads s first p left) (sym (from_past (rows turns s) s p left x a l))
reads-entry turns s first line p left Stop h q f = reads-stop s first p left (ltb p (length s))
reads-entry turns s first line p left OutOfRange h q f = sym (reads-alone s first p left out_of_range)

reads-turn : (turns : ℕ) (s : List ℕ) (first : Location) (line p left : ℕ) (t : Bool) → left ≤ suc turns
    → ((x : Span) → entry_at s line p ≡ Covers x → walk turns s first x.line x.next (left - x.instructions) ≡ row_reads s first x.next (left - x.instructions) (rows turns s x.line x.next (left - x.instructions)))
    → cond t (ended s p) (after (walk turns s first) first p left (entry_at s line p)) ≡ row_reads s first p left (cond t (alone placed_all) (from_entry (rows turns s) s p left (entry_at s line p)))
reads-turn turns s first line p left true h f = sym (reads-alone s first p left placed_all)
reads-turn turns s first line p left false h f = reads-entry turns s first line p left (entry_at s line p) h refl f

pub walk_rows : (turns : ℕ) (s : List ℕ) (first : Location) (line p left : ℕ) → left ≤ turns → walk turns s first line p left ≡ row_reads s first p left (rows turns s line p left)
walk_rows zero s first line p left h = sym (reads-alone s first p left placed_all)
walk_rows (suc turns) s first line p left h =
    reads-turn turns s first line p left (eqb left 0) h
    (λ x q. let z = entry-places s line p x q in walk_rows turns s first x.line x.next (left - x.instructions) (omega arith))

-- 01's walk is the reading of the row.
pub walk-row : (s : List ℕ) (first : Location) (line p left : ℕ) → walk left s first line p left ≡ row_reads s first p left (row s line p left)
unfolding row
walk-row s first line p left = walk_rows left s first line p left (omega arith)
