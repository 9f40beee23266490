-- THEOREM of 02's K6: when more bytes change nothing, and when every table that goes on from these bytes is refused.
use mathlib.Core.Path.{◌≡◌, refl, sym, ap, subst, ◌∙◌}
use mathlib.Core.List.{List, ◌++◌, append_assoc}
use Prim.Native.Nat.{ℕ, ◌+◌, ◌≤◌, ◌<◌}
use native.Mathlib.Omega.{arith}
use lib.ListN.{length, take, drop, length-append, take-append-drop, get_or-append}
use lib.Seq.{length-take-le}
use Rattle.refusals.specs.Numbers.{number_range}
use Rattle.lineentry.specs.declared.Location.{Location}
use Rattle.lineentry.specs.declared.Span.{Span}
use Rattle.lineentry.specs.declared.Entry.TheVariants.{OutOfRange}
use Rattle.lineentry.specs.Entry.{entry_at}
use Rattle.linetable.specs.Walk.{refused, walk}
use Rattle.rows.proofs.Local.{narrow}
use Rattle.rows.proofs.Extent.{entry_runs, entry_local, stop_byte_lem, stop_at}
use Rattle.rows.proofs.Shift.{shift_entry, entry-shift}
use Rattle.rows.proofs.Chains.{chain_local, chain-upto, row_is, rowed}
use Rattle.rows.proofs.Joins.{same_append}
use Rattle.rows.proofs.Walks.{walk-row}
use Rattle.rows.specs.Row.{Ending, placed_all, table_end, stop_byte, cut_short, out_of_range, past_count, Row, row, Ends, line_after, place_after, row_reads}
use Rattle.lostentry.specs.Lost.{Lost}

-- ---- an entry is the entry of the bytes from its place on
pub entry-drop : (u v : List ℕ) (line p : ℕ) → p ≤ length u → entry_at (u ++ v) line p ≡ shift_entry p (entry_at (drop p u ++ v) line 0)
entry-drop u v line p h =
    let l : length (take p u) ≡ p = length-take-le p u h in
    let j : u ++ v ≡ take p u ++ (drop p u ++ v) = ap (λ x. x ++ v) (sym (take-append-drop p u)) ∙ append_assoc (take p u) (drop p u) v in
    let z : length (take p u) + 0 ≡ p = omega arith in
    rw j (rw (z, l) at (entry-shift (take p u) (drop p u ++ v) line 0))

pub lost_at : (u v : List ℕ) (line p : ℕ) → p ≤ length u → Lost (drop p u) line → entry_at (u ++ v) line p ≡ OutOfRange
lost_at u v line p h l = entry-drop u v line p h ∙ ap (shift_entry p) (l v)

-- ---- endings that more bytes do not change
pub data Settled (u : List ℕ) (line p : ℕ) : Ending → Type 0 where
  all : Settled u line p placed_all
  stop : Settled u line p stop_byte
  past : {e : Span} → Settled u line p (past_count e)
  gone : Lost (drop p u) line → Settled u line p out_of_range

ends_settled : (u v : List ℕ) (line p left : ℕ) (x : Ending) → p ≤ length u → Settled u line p x → Ends u line p left x → Ends (u ++ v) line p left x
ends_settled u v line p left placed_all h s d = d
ends_settled u v line p left stop_byte h s d =
    let l : p < length (u ++ v) = omega (arith, length-append u v, d.1) in
    (d.0, l, stop_at (u ++ v) line p l (rw (get_or-append u v 0 p d.1) (stop_byte_lem u line p d.1 d.2)))
ends_settled u v line p left (past_count e) h s d =
    let r = entry_runs u line p e d.1 in
    (d.0, entry_local u (u ++ v) line p e d.1 d.2 (narrow p e.next (omega arith) (omega arith) (same_append u v e.next r.upto)), d.2, d.3)
ends_settled u v line p left table_end h s d = elim s [ ]
ends_settled u v line p left (cut_short _) h s d = elim s [ ]
ends_settled u v line p left out_of_range h (gone l) d = (d.0, lost_at u v line p h l)

-- THEOREM: a row that has come to such an end is the row of every table that goes on from these bytes.
pub row_settled : (u v : List ℕ) (line left : ℕ) → Settled u (line_after line (row u line 0 left).entries) (place_after 0 (row u line 0 left).entries) (row u line 0 left).ending
    → row (u ++ v) line 0 left ≡ row u line 0 left
row_settled u v line left s =
    let h = rowed u line 0 left in
    let r = row u line 0 left in
    let k = chain-upto u line 0 r.entries (omega arith) h.chain in
    row_is (u ++ v) line 0 left r
    (record {
      chain = chain_local u (u ++ v) line 0 r.entries h.chain (same_append u v (place_after 0 r.entries) k);
      within = h.within;
      ends = ends_settled u v _ _ _ r.ending k s h.ends;
    })

-- THEOREM: where the test says lost, every table that goes on from these bytes is refused, at the same place.
refused-row : (s : List ℕ) (at : Location) (p left : ℕ) (r : Row) → r.ending ≡ out_of_range → row_reads s at p left r ≡ refused number_range (place_after p r.entries)
refused-row s at p left r e = go r.ending e where
  go : (x : Ending) → x ≡ out_of_range → row_reads s at p left (record { entries = r.entries; ending = x }) ≡ refused number_range (place_after p r.entries)
  go placed_all e = let z : ◌≡◌ {A = ℕ} 0 1 = cc in absurd (omega arith)
  go table_end e = let z : ◌≡◌ {A = ℕ} 0 1 = cc in absurd (omega arith)
  go stop_byte e = let z : ◌≡◌ {A = ℕ} 0 1 = cc in absurd (omega arith)
  go (cut_short x) e = let z : ◌≡◌ {A = ℕ} 0 1 = cc in absurd (omega arith)
  go out_of_range e = refl
  go (past_count x) e = let z : ◌≡◌ {A = ℕ} 0 1 = cc in absurd (omega arith)

pub lost-walk : (u v : List ℕ) (at : Location) (first count : ℕ) → (row u first 0 count).ending ≡ out_of_range
    → Lost (drop (place_after 0 (row u first 0 count).entries) u) (line_after first (row u first 0 count).entries)
    → walk count (u ++ v) at first 0 count ≡ refused number_range (place_after 0 (row u first 0 count).entries)
lost-walk u v at first count e l =
    let r = row u first 0 count in
    walk-row (u ++ v) at first 0 count
    ∙ ap (row_reads (u ++ v) at 0 count) (row_settled u v first count (subst (Settled u (line_after first r.entries) (place_after 0 r.entries)) (sym e) (gone l)))
    ∙ refused-row (u ++ v) at 0 count r e

-- THEOREM: what 01 reads of such a table, whatever bytes follow; only "whole" asks whether some did.
pub settled_walk : (u v : List ℕ) (at : Location) (first count : ℕ) → Settled u (line_after first (row u first 0 count).entries) (place_after 0 (row u first 0 count).entries) (row u first 0 count).ending
    → walk count (u ++ v) at first 0 count ≡ row_reads (u ++ v) at 0 count (row u first 0 count)
settled_walk u v at first count s = walk-row (u ++ v) at first 0 count ∙ ap (row_reads (u ++ v) at 0 count) (row_settled u v first count s)
