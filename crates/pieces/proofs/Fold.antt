-- The row of a table that goes on: it begins with the complete entries of the first bytes and goes on with the bytes behind them.
use mathlib.Core.Path.{◌≡◌, sym, ap, ◌∙◌}
use mathlib.Core.List.{List, ◌++◌, append_assoc}
use Prim.Native.Nat.{ℕ, ◌+◌, ◌-◌, ◌≤◌}
use native.Mathlib.Omega.{arith}
use lib.ListN.{length, take, drop, length-append, take-append-drop}
use lib.Seq.{length-take-le}
use Rattle.lineentry.specs.declared.Span.{Span}
use Rattle.rows.proofs.Shift.{shift_entry, entry-shift}
use Rattle.rows.proofs.Chains.{chain_local, chain-shift, chain-upto, place-shift, line_shifted, total-shift, row-chain, row_is, rowed}
use Rattle.rows.proofs.Joins.{same_append}
use Rattle.rows.proofs.Local.{narrow}
use Rattle.rows.specs.Row.{Ending, placed_all, table_end, stop_byte, cut_short, out_of_range, past_count, before, row, shift_ending, shift_row, Chain, Ends, total, line_after, place_after}

-- ---- a row behind other bytes
ends-shift : (xs s : List ℕ) (line p left : ℕ) (x : Ending) → Ends s line p left x → Ends (xs ++ s) line (length xs + p) left (shift_ending (length xs) x)
ends-shift xs s line p left placed_all h = h
ends-shift xs s line p left table_end h = (h.0, omega (arith, length-append xs s, h.1))
ends-shift xs s line p left stop_byte h = (h.0, omega (arith, length-append xs s, h.1), entry-shift xs s line p ∙ ap (shift_entry (length xs)) h.2)
ends-shift xs s line p left (cut_short e) h = (h.0, entry-shift xs s line p ∙ ap (shift_entry (length xs)) h.1, h.2)
ends-shift xs s line p left out_of_range h = (h.0, entry-shift xs s line p ∙ ap (shift_entry (length xs)) h.1)
ends-shift xs s line p left (past_count e) h = (h.0, entry-shift xs s line p ∙ ap (shift_entry (length xs)) h.1, h.2, h.3)

pub row-shift : (xs s : List ℕ) (line p left : ℕ) → row (xs ++ s) line (length xs + p) left ≡ shift_row (length xs) (row s line p left)
row-shift xs s line p left =
    let k = length xs in
    let r = row s line p left in
    let h = rowed s line p left in
    row_is (xs ++ s) line (k + p) left (shift_row k r)
    (record {
      chain = chain-shift xs s line p r.entries h.chain;
      within = omega (arith, total-shift k r.entries, h.within);
      ends = rw (place-shift k p r.entries, line_shifted k line r.entries, total-shift k r.entries) (ends-shift xs s _ _ _ r.ending h.ends);
    })

-- ---- a row of more bytes begins with the complete entries of the first ones
pub row_grows : (u v : List ℕ) (line p left : ℕ) (es : List Span) → p ≤ length u → Chain u line p es → total es ≤ left
    → row (u ++ v) line p left ≡ before es (row (u ++ v) (line_after line es) (place_after p es) (left - total es))
row_grows u v line p left es h c w =
    let k = chain-upto u line p es h c in
    row-chain (u ++ v) line p left es (chain_local u (u ++ v) line p es c (narrow p (place_after p es) (omega arith) (omega arith) (same_append u v (place_after p es) k))) w

-- and goes on with the bytes behind them.
pub row_feed : (u v : List ℕ) (line left : ℕ) (es : List Span) → Chain u line 0 es → total es ≤ left
    → row (u ++ v) line 0 left ≡ before es (shift_row (place_after 0 es) (row (drop (place_after 0 es) u ++ v) (line_after line es) 0 (left - total es)))
row_feed u v line left es c w =
    let p = place_after 0 es in
    let k : p ≤ length u = chain-upto u line 0 es (omega arith) c in
    let l : length (take p u) ≡ p = length-take-le p u k in
    let j : u ++ v ≡ take p u ++ (drop p u ++ v) = ap (λ x. x ++ v) (sym (take-append-drop p u)) ∙ append_assoc (take p u) (drop p u) v in
    let z : length (take p u) + 0 ≡ p = omega arith in
    let s = row-shift (take p u) (drop p u ++ v) (line_after line es) 0 (left - total es) in
    row_grows u v line 0 left es (omega arith) c w ∙ ap (before es) (rw j (rw (z, l) at s))
