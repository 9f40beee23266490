-- A piece behind held bytes: of the bytes together the first fifty are enough to read the entry that was not complete.
use mathlib.Core.Path.{◌≡◌, refl, sym, ap, ◌∙◌}
use mathlib.Core.Bool.{Bool, true, false}
use mathlib.Core.List.{List, [], ◌∷◌, ◌++◌, map, append_assoc, append-nil}
use Prim.Native.Nat.{ℕ, ◌+◌, ◌-◌, ◌*◌, ◌≤◌}
use native.Mathlib.Omega.{arith}
use lib.ListN.{length, replicate, take, drop, length-append, take-append-drop, length-replicate}
use lib.Seq.{sets, drop-append-add, drop-append-le, drop-drop}
use lib.Dec.{ltb}
use borrow.Author.Tests.{ltb-true, ltb-false}
use Rattle.lineentry.specs.declared.Location.{Location}
use Rattle.lineentry.specs.declared.Span.{Span}
use Rattle.lineentry.specs.declared.Entry.TheVariants.{Covers}
use Rattle.lineentry.specs.Entry.{entry_at}
use Rattle.linetable.specs.Answer.{numbers}
use Rattle.rows.specs.Row.{Ending, placed_all, table_end, stop_byte, cut_short, out_of_range, past_count, Row, before, row, shift_span, shift_ending, shift_row, Chain, line_after, place_after, total, locations}
use Rattle.rows.proofs.Chains.{chain-upto, place-shift, line_shifted, total-shift, locations-shift, place-append, line-append, total-append, locations-append}
use Rattle.rows.proofs.Local.{never}
use Rattle.rows.proofs.Extent.{entry_runs, entry_local}
use Rattle.rows.proofs.Joins.{same_append}
use Rattle.piecestate.specs.State.{open_as, open_entry}
use Rattle.pieces.specs.Piece.{overrun, shown_of, by_ending, after, walked}
use Rattle.pieces.proofs.Fold.{row_feed}
use Rattle.pieces.proofs.Placing.{two_goes}

pub length-locations : (es : List Span) → length (locations es) ≡ total es
length-locations [] = refl
length-locations (e ∷ es) = length-append (replicate e.instructions e.location) (locations es) ∙ rw (length-replicate {A = Location} e.instructions e.location, length-locations es)

-- ---- a row behind complete entries comes to the same
overrun-shift : (k n : ℕ) (x : Ending) → overrun n (shift_ending k x) ≡ overrun n x
overrun-shift k n placed_all = refl
overrun-shift k n table_end = refl
overrun-shift k n stop_byte = refl
overrun-shift k n (cut_short e) = refl
overrun-shift k n out_of_range = refl
overrun-shift k n (past_count e) = refl

pub shown_feed : (n k : ℕ) (es : List Span) (r : Row) → shown_of n (before es (shift_row k r)) ≡ locations es ++ shown_of (n - total es) r
unfolding shown_of
shown_feed n k es r =
    let z : n - (total es + total r.entries) ≡ n - total es - total r.entries = omega arith in
    rw (locations-append es _, locations-shift k r.entries, total-append es _, total-shift k r.entries, overrun-shift k _ r.ending, z)
    (append_assoc (locations es) (locations r.entries) (overrun (n - total es - total r.entries) r.ending))

by_shift : (t u : List ℕ) (start bytes count : ℕ) (s rs : List ℕ) (line p k n : ℕ) (x : Ending) → drop (k + p) t ≡ drop p u
    → by_ending t start bytes count s rs line (k + p) n (shift_ending k x) ≡ by_ending u (start + k) bytes count s rs line p n x
by_shift t u start bytes count s rs line p k n x d = go x where
  z : start + (k + p) ≡ start + k + p
  z = omega arith

  go : (x : Ending) → by_ending t start bytes count s rs line (k + p) n (shift_ending k x) ≡ by_ending u (start + k) bytes count s rs line p n x
  go placed_all = rw z
  go table_end = rw z
  go stop_byte = rw z
  go (cut_short e) = rw (z, d)
  go out_of_range = rw (z, d)
  go (past_count e) = rw z

-- The bytes u ++ v, where u begins with complete entries, come to what the bytes behind these come to, once they are placed.
pub after_feed : (u v : List ℕ) (start bytes count line n : ℕ) (s rs : List ℕ) (es : List Span) (r : Row) → place_after 0 es ≤ length u
    → after (u ++ v) start bytes count line n s rs (before es (shift_row (place_after 0 es) r))
    ≡ after (drop (place_after 0 es) u ++ v) (start + place_after 0 es) bytes count (line_after line es) (n - total es) s rs r
unfolding after
after_feed u v start bytes count line n s rs es r h =
    let k = place_after 0 es in
    let z : n - (total es + total r.entries) ≡ n - total es - total r.entries = omega arith in
    let w : k + 0 ≡ k = omega arith in
    let fs = map (shift_span k) r.entries in
    let q : place_after k fs ≡ k + place_after 0 r.entries = rw w at (place-shift k 0 r.entries) in
    let d : drop (k + place_after 0 r.entries) (u ++ v) ≡ drop (place_after 0 r.entries) (drop k u ++ v) =
    sym (drop-drop (place_after 0 r.entries) k (u ++ v)) ∙ ap (drop (place_after 0 r.entries)) (drop-append-le k u v h) in
    rw (line-append line es fs, line_shifted k (line_after line es) r.entries, place-append 0 es fs, q, total-append es fs, total-shift k r.entries, z)
    (by_shift (u ++ v) (drop k u ++ v) start bytes count s rs (line_after (line_after line es) r.entries) (place_after 0 r.entries) k (n - total es - total r.entries) r.ending d)

-- The same with the records.
pub walked_feed : (u v : List ℕ) (start bytes line placed count : ℕ) (s rs : List ℕ) (es : List Span) → Chain u line 0 es → placed + total es ≤ count
    → walked (u ++ v) start bytes line placed count s rs
    ≡ walked (drop (place_after 0 es) u ++ v) (start + place_after 0 es) bytes (line_after line es) (placed + total es) count s (sets rs (4 * placed) (numbers (locations es)))
unfolding walked
walked_feed u v start bytes line placed count s rs es c h =
    let n = count - placed in
    let k = place_after 0 es in
    let m : count - (placed + total es) ≡ n - total es = omega arith in
    let r = row (drop k u ++ v) (line_after line es) 0 (n - total es) in
    let e : row (u ++ v) line 0 n ≡ before es (shift_row k r) = row_feed u v line n es c (omega arith) in
    rw (m, e, shown_feed n k es r, two_goes rs placed (total es) (locations es) (shown_of (n - total es) r) (length-locations es))
    (after_feed u v start bytes count line n s (sets (sets rs (4 * placed) (numbers (locations es))) (4 * (placed + total es)) (numbers (shown_of (n - total es) r))) es r
    (chain-upto u line 0 es (omega arith) c))

-- ---- the first entry is complete
-- it ends behind the held bytes, since these alone are not complete
pub past_held : (held w : List ℕ) (line : ℕ) (e : Span) → open_entry held line ≡ true → entry_at (held ++ w) line 0 ≡ Covers e → e.missing ≡ false → length held ≤ e.next
unfolding open_entry
past_held held w line e o c m = on (ltb e.next (length held)) refl where
  on : (t : Bool) → ltb e.next (length held) ≡ t → length held ≤ e.next
  on false h = ltb-false e.next (length held) h
  on true h =
      let k = ltb-true e.next (length held) h in
      let q = same_append held w e.next (omega arith) in
      let z : entry_at held line 0 ≡ Covers e =
      entry_local (held ++ w) held line 0 e c m (record { inside = q.within; within = q.inside; bytes = λ i a b. sym (q.bytes i a b) }) in
      never (sym (sym m ∙ (sym (ap (open_as held line) z) ∙ o)) ∙ refl)

-- the held bytes and the first 25 of v, then the others, are all
pub front_rest : (held v : List ℕ) → held ++ v ≡ (held ++ take 25 v) ++ drop 25 v
front_rest held v = ap (λ x. held ++ x) (sym (take-append-drop 25 v)) ∙ sym (append_assoc held (take 25 v) (drop 25 v))

-- what stands behind the entry
behind : (held v : List ℕ) (p : ℕ) → length held ≤ p → p ≤ length (held ++ take 25 v) → drop p (held ++ take 25 v) ++ drop 25 v ≡ drop (p - length held) v
behind held v p h k =
    let q = p - length held in
    let e : length held + q ≡ p = omega arith in
    let l : q ≤ length (take 25 v) = omega (arith, length-append held (take 25 v)) in
    let d : drop p (held ++ take 25 v) ≡ drop q (take 25 v) = ap (λ i. drop i (held ++ take 25 v)) (sym e) ∙ drop-append-add held (take 25 v) q in
    rw d (sym (drop-append-le q (take 25 v) (drop 25 v) l)) ∙ ap (drop q) (take-append-drop 25 v)

pub front-whole : (held v : List ℕ) (start bytes line placed count : ℕ) (s rs : List ℕ) (e : Span) → open_entry held line ≡ true
    → entry_at (held ++ take 25 v) line 0 ≡ Covers e → e.missing ≡ false → e.instructions ≤ count - placed → placed ≤ count
    → walked (held ++ v) start bytes line placed count s rs
    ≡ walked (drop (e.next - length held) v) (start + e.next) bytes e.line (placed + e.instructions) count s (sets rs (4 * placed) (numbers (replicate e.instructions e.location)))
front-whole held v start bytes line placed count s rs e o c m h l =
    let f = held ++ take 25 v in
    let a = past_held held (take 25 v) line e o c m in
    let b = (entry_runs f line 0 e c).upto in
    let z : e.instructions + 0 ≡ e.instructions = omega arith in
    ap (λ t. walked t start bytes line placed count s rs) (front_rest held v)
    ∙ (rw (z, append-nil (replicate e.instructions e.location), behind held v e.next a b) at (walked_feed f (drop 25 v) start bytes line placed count s rs (e ∷ []) (c, m, tt) (omega arith)))
