-- THEOREM of 02's K9: "Instructions under kept entries have the locations that 01's rules give those entries in the original."
-- Assumes nothing.
use mathlib.Core.Path.{◌≡◌, refl, sym, ap, subst, ◌∙◌}
use mathlib.Core.Bool.{Bool, true, false}
use mathlib.Core.List.{List, [], ◌∷◌, ◌++◌, append-nil}
use Prim.Native.Nat.{ℕ, ◌+◌, ◌-◌, ◌<◌, min}
use native.Mathlib.Omega.{arith}
use lib.ListN.{length, replicate, take, length-append, length-replicate}
use lib.Seq.{take_at}
use borrow.Author.Tests.{eq-eqb}
use Rattle.lineentry.specs.declared.Location.{Location}
use Rattle.lineentry.specs.declared.Span.{Span}
use Rattle.linetable.specs.Walk.{Reading, done, refused, joined, walk}
use Rattle.rows.proofs.Walks.{walk-row}
use Rattle.rows.proofs.Chains.{rowed}
use Rattle.rows.proofs.Joins.{spells_row}
use Rattle.salvage.proofs.Salvages.{mend_shows, salvaged_spells}
use Rattle.rows.specs.Row.{Ending, placed_all, table_end, stop_byte, cut_short, out_of_range, past_count, Row, row, Rowed, total, locations, line_after, place_after, ending_reads, row_reads}
use Rattle.rows.specs.Spells.{Spells}
use Rattle.salvage.specs.Salvage.{salvaged}

pub length-locations : (es : List Span) → length (locations es) ≡ total es
length-locations [] = refl
length-locations (e ∷ es) =
    omega (arith, length-append (replicate e.instructions e.location) (locations es), length-replicate e.instructions e.location, length-locations es)

done_eq : {xs ys : List Location} {i j : ℕ} {v w : Bool} → xs ≡ ys → i ≡ j → v ≡ w → done xs i v ≡ done ys j w
done_eq p q r = cc

-- 01's reading of a whole table
pub spells_walk : {s : List ℕ} {f n g : ℕ} {ls : List Location} → Spells s f n g ls → (first : Location) → walk n s first f 0 n ≡ done ls n true
spells_walk {s} {f} {n} S first =
    walk-row s first f 0 n ∙ ap (row_reads s first 0 n) (spells_row S)
    ∙ done_eq (append-nil (locations S.entries) ∙ S.shows) (omega (arith, S.sum)) (eq-eqb (place_after 0 S.entries) (length s) S.ends)

-- how many instructions stand under kept entries
abbrev pub under : ℕ → Row → ℕ
under count r = of r.ending where
  of : Ending → ℕ
  of (past_count e) = count
  of placed_all = total r.entries
  of table_end = total r.entries
  of stop_byte = total r.entries
  of (cut_short e) = total r.entries
  of out_of_range = total r.entries

joined-shows : (bs : List Location) (n m : ℕ) (x : Reading) {ls : List Location} {k : ℕ} {w : Bool} → joined bs n false x ≡ done ls k w → length bs ≡ m → take m ls ≡ bs
joined-shows bs n m (done at j v) {ls} q e = let z : bs ++ at ≡ ls = cc in subst (λ l. take m l ≡ bs) z (take_at bs at m e)
joined-shows bs n m (refused i p) q e = let z : ◌≡◌ {A = ℕ} 0 1 = cc in absurd (omega arith)

past-shows : (es : List Span) (e : Span) (left count : ℕ) (first : Location) {ls : List Location} {k : ℕ} {w : Bool} → left < e.instructions → total es + left ≡ count
    → joined (locations es) (total es) false (done (replicate (min e.instructions left) e.location ++ replicate (left - e.instructions) first) (min e.instructions left) false) ≡ done ls k w
    → take count ls ≡ locations es ++ replicate left e.location
past-shows es e left count first {ls} h t q =
    let a : min e.instructions left ≡ left = omega arith in
    let b : left - e.instructions ≡ 0 = omega arith in
    let r = rw (a, b, append-nil (replicate left e.location)) at q in
    let z : locations es ++ replicate left e.location ≡ ls = cc in
    let l : length (locations es ++ replicate left e.location) ≡ count = omega (arith, length-append (locations es) (replicate left e.location), length-locations es, length-replicate left e.location) in
    subst (λ l. take count l ≡ locations es ++ replicate left e.location) z (rw (append-nil (locations es ++ replicate left e.location)) at (take_at (locations es ++ replicate left e.location) [] count l))

-- what kept entries show
abbrev kept_shows : ℕ → Row → List Location
kept_shows count r = of r.ending where
  of : Ending → List Location
  of (past_count e) = locations r.entries ++ replicate (count - total r.entries) e.location
  of placed_all = locations r.entries
  of table_end = locations r.entries
  of stop_byte = locations r.entries
  of (cut_short e) = locations r.entries
  of out_of_range = locations r.entries

original_shows : (s : List ℕ) (f count : ℕ) (first : Location) (es : List Span) (x : Ending) {ls : List Location} {k : ℕ} {w : Bool} → Rowed s f 0 count (record { entries = es; ending = x })
    → row_reads s first 0 count (record { entries = es; ending = x }) ≡ done ls k w → take (under count (record { entries = es; ending = x })) ls ≡ kept_shows count (record { entries = es; ending = x })
original_shows s f count first es placed_all r q = joined-shows (locations es) (total es) (total es) (ending_reads s first (place_after 0 es) (count - total es) placed_all) q (length-locations es)
original_shows s f count first es table_end r q = joined-shows (locations es) (total es) (total es) (ending_reads s first (place_after 0 es) (count - total es) table_end) q (length-locations es)
original_shows s f count first es stop_byte r q = joined-shows (locations es) (total es) (total es) (ending_reads s first (place_after 0 es) (count - total es) stop_byte) q (length-locations es)
original_shows s f count first es (cut_short e) r q = joined-shows (locations es) (total es) (total es) (ending_reads s first (place_after 0 es) (count - total es) (cut_short e)) q (length-locations es)
original_shows s f count first es out_of_range r q = joined-shows (locations es) (total es) (total es) (ending_reads s first (place_after 0 es) (count - total es) out_of_range) q (length-locations es)
original_shows s f count first es (past_count e) r q = past-shows es e (count - total es) count first r.ends.3 (omega (arith, r.within)) q

mended-shows : (s : List ℕ) (f count : ℕ) (es : List Span) (x : Ending) → Rowed s f 0 count (record { entries = es; ending = x })
    → take (under count (record { entries = es; ending = x })) (locations es ++ replicate (count - total es) (mend_shows (line_after f es) x)) ≡ kept_shows count (record { entries = es; ending = x })
mended-shows s f count es placed_all r = take_at (locations es) _ (total es) (length-locations es)
mended-shows s f count es table_end r = take_at (locations es) _ (total es) (length-locations es)
mended-shows s f count es stop_byte r = take_at (locations es) _ (total es) (length-locations es)
mended-shows s f count es (cut_short e) r = take_at (locations es) _ (total es) (length-locations es)
mended-shows s f count es out_of_range r = take_at (locations es) _ (total es) (length-locations es)
mended-shows s f count es (past_count e) r =
    let left = count - total es in
    let l : length (locations es ++ replicate left e.location) ≡ count = omega (arith, length-append (locations es) (replicate left e.location), length-locations es, length-replicate left e.location, r.within) in
    rw (append-nil (locations es ++ replicate left e.location)) at (take_at (locations es ++ replicate left e.location) [] count l)

-- Where the original is read at all, the repaired table shows the same under the kept entries.
pub kept-shows : (s : List ℕ) (f count : ℕ) (first : Location) {ls ms : List Location} {k j : ℕ} {v w : Bool}
    → walk count s first f 0 count ≡ done ls k v → walk count (salvaged s f count) first f 0 count ≡ done ms j w
    → take (under count (row s f 0 count)) ls ≡ take (under count (row s f 0 count)) ms
kept-shows s f count first {ls} {ms} e q =
    let r = row s f 0 count in
    let z : done _ count true ≡ done ms _ _ = sym (spells_walk (salvaged_spells s f count) first) ∙ q in
    let y : locations r.entries ++ replicate (count - total r.entries) (mend_shows (line_after f r.entries) r.ending) ≡ ms = cc in
    original_shows s f count first r.entries r.ending (rowed s f 0 count) (sym (walk-row s first f 0 count) ∙ e)
    ∙ sym (mended-shows s f count r.entries r.ending (rowed s f 0 count)) ∙ ap (take (under count r)) y
