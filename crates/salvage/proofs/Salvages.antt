-- THEOREMS of 02's K9: the repaired table is whole and shows what the kept entries show; a whole table comes back unchanged. The kept entries
-- are a matter of their own bytes; a shortened one is read as before but for its length. Assumes nothing.
use mathlib.Core.Path.{◌≡◌, refl, sym, ap, subst, ◌∙◌}
use mathlib.Core.Bool.{Bool, true, false, cond}
use mathlib.Core.List.{List, [], ◌∷◌, ◌++◌, append-nil}
use Prim.Native.Nat.{ℕ, suc, ◌+◌, ◌-◌, ◌/◌, ◌%◌, ◌≤◌, ◌<◌}
use native.Mathlib.Omega.{arith}
use lib.ListN.{length, replicate, get_or, take, drop, length-append, length-drop, get_or-append}
use lib.Seq.{length-take-le, take-length, get_or-append-add, get_or-append_seam, get_or-take, get_or-drop}
use lib.Dec.{ltb}
use borrow.Author.Tests.{le-ltb, ltb-false}
use Rattle.lineentry.specs.declared.Location.{Location}
use Rattle.lineentry.specs.declared.Span.{Span}
use Rattle.lineentry.specs.declared.Entry.TheVariants.{Covers, Stop}
use Rattle.lineentry.specs.Entry.{at_line, by_code, entry_at}
use Rattle.lineentry.proofs.Entries.{covers-inside}
use Rattle.linetable.specs.Complete.{Complete}
use Rattle.rows.proofs.Local.{Same}
use Rattle.rows.proofs.Extent.{Loc, code_loc, entry-code, entry_runs}
use Rattle.rows.proofs.Shift.{resize, resize_entry, code_resize}
use Rattle.rows.proofs.Turns.{row-none}
use Rattle.rows.proofs.Chains.{chain_local, chain-append, chain-upto, place-append, line-append, total-append, locations-append, rowed}
use Rattle.rows.proofs.Joins.{spells_join, spells_row, spells_complete, complete_spells}
use Rattle.salvage.proofs.Fills.{spells_fill}
use Rattle.rows.specs.Row.{Ending, placed_all, table_end, stop_byte, cut_short, out_of_range, past_count, Row, row, Chain, Ends, Rowed, total, locations, line_after, place_after}
use Rattle.rows.specs.Spells.{Spells}
use Rattle.salvage.specs.Salvage.{fill, head_for, mended, mend_row, salvaged}

-- what begins with the first k bytes of s
pub same_take : (s v : List ℕ) (k : ℕ) → k ≤ length s → Same s (take k s ++ v) 0 k
same_take s v k h =
    let l = length-take-le k s h in
    record {
      inside = h;
      within = omega (arith, length-append (take k s) v);
      bytes = λ i a b. sym (get_or-append (take k s) v 0 i (omega arith) ∙ get_or-take k s i 0 b);
    }

-- ---- the kept entries by themselves
pub kept_spells : (s : List ℕ) (f : ℕ) (es : List Span) → Chain s f 0 es → Spells (take (place_after 0 es) s) f (total es) (line_after f es) (locations es)
kept_spells s f es c =
    let h = chain-upto s f 0 es (omega arith) c in
    let e = append-nil (take (place_after 0 es) s) in
    record {
      entries = es;
      chain = rw e at (chain_local s (take (place_after 0 es) s ++ []) f 0 es c (same_take s [] (place_after 0 es) h));
      ends = sym (length-take-le (place_after 0 es) s h);
      sum = refl;
      line = refl;
      shows = refl;
    }

-- ---- the entry that is shortened
head_of : (b n : ℕ) → 128 ≤ b → 0 < n → n ≤ 8 → (128 ≤ head_for b n) × (head_for b n / 8 % 16 ≡ b / 8 % 16) × (head_for b n % 8 + 1 ≡ n)
head_of b n h k l = (omega arith, omega arith, omega arith)

record Opened (s : List ℕ) (line p : ℕ) (e : Span) : Type 0 where
  marked : 128 ≤ get_or s p 0
  coded : by_code s line (get_or s p 0 / 8 % 16) (get_or s p 0 % 8 + 1) (p + 1) ≡ Covers e
  sized : e.instructions ≡ get_or s p 0 % 8 + 1

sized-code : (s : List ℕ) (line code n p : ℕ) (e : Span) → by_code s line code n p ≡ Covers e → e.instructions ≡ n
sized-code s line code n p e q =
    let r : Covers e ≡ Covers (resize n e) = sym q ∙ code_resize s line code n n p ∙ ap (resize_entry n) q in
    cc

opened : (s : List ℕ) (line p : ℕ) (e : Span) → entry_at s line p ≡ Covers e → Opened s line p e
opened s line p e q = go (ltb (get_or s p 0) 128) refl (sym (entry-code s line p (covers-inside s line p e q)) ∙ q) where
  go : (t : Bool) → ltb (get_or s p 0) 128 ≡ t → cond t Stop (by_code s line (get_or s p 0 / 8 % 16) (get_or s p 0 % 8 + 1) (p + 1)) ≡ Covers e → Opened s line p e
  go true h k = let z : ◌≡◌ {A = ℕ} 0 1 = cc in absurd (omega arith)
  go false h k = record { marked = ltb-false (get_or s p 0) 128 h; coded = k; sized = sized-code s line (get_or s p 0 / 8 % 16) (get_or s p 0 % 8 + 1) (p + 1) e k }

short-entry : (s t : List ℕ) (line p n : ℕ) (e : Span) → entry_at s line p ≡ Covers e → e.missing ≡ false → 0 < n → n ≤ 8 → p < length t → get_or t p 0 ≡ head_for (get_or s p 0) n
    → Same s t (p + 1) e.next → entry_at t line p ≡ Covers (resize n e)
short-entry s t line p n e q m z l b h k =
    let o = opened s line p e q in
    let c = get_or s p 0 / 8 % 16 in
    let w = head_of (get_or s p 0) n o.marked z l in
    let d = covers-inside s line p e q in
    let x : by_code t line c (get_or s p 0 % 8 + 1) (p + 1) ≡ Covers e =
    subst (λ a. Loc s t (p + 1) a (by_code t line c (get_or s p 0 % 8 + 1) (p + 1))) o.coded (code_loc s t line c (get_or s p 0 % 8 + 1) (p + 1) (omega arith)) m k in
    entry-code t line p b ∙ rw (h, le-ltb (head_for (get_or s p 0) n) 128 w.0, w.1, w.2) (code_resize t line c (get_or s p 0 % 8 + 1) n (p + 1) ∙ ap (resize_entry n) x)

-- the bytes behind the changed one
same_mended : (s : List ℕ) (p q h : ℕ) → p + 1 ≤ q → q ≤ length s → Same s (take p s ++ h ∷ take (q - (p + 1)) (drop (p + 1) s)) (p + 1) q
same_mended s p q h a b =
    let l = length-take-le p s (omega arith) in
    let w = take (q - (p + 1)) (drop (p + 1) s) in
    let n : length w ≡ q - (p + 1) = length-take-le (q - (p + 1)) (drop (p + 1) s) (omega (arith, length-drop (p + 1) s)) in
    record {
      inside = b;
      within = omega (arith, length-append (take p s) (h ∷ w));
      bytes = λ i c d.
          let e : length (take p s) + suc (i - (p + 1)) ≡ i = omega arith in
          let j : p + 1 + (i - (p + 1)) ≡ i = omega arith in
          sym (ap (λ k. get_or (take p s ++ h ∷ w) k 0) (sym e) ∙ get_or-append-add (take p s) (h ∷ w) (suc (i - (p + 1))) 0
          ∙ get_or-take (q - (p + 1)) (drop (p + 1) s) (i - (p + 1)) 0 (omega arith) ∙ get_or-drop (p + 1) s (i - (p + 1)) 0 ∙ ap (λ k. get_or s k 0) j);
    }

pub past_spells : (s : List ℕ) (f count : ℕ) (es : List Span) (e : Span) → Chain s f 0 es → total es ≤ count
    → Ends s (line_after f es) (place_after 0 es) (count - total es) (past_count e)
    → Spells (mend_row s count (record { entries = es; ending = past_count e })) f count e.line (locations es ++ replicate (count - total es) e.location)
past_spells s f count es e c k d =
    let p = place_after 0 es in
    let n = count - total es in
    let h = head_for (get_or s p 0) n in
    let w = take (e.next - (p + 1)) (drop (p + 1) s) in
    let t = take p s ++ h ∷ w in
    let i = covers-inside s (line_after f es) p e d.1 in
    let r = entry_runs s (line_after f es) p e d.1 in
    let l : length (take p s) ≡ p = length-take-le p s (omega arith) in
    let lw : length w ≡ e.next - (p + 1) = length-take-le (e.next - (p + 1)) (drop (p + 1) s) (omega (arith, length-drop (p + 1) s, r.upto)) in
    let lt : length t ≡ length (take p s) + suc (length w) = length-append (take p s) (h ∷ w) in
    let b : get_or t p 0 ≡ h = subst (λ j. get_or t j 0 ≡ h) l (get_or-append_seam (take p s) h w 0) in
    let o = opened s (line_after f es) p e d.1 in
    let x = short-entry s t (line_after f es) p n e d.1 d.2 d.0 (omega (arith, d.3, o.sized)) (omega arith) b (same_mended s p e.next h r.from r.upto) in
    record {
      entries = es ++ resize n e ∷ [];
      chain = chain-append t f 0 es (resize n e ∷ []) (chain_local s t f 0 es c (same_take s (h ∷ w) p (omega arith))) (x, d.2, tt);
      ends = place-append 0 es (resize n e ∷ []) ∙ omega (arith, r.from);
      sum = total-append es (resize n e ∷ []) ∙ omega arith;
      line = line-append f es (resize n e ∷ []);
      shows = locations-append es (resize n e ∷ []) ∙ ap (λ ls. locations es ++ ls) (append-nil (replicate n e.location));
    }

fill_spells : (s : List ℕ) (f count : ℕ) (es : List Span) → Chain s f 0 es → total es ≤ count
    → Spells (take (place_after 0 es) s ++ fill (count - total es)) f count (line_after f es) (locations es ++ replicate (count - total es) (at_line (line_after f es)))
fill_spells s f count es c k =
    let z : total es + (count - total es) ≡ count = omega arith in
    rw z at (spells_join (kept_spells s f es c) (spells_fill (line_after f es) (count - total es)))

-- the entries of each: the kept ones as they stand, and the last for fewer instructions
pub kept-entries : (s : List ℕ) (f : ℕ) (es : List Span) (c : Chain s f 0 es) → (kept_spells s f es c).entries ≡ es
unfolding kept_spells
kept-entries s f es c = refl

pub past-entries : (s : List ℕ) (f count : ℕ) (es : List Span) (e : Span) (c : Chain s f 0 es) (k : total es ≤ count)
    (d : Ends s (line_after f es) (place_after 0 es) (count - total es) (past_count e)) → (past_spells s f count es e c k d).entries ≡ es ++ resize (count - total es) e ∷ []
unfolding past_spells
past-entries s f count es e c k d = refl

-- the line after the repaired table, and what the instructions behind the whole kept entries show
abbrev pub mend_line : ℕ → Ending → ℕ
mend_line line (past_count e) = e.line
mend_line line placed_all = line
mend_line line table_end = line
mend_line line stop_byte = line
mend_line line (cut_short e) = line
mend_line line out_of_range = line

abbrev pub mend_shows : ℕ → Ending → Location
mend_shows line (past_count e) = e.location
mend_shows line placed_all = at_line line
mend_shows line table_end = at_line line
mend_shows line stop_byte = at_line line
mend_shows line (cut_short e) = at_line line
mend_shows line out_of_range = at_line line

mend_spells : (s : List ℕ) (f count : ℕ) (r : Row) → Rowed s f 0 count r
    → Spells (mend_row s count r) f count (mend_line (line_after f r.entries) r.ending) (locations r.entries ++ replicate (count - total r.entries) (mend_shows (line_after f r.entries) r.ending))
mend_spells s f count r h = go r.ending h.ends where
  es : List Span
  es = r.entries

  go : (x : Ending) → Ends s (line_after f r.entries) (place_after 0 r.entries) (count - total r.entries) x
      → Spells (take (place_after 0 r.entries) s ++ mended s (place_after 0 r.entries) (count - total r.entries) x) f count (mend_line (line_after f r.entries) x)
      (locations r.entries ++ replicate (count - total r.entries) (mend_shows (line_after f r.entries) x))
  go placed_all d = fill_spells s f count r.entries h.chain h.within
  go table_end d = fill_spells s f count r.entries h.chain h.within
  go stop_byte d = fill_spells s f count r.entries h.chain h.within
  go (cut_short e) d = fill_spells s f count r.entries h.chain h.within
  go out_of_range d = fill_spells s f count r.entries h.chain h.within
  go (past_count e) d = past_spells s f count r.entries e h.chain h.within d

-- THEOREM: the repaired table is whole for the count, shows what the kept entries of the original show, and then the shortened
-- entry's location, or the running line without columns.
pub salvaged_spells : (s : List ℕ) (f count : ℕ)
    → Spells (salvaged s f count) f count (mend_line (line_after f (row s f 0 count).entries) (row s f 0 count).ending)
    (locations (row s f 0 count).entries ++ replicate (count - total (row s f 0 count).entries) (mend_shows (line_after f (row s f 0 count).entries) (row s f 0 count).ending))
unfolding salvaged
salvaged_spells s f count = mend_spells s f count (row s f 0 count) (rowed s f 0 count)

pub salvaged_complete : (s : List ℕ) (f count : ℕ) → Complete (salvaged s f count) f 0 count
salvaged_complete s f count = spells_complete (salvaged_spells s f count)

-- THEOREM: a whole table returns unchanged.
spells_salvaged : {s : List ℕ} {f count g : ℕ} {ls : List Location} → Spells s f count g ls → salvaged s f count ≡ s
unfolding salvaged
spells_salvaged {s} {f} {count} S =
    let z : count - total S.entries ≡ 0 = omega (arith, S.sum) in
    rw (spells_row S, z, S.ends, take-length s) (append-nil s)

pub whole-salvaged : (s : List ℕ) (f count : ℕ) → Complete s f 0 count → salvaged s f count ≡ s
whole-salvaged s f count c = spells_salvaged (complete_spells c).2

-- THEOREM: a second repair changes nothing.
pub salvaged-twice : (s : List ℕ) (f count : ℕ) → salvaged (salvaged s f count) f count ≡ salvaged s f count
salvaged-twice s f count = whole-salvaged (salvaged s f count) f count (salvaged_complete s f count)

-- "Count 0 gives an empty table."
pub salvaged_none : (s : List ℕ) (f : ℕ) → salvaged s f 0 ≡ []
unfolding salvaged
salvaged_none s f = rw (row-none s f 0 0 refl)

-- an entry has at most eight instructions
pub entry-most : (s : List ℕ) (line p : ℕ) (e : Span) → entry_at s line p ≡ Covers e → e.instructions ≤ 8
entry-most s line p e q = omega (arith, (opened s line p e q).sized)
