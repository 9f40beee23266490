-- THEOREM: what is told of a table is what 01's walk says of it: its refusal, or its whole with the line where it ends. From rows' `walk-row`,
-- by how the row ends; the line by an induction over the list of entries. Assumes nothing.
use mathlib.Core.Path.{◌≡◌, refl, sym, subst}
use mathlib.Core.Bool.{Bool, true, false, cond, ◌&&◌}
use mathlib.Core.List.{List, [], ◌∷◌}
use Prim.Native.Nat.{ℕ, ◌+◌, ◌-◌, ◌≤◌, ◌<◌}
use native.Mathlib.Omega.{arith}
use lib.ListN.{length}
use lib.Dec.{leb, eqb}
use borrow.Author.Tests.{lt-ltb, le-ltb, leb-true, leb-false}
use Rattle.std.specs.Prelude.{Result, Ok}
use Rattle.refusals.specs.Faults.{number_of, refused as refused_as}
use Rattle.refusals.specs.declared.Fault.{Fault}
use Rattle.refusals.specs.declared.Refusal.{Refusal}
use Rattle.refusals.specs.declared.Refusal.TheVariants.{InputTooLong, NumberRange}
use Rattle.refusals.specs.Limits.{most_bytes}
use Rattle.lineentry.specs.declared.Location.{Location}
use Rattle.lineentry.specs.declared.Span.{Span}
use Rattle.lineentry.specs.declared.Entry.TheVariants.{Covers}
use Rattle.lineentry.specs.Entry.{entry_at}
use Rattle.lineentry.proofs.Entries.{entry_past}
use Rattle.linetable.specs.Walk.{Reading, done, refused, walk}
use Rattle.rows.specs.Row.{Ending, placed_all, table_end, stop_byte, cut_short, out_of_range, past_count, row, Chain, Ends, Rowed, line_after, place_after, total, row_reads}
use Rattle.rows.proofs.Extent.{entry_runs}
use Rattle.rows.proofs.Chains.{rowed}
use Rattle.rows.proofs.Walks.{walk-row}
use Rattle.join.specs.declared.LineTold.{LineTold}
use Rattle.join.specs.Whole.{all_placed, whole_for, end_line, line_of, refuses, told, line_told, Leaves, placed, stop, entry, beyond}
use Rattle.join.specs.Promised.{LinePromised}

-- ---- the line where the reading ends
leaves-chain : (s : List ℕ) (line p left g : ℕ) (es : List Span) → Chain s line p es → Leaves s (line_after line es) (place_after p es) left g → Leaves s line p (total es + left) g
leaves-chain s line p left g [] c h = let z : left ≡ 0 + left = omega arith in subst (λ n. Leaves s line p n g) z h
leaves-chain s line p left g (e ∷ es) c h =
    let z : e.instructions + (total es + left) ≡ e.instructions + total es + left = omega arith in
    subst (λ n. Leaves s line p n g) z (entry e c.0 (leaves-chain s e.line e.next left g es c.2 h))

-- behind an entry of which bytes are missing there is none
leaves-cut : (s : List ℕ) (line p left : ℕ) (e : Span) → entry_at s line p ≡ Covers e → e.missing ≡ true → Leaves s line p left e.line
leaves-cut s line p left e q m = on (leb e.instructions left) refl where
  on : (t : Bool) → leb e.instructions left ≡ t → Leaves s line p left e.line
  on true t =
      let h = leb-true e.instructions left t in
      let z : e.instructions + (left - e.instructions) ≡ left = omega arith in
      subst (λ n. Leaves s line p n e.line) z (entry e q (stop (entry_past s e.line e.next (omega (arith, (entry_runs s line p e q).late m)))))
  on false t = beyond e q (leb-false e.instructions left t)

abbrev Left : Bool → List ℕ → ℕ → ℕ → ℕ → ℕ → Type 0
Left true s line p left g = Unit {0}
Left false s line p left g = Leaves s line p left g

leaves_end : (s : List ℕ) (line p left : ℕ) (x : Ending) → Ends s line p left x → Left (refuses x) s line p left (end_line line x)
leaves_end s line p left placed_all h = subst (λ n. Leaves s line p n line) (sym h) placed
leaves_end s line p left table_end h = stop (entry_past s line p h.1)
leaves_end s line p left stop_byte h = stop h.2
leaves_end s line p left (cut_short e) h = leaves-cut s line p left e h.1 h.2
leaves_end s line p left out_of_range h = tt
leaves_end s line p left (past_count e) h = beyond e h.1 h.3

leaves-row : (s : List ℕ) (first count : ℕ) (es : List Span) (x : Ending) → Rowed s first 0 count (record { entries = es; ending = x })
    → Left (refuses x) s first 0 count (end_line (line_after first es) x)
leaves-row s first count es x d = on (refuses x) (leaves_end s (line_after first es) (place_after 0 es) (count - total es) x d.ends) where
  on : (t : Bool) → Left t s (line_after first es) (place_after 0 es) (count - total es) (end_line (line_after first es) x) → Left t s first 0 count (end_line (line_after first es) x)
  on true h = tt
  on false h =
      let z : total es + (count - total es) ≡ count = omega (arith, d.within) in
      subst (λ n. Leaves s first 0 n (end_line (line_after first es) x)) z (leaves-chain s first 0 (count - total es) (end_line (line_after first es) x) es d.chain h)

-- ---- what is told, of 01's reading
abbrev Says : List ℕ → ℕ → ℕ → Reading → ℕ → Result LineTold Fault → Type 0
Says s first count (done ls k whole) line r = (r ≡ Ok (told whole line)) × Leaves s first 0 count line
Says s first count (refused number place) line r = (why : Refusal) × (number_of why ≡ number) × (r ≡ refused_as why place)

module _ (s : List ℕ) (first count : ℕ) (at : Location) where
  abbrev tells : List Span → Ending → Result LineTold Fault
  tells es x =
      cond (refuses x) (refused_as NumberRange (place_after 0 es)) (Ok (told (all_placed x && eqb (place_after 0 es) (length s)) (end_line (line_after first es) x)))

  says_row : (es : List Span) (x : Ending) → Rowed s first 0 count (record { entries = es; ending = x })
      → Says s first count (row_reads s at 0 count (record { entries = es; ending = x })) (end_line (line_after first es) x) (tells es x)
  says_row es placed_all d = (refl, leaves-row s first count es placed_all d)
  says_row es table_end d = (refl, leaves-row s first count es table_end d)
  says_row es stop_byte d = (refl, leaves-row s first count es stop_byte d)
  says_row es (cut_short e) d = (refl, leaves-row s first count es (cut_short e) d)
  says_row es out_of_range d = (NumberRange, refl, refl)
  says_row es (past_count e) d = (refl, leaves-row s first count es (past_count e) d)

  says : length s ≤ most_bytes → Says s first count (walk count s at first 0 count) (line_of s first count) (line_told s first count)
  unfolding line_told whole_for line_of
  says h =
      subst (λ r. Says s first count r (line_of s first count) (line_told s first count)) (sym (walk-row s at first 0 count))
      (rw (le-ltb most_bytes (length s) h) (says_row (row s first 0 count).entries (row s first 0 count).ending (rowed s first 0 count)))

told-long : (s : List ℕ) (first count : ℕ) → most_bytes < length s → line_told s first count ≡ refused_as InputTooLong 0
unfolding line_told
told-long s first count h = rw (lt-ltb most_bytes (length s) h)

pub line-keeps_its_promises : LinePromised
line-keeps_its_promises =
    record {
      long = told-long;
      refused = λ s first count at h e. subst (λ r. Says s first count r (line_of s first count) (line_told s first count)) e (says s first count at h);
      read = λ s first count at h e. subst (λ r. Says s first count r (line_of s first count) (line_told s first count)) e (says s first count at h);
    }
