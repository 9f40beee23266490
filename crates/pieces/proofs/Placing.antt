-- The loop of `place_row`: what is left still comes to the same summary and the same records.
use mathlib.Core.Path.{◌≡◌, refl, sym, ap, ◌∙◌}
use mathlib.Core.Bool.{Bool, true, false}
use mathlib.Core.List.{List, [], ◌∷◌, ◌++◌, append_assoc}
use Prim.Native.Nat.{ℕ, ◌+◌, ◌-◌, ◌*◌, ◌≤◌, ◌<◌}
use native.Mathlib.Omega.{arith}
use lib.ListN.{length, replicate, length-replicate}
use lib.Seq.{sets}
use lib.Dec.{ltb}
use borrow.Author.Tests.{ltb-true, ltb-false}
use Rattle.lineentry.specs.declared.Location.{Location}
use Rattle.lineentry.specs.declared.Span.{Span}
use Rattle.lineentry.specs.declared.Entry.TheVariants.{Covers, Stop, OutOfRange}
use Rattle.lineentry.specs.Entry.{entry_at}
use Rattle.linetable.specs.Answer.{numbers}
use Rattle.linetable.proofs.Stores.{length-numbers, numbers-append, sets-append}
use Rattle.rows.specs.Row.{Ending, placed_all, table_end, stop_byte, cut_short, out_of_range, past_count, Row, alone, before, from_entry, row, Ends, total, locations}
use Rattle.rows.proofs.Turns.{row-entry, from_on}
use Rattle.rows.proofs.Chains.{row_ends}
use Rattle.rows.proofs.Going.{Going, going_start, goes_on}
use Rattle.pieces.specs.Piece.{overrun, shown_of}

pub record Placing (s : List ℕ) (first count : ℕ) (rs₀ : List ℕ) (from line at left entries : ℕ) (rs : List ℕ) (i : ℕ) : Type 0 where
  pub walks : Going s first count line at left entries
  pub same : length rs ≡ length rs₀
  pub room : 4 * (i + left) ≤ length rs
  pub comes : sets rs₀ (4 * from) (numbers (shown_of count (row s first 0 count))) ≡ sets rs (4 * i) (numbers (shown_of left (row s line at left)))

pub placing_start : (s : List ℕ) (first count : ℕ) (rs : List ℕ) (from : ℕ) → 4 * (from + count) ≤ length rs → Placing s first count rs from first 0 count 0 rs from
placing_start s first count rs from h = record { walks = going_start s first count; same = refl; room = h; comes = refl }

-- records stored in two goes, one behind the other
pub two_goes : (rs : List ℕ) (i n : ℕ) (ls ms : List Location) → length ls ≡ n → sets rs (4 * i) (numbers (ls ++ ms)) ≡ sets (sets rs (4 * i) (numbers ls)) (4 * (i + n)) (numbers ms)
two_goes rs i n ls ms e =
    let p : 4 * i + length (numbers ls) ≡ 4 * (i + n) = omega (arith, length-numbers ls) in
    rw (numbers-append ls ms) (sets-append rs (4 * i) (numbers ls) (numbers ms) ∙ rw p)

-- an entry before a row
pub shown-before : (left : ℕ) (e : Span) (r : Row) → shown_of left (before (e ∷ []) r) ≡ replicate e.instructions e.location ++ shown_of (left - e.instructions) r
unfolding shown_of
shown-before left e r =
    let z : left - (e.instructions + total r.entries) ≡ left - e.instructions - total r.entries = omega arith in
    rw z (append_assoc (replicate e.instructions e.location) (locations r.entries) (overrun (left - e.instructions - total r.entries) r.ending))

shown-alone : (n : ℕ) (x : Ending) → ((m : ℕ) → overrun m x ≡ []) → shown_of n (alone x) ≡ []
unfolding shown_of
shown-alone n x h = h (n - 0)

shown-past : (n : ℕ) (e : Span) → shown_of n (alone (past_count e)) ≡ replicate n e.location
unfolding shown_of
shown-past n e = let z : n - 0 ≡ n = omega arith in rw z

module _ {s : List ℕ} {first count : ℕ} {rs₀ : List ℕ} {from line at left entries : ℕ} {rs : List ℕ} {i : ℕ} (g : Placing s first count rs₀ from line at left entries rs i) where
  stays : (x : Ending) → Ends s line at left x → ((m : ℕ) → overrun m x ≡ []) → rs ≡ sets rs₀ (4 * from) (numbers (shown_of count (row s first 0 count)))
  stays x d h =
      sym (g.comes ∙ ap (λ r. sets rs (4 * i) (numbers (shown_of left r))) (row_ends s line at left x d) ∙ ap (λ ls. sets rs (4 * i) (numbers ls)) (shown-alone left x h))

  pub stays_out : 0 < left → entry_at s line at ≡ OutOfRange → rs ≡ sets rs₀ (4 * from) (numbers (shown_of count (row s first 0 count)))
  stays_out h e = stays out_of_range (h, e) (λ m. refl)

  pub stays_stop : 0 < left → entry_at s line at ≡ Stop → rs ≡ sets rs₀ (4 * from) (numbers (shown_of count (row s first 0 count)))
  stays_stop h e = on (ltb at (length s)) refl where
    on : (t : Bool) → ltb at (length s) ≡ t → rs ≡ sets rs₀ (4 * from) (numbers (shown_of count (row s first 0 count)))
    on true t = stays stop_byte (h, ltb-true at (length s) t, e) (λ m. refl)
    on false t = stays table_end (h, ltb-false at (length s) t) (λ m. refl)

  pub stays_cut : (x : Span) → 0 < left → entry_at s line at ≡ Covers x → x.missing ≡ true → rs ≡ sets rs₀ (4 * from) (numbers (shown_of count (row s first 0 count)))
  stays_cut x h e m = stays (cut_short x) (h, e, m) (λ n. refl)

  pub stays_all : left ≤ 0 → rs ≡ sets rs₀ (4 * from) (numbers (shown_of count (row s first 0 count)))
  stays_all h = stays placed_all (omega arith) (λ m. refl)

  pub fills-past : (x : Span) {rs' : List ℕ} → 0 < left → entry_at s line at ≡ Covers x → x.missing ≡ false → left < x.instructions
      → rs' ≡ sets rs (4 * i) (numbers (replicate left x.location)) → rs' ≡ sets rs₀ (4 * from) (numbers (shown_of count (row s first 0 count)))
  fills-past x h e m l f =
      f ∙ sym (g.comes ∙ ap (λ r. sets rs (4 * i) (numbers (shown_of left r))) (row_ends s line at left (past_count x) (h, e, m, l)) ∙ ap (λ ls. sets rs (4 * i) (numbers ls)) (shown-past left x))

  pub places_on : (x : Span) {rs' : List ℕ} → 0 < left → entry_at s line at ≡ Covers x → x.missing ≡ false → x.instructions ≤ left
      → rs' ≡ sets rs (4 * i) (numbers (replicate x.instructions x.location)) → length rs' ≡ length rs
      → Placing s first count rs₀ from x.line x.next (left - x.instructions) (entries + 1) rs' (i + x.instructions)
  places_on x {rs'} h e m l f k =
      let n = x.instructions in
      let r = row s x.line x.next (left - n) in
      record {
        walks = goes_on x g.walks h e m l;
        same = k ∙ g.same;
        room = omega (arith, g.room, k);
        comes =
            g.comes ∙ ap (λ t. sets rs (4 * i) (numbers (shown_of left t))) (row-entry s line at left h ∙ ap (from_entry (row s) s at left) e ∙ from_on (row s) s at left x m l)
            ∙ ap (λ ls. sets rs (4 * i) (numbers ls)) (shown-before left x r)
            ∙ two_goes rs i n (replicate n x.location) (shown_of (left - n) r) (length-replicate {A = Location} n x.location)
            ∙ ap (λ t. sets t (4 * (i + n)) (numbers (shown_of (left - n) r))) (sym f);
      }

  pub fits : (n : ℕ) → n ≤ left → 4 * i + 4 * n ≤ length rs
  fits n h = omega (arith, g.room)
