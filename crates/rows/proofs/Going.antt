-- The loop of `walk_row`: the summary of the whole table is that of the rest, after what was met.
use mathlib.Core.Path.{◌≡◌, refl, sym, ap, ◌∙◌}
use mathlib.Core.Bool.{Bool, true, false}
use mathlib.Core.List.{List}
use Prim.Native.Nat.{ℕ, ◌+◌, ◌-◌, ◌≤◌, ◌<◌}
use native.Mathlib.Omega.{arith}
use lib.ListN.{length}
use lib.Dec.{ltb}
use borrow.Author.Tests.{ltb-true, ltb-false}
use Rattle.lineentry.specs.declared.Span.{Span}
use Rattle.lineentry.specs.declared.Entry.TheVariants.{Covers, Stop, OutOfRange}
use Rattle.lineentry.specs.Entry.{entry_at}
use Rattle.lineentry.proofs.Entries.{entry-places}
use Rattle.rows.specs.Row.{Ending, placed_all, table_end, stop_byte, cut_short, out_of_range, past_count, from_entry, row, Ends}
use Rattle.rows.proofs.Turns.{row-entry, from_on}
use Rattle.rows.proofs.Chains.{row_ends}
use Rattle.rows.specs.declared.How.{How}
use Rattle.rows.specs.declared.How.TheVariants as way
use Rattle.rows.specs.Summary.{how_of, kept_to, row_end, summary_of, summary}

pub record Going (s : List ℕ) (first count line at left entries : ℕ) : Type 0 where
  pub few : entries + left ≤ count
  pub comes : summary s first count ≡ summary_of entries line at left (row s line at left)

pub going_start : (s : List ℕ) (first count : ℕ) → Going s first count first 0 count 0
unfolding summary
going_start s first count = record { few = omega arith; comes = refl }

-- a number for each way: no two ways are one
abbrev pub number : How → ℕ
number way.AllPlaced = 0
number way.Ended = 1
number way.Cut = 2
number way.Refused = 3
number way.PastCount = 4

end_eq : {h : How} {e e' l p n k k' : ℕ} → e ≡ e' → k ≡ k' → row_end h e l p n k ≡ row_end h e' l p n k'
end_eq a b = cc

module _ {s : List ℕ} {first count line at left entries : ℕ} where
  ends : (x : Ending) → Going s first count line at left entries → Ends s line at left x → row_end (how_of x) entries line at (kept_to at x) left ≡ summary s first count
  ends x g d = sym (g.comes ∙ ap (summary_of entries line at left) (row_ends s line at left x d) ∙ end_eq (omega arith) (omega arith))

  pub ends_out : Going s first count line at left entries → 0 < left → entry_at s line at ≡ OutOfRange → row_end way.Refused entries line at at left ≡ summary s first count
  ends_out g h e = ends out_of_range g (h, e)

  pub ends-stop : Going s first count line at left entries → 0 < left → entry_at s line at ≡ Stop → row_end way.Ended entries line at at left ≡ summary s first count
  ends-stop g h e = on (ltb at (length s)) refl where
    on : (t : Bool) → ltb at (length s) ≡ t → row_end way.Ended entries line at at left ≡ summary s first count
    on true t = ends stop_byte g (h, ltb-true at (length s) t, e)
    on false t = ends table_end g (h, ltb-false at (length s) t)

  pub ends-cut : (x : Span) → Going s first count line at left entries → 0 < left → entry_at s line at ≡ Covers x → x.missing ≡ true → row_end way.Cut entries line at at left ≡ summary s first count
  ends-cut x g h e m = ends (cut_short x) g (h, e, m)

  pub ends-past : (x : Span) → Going s first count line at left entries → 0 < left → entry_at s line at ≡ Covers x → x.missing ≡ false → left < x.instructions
      → row_end way.PastCount entries line at x.next left ≡ summary s first count
  ends-past x g h e m l = ends (past_count x) g (h, e, m, l)

  pub ends_all : Going s first count line at left entries → left ≤ 0 → row_end way.AllPlaced entries line at at left ≡ summary s first count
  ends_all g h = ends placed_all g (omega arith)

  pub goes_on : (x : Span) → Going s first count line at left entries → 0 < left → entry_at s line at ≡ Covers x → x.missing ≡ false → x.instructions ≤ left
      → Going s first count x.line x.next (left - x.instructions) (entries + 1)
  goes_on x g h e m l =
      let z = entry-places s line at x e in
      let r = row s x.line x.next (left - x.instructions) in
      record {
        few = omega (arith, g.few);
        comes =
            g.comes ∙ ap (summary_of entries line at left) (row-entry s line at left h ∙ ap (from_entry (row s) s at left) e ∙ from_on (row s) s at left x m l)
            ∙ end_eq (omega arith) (omega arith);
      }
