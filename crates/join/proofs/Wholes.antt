-- A table is whole for a count exactly if it is spelt by complete entries, and then its running line is theirs; it has at most eight
-- instructions a byte, which is why the counts of two tables never pass 32 bits. Inductions over the list of entries. Assumes nothing.
use mathlib.Core.Path.{◌≡◌, refl, sym, ap, ◌∙◌}
use mathlib.Core.Bool.{Bool, true, false, ◌&&◌}
use mathlib.Core.List.{List, [], ◌∷◌}
use Prim.Native.Nat.{ℕ, ◌+◌, ◌*◌, ◌≤◌}
use native.Mathlib.Omega.{arith}
use lib.ListN.{length}
use lib.Dec.{eqb}
use borrow.Author.Tests.{eqb-true, eq-eqb}
use Rattle.lineentry.specs.declared.Location.{Location}
use Rattle.lineentry.specs.declared.Span.{Span}
use Rattle.linetable.specs.Complete.{Complete}
use Rattle.rows.specs.Row.{Ending, placed_all, table_end, stop_byte, cut_short, out_of_range, past_count, row, Chain, Rowed, line_after, place_after, total, locations}
use Rattle.rows.specs.Spells.{Spells}
use Rattle.rows.proofs.Local.{never}
use Rattle.rows.proofs.Extent.{entry_runs}
use Rattle.rows.proofs.Chains.{rowed}
use Rattle.rows.proofs.Joins.{spells_row, spells_complete, complete_spells}
use Rattle.salvage.proofs.Salvages.{entry-most}
use Rattle.join.specs.Whole.{all_placed, whole_for, end_line, line_of}

pub both : (p q : Bool) → (p && q) ≡ true → (p ≡ true) × (q ≡ true)
both true q e = (refl, e)
both false q e = never (sym e)

pub whole_spells : (s : List ℕ) (f n : ℕ) → whole_for s f n ≡ true → Spells s f n (line_of s f n) (locations (row s f 0 n).entries)
unfolding whole_for line_of
whole_spells s f n w = on (row s f 0 n).entries (row s f 0 n).ending (rowed s f 0 n) w where
  on : (es : List Span) (x : Ending) → Rowed s f 0 n (record { entries = es; ending = x }) → (all_placed x && eqb (place_after 0 es) (length s)) ≡ true
      → Spells s f n (end_line (line_after f es) x) (locations es)
  on es placed_all d w = record { entries = es; chain = d.chain; ends = eqb-true (place_after 0 es) (length s) w; sum = omega (arith, d.within, d.ends); line = refl; shows = refl }
  on es table_end d w = never (sym w)
  on es stop_byte d w = never (sym w)
  on es (cut_short e) d w = never (sym w)
  on es out_of_range d w = never (sym w)
  on es (past_count e) d w = never (sym w)

pub spells_whole : {s : List ℕ} {f n g : ℕ} {ls : List Location} → Spells s f n g ls → (whole_for s f n ≡ true) × (line_of s f n ≡ g)
unfolding whole_for line_of
spells_whole {s} {f} S = (
  ap (λ r. all_placed r.ending && eqb (place_after 0 r.entries) (length s)) (spells_row S) ∙ eq-eqb (place_after 0 S.entries) (length s) S.ends,
  ap (λ r. end_line (line_after f r.entries) r.ending) (spells_row S) ∙ S.line,
)

-- so it is exactly the tables that linetable calls complete
pub whole_complete : (s : List ℕ) (f n : ℕ) → whole_for s f n ≡ true → Complete s f 0 n
whole_complete s f n w = spells_complete (whole_spells s f n w)

pub complete_whole : {s : List ℕ} {f n : ℕ} → Complete s f 0 n → whole_for s f n ≡ true
complete_whole c = (spells_whole (complete_spells c).2).0

-- at most eight instructions a byte
chain_eights : (s : List ℕ) (line p : ℕ) (es : List Span) → Chain s line p es → total es + 8 * p ≤ 8 * place_after p es
chain_eights s line p [] c = omega arith
chain_eights s line p (e ∷ es) c =
    omega (arith, entry-most s line p e c.0, (entry_runs s line p e c.0).from, chain_eights s e.line e.next es c.2)

pub spells_eights : {s : List ℕ} {f n g : ℕ} {ls : List Location} → Spells s f n g ls → n ≤ 8 * length s
spells_eights {s} {f} S = omega (arith, S.sum, S.ends, chain_eights s f 0 S.entries S.chain)

pub whole_eights : (s : List ℕ) (f n : ℕ) → whole_for s f n ≡ true → n ≤ 8 * length s
whole_eights s f n w = spells_eights (whole_spells s f n w)
