-- THEOREM of 02's K9: the list's numbers are what they say, of the entries of the original and of the repaired table. By how the row ends:
-- kept entries with code-15 entries behind them, or the last of them shortened. Assumes nothing.
use mathlib.Core.Path.{◌≡◌, refl, sym, ap, subst, ◌∙◌}
use mathlib.Core.Bool.{true}
use mathlib.Core.List.{List, [], ◌∷◌, ◌++◌, map}
use Prim.Native.Nat.{ℕ, ◌+◌, ◌-◌}
use native.Mathlib.Omega.{arith}
use lib.ListN.{length, replicate, take, drop}
use lib.Seq.{take_at, drop-append_seam, length-take-le}
use Rattle.lineentry.specs.declared.Span.{Span}
use Rattle.lineentry.specs.Entry.{at_line}
use Rattle.linetable.specs.Walk.{done, walk}
use Rattle.rows.specs.Row.{shift_span, Ending, placed_all, table_end, stop_byte, cut_short, out_of_range, past_count, Row, row, Chain, Rowed, line_after, place_after, total, locations}
use Rattle.rows.proofs.Chains.{chain-append, chain-upto, total-shift, rowed}
use Rattle.rows.proofs.Joins.{spells_join, join-entries}
use Rattle.salvage.specs.Salvage.{fill, mend_row, salvaged, account, salvage}
use Rattle.salvage.specs.Promised.{for_fewer, Says, covers, shortens}
use Rattle.salvage.proofs.Fills.{spells_fill}
use Rattle.salvage.proofs.Salvages.{kept_spells, kept-entries, past_spells, past-entries}
use Rattle.salvage.proofs.Kept.{spells_walk}

-- the row with its entries and its end by name
abbrev row_of : List Span → Ending → Row
row_of es x = record { entries = es; ending = x }

module _ (s : List ℕ) (first count : ℕ) where
  -- kept entries, and code-15 entries behind them
  says-covered : (es : List Span) (why : Ending) → ((e : Span) → why ≡ past_count e → ⊥) → Rowed s first 0 count (row_of es why)
      → salvaged s first count ≡ take (place_after 0 es) s ++ fill (count - total es)
      → Says s first count (record { kept = length es; dropped = length s - place_after 0 es; shortened = 0; covered = count - total es })
  says-covered es why other r b =
      let left = count - total es in
      let p = place_after 0 es in
      let line = line_after first es in
      let l : length (take p s) ≡ p = length-take-le p s (chain-upto s first 0 es (omega arith) r.chain) in
      let K = kept_spells s first es r.chain in
      let F = spells_fill line left in
      let J = spells_join K F in
      let added = map (shift_span (length (take p s))) F.entries in
      let all : J.entries ≡ es ++ added = join-entries K F ∙ ap (λ xs. xs ++ added) (kept-entries s first es r.chain) in
      let t : total added ≡ left = total-shift (length (take p s)) F.entries ∙ F.sum in
      let n : total es + left ≡ count = omega (arith, r.within) in
      subst (λ k. Says s first count (record { kept = length es; dropped = length s - p; shortened = 0; covered = k })) t
      (covers es added why other (ap (λ k. total es + k) t ∙ n) r.chain r.ends
      (subst (λ y. Chain y first 0 (es ++ added)) (sym b) (subst (Chain (take p s ++ fill left) first 0) all J.chain))
      (ap (take p) b ∙ take_at (take p s) (fill left) p l)
      (ap (drop p) b ∙ ap (λ i. drop i (take p s ++ fill left)) (sym l) ∙ drop-append_seam (take p s) (fill left) ∙ ap fill (sym t))
      (λ at.
      ap (λ y. walk count y at first 0 count) b
      ∙ subst (λ c. walk c (take p s ++ fill left) at first 0 c ≡ done (locations es ++ replicate (total added) (at_line line)) c true) n
      (spells_walk J at ∙ ap (λ k. done (locations es ++ replicate k (at_line line)) (total es + left) true) (sym t))))

  -- the entry that runs past the count, for as many instructions as are left
  says-shortened : (es : List Span) (e : Span) → Rowed s first 0 count (row_of es (past_count e)) → salvaged s first count ≡ mend_row s count (row_of es (past_count e))
      → Says s first count (record { kept = length es + 1; dropped = length s - e.next; shortened = 1; covered = 0 })
  says-shortened es e r b =
      let n = count - total es in
      let P = past_spells s first count es e r.chain r.within r.ends in
      shortens es e n r.ends.0 r.ends.3 (omega (arith, r.within))
      (chain-append s first 0 es (e ∷ []) r.chain (r.ends.1, r.ends.2, tt))
      (subst (λ y. Chain y first 0 (es ++ for_fewer n e ∷ [])) (sym b)
      (subst (Chain (mend_row s count (row_of es (past_count e))) first 0) (past-entries s first count es e r.chain r.within r.ends) P.chain))
      (λ at. ap (λ y. walk count y at first 0 count) b ∙ spells_walk P at)

  says_row : (es : List Span) (x : Ending) → Rowed s first 0 count (row_of es x) → salvaged s first count ≡ mend_row s count (row_of es x) → Says s first count (account s count (row_of es x))
  says_row es placed_all r b = says-covered es placed_all (λ e h. let z : ◌≡◌ {A = ℕ} 0 1 = cc in absurd (omega (arith, z))) r b
  says_row es table_end r b = says-covered es table_end (λ e h. let z : ◌≡◌ {A = ℕ} 0 1 = cc in absurd (omega (arith, z))) r b
  says_row es stop_byte r b = says-covered es stop_byte (λ e h. let z : ◌≡◌ {A = ℕ} 0 1 = cc in absurd (omega (arith, z))) r b
  says_row es (cut_short c) r b = says-covered es (cut_short c) (λ e h. let z : ◌≡◌ {A = ℕ} 0 1 = cc in absurd (omega (arith, z))) r b
  says_row es out_of_range r b = says-covered es out_of_range (λ e h. let z : ◌≡◌ {A = ℕ} 0 1 = cc in absurd (omega (arith, z))) r b
  says_row es (past_count e) r b = says-shortened es e r b

  pub salvage-says : Says s first count (salvage s first count)
  unfolding salvaged salvage
  salvage-says = says_row (row s first 0 count).entries (row s first 0 count).ending (rowed s first 0 count) refl
