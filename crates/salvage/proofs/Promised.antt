-- THEOREM of 02's K9: all that is promised of a repair (specs/Promised). From Salvages, Kept, Sizes and Listed. Assumes nothing.
use mathlib.Core.Path.{◌≡◌, sym, ap, ◌∙◌}
use mathlib.Core.List.{List}
use Prim.Native.Nat.{ℕ, ◌-◌}
use native.Mathlib.Omega.{arith}
use lib.ListN.{take}
use Rattle.rows.specs.Row.{row}
use Rattle.rows.proofs.Joins.{complete_spells}
use Rattle.salvage.specs.Salvage.{salvage}
use Rattle.salvage.specs.Promised.{Promised}
use Rattle.salvage.proofs.Salvages.{salvaged_complete, whole-salvaged, salvaged-twice, salvaged_none}
use Rattle.salvage.proofs.Kept.{under, kept-shows}
use Rattle.salvage.proofs.Sizes.{salvage-sum, whole-salvage}
use Rattle.salvage.proofs.Listed.{salvage-says}

-- what is not covered stands under kept entries
not_covered : (s : List ℕ) (first count : ℕ) → count - (salvage s first count).covered ≡ under count (row s first 0 count)
not_covered s first count = omega (arith, (salvage-sum s first count).0)

pub salvage-keeps_its_promises : Promised
salvage-keeps_its_promises =
    record {
      whole = salvaged_complete;
      says = salvage-says;
      alike =
          λ s first count at {ls} {ms} e q.
          let n = not_covered s first count in
          ap (λ i. take i ls) n ∙ kept-shows s first count at e q ∙ ap (λ i. take i ms) (sym n);
      unchanged =
          λ s first count c.
          let a = whole-salvage (complete_spells c).2 in
          (whole-salvaged s first count c, ap (λ x. x.dropped) a, ap (λ x. x.shortened) a, ap (λ x. x.covered) a);
      twice = salvaged-twice;
      none = salvaged_none;
    }
