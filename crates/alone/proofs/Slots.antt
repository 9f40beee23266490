-- Slots: one reserved at a flagged header, filled when its node is closed, and what that leaves of the others. Assumes nothing.
use mathlib.Core.Path.{◌≡◌, refl, ◌∙◌}
use Prim.Native.Nat.{ℕ, zero, suc, ◌+◌, ◌≤◌, ◌<◌}
use native.Mathlib.Omega.{arith}
use mathlib.Core.Bool.{Bool, true, false}
use mathlib.Core.List.{List, [], ◌∷◌, ◌++◌}
use lib.ListN.{length, get_or, set, length-append, length-set, get_or-append}
use lib.Seq.{get_or-set_same, get_or-set_other, get_or-append_seam}
use lib.Dec.{ltb, eqb}
use borrow.Author.Tests.{ltb-true, ltb-false, eqb-true, eqb-false}
use Rattle.grammar.specs.State.{Node}
use Rattle.grammar.specs.Steps.{reserve, fill}
use Rattle.alone.proofs.Made.{FilledFrom}

pub reserve-kept : (g : ℕ) (ss : List ℕ) → (length ss ≤ length (reserve g ss)) × ((i : ℕ) → i < length ss → get_or (reserve g ss) i 0 ≡ get_or ss i 0)
reserve-kept zero ss = (omega arith, λ i l. refl)
reserve-kept (suc g) ss = (omega (arith, length-append ss (0 ∷ [])), λ i l. get_or-append ss (0 ∷ []) 0 i l)

pub fill-length : (g i v : ℕ) (ss : List ℕ) → length (fill g i v ss) ≡ length ss
fill-length zero i v ss = refl
fill-length (suc g) i v ss = length-set ss i (v + 1)

pub fill-other : (g i v : ℕ) (ss : List ℕ) (j : ℕ) → (j ≡ i → ⊥) → get_or (fill g i v ss) j 0 ≡ get_or ss j 0
fill-other zero i v ss j q = refl
fill-other (suc g) i v ss j q = get_or-set_other ss i j (v + 1) 0 q

-- slots behind those of a flagged node are not its own
pub fill-behind : (g i v : ℕ) (ss cs : List ℕ) → i ≡ length ss → (j : ℕ) → length (reserve g ss) ≤ j → get_or (fill g i v cs) j 0 ≡ get_or cs j 0
fill-behind zero i v ss cs e j l = refl
fill-behind (suc g) i v ss cs e j l = get_or-set_other cs i j (v + 1) 0 (λ q. omega (arith, length-append ss (0 ∷ [])))

pub set_le : (ss : List ℕ) (i x j n : ℕ) → x ≤ n → get_or ss j 0 ≤ n → get_or (set ss i x) j 0 ≤ n
set_le [] i x j n l h = h
set_le (y ∷ ys) zero x zero n l h = l
set_le (y ∷ ys) zero x (suc j) n l h = h
set_le (y ∷ ys) (suc i) x zero n l h = h
set_le (y ∷ ys) (suc i) x (suc j) n l h = set_le ys i x j n l h

pub fill_le : (g i v : ℕ) (ss : List ℕ) (j n : ℕ) → v < n → get_or ss j 0 ≤ n → get_or (fill g i v ss) j 0 ≤ n
fill_le zero i v ss j n l h = h
fill_le (suc g) i v ss j n l h = set_le ss i (v + 1) j n (omega arith) h

pub fill_filled : (g : ℕ) (ns : List Node) (ss cs : List ℕ) → length (reserve g ss) ≤ length cs → FilledFrom (length ns) (length (reserve g ss)) cs
    → FilledFrom (length ns) (length ss) (fill g (length ss) (length ns) cs)
fill_filled zero ns ss cs l h j lo hi = h j lo hi
fill_filled (suc g) ns ss cs l h j lo hi = go (eqb j (length ss)) refl
  where
    go : (b : Bool) → eqb j (length ss) ≡ b → length ns < get_or (set cs (length ss) (length ns + 1)) j 0
    go true e =
        let z = eqb-true j (length ss) e in
        rw (z, get_or-set_same cs (length ss) (length ns + 1) 0 (omega (arith, length-append ss (0 ∷ [])))) (omega arith)
    go false e =
        let q = eqb-false j (length ss) e in
        rw (get_or-set_other cs (length ss) j (length ns + 1) 0 q) (h j (apart j lo q) (omega (arith, length-set cs (length ss) (length ns + 1))))
      where
        apart : (j : ℕ) → length ss ≤ j → (j ≡ length ss → ⊥) → length (ss ++ 0 ∷ []) ≤ j
        apart j lo q = strictly (ltb (length ss) j) refl
          where
            strictly : (b : Bool) → ltb (length ss) j ≡ b → length (ss ++ 0 ∷ []) ≤ j
            strictly true e = omega (arith, ltb-true (length ss) j e, length-append ss (0 ∷ []))
            strictly false e = absurd (q (omega (arith, ltb-false (length ss) j e)))

-- the slot that a node reserved is open while its children are read
pub reserve_open : (g : ℕ) (ss : List ℕ) → length ss < length (reserve g ss) → get_or (reserve g ss) (length ss) 0 ≡ 0
reserve_open zero ss l = absurd (omega arith)
reserve_open (suc g) ss l = get_or-append_seam ss 0 [] 0

pub reserve-length : (g : ℕ) (ss : List ℕ) → g ≤ 1 → length (reserve g ss) ≡ length ss + g
reserve-length zero ss l = omega arith
reserve-length (suc g) ss l = omega (arith, length-append ss (0 ∷ []))

pub fill-kept : (g v : ℕ) (ss cs : List ℕ) → ((i : ℕ) → i < length (reserve g ss) → get_or cs i 0 ≡ get_or (reserve g ss) i 0) → (i w : ℕ) → get_or cs i 0 ≡ suc w → get_or (fill g (length ss) v cs) i 0 ≡ suc w
fill-kept zero v ss cs k i w e = e
fill-kept (suc g) v ss cs k i w e = fill-other (suc g) (length ss) v cs i (λ q. apart q) ∙ e
  where
    apart : i ≡ length ss → ⊥
    apart q =
        let l : length ss < length (ss ++ 0 ∷ []) = omega (arith, length-append ss (0 ∷ [])) in
        let z : get_or cs i 0 ≡ 0 = rw q (k (length ss) l ∙ reserve_open (suc g) ss l) in
        omega arith
