-- The records read back as locations, and the slice of locations that a loop stores one by one.
use mathlib.Core.Path.{◌≡◌, refl, sym, ◌∙◌, ap}
use mathlib.Core.Bool.{Bool, true, false, cond}
use mathlib.Core.List.{List, [], ◌∷◌, ◌++◌}
use Prim.Native.Nat.{ℕ, zero, suc, ◌+◌, ◌-◌, ◌*◌, ◌≤◌, ◌<◌}
use native.Mathlib.Omega.{arith}
use lib.ListN.{length, replicate, get_or, set, length-set, length-append, length-replicate}
use lib.Seq.{get_or-set_same, get_or-set_other, ext_get_or}
use lib.Dec.{ltb, eqb, leb-suc-suc}
use borrow.Author.Tests.{lt-ltb, eqb-true, eqb-false}
use Rattle.clearing.specs.Lent.{zeros}
use Rattle.lineentry.specs.declared.Location.{Location}
use Rattle.lineentry.specs.Entry.{location}
use Rattle.linetable.specs.Answer.{numbers, blank, location_at, locations_from}

-- ---- one record read back
get_d_same : {A : Type 0} (n j : ℕ) (a : A) → get_or (replicate n a) j a ≡ a
get_d_same zero j a = refl
get_d_same (suc n) zero a = refl
get_d_same (suc n) (suc j) a = get_d_same n j a

at_zeros : (t : Bool) (m j : ℕ) → cond t (location (get_or (zeros m) (4 * j) 0) (get_or (zeros m) (4 * j + 1) 0) (get_or (zeros m) (4 * j + 2) 0) (get_or (zeros m) (4 * j + 3) 0)) blank ≡ blank
at_zeros true m j = simp get_d_same
at_zeros false m j = refl

at_next : (a b c d : ℕ) (xs : List ℕ) (j : ℕ) → location_at (a ∷ b ∷ c ∷ d ∷ xs) (suc j) ≡ location_at xs j
unfolding location_at
at_next a b c d xs j =
    let e₀ : 4 * suc j ≡ suc (suc (suc (suc (4 * j)))) = omega arith in
    let e₁ : 4 * suc j + 1 ≡ suc (suc (suc (suc (4 * j + 1)))) = omega arith in
    let e₂ : 4 * suc j + 2 ≡ suc (suc (suc (suc (4 * j + 2)))) = omega arith in
    let e₃ : 4 * suc j + 3 ≡ suc (suc (suc (suc (4 * j + 3)))) = omega arith in
    rw (e₃, e₂, e₁, e₀) (simp leb-suc-suc)

-- records before zeros, at any index
pub at_record : (ls : List Location) (m j : ℕ) → location_at (numbers ls ++ zeros m) j ≡ get_or ls j blank
unfolding location_at
at_record [] m j = at_zeros (ltb (4 * j + 3) (length (zeros m))) m j
at_record (l ∷ ls) m zero =
    let h : 3 < suc (suc (suc (suc (length (numbers ls ++ zeros m))))) = omega arith in
    rw (lt-ltb 3 (suc (suc (suc (suc (length (numbers ls ++ zeros m)))))) h)
at_record (l ∷ ls) m (suc j) = at_next l.line l.column l.end_line l.end_column (numbers ls ++ zeros m) j ∙ at_record ls m j

-- ---- all of them
length_from : (xs : List ℕ) (i n : ℕ) → length (locations_from xs i n) ≡ n
length_from xs i zero = refl
length_from xs i (suc n) = ap suc (length_from xs (suc i) n)

from_at : (xs : List ℕ) (i n j : ℕ) → j < n → get_or (locations_from xs i n) j blank ≡ location_at xs (i + j)
from_at xs i zero j h = absurd (omega arith)
from_at xs i (suc n) zero h =
    let e : i + 0 ≡ i = omega arith in
    rw e
from_at xs i (suc n) (suc j) h =
    let e : i + suc j ≡ suc i + j = omega arith in
    rw e (from_at xs (suc i) n j (omega arith))

get_d_padded : (ls : List Location) (m j : ℕ) → get_or (ls ++ replicate m blank) j blank ≡ get_or ls j blank
get_d_padded [] m j = get_d_same m j blank
get_d_padded (l ∷ ls) m zero = refl
get_d_padded (l ∷ ls) m (suc j) = get_d_padded ls m j

-- k locations read back from records and zeros are the locations, then blank ones
pub read_back : (ls : List Location) (m k : ℕ) → length ls ≤ k → locations_from (numbers ls ++ zeros m) 0 k ≡ ls ++ replicate (k - length ls) blank
read_back ls m k h =
    let n : length (ls ++ replicate (k - length ls) blank) ≡ k = length-append ls (replicate (k - length ls) blank) ∙ omega (arith, length-replicate (k - length ls) blank) in
    ext_get_or blank (locations_from (numbers ls ++ zeros m) 0 k) (ls ++ replicate (k - length ls) blank) (length_from (numbers ls ++ zeros m) 0 k ∙ sym n)
    (λ j b.
    let inside : j < k = omega (arith, length_from (numbers ls ++ zeros m) 0 k) in
    let e : 0 + j ≡ j = omega arith in
    from_at (numbers ls ++ zeros m) 0 k j inside ∙ rw e (at_record ls m j) ∙ sym (get_d_padded ls (k - length ls) j))

-- ---- stored one by one, from the last to the first
-- d locations of ys, from i on, are those of the records
abbrev pub filled : List ℕ → ℕ → ℕ → List Location → List Location
filled xs i zero ys = ys
filled xs i (suc d) ys = set (filled xs (suc i) d ys) i (location_at xs i)

pub length-filled : (xs : List ℕ) (i d : ℕ) (ys : List Location) → length (filled xs i d ys) ≡ length ys
length-filled xs i zero ys = refl
length-filled xs i (suc d) ys = length-set (filled xs (suc i) d ys) i (location_at xs i) ∙ length-filled xs (suc i) d ys

-- one more is stored, at i; the others hold already
filled_here : (xs : List ℕ) (i d : ℕ) (ys : List Location) → i + suc d ≤ length ys → (j : ℕ) (t : Bool) → eqb j i ≡ t
    → (suc i ≤ j → get_or (filled xs (suc i) d ys) j blank ≡ location_at xs j) → i ≤ j → get_or (filled xs i (suc d) ys) j blank ≡ location_at xs j
filled_here xs i d ys l j true e later h =
    let q : j ≡ i = eqb-true j i e in
    let within : i < length (filled xs (suc i) d ys) = omega (arith, length-filled xs (suc i) d ys) in
    rw q (get_or-set_same (filled xs (suc i) d ys) i (location_at xs i) blank within)
filled_here xs i d ys l j false e later h =
    get_or-set_other (filled xs (suc i) d ys) i j (location_at xs i) blank (eqb-false j i e) ∙ later (omega (arith, eqb-false j i e))

filled_at : (xs : List ℕ) (i d : ℕ) (ys : List Location) → i + d ≤ length ys → (j : ℕ) → i ≤ j → j < i + d → get_or (filled xs i d ys) j blank ≡ location_at xs j
filled_at xs i zero ys l j h b = absurd (omega arith)
filled_at xs i (suc d) ys l j h b = filled_here xs i d ys l j (eqb j i) refl (λ later. filled_at xs (suc i) d ys (omega arith) j later (omega arith)) h

-- all of them stored: what was there before plays no part
pub filled_whole : (xs : List ℕ) (ys : List Location) → filled xs 0 (length ys) ys ≡ locations_from xs 0 (length ys)
filled_whole xs ys =
    ext_get_or blank (filled xs 0 (length ys) ys) (locations_from xs 0 (length ys)) (length-filled xs 0 (length ys) ys ∙ sym (length_from xs 0 (length ys)))
    (λ j h.
    let b : j < length ys = omega (arith, length-filled xs 0 (length ys) ys) in
    let e : 0 + j ≡ j = omega arith in
    filled_at xs 0 (length ys) ys (omega arith) j (omega arith) (omega arith) ∙ sym (from_at xs 0 (length ys) j b ∙ rw e))

-- ---- the loop that stores them
pub filled_none : (xs : List ℕ) (ys : List Location) → ys ≡ filled xs (length ys) (length ys - length ys) ys
filled_none xs ys =
    let e : length ys - length ys ≡ 0 = omega arith in
    rw e

-- the location before those that are stored
pub filled_more : {out : List Location} {v : Location} (xs : List ℕ) (i n : ℕ) (ys : List Location) → 0 < i → i ≤ n → out ≡ filled xs i (n - i) ys
    → v ≡ location_at xs (i - 1) → set out (i - 1) v ≡ filled xs (i - 1) (n - (i - 1)) ys
filled_more xs zero n ys p h e f = absurd (omega arith)
filled_more {out} {v} xs (suc j) n ys p h e f =
    let a : suc j - 1 ≡ j = omega arith in
    let b : n - j ≡ suc (n - suc j) = omega arith in
    rw (a, b) (ap (λ l. set l j v) e ∙ ap (set (filled xs (suc j) (n - suc j) ys) j) (f ∙ ap (location_at xs) a))

-- none is left
pub filled_done : {out : List Location} (xs : List ℕ) (i : ℕ) (ys : List Location) → i ≡ 0 → out ≡ filled xs i (length ys - i) ys
    → out ≡ locations_from xs 0 (length ys)
filled_done xs zero ys z e =
    let all : length ys - 0 ≡ length ys = omega arith in
    rw all at e ∙ filled_whole xs ys
filled_done xs (suc i) ys z e = absurd (omega arith)
