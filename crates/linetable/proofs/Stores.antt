-- Laws on the store of records: cleared from a place on, filled from the front with one location after another, and read back.
use mathlib.Core.Path.{◌≡◌, refl, sym, ap, ◌∙◌}
use mathlib.Core.List.{List, [], ◌∷◌, ◌++◌, append_assoc, append-nil}
use Prim.Native.Nat.{ℕ, zero, suc, ◌+◌, ◌-◌, ◌*◌, ◌≤◌, ◌<◌}
use native.Mathlib.Nat.{add-zero}
use native.Mathlib.Numerals.{sub-one, towards_suc}
use native.Mathlib.Omega.{arith}
use lib.ListN.{length, replicate, set, take, drop, length-append, length-replicate, drop_of_length-le}
use lib.Seq.{sets, sets-eq, length-sets, drop_at, length-take-le}
use borrow.Rule.Slice.PartMut.{mid_of, put_mid, mid_len, Post-is}
use Rattle.clearing.specs.Lent.{zeros, padded}
use Rattle.lineentry.specs.declared.Location.{Location}
use Rattle.linetable.specs.Answer.{numbers}

-- ---- clearing
-- a part that was lent comes back with other numbers: they are stored from its place on
pub put_mid-sets : (a e : ℕ) (xs ys : List ℕ) → a ≤ e → e ≤ length xs → length ys ≡ e - a → put_mid a (e - a) xs ys ≡ sets xs a ys
put_mid-sets a e xs ys h k l =
    let to : a + length ys ≡ e = omega arith in
    ap (λ m. take a xs ++ (ys ++ m)) (Post-is a e xs h)
    ∙ sym (sets-eq ys xs a (omega arith) ∙ append_assoc (take a xs) ys (drop (a + length ys) xs) ∙ ap (λ i. take a xs ++ (ys ++ drop i xs)) to)

-- what stands behind a place is cleared
pub cleared_behind : (c : ℕ) (xs : List ℕ) {ys : List ℕ} → c ≤ length xs → ys ≡ zeros (length (mid_of c (length xs - c) xs)) → put_mid c (length xs - c) xs ys ≡ sets xs c (zeros (length xs - c))
cleared_behind c xs {ys} h e =
    let z : ys ≡ zeros (length xs - c) = e ∙ ap zeros (mid_len c (length xs) xs (omega arith)) in
    ap (put_mid c (length xs - c) xs) z ∙ put_mid-sets c (length xs) xs (zeros (length xs - c)) h (omega arith) (length-replicate (length xs - c) 0)

-- and the store is as long as it was
pub cleared-length : (c : ℕ) (xs : List ℕ) {ys : List ℕ} → c ≤ length xs → ys ≡ zeros (length (mid_of c (length xs - c) xs)) → length (put_mid c (length xs - c) xs ys) ≡ length xs
cleared-length c xs h e = ap length (cleared_behind c xs h e) ∙ length-sets xs c (zeros (length xs - c))

-- numbers stored over the first c of a store whose rest was cleared leave it padded
pub over_zeros : (xs : List ℕ) (c : ℕ) (zs : List ℕ) → c ≤ length xs → length zs ≡ c → sets (sets xs c (zeros (length xs - c))) 0 zs ≡ padded (length xs) zs
unfolding padded
over_zeros xs c zs h e =
    let l = length-replicate {A = ℕ} (length xs - c) 0 in
    let t : length (take c xs) ≡ c = length-take-le c xs h in
    let clean : sets xs c (zeros (length xs - c)) ≡ take c xs ++ zeros (length xs - c) =
    sets-eq (zeros (length xs - c)) xs c (omega (arith, l)) ∙ ap (λ r. (take c xs ++ zeros (length xs - c)) ++ r) (drop_of_length-le xs {i = c + length (zeros (length xs - c))} (omega (arith, l))) ∙ append-nil (take c xs ++ zeros (length xs - c)) in
    let fits : 0 + length zs ≤ length (take c xs ++ zeros (length xs - c)) = simp length-append (omega (arith, l, t)) in
    let z : 0 + length zs ≡ c = omega arith in
    rw clean (sets-eq zs (take c xs ++ zeros (length xs - c)) 0 fits ∙ rw (z, drop_at (take c xs) (zeros (length xs - c)) c t, e))

-- ---- records
pub length-numbers : (ls : List Location) → length (numbers ls) ≡ 4 * length ls
length-numbers [] = refl
length-numbers (l ∷ ls) = omega (arith, length-numbers ls)

pub numbers-append : (xs ys : List Location) → numbers (xs ++ ys) ≡ numbers xs ++ numbers ys
numbers-append [] ys = refl
numbers-append (x ∷ xs) ys = rw (numbers-append xs ys)

-- one record is stored, and the others are left
pub fill-turn : (xs : List ℕ) (j left : ℕ) (r : Location) → 0 < left
    → sets xs j (numbers (replicate left r)) ≡ sets (set (set (set (set xs j r.line) (j + 1) r.column) (j + 2) r.end_line) (j + 3) r.end_column) (j + 4) (numbers (replicate (left - 1) r))
fill-turn xs j zero r h = absurd (omega arith)
fill-turn xs j (suc left) r h = simp (towards_suc, sub-one)

pub fill_done : (xs : List ℕ) (j left : ℕ) (r : Location) → left ≡ 0 → sets xs j (numbers (replicate left r)) ≡ xs
fill_done xs j left r e = rw e

-- what is stored in two goes
pub sets-append : (xs : List ℕ) (j : ℕ) (ys zs : List ℕ) → sets xs j (ys ++ zs) ≡ sets (sets xs j ys) (j + length ys) zs
sets-append xs j [] zs = rw add-zero
sets-append xs j (y ∷ ys) zs =
    let e : j + suc (length ys) ≡ suc j + length ys = omega arith in
    rw e (sets-append (set xs j y) (suc j) ys zs)

-- locations stored after others
pub stored-after : (xs : List ℕ) (before after : List Location) (i : ℕ) → length before ≡ i
    → sets (sets xs 0 (numbers before)) (4 * i) (numbers after) ≡ sets xs 0 (numbers (before ++ after))
stored-after xs before after i e =
    let p : 0 + length (numbers before) ≡ 4 * i = omega (arith, length-numbers before) in
    sym (rw (numbers-append before after) (sets-append xs 0 (numbers before) (numbers after) ∙ rw p))
