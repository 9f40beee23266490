-- The output of a repair as it is stored: copied, covered, and one behind the other. Invariants say what is still to come. Assumes nothing.
use mathlib.Core.Path.{◌≡◌, sym, ap, ◌∙◌}
use mathlib.Core.List.{List, [], ◌∷◌, ◌++◌, append-nil}
use Prim.Native.Nat.{ℕ, suc, ◌+◌, ◌-◌, ◌/◌, ◌%◌, ◌≤◌, ◌<◌}
use native.Mathlib.Numerals.{add-one}
use native.Mathlib.Omega.{arith}
use lib.ListN.{length, replicate, set, get_or, take, drop, length-replicate}
use lib.Seq.{sets, sets-eq, length-take-le}
use Rattle.std.proofs.lemmas.List.{set_split, set-append_left, length-set, drop-take, take-take}
use borrow.Author.Tests.{eq-eqb, ne_eqb}
use borrow.Rule.Slice.PartMut.{mid_of, put_mid, mid_len}
use Rattle.salvage.specs.Salvage.{fill, head_for}
use Rattle.linetable.proofs.Stores.{sets-append, put_mid-sets}
use Rattle.salvage.specs.Repair.{shortened}

-- ---- copying
-- so many bytes of one slice at the front of another
pub front-stored : (p : ℕ) (s xs : List ℕ) {ys : List ℕ} → p ≤ length s → p ≤ length xs → ys ≡ take p s → ys ++ drop p xs ≡ sets xs 0 (take p s)
front-stored p s xs h k e =
    let z : 0 + length (take p s) ≡ p = omega (arith, length-take-le p s h) in
    ap (λ t. t ++ drop p xs) e ∙ sym (sets-eq (take p s) xs 0 (omega arith) ∙ ap (λ i. take p s ++ drop i xs) z)

-- ---- covering
-- the entries of eight
eights : (out : List ℕ) (at left : ℕ) {ys : List ℕ} → at + (left + 7) / 8 ≤ length out → ys ≡ replicate (length (mid_of at (at + left / 8 - at) out)) 0xFF
    → put_mid at (at + left / 8 - at) out ys ≡ sets out at (replicate (left / 8) 0xFF)
eights out at left h e =
    let z : length (mid_of at (at + left / 8 - at) out) ≡ left / 8 = mid_len at (at + left / 8) out (omega arith) ∙ omega arith in
    ap (put_mid at (at + left / 8 - at) out) (e ∙ ap (λ n. replicate n 0xFF) z)
    ∙ put_mid-sets at (at + left / 8) out (replicate (left / 8) 0xFF) (omega arith) (omega arith) (length-replicate (left / 8) 0xFF ∙ omega arith)

-- and the remainder, where there is one
pub covered_less : (out : List ℕ) (at left : ℕ) {ys : List ℕ} → at + (left + 7) / 8 ≤ length out → ys ≡ replicate (length (mid_of at (at + left / 8 - at) out)) 0xFF → 0 < left % 8
    → set (put_mid at (at + left / 8 - at) out ys) (at + left / 8) (247 + left % 8) ≡ sets out at (fill left)
covered_less out at left h e k =
    let reps : List ℕ = replicate (left / 8) 0xFF in
    let l : at + length reps ≡ at + left / 8 = omega (arith, length-replicate {A = ℕ} (left / 8) 0xFF) in
    rw (ne_eqb (left % 8) 0 (λ z. omega arith))
    (ap (λ t. set t (at + left / 8) (247 + left % 8)) (eights out at left h e) ∙ ap (λ i. set (sets out at reps) i (247 + left % 8)) (sym l) ∙ sym (sets-append out at reps ((247 + left % 8) ∷ [])))

pub covered_even : (out : List ℕ) (at left : ℕ) {ys : List ℕ} → at + (left + 7) / 8 ≤ length out → ys ≡ replicate (length (mid_of at (at + left / 8 - at) out)) 0xFF → left % 8 ≡ 0
    → put_mid at (at + left / 8 - at) out ys ≡ sets out at (fill left)
covered_even out at left h e k = rw (eq-eqb (left % 8) 0 k, append-nil {A = ℕ} (replicate (left / 8) 0xFF)) (eights out at left h e)

-- ---- what is written behind the kept entries
pub stored-covered : (s : List ℕ) (p left : ℕ) (xs : List ℕ) {ys zs : List ℕ} → p ≤ length s → ys ≡ sets xs 0 (take p s) → zs ≡ sets ys p (fill left) → zs ≡ sets xs 0 (take p s ++ fill left)
stored-covered s p left xs h a b =
    let z : 0 + length (take p s) ≡ p = omega (arith, length-take-le p s h) in
    b ∙ ap (λ t. sets t p (fill left)) a ∙ sym (sets-append xs 0 (take p s) (fill left) ∙ ap (λ i. sets (sets xs 0 (take p s)) i (fill left)) z)

-- the first byte of the last entry is another
pub stored_past : (s : List ℕ) (p q left h : ℕ) (xs : List ℕ) {ys : List ℕ} → p < q → q ≤ length s → q ≤ length xs → h ≡ head_for (get_or s p 0) left → ys ≡ take q s
    → set (ys ++ drop q xs) p h ≡ sets xs 0 (take p s ++ shortened s p q left)
stored_past s p q left h xs k m n e a =
    let l : length (take q s) ≡ q = length-take-le q s m in
    let z : (p + 1) + (q - (p + 1)) ≡ q = omega arith in
    let behind : drop (p + 1) (take q s) ≡ take (q - (p + 1)) (drop (p + 1) s) = ap (λ i. drop (p + 1) (take i s)) (sym z) ∙ drop-take (p + 1) (q - (p + 1)) s in
    let cut : set (take q s) p h ≡ take p s ++ shortened s p q left =
    set_split (take q s) p h (omega arith) ∙ ap (λ i. take p (take q s) ++ h ∷ drop i (take q s)) (sym (add-one p))
    ∙ ap (λ t. t ++ h ∷ drop (p + 1) (take q s)) (take-take p q s (omega arith)) ∙ ap (λ t. take p s ++ h ∷ t) behind ∙ ap (λ x. take p s ++ x ∷ take (q - (p + 1)) (drop (p + 1) s)) e in
    let w : length (take p s ++ shortened s p q left) ≡ q = ap length (sym cut) ∙ length-set (take q s) p h ∙ l in
    let full : 0 + length (take p s ++ shortened s p q left) ≡ q = omega (arith, w) in
    ap (λ t. set (t ++ drop q xs) p h) a ∙ set-append_left (take q s) (drop q xs) p h (omega arith) ∙ ap (λ t. t ++ drop q xs) cut
    ∙ sym (sets-eq (take p s ++ shortened s p q left) xs 0 (omega arith) ∙ ap (λ i. (take p s ++ shortened s p q left) ++ drop i xs) full)
