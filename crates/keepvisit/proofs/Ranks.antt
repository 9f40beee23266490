-- Laws of a node's new number, and of stores from one place on. Assumes nothing.
use mathlib.Core.Path.{◌≡◌, refl, sym, ap, ◌∙◌}
use Prim.Native.Nat.{ℕ, suc, ◌+◌, ◌≤◌, ◌<◌}
use native.Mathlib.Omega.{arith}
use mathlib.Core.Bool.{Bool, true, false, cond, ◌||◌}
use mathlib.Core.List.{List, [], ◌∷◌, ◌++◌, append_assoc, append-nil}
use lib.ListN.{length, get_or, set, take, drop}
use lib.Seq.{sets, sets-eq, take-set-le, get_or-set_other, drop_at, length-take-le}
use lib.Dec.{eqb}
use borrow.Author.Tests.{eq-eqb, ne_eqb}
use Rattle.keepvisit.specs.Visit.{Stores, member, place_in, chains, chain_of}
use Rattle.keepvisit.specs.Found.{rank}
use Rattle.keepvisit.proofs.Members.{member-append, never}

-- Ranks.

pub rank_seen : (order : List ℕ) (n : ℕ) → (rank order n ≡ 0 → ⊥) → member n order ≡ true
unfolding rank
rank_seen order n h = go (member n order) h
  where
    go : (t : Bool) → (cond t (suc (place_in order n)) 0 ≡ 0 → ⊥) → t ≡ true
    go true h = refl
    go false h = absurd (h refl)

pub rank_new : (order : List ℕ) (n : ℕ) → rank order n ≡ 0 → member n order ≡ false
unfolding rank
rank_new order n h = go (member n order) h
  where
    go : (t : Bool) → cond t (suc (place_in order n)) 0 ≡ 0 → t ≡ false
    go true h = absurd (omega arith)
    go false h = refl

or-false : (s t : Bool) → (s || t) ≡ false → (s ≡ false) × (t ≡ false)
or-false true t h = never (sym h)
or-false false t h = (refl, h)

place_new : (order : List ℕ) (n : ℕ) → member n order ≡ false → place_in (order ++ n ∷ []) n ≡ length order
unfolding member place_in
place_new [] n h = ap (λ t. cond t 0 1) (eq-eqb n n refl)
place_new (x ∷ xs) n h =
    ap (λ t. cond t 0 (suc (place_in (xs ++ n ∷ []) n))) (or-false (eqb n x) (member n xs) h).0
    ∙ ap suc (place_new xs n (or-false (eqb n x) (member n xs) h).1)

place_step : (t u : Bool) (a b : ℕ) → (t || u) ≡ true → (u ≡ true → a ≡ b) → cond t 0 (suc a) ≡ cond t 0 (suc b)
place_step true u a b h f = refl
place_step false u a b h f = ap suc (f h)

pub place_old : (order more : List ℕ) (a : ℕ) → member a order ≡ true → place_in (order ++ more) a ≡ place_in order a
unfolding member place_in
place_old [] more a h = never h
place_old (x ∷ xs) more a h = place_step (eqb a x) (member a xs) (place_in (xs ++ more) a) (place_in xs a) h (λ m. place_old xs more a m)

member-snoc : (order : List ℕ) (n a : ℕ) → member a (order ++ n ∷ []) ≡ (member a order || (eqb a n || false))
unfolding member
member-snoc order n a = member-append a order (n ∷ [])

or-true : (t : Bool) → (t || (true || false)) ≡ true
or-true true = refl
or-true false = refl

pub rank_same : (order : List ℕ) (n : ℕ) → member n order ≡ false → rank (order ++ n ∷ []) n ≡ suc (length order)
unfolding rank
rank_same order n h =
    ap (λ t. cond t (suc (place_in (order ++ n ∷ []) n)) 0) (member-snoc order n n ∙ ap (λ t. member n order || (t || false)) (eq-eqb n n refl) ∙ or-true (member n order))
    ∙ ap suc (place_new order n h)

pub rank-other : (order : List ℕ) (n a : ℕ) → (a ≡ n → ⊥) → rank (order ++ n ∷ []) a ≡ rank order a
unfolding rank
rank-other order n a h =
    ap (λ t. cond t (suc (place_in (order ++ n ∷ []) a)) 0) (member-snoc order n a ∙ ap (λ t. member a order || (t || false)) (ne_eqb a n h))
    ∙ go (member a order) refl
  where
    go : (t : Bool) → member a order ≡ t → cond (t || (false || false)) (suc (place_in (order ++ n ∷ []) a)) 0 ≡ cond t (suc (place_in order a)) 0
    go true m = ap suc (place_old order (n ∷ []) a m)
    go false m = refl

-- Chains.

pub chains-append : (t : Stores) (xs ys : List ℕ) → chains t (xs ++ ys) ≡ chains t xs ++ chains t ys
unfolding chains
chains-append t [] ys = refl
chains-append t (x ∷ xs) ys = ap (λ r. chain_of t x ++ r) (chains-append t xs ys) ∙ sym (append_assoc (chain_of t x) (chains t xs) (chains t ys))

pub chains-snoc : (t : Stores) (xs : List ℕ) (n : ℕ) → chains t (xs ++ n ∷ []) ≡ chains t xs ++ chain_of t n
unfolding chains
chains-snoc t xs n = chains-append t xs (n ∷ []) ∙ ap (λ r. chains t xs ++ r) (append-nil (chain_of t n))

-- Numbers stored one after another.

pub take-sets : (n : ℕ) (s : List ℕ) (i : ℕ) (vs : List ℕ) → n ≤ i → take n (sets s i vs) ≡ take n s
take-sets n s i [] h = refl
take-sets n s i (v ∷ vs) h = take-sets n (set s i v) (suc i) vs (omega arith) ∙ take-set-le n s i v h

pub get_d_sets : (s : List ℕ) (i : ℕ) (vs : List ℕ) (j : ℕ) → j < i → get_or (sets s i vs) j 0 ≡ get_or s j 0
get_d_sets s i [] j h = refl
get_d_sets s i (v ∷ vs) j h = get_d_sets (set s i v) (suc i) vs j (omega arith) ∙ get_or-set_other s i j v 0 (λ p. omega arith)

pub drop-sets : (s : List ℕ) (i : ℕ) (vs : List ℕ) → i + length vs ≤ length s → drop i (sets s i vs) ≡ vs ++ drop (i + length vs) s
drop-sets s i vs h =
    ap (drop i) (sets-eq vs s i h ∙ append_assoc (take i s) vs (drop (i + length vs) s)) ∙ drop_at (take i s) (vs ++ drop (i + length vs) s) i (length-take-le i s (omega arith))
