-- What is kept is what can be reached from the root, and nothing else. Assumes nothing.
use mathlib.Core.Path.{◌≡◌, refl, sym, ap, subst, ◌∙◌}
use Prim.Native.Nat.{ℕ, zero, suc}
use mathlib.Core.Bool.{Bool, true, false, cond, ◌||◌}
use mathlib.Core.List.{List, [], ◌∷◌, ◌++◌}
use lib.Dec.{ltb, eqb}
use borrow.Author.Tests.{eq-eqb}
use Rattle.keepvisit.specs.Visit.{Stores, bad, visited, member, fresh, chains, chain_of, children, visit, visit_from, Reaches, here, down}
use Rattle.keepvisit.proofs.Members.{member-append}
use Rattle.keepvisit.proofs.Closed.{either, empty, bad_not, kept-root, kept-children}

-- a member of two lists put together is one of either
in_either : {P : Type 0} (a : ℕ) (xs ys : List ℕ) → member a (xs ++ ys) ≡ true → (member a xs ≡ true → P) → (member a ys ≡ true → P) → P
in_either {P} a xs ys h f g = go (member a xs) refl (sym (member-append a xs ys) ∙ h)
  where
    go : (b : Bool) → member a xs ≡ b → (b || member a ys) ≡ true → P
    go true e h = f e
    go false e h = g h

module _ (t : Stores) (root : ℕ) where
  abbrev All : List ℕ → Type 0
  All ns = (a : ℕ) → member a ns ≡ true → Reaches t root a

  pairs : (xs ys : List ℕ) → All xs → All ys → All (xs ++ ys)
  pairs xs ys p q a h = in_either a xs ys h (λ m. p a m) (λ m. q a m)

  one : (n : ℕ) → Reaches t root n → All (n ∷ [])
  one n r a h = either a n [] h (λ e. subst (λ x. Reaches t root x) (sym e) r) (λ m. absurd (empty a m))

  first_of : (n : ℕ) (pending : List ℕ) → All (n ∷ pending) → Reaches t root n
  unfolding member
  first_of n pending p = p n (ap (λ b. b || member n pending) (eq-eqb n n refl))

  rest_of : (n : ℕ) (pending : List ℕ) → All (n ∷ pending) → All pending
  unfolding member
  rest_of n pending p a h = p a (later (eqb a n) (member a pending) h)
    where
      later : (s t : Bool) → t ≡ true → (s || t) ≡ true
      later true t m = refl
      later false t m = m

  reach_cases : (turns n : ℕ) (pending order order' : List ℕ) → ((p o : List ℕ) → All p → All o → visit turns t p o ≡ visited order' → All order') → All (n ∷ pending) → All order
      → (u v w : Bool) → cond u (cond v (visit turns t pending order) (cond w (visit turns t (children t n ++ pending) (order ++ n ∷ [])) (bad n))) (bad n) ≡ visited order' → All order'
  reach_cases turns n pending order order' ih p o true true w e = ih pending order (rest_of n pending p) o e
  reach_cases turns n pending order order' ih p o true false true e =
      ih (children t n ++ pending) (order ++ n ∷ []) (pairs (children t n) pending (λ c m. down n c (first_of n pending p) m) (rest_of n pending p))
      (pairs order (n ∷ []) o (one n (first_of n pending p))) e
  reach_cases turns n pending order order' ih p o true false false e = bad_not n order' e
  reach_cases turns n pending order order' ih p o false v w e = bad_not n order' e

  done_all : (order order' : List ℕ) → All order → visited order ≡ visited order' → All order'
  done_all order order' o e = let same : order ≡ order' = cc in subst (λ x. All x) same o

  visit-reaches : (turns : ℕ) (pending order order' : List ℕ) → All pending → All order → visit turns t pending order ≡ visited order' → All order'
  unfolding visit
  visit-reaches zero [] order order' p o e = done_all order order' o e
  visit-reaches zero (n ∷ pending) order order' p o e = bad_not n order' e
  visit-reaches (suc turns) [] order order' p o e = done_all order order' o e
  visit-reaches (suc turns) (n ∷ pending) order order' p o e =
      reach_cases turns n pending order order' (λ q r f g h. visit-reaches turns q r order' f g h) p o (ltb n t.node_limit) (member n order)
      (fresh t.entry_limit (chains t order) (chain_of t n)) e

  -- "it and everything reachable from it"
  pub kept-reached : (order : List ℕ) → visit_from t root ≡ visited order → (a : ℕ) → member a order ≡ true → Reaches t root a
  kept-reached order e = visit-reaches (suc t.entry_limit) (root ∷ []) [] order (one root here) (λ a h. absurd (empty a h)) e

  pub reached-kept : (order : List ℕ) → visit_from t root ≡ visited order → (a : ℕ) → Reaches t root a → member a order ≡ true
  reached-kept order e _ here = kept-root t root order e
  reached-kept order e _ (down a c r m) = kept-children t root order e a (reached-kept order e a r) c m
