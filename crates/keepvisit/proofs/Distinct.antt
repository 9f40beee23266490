-- A visit takes each node once and each entry once, all below the limits. Assumes nothing.
use mathlib.Core.Path.{◌≡◌, refl, sym, ap, ap₂, subst, ◌∙◌}
use Prim.Native.Nat.{ℕ, zero, suc, ◌≤◌, ◌<◌}
use native.Mathlib.Omega.{arith}
use mathlib.Core.Bool.{Bool, true, false, cond, not, ◌&&◌, ◌||◌}
use mathlib.Core.List.{List, [], ◌∷◌, ◌++◌}
use lib.Dec.{ltb, eqb}
use borrow.Author.Tests.{ltb-true, ltb-false, eqb-true}
use Rattle.keepvisit.specs.Visit.{Stores, bad, visited, member, fresh, chains, chain_of, children, visit, visit_from}
use Rattle.keepvisit.proofs.Members.{fresh-append, never}
use Rattle.keepvisit.proofs.Ranks.{chains-snoc}
use Rattle.keepvisit.proofs.Closed.{bad_not, either, empty, member_left, member_right}

-- what is fresh is below the limit
pub fresh-below : (limit n : ℕ) (met es : List ℕ) → fresh limit met es ≡ true → limit ≤ n → member n es ≡ false
unfolding fresh member
fresh-below limit n met [] f h = refl
fresh-below limit n met (e ∷ es) f h = below (eqb n e) (ltb e limit) (not (member e met)) (member n es) refl refl f (λ p. fresh-below limit n (e ∷ met) es p h)
  where
    below : (t u v w : Bool) → eqb n e ≡ t → ltb e limit ≡ u → (u && (v && fresh limit (e ∷ met) es)) ≡ true → (fresh limit (e ∷ met) es ≡ true → w ≡ false)
        → (t || w) ≡ false
    below true true v w p q f g = absurd (omega (arith, eqb-true n e p, ltb-true e limit q))
    below true false v w p q f g = never f
    below false true true w p q f g = g f
    below false true false w p q f g = never f
    below false false v w p q f g = never f

pub within : (limit n : ℕ) (es : List ℕ) → fresh limit [] es ≡ true → member n es ≡ true → n < limit
within limit n es f h = go (ltb n limit) refl
  where
    go : (b : Bool) → ltb n limit ≡ b → n < limit
    go true p = ltb-true n limit p
    go false p = never (sym (fresh-below limit n [] es f (ltb-false n limit p)) ∙ h)

-- the chain of a visited node is among the chains
pub chain-among : (t : Stores) (order : List ℕ) (n e : ℕ) → member n order ≡ true → member e (chain_of t n) ≡ true → member e (chains t order) ≡ true
unfolding chains
chain-among t [] n e h m = absurd (empty n h)
chain-among t (x ∷ xs) n e h m =
    either n x xs h
    (λ s. member_left e (chain_of t x) (chains t xs) (ap (λ k. member e (chain_of t k)) (sym s) ∙ m))
    (λ k. member_right e (chain_of t x) (chains t xs) (chain-among t xs n e k m))

pub record Once (t : Stores) (order : List ℕ) : Type 0 where
  pub nodes : fresh t.node_limit [] order ≡ true
  pub entries : fresh t.entry_limit [] (chains t order) ≡ true

one_more : (t : Stores) (n : ℕ) (order : List ℕ) → Once t order → ltb n t.node_limit ≡ true → member n order ≡ false → fresh t.entry_limit (chains t order) (chain_of t n) ≡ true → Once t (order ++ n ∷ [])
unfolding fresh
one_more t n order o p q r =
    record {
      nodes = fresh-append t.node_limit [] order (n ∷ []) o.nodes (ap₂ (λ a b. a && (not b && true)) p q);
      entries = ap (fresh t.entry_limit []) (chains-snoc t order n) ∙ fresh-append t.entry_limit [] (chains t order) (chain_of t n) o.entries r;
    }

once_cases : (turns : ℕ) (t : Stores) (n : ℕ) (pending order order' : List ℕ) → ((p o : List ℕ) → Once t o → visit turns t p o ≡ visited order' → Once t order') → Once t order
    → (u v w : Bool) → ltb n t.node_limit ≡ u → member n order ≡ v → fresh t.entry_limit (chains t order) (chain_of t n) ≡ w
    → cond u (cond v (visit turns t pending order) (cond w (visit turns t (children t n ++ pending) (order ++ n ∷ [])) (bad n))) (bad n) ≡ visited order' → Once t order'
once_cases turns t n pending order order' ih o true true w p q r e = ih pending order o e
once_cases turns t n pending order order' ih o true false true p q r e = ih (children t n ++ pending) (order ++ n ∷ []) (one_more t n order o p q r) e
once_cases turns t n pending order order' ih o true false false p q r e = bad_not n order' e
once_cases turns t n pending order order' ih o false v w p q r e = bad_not n order' e

once-done : (t : Stores) (order order' : List ℕ) → Once t order → visited order ≡ visited order' → Once t order'
once-done t order order' o e = let same : order ≡ order' = cc in subst (λ x. Once t x) same o

once_on : (turns : ℕ) (t : Stores) (pending order order' : List ℕ) → Once t order → visit turns t pending order ≡ visited order' → Once t order'
unfolding visit
once_on zero t [] order order' o e = once-done t order order' o e
once_on zero t (n ∷ pending) order order' o e = bad_not n order' e
once_on (suc turns) t [] order order' o e = once-done t order order' o e
once_on (suc turns) t (n ∷ pending) order order' o e =
    once_cases turns t n pending order order' (λ p q r h. once_on turns t p q order' r h) o (ltb n t.node_limit) (member n order)
    (fresh t.entry_limit (chains t order) (chain_of t n)) refl refl refl e

pub visited-once : (t : Stores) (root : ℕ) (order : List ℕ) → visit_from t root ≡ visited order → Once t order
unfolding fresh chains
visited-once t root order e = once_on (suc t.entry_limit) t (root ∷ []) [] order (record { nodes = refl; entries = refl }) e
