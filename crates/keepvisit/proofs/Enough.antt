-- The visit has turns enough: more of them change nothing. Assumes nothing.
use mathlib.Core.Path.{◌≡◌, refl, ap, ◌∙◌}
use Prim.Native.Nat.{ℕ, zero, suc, ◌+◌, ◌≤◌}
use native.Mathlib.Omega.{arith}
use mathlib.Core.Bool.{Bool, true, false, cond}
use mathlib.Core.List.{List, [], ◌∷◌, ◌++◌}
use lib.ListN.{length, length-append}
use lib.Dec.{ltb}
use Rattle.grammar.specs.State.{node_at}
use Rattle.keepvisit.specs.Visit.{Stores, Visited, bad, visited, member, fresh, chains, chain_of, children, visit, visit_from}
use Rattle.keepvisit.proofs.Members.{fresh-append, fresh-most}
use Rattle.keepvisit.proofs.Pushing.{length-linked, length-children_of}
use Rattle.keepvisit.proofs.Ranks.{chains-snoc}

nothing_left : (turns : ℕ) (t : Stores) (order : List ℕ) → visit turns t [] order ≡ visited order
unfolding visit
nothing_left zero t order = refl
nothing_left (suc turns) t order = refl

same_turn : (t : Stores) (n : ℕ) (u v w : Bool) (a a' b b' : Visited) → (v ≡ true → a ≡ a') → (w ≡ true → b ≡ b')
    → cond u (cond v a (cond w b (bad n))) (bad n) ≡ cond u (cond v a' (cond w b' (bad n))) (bad n)
same_turn t n true true w a a' b b' f g = f refl
same_turn t n true false true a a' b b' f g = g refl
same_turn t n true false false a a' b b' f g = refl
same_turn t n false v w a a' b b' f g = refl

pub enough : (turns more : ℕ) (t : Stores) (pending order : List ℕ) → fresh t.entry_limit [] (chains t order) ≡ true → t.entry_limit + length pending ≤ turns + length (chains t order)
    → visit (turns + more) t pending order ≡ visit turns t pending order
unfolding visit
enough zero more t [] order f h = nothing_left (0 + more) t order
enough zero more t (n ∷ pending) order f h = absurd (omega (arith, fresh-most t.entry_limit (chains t order) f))
enough (suc turns) more t [] order f h = nothing_left (suc turns + more) t order
enough (suc turns) more t (n ∷ pending) order f h =
    let s : suc turns + more ≡ suc (turns + more) = omega arith in
    let size : length (chains t (order ++ n ∷ [])) ≡ length (chains t order) + (node_at t.nodes n).count =
    ap length (chains-snoc t order n) ∙ length-append (chains t order) (chain_of t n) ∙ ap (λ k. length (chains t order) + k) (length-linked t.entries (node_at t.nodes n).count (node_at t.nodes n).first) in
    let kids : length (children t n ++ pending) ≡ (node_at t.nodes n).count + length pending =
    length-append (children t n) pending
    ∙ ap (λ k. k + length pending) (length-children_of t.entries (chain_of t n) ∙ length-linked t.entries (node_at t.nodes n).count (node_at t.nodes n).first) in
    ap (λ k. visit k t (n ∷ pending) order) s
    ∙ same_turn t n (ltb n t.node_limit) (member n order) (fresh t.entry_limit (chains t order) (chain_of t n)) (visit (turns + more) t pending order) (visit turns t pending order)
    (visit (turns + more) t (children t n ++ pending) (order ++ n ∷ [])) (visit turns t (children t n ++ pending) (order ++ n ∷ []))
    (λ e. enough turns more t pending order f (omega arith))
    (λ e. enough turns more t (children t n ++ pending) (order ++ n ∷ [])
    (ap (fresh t.entry_limit []) (chains-snoc t order n) ∙ fresh-append t.entry_limit [] (chains t order) (chain_of t n) f e) (omega arith))

pub turns_enough : (more : ℕ) (t : Stores) (root : ℕ) → visit (suc t.entry_limit + more) t (root ∷ []) [] ≡ visit_from t root
unfolding chains fresh
turns_enough more t root = enough (suc t.entry_limit) more t (root ∷ []) [] refl (omega arith)
