-- The visit reaches what is pending, and with a node all of its children; the root comes first. Assumes nothing.
use mathlib.Core.Path.{◌≡◌, refl, sym, ap, ap₂, ◌∙◌}
use Prim.Native.Nat.{ℕ, zero, suc}
use native.Mathlib.Omega.{arith}
use mathlib.Core.Bool.{Bool, true, false, cond, ◌||◌}
use mathlib.Core.List.{List, [], ◌∷◌, ◌++◌, append_assoc, append-nil}
use lib.Dec.{ltb, eqb}
use borrow.Author.Tests.{eqb-true}
use Rattle.keepvisit.specs.Visit.{Stores, bad, visited, member, fresh, chains, chain_of, children, visit, visit_from}
use Rattle.keepvisit.proofs.Members.{member-append, member-cons_same, never}

pub record Closed (t : Stores) (pending order order' : List ℕ) : Type 0 where
  pub more : List ℕ
  pub is : order' ≡ order ++ more
  pub reaches : (a : ℕ) → member a pending ≡ true → member a order' ≡ true
  pub closes : (a : ℕ) → member a order' ≡ true → member a order ≡ false → (c : ℕ) → member c (children t a) ≡ true → member c order' ≡ true

or_left : (s t : Bool) → s ≡ true → (s || t) ≡ true
or_left true t h = refl
or_left false t h = never h

or_right : (s t : Bool) → t ≡ true → (s || t) ≡ true
or_right true t h = refl
or_right false t h = h

pub member_left : (a : ℕ) (xs ys : List ℕ) → member a xs ≡ true → member a (xs ++ ys) ≡ true
member_left a xs ys h = member-append a xs ys ∙ or_left (member a xs) (member a ys) h

pub member_right : (a : ℕ) (xs ys : List ℕ) → member a ys ≡ true → member a (xs ++ ys) ≡ true
member_right a xs ys h = member-append a xs ys ∙ or_right (member a xs) (member a ys) h

-- a member of a list is its head or a member of the rest
pub either : {P : Type 0} (a n : ℕ) (ns : List ℕ) → member a (n ∷ ns) ≡ true → (a ≡ n → P) → (member a ns ≡ true → P) → P
unfolding member
either {P} a n ns h f g = go (eqb a n) refl h
  where
    go : (b : Bool) → eqb a n ≡ b → (b || member a ns) ≡ true → P
    go true e h = f (eqb-true a n e)
    go false e h = g h

pub empty : (a : ℕ) → member a [] ≡ true → ⊥
unfolding member
empty a h = never h

done : {t : Stores} (pending order order' : List ℕ) → pending ≡ [] → visited order ≡ visited order' → Closed t pending order order'
done {t} pending order order' p e =
    let same : order ≡ order' = cc in
    record {
      more = [];
      is = sym same ∙ sym (append-nil order);
      reaches = λ a h. absurd (empty a (sym (ap (member a) p) ∙ h));
      closes = λ a h n c k. never (sym n ∙ ap (member a) same ∙ h);
    }

seen : {t : Stores} (n : ℕ) (pending order order' : List ℕ) → member n order ≡ true → Closed t pending order order' → Closed t (n ∷ pending) order order'
seen n pending order order' m w =
    record {
      more = w.more;
      is = w.is;
      reaches = λ a h. either a n pending h (λ e. ap (λ x. member x order') e ∙ ap (member n) w.is ∙ member_left n order w.more m) (λ k. w.reaches a k);
      closes = w.closes;
    }

entered : {t : Stores} (n : ℕ) (pending order order' : List ℕ) → Closed t (children t n ++ pending) (order ++ n ∷ []) order' → Closed t (n ∷ pending) order order'
unfolding member
entered {t} n pending order order' w =
    let own : member n order' ≡ true =
    ap (member n) w.is ∙ member_left n (order ++ n ∷ []) w.more (member_right n order (n ∷ []) (member-cons_same n [])) in
    record {
      more = n ∷ w.more;
      is = w.is ∙ append_assoc order (n ∷ []) w.more;
      reaches = λ a h. either a n pending h (λ e. ap (λ x. member x order') e ∙ own) (λ k. w.reaches a (member_right a (children t n) pending k));
      closes = λ a h o c k. own_or a h o c k (eqb a n) refl;
    }
  where
    own_or : (a : ℕ) → member a order' ≡ true → member a order ≡ false → (c : ℕ) → member c (children t a) ≡ true → (b : Bool) → eqb a n ≡ b → member c order' ≡ true
    own_or a h o c k true e = w.reaches c (member_left c (children t n) pending (ap (λ x. member c (children t x)) (sym (eqb-true a n e)) ∙ k))
    own_or a h o c k false e =
        w.closes a h (member-append a order (n ∷ []) ∙ ap₂ (λ x y. x || (y || false)) o e) c k

pub bad_not : {A : Type 0} (n : ℕ) (order : List ℕ) → bad n ≡ visited order → A
bad_not n order e = absurd (let z : ◌≡◌ {A = ℕ} 0 1 = cc in omega arith)

cases : (turns : ℕ) (t : Stores) (n : ℕ) (pending order order' : List ℕ)
    → ((p o : List ℕ) → visit turns t p o ≡ visited order' → Closed t p o order')
    → (u v w : Bool) → member n order ≡ v
    → cond u (cond v (visit turns t pending order) (cond w (visit turns t (children t n ++ pending) (order ++ n ∷ [])) (bad n))) (bad n) ≡ visited order'
    → Closed t (n ∷ pending) order order'
cases turns t n pending order order' ih true true w m e = seen n pending order order' m (ih pending order e)
cases turns t n pending order order' ih true false true m e = entered n pending order order' (ih (children t n ++ pending) (order ++ n ∷ []) e)
cases turns t n pending order order' ih true false false m e = bad_not n order' e
cases turns t n pending order order' ih false v w m e = bad_not n order' e

pub visit-closed : (turns : ℕ) (t : Stores) (pending order order' : List ℕ) → visit turns t pending order ≡ visited order' → Closed t pending order order'
unfolding visit
visit-closed zero t [] order order' e = done [] order order' refl e
visit-closed zero t (n ∷ pending) order order' e = bad_not n order' e
visit-closed (suc turns) t [] order order' e = done [] order order' refl e
visit-closed (suc turns) t (n ∷ pending) order order' e =
    cases turns t n pending order order' (λ p o h. visit-closed turns t p o order' h) (ltb n t.node_limit) (member n order) (fresh t.entry_limit (chains t order) (chain_of t n)) refl e

-- "it and everything reachable from it": the root is kept, and every child of a kept node.
pub kept-root : (t : Stores) (root : ℕ) (order : List ℕ) → visit_from t root ≡ visited order → member root order ≡ true
kept-root t root order e = (visit-closed (suc t.entry_limit) t (root ∷ []) [] order e).reaches root (member-cons_same root [])

pub kept-children : (t : Stores) (root : ℕ) (order : List ℕ) → visit_from t root ≡ visited order → (a : ℕ) → member a order ≡ true → (c : ℕ) → member c (children t a) ≡ true → member c order ≡ true
unfolding member
kept-children t root order e a h c k = (visit-closed (suc t.entry_limit) t (root ∷ []) [] order e).closes a h refl c k

-- "in order of first visit from that node": the root is the first.
pub record First (order : List ℕ) (root : ℕ) : Type 0 where
  pub more : List ℕ
  pub is : order ≡ root ∷ more

first_cases : (turns : ℕ) (t : Stores) (root : ℕ) (order : List ℕ) → (u w : Bool)
    → cond u (cond w (visit turns t (children t root ++ []) (root ∷ [])) (bad root)) (bad root) ≡ visited order → First order root
first_cases turns t root order true true e = let w = visit-closed turns t (children t root ++ []) (root ∷ []) order e in record { more = w.more; is = w.is }
first_cases turns t root order true false e = bad_not root order e
first_cases turns t root order false w e = bad_not root order e

pub root_first : (t : Stores) (root : ℕ) (order : List ℕ) → visit_from t root ≡ visited order → First order root
unfolding visit member chains
root_first t root order e = first_cases t.entry_limit t root order (ltb root t.node_limit) (fresh t.entry_limit [] (chain_of t root)) e

-- "depth first": what is pending first is visited with everything below it before what is pending next. So a new node's visit is
-- its own number, then its children's visits in their order, then the rest: the recursive reading.
pub record Parted (t : Stores) (turns : ℕ) (xs ys order final : List ℕ) : Type 0 where
  pub between : List ℕ
  pub left : ℕ
  pub first : visit turns t xs order ≡ visited between
  pub then : visit left t ys between ≡ visited final

part-done : (turns : ℕ) (t : Stores) (ys order final : List ℕ) → visit turns t ys order ≡ visited final → Parted t turns [] ys order final
unfolding visit
part-done zero t ys order final e = record { between = order; left = zero; first = refl; then = e }
part-done (suc turns) t ys order final e = record { between = order; left = suc turns; first = refl; then = e }

part_cases : (turns : ℕ) (t : Stores) (n : ℕ) (xs ys order final : List ℕ) → ((p o : List ℕ) → visit turns t (p ++ ys) o ≡ visited final → Parted t turns p ys o final) → (u v w : Bool)
    → ltb n t.node_limit ≡ u → member n order ≡ v → fresh t.entry_limit (chains t order) (chain_of t n) ≡ w
    → cond u (cond v (visit turns t (xs ++ ys) order) (cond w (visit turns t (children t n ++ (xs ++ ys)) (order ++ n ∷ [])) (bad n))) (bad n) ≡ visited final
    → Parted t (suc turns) (n ∷ xs) ys order final
unfolding visit
part_cases turns t n xs ys order final ih true true w p q r e =
    let k = ih xs order e in record { between = k.between; left = k.left; first = rw (p, q) k.first; then = k.then }
part_cases turns t n xs ys order final ih true false true p q r e =
    let k = ih (children t n ++ xs) (order ++ n ∷ []) (ap (λ l. visit turns t l (order ++ n ∷ [])) (append_assoc (children t n) xs ys) ∙ e) in
    record { between = k.between; left = k.left; first = rw (p, q, r) k.first; then = k.then }
part_cases turns t n xs ys order final ih true false false p q r e = bad_not n final e
part_cases turns t n xs ys order final ih false v w p q r e = bad_not n final e

pub depth-first : (turns : ℕ) (t : Stores) (xs ys order final : List ℕ) → visit turns t (xs ++ ys) order ≡ visited final → Parted t turns xs ys order final
unfolding visit
depth-first zero t [] ys order final e = part-done zero t ys order final e
depth-first zero t (n ∷ xs) ys order final e = bad_not n final e
depth-first (suc turns) t [] ys order final e = part-done (suc turns) t ys order final e
depth-first (suc turns) t (n ∷ xs) ys order final e =
    part_cases turns t n xs ys order final (λ p o h. depth-first turns t p ys o final h) (ltb n t.node_limit) (member n order) (fresh t.entry_limit (chains t order) (chain_of t n)) refl refl refl e
