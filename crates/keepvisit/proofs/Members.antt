-- Laws of membership and of fresh chains. Assumes nothing.
use mathlib.Core.Path.{◌≡◌, refl, ap, ap₂, ◌∙◌}
use Prim.Native.Nat.{ℕ, zero, suc, ◌+◌, ◌≤◌, ◌<◌}
use native.Mathlib.Omega.{arith}
use mathlib.Core.Bool.{Bool, true, false, not, ◌&&◌, ◌||◌}
use mathlib.Core.List.{List, [], ◌∷◌, ◌++◌, append-nil}
use lib.ListN.{length}
use lib.Dec.{ltb, eqb}
use borrow.Author.Tests.{ltb-true, eqb-true, eqb-false, eq-eqb, ne_eqb}
use Rattle.keepvisit.specs.Visit.{member, fresh}

or_in : (t u v w : Bool) → u ≡ (v || w) → (t || u) ≡ ((t || v) || w)
or_in true u v w h = refl
or_in false u v w h = h

pub member-append : (a : ℕ) (xs ys : List ℕ) → member a (xs ++ ys) ≡ (member a xs || member a ys)
unfolding member
member-append a [] ys = refl
member-append a (x ∷ xs) ys = or_in (eqb a x) (member a (xs ++ ys)) (member a xs) (member a ys) (member-append a xs ys)

or_swap : (s t u : Bool) → (s || (t || u)) ≡ (t || (s || u))
or_swap true true u = refl
or_swap true false u = refl
or_swap false t u = refl

pub member_move : (a e : ℕ) (met xs : List ℕ) → member a ((e ∷ met) ++ xs) ≡ member a (met ++ e ∷ xs)
unfolding member
member_move a e [] xs = refl
member_move a e (x ∷ met) xs =
    or_swap (eqb a e) (eqb a x) (member a (met ++ xs)) ∙ ap (λ t. eqb a x || t) (member_move a e met xs)

-- whether numbers are fresh depends on what was met as a set
pub fresh_same : (limit : ℕ) (met met' es : List ℕ) → ((a : ℕ) → member a met ≡ member a met') → fresh limit met es ≡ fresh limit met' es
unfolding fresh member
fresh_same limit met met' [] h = refl
fresh_same limit met met' (e ∷ es) h =
    ap₂ (λ s t. ltb e limit && (not s && t)) (h e) (fresh_same limit (e ∷ met) (e ∷ met') es (λ a. ap (λ t. eqb a e || t) (h a)))

and_in : (s t : Bool) {u v : Bool} → (s && (t && u)) ≡ true → (u ≡ true → v ≡ true) → (s && (t && v)) ≡ true
and_in true true p f = f p
and_in true false p f = p
and_in false t p f = p

pub fresh-append : (limit : ℕ) (met xs ys : List ℕ) → fresh limit met xs ≡ true → fresh limit (met ++ xs) ys ≡ true → fresh limit met (xs ++ ys) ≡ true
unfolding fresh
fresh-append limit met [] ys p q = rw append-nil at (q)
fresh-append limit met (x ∷ xs) ys p q =
    and_in (ltb x limit) (not (member x met)) p
    (λ h. fresh-append limit (x ∷ met) xs ys h (fresh_same limit ((x ∷ met) ++ xs) (met ++ x ∷ xs) ys (λ a. member_move a x met xs) ∙ q))

-- How many numbers below a limit are among these.
flag : Bool → ℕ
flag true = 1
flag false = 0

tally : ℕ → List ℕ → ℕ
tally zero met = 0
tally (suc n) met = flag (member n met) + tally n met

flag_le : (t : Bool) → flag t ≤ 1
unfolding flag
flag_le true = omega arith
flag_le false = omega arith

tally_le : (n : ℕ) (met : List ℕ) → tally n met ≤ n
unfolding tally
tally_le zero met = omega arith
tally_le (suc n) met = omega (arith, flag_le (member n met), tally_le n met)

pub member-cons-other : (a e : ℕ) (met : List ℕ) → (a ≡ e → ⊥) → member a (e ∷ met) ≡ member a met
unfolding member
member-cons-other a e met h = ap (λ t. t || member a met) (ne_eqb a e h)

pub member-cons_same : (e : ℕ) (met : List ℕ) → member e (e ∷ met) ≡ true
unfolding member
member-cons_same e met = ap (λ t. t || member e met) (eq-eqb e e refl)

tally_above : (n e : ℕ) (met : List ℕ) → n ≤ e → tally n (e ∷ met) ≡ tally n met
unfolding tally
tally_above zero e met h = refl
tally_above (suc n) e met h =
    ap₂ (λ s t. flag s + t) (member-cons-other n e met (λ p. omega arith)) (tally_above n e met (omega arith))

below : (n e : ℕ) → e < suc n → (n ≡ e → ⊥) → e < n
below n e h o = omega arith

tally_at : (n e : ℕ) (met : List ℕ) → e < suc n → member e met ≡ false → (e < n → tally n (e ∷ met) ≡ suc (tally n met)) → (t : Bool) → eqb n e ≡ t
    → flag (member n (e ∷ met)) + tally n (e ∷ met) ≡ suc (flag (member n met) + tally n met)
unfolding flag
tally_at n e met h p ih true q =
    let same : n ≡ e = eqb-true n e q in
    let one : flag (member n (e ∷ met)) ≡ 1 = ap (λ a. flag (member a (e ∷ met))) same ∙ ap flag (member-cons_same e met) in
    let none : flag (member n met) ≡ 0 = ap (λ a. flag (member a met)) same ∙ ap flag p in
    omega (arith, tally_above n e met (omega arith))
tally_at n e met h p ih false q =
    let other : n ≡ e → ⊥ = eqb-false n e q in
    let one : flag (member n (e ∷ met)) ≡ flag (member n met) = ap flag (member-cons-other n e met other) in
    omega (arith, ih (below n e h other))

tally_more : (n e : ℕ) (met : List ℕ) → e < n → member e met ≡ false → tally n (e ∷ met) ≡ suc (tally n met)
unfolding tally
tally_more zero e met h p = absurd (omega arith)
tally_more (suc n) e met h p = tally_at n e met h p (λ l. tally_more n e met l p) (eqb n e) refl

-- Numbers that are fresh are at most as many as there are below the limit and not met yet.
pub never : {A : Type 0} → false ≡ true → A
never h = absurd (let w : ◌≡◌ {A = ℕ} 0 1 = cc in omega arith)

room_at : (limit e : ℕ) (met es : List ℕ) → (fresh limit (e ∷ met) es ≡ true → tally limit (e ∷ met) + length es ≤ limit) → (s t : Bool) → ltb e limit ≡ s → member e met ≡ t
    → (s && (not t && fresh limit (e ∷ met) es)) ≡ true → tally limit met + suc (length es) ≤ limit
room_at limit e met es ih true true p q h = never h
room_at limit e met es ih true false p q h = omega (arith, ih h, tally_more limit e met (ltb-true e limit p) q)
room_at limit e met es ih false t p q h = never h

fresh-room : (limit : ℕ) (met es : List ℕ) → fresh limit met es ≡ true → tally limit met + length es ≤ limit
unfolding fresh
fresh-room limit met [] h = omega (arith, tally_le limit met)
fresh-room limit met (e ∷ es) h = room_at limit e met es (λ p. fresh-room limit (e ∷ met) es p) (ltb e limit) (member e met) refl refl h

tally_none : (n : ℕ) → tally n [] ≡ 0
unfolding member tally flag
tally_none zero = refl
tally_none (suc n) = omega (arith, tally_none n)

pub fresh-most : (limit : ℕ) (es : List ℕ) → fresh limit [] es ≡ true → length es ≤ limit
fresh-most limit es h = omega (arith, fresh-room limit [] es h, tally_none limit)
