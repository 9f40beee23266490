-- Tests on every member of a list, and the answer to the question where no chain fails: the children that each node inside names are inside.
-- Assumes nothing.
use mathlib.Core.Path.{◌≡◌, refl}
use Prim.Native.Nat.{ℕ, zero, suc, ◌+◌, ◌≤◌, ◌<◌}
use native.Mathlib.Omega.{arith}
use mathlib.Core.Bool.{Bool, true, false, cond, ◌&&◌}
use mathlib.Core.Option.{Option, none, some}
use mathlib.Core.List.{List, [], ◌∷◌}
use lib.Dec.{leb, ltb, eqb}
use borrow.Author.Tests.{ltb-true, leb-true, ltb-false, lt-ltb, le-leb, eqb-true, eqb-false}
use Rattle.grammar.specs.Letters.{among}
use Rattle.grammar.specs.Fields.{le32}
use Rattle.grammar.specs.State.{start}
use Rattle.grammar.specs.Record.{Tables, nodes_in, node_of, chain}
use Rattle.grammar.proofs.Tests.{both_true, never}
use Rattle.nodespan.specs.Span.{inside, all_inside, all_used}
use Rattle.alone.specs.Question.{all_named}
use Rattle.alone.proofs.KinSteps.{among_self, among_later}

-- Tests on every member of a list.

among_more : (P : ℕ → Type 0) (v : ℕ) (vs : List ℕ) → P v → ((w : ℕ) → among w vs ≡ true → P w) → (w : ℕ) → among w (v ∷ vs) ≡ true → P w
among_more P v vs p f w m = go (eqb w v) refl m
  where
    go : (b : Bool) → eqb w v ≡ b → cond b true (among w vs) ≡ true → P w
    go true e q = rw (eqb-true w v e) p
    go false e q = f w q

pub inside-each : (t : Tables) (source start end : ℕ) (vs : List ℕ) → all_inside t source start end vs ≡ true → (w : ℕ) → among w vs ≡ true → inside t source start end w ≡ true
unfolding all_inside
inside-each t source start end [] e w m = never m
inside-each t source start end (v ∷ vs) e w m =
    let b = both_true (inside t source start end v) (all_inside t source start end vs) e in
    among_more (λ w. inside t source start end w ≡ true) v vs b.0 (inside-each t source start end vs b.1) w m

pub each-inside : (t : Tables) (source start end : ℕ) (vs : List ℕ) → ((w : ℕ) → among w vs ≡ true → inside t source start end w ≡ true) → all_inside t source start end vs ≡ true
unfolding all_inside
each-inside t source start end [] f = refl
each-inside t source start end (v ∷ vs) f = rw (f v (among_self v vs)) (each-inside t source start end vs (λ w m. f w (among_later w v vs m)))

pub each-used : (t : Tables) (vs : List ℕ) → ((w : ℕ) → among w vs ≡ true → w < nodes_in t.nodes t.used_nodes) → all_used t vs ≡ true
unfolding all_used
each-used t [] f = refl
each-used t (v ∷ vs) f = rw (lt-ltb v (nodes_in t.nodes t.used_nodes) (f v (among_self v vs))) (each-used t vs (λ w m. f w (among_later w v vs m)))

pub named_each : (s : List ℕ) (lo hi : ℕ) (rs : List ℕ) → all_named s lo hi rs ≡ true → (r : ℕ) → among r rs ≡ true → (lo ≤ le32 s r) × (le32 s r < hi)
unfolding all_named
named_each s lo hi [] e r m = never m
named_each s lo hi (x ∷ xs) e r m =
    let a = both_true (leb lo (le32 s x) && ltb (le32 s x) hi) (all_named s lo hi xs) e in
    let b = both_true (leb lo (le32 s x)) (ltb (le32 s x) hi) a.0 in
    among_more (λ r. (lo ≤ le32 s r) × (le32 s r < hi)) x xs (leb-true lo (le32 s x) b.0, ltb-true (le32 s x) hi b.1) (named_each s lo hi xs a.1) r m

pub each_named : (s : List ℕ) (lo hi : ℕ) (rs : List ℕ) → ((r : ℕ) → among r rs ≡ true → (lo ≤ le32 s r) × (le32 s r < hi)) → all_named s lo hi rs ≡ true
unfolding all_named
each_named s lo hi [] f = refl
each_named s lo hi (x ∷ xs) f =
    let p = f x (among_self x xs) in
    rw (le-leb lo (le32 s x) p.0, lt-ltb (le32 s x) hi p.1) (each_named s lo hi xs (λ r m. f r (among_later r x xs m)))

-- The answer where no chain fails: the children that each node inside names are inside.

abbrev pub children_of : Option (List ℕ) → List ℕ
children_of none = []
children_of (some vs) = vs

abbrev pub kids_at : Tables → ℕ → List ℕ
kids_at t m = children_of (chain t (node_of t m).count (node_of t m).first)

unfoldable pub every : Tables → (source start end more node : ℕ) → Bool
every t source a e zero m = true
every t source a e (suc more) m = cond (inside t source a e m) (all_inside t source a e (kids_at t m) && every t source a e more (m + 1)) (every t source a e more (m + 1))

pub every_each : (t : Tables) (source a e more m : ℕ) → every t source a e more m ≡ true → (k : ℕ) → m ≤ k → k < m + more → inside t source a e k ≡ true → all_inside t source a e (kids_at t k) ≡ true
unfolding every
every_each t source a e zero m q k lo hi i = absurd (omega arith)
every_each t source a e (suc more) m q k lo hi i = go (eqb k m) refl (λ z l. every_each t source a e more (m + 1) z k l (omega arith) i)
  where
    next : (b : Bool) → cond b (all_inside t source a e (kids_at t m) && every t source a e more (m + 1)) (every t source a e more (m + 1)) ≡ true → every t source a e more (m + 1) ≡ true
    next true z = (both_true (all_inside t source a e (kids_at t m)) (every t source a e more (m + 1)) z).1
    next false z = z

    here : (b : Bool) → b ≡ true → cond b (all_inside t source a e (kids_at t m) && every t source a e more (m + 1)) (every t source a e more (m + 1)) ≡ true → all_inside t source a e (kids_at t m) ≡ true
    here true y z = (both_true (all_inside t source a e (kids_at t m)) (every t source a e more (m + 1)) z).0
    here false y z = never y

    go : (b : Bool) → eqb k m ≡ b → (every t source a e more (m + 1) ≡ true → m + 1 ≤ k → all_inside t source a e (kids_at t k) ≡ true) → all_inside t source a e (kids_at t k) ≡ true
    go true z again =
        let y : k ≡ m = eqb-true k m z in
        rw y (here (inside t source a e m) (rw y at i) q)
    go false z again = again (next (inside t source a e m) q) (apart z)
      where
        apart : eqb k m ≡ false → m + 1 ≤ k
        apart z = strictly (ltb m k) refl
          where
            strictly : (b : Bool) → ltb m k ≡ b → m + 1 ≤ k
            strictly true y = omega (arith, ltb-true m k y)
            strictly false y = absurd (eqb-false k m z (omega (arith, ltb-false m k y)))

pub each_every : (t : Tables) (source a e more m : ℕ) → ((k : ℕ) → m ≤ k → k < m + more → inside t source a e k ≡ true → all_inside t source a e (kids_at t k) ≡ true) → every t source a e more m ≡ true
unfolding every
each_every t source a e zero m f = refl
each_every t source a e (suc more) m f =
    go (inside t source a e m) (λ i. f m (omega arith) (omega arith) i) (each_every t source a e more (m + 1) (λ k lo hi i. f k (omega arith) (omega arith) i))
  where
    go : (b : Bool) → (b ≡ true → all_inside t source a e (kids_at t m) ≡ true) → every t source a e more (m + 1) ≡ true
        → cond b (all_inside t source a e (kids_at t m) && every t source a e more (m + 1)) (every t source a e more (m + 1)) ≡ true
    go true h q = rw (h refl, q) refl
    go false h q = q
