-- A second move of what was moved: its visit meets 0, 1, 2 and so on, their entries stand in the same order, and every record stays where it
-- is. The visit of the moved stores mirrors the first, turn by turn. Assumes nothing.
use mathlib.Core.Path.{◌≡◌, refl, sym, ap, ap₂, subst, ◌∙◌}
use Prim.Native.Nat.{ℕ, zero, suc, ◌+◌, ◌-◌, ◌≤◌, ◌<◌}
use native.Mathlib.Omega.{arith}
use mathlib.Core.Bool.{Bool, true, false, cond, not, ◌&&◌, ◌||◌}
use mathlib.Core.List.{List, [], ◌∷◌, ◌++◌, append_assoc, map}
use lib.ListN.{length, length-append}
use lib.Dec.{ltb, eqb}
use borrow.Author.Tests.{lt-ltb, eq-eqb, ne_eqb, eqb-true, eqb-false}
use Rattle.refusals.specs.Limits.{nothing}
use Rattle.clearing.specs.Lent.{padded}
use Rattle.grammar.specs.State.{node_at, node_cells, entry_cells}
use Rattle.keepvisit.specs.Visit.{Stores, stores, bad, visited, member, fresh, chains, chain_of, children, place_in, visit, visit_from}
use Rattle.keepvisit.proofs.Members.{never, member-append, member-cons_same, fresh-most}
use Rattle.keepvisit.proofs.Closed.{Closed, either, bad_not, member_right, visit-closed, kept-children, First, root_first}
use Rattle.keepvisit.proofs.Distinct.{visited-once}
use Rattle.keepvisit.proofs.Enough.{turns_enough}
use Rattle.keepmove.specs.Moved.{first_of, renewed, moved_nodes, relinked, moved_entries, run, nodes_after, entries_after}
use Rattle.keepmove.specs.Laid.{total}
use Rattle.keepmove.proofs.Laying.{length-chains}
use Rattle.keepmove.proofs.Same.{before, before-most, run-below, same_node, same_chain, same_children, place-below, shared}

map-append : (f : ℕ → ℕ) (xs ys : List ℕ) → map f (xs ++ ys) ≡ map f xs ++ map f ys
map-append f [] ys = refl
map-append f (x ∷ xs) ys = ap (λ r. f x ∷ r) (map-append f xs ys)

-- Numbers one behind another.

run_more : (at a b : ℕ) → run at (a + b) ≡ run at a ++ run (at + a) b
unfolding run
run_more at zero b = let e : 0 + b ≡ b = omega arith in let f : at ≡ at + 0 = omega arith in ap₂ run f e
run_more at (suc a) b =
    let e : suc a + b ≡ suc (a + b) = omega arith in
    let f : at + 1 + a ≡ at + suc a = omega arith in
    ap (run at) e ∙ ap (λ r. at ∷ r) (run_more (at + 1) a b ∙ ap (λ k. run (at + 1) a ++ run k b) f)

-- they are fresh where all that was met is below them
fresh-run : (limit : ℕ) (met : List ℕ) (at count : ℕ) → ((a : ℕ) → member a met ≡ true → a < at) → at + count ≤ limit → fresh limit met (run at count) ≡ true
unfolding fresh run
fresh-run limit met at zero h l = refl
fresh-run limit met at (suc more) h l =
    ap₂ (λ u v. u && (not v && fresh limit (at ∷ met) (run (at + 1) more))) (lt-ltb at limit (omega arith)) (absent (member at met) refl)
    ∙ fresh-run limit (at ∷ met) (at + 1) more (λ a m. either a at met m (λ e. omega (arith, e)) (λ k. omega (arith, h a k))) (omega arith)
  where
    absent : (b : Bool) → member at met ≡ b → b ≡ false
    absent true e = absurd (omega (arith, h at e))
    absent false e = refl

-- each is its own place among them
place-run : (at count i : ℕ) → i < count → place_in (run at count) (at + i) ≡ i
unfolding place_in run
place-run at zero i h = absurd (omega arith)
place-run at (suc more) zero h = ap (λ b. cond b zero (suc (place_in (run (at + 1) more) (at + 0)))) (eq-eqb (at + 0) at (omega arith))
place-run at (suc more) (suc i) h =
    let e : at + suc i ≡ at + 1 + i = omega arith in
    ap (λ b. cond b zero (suc (place_in (run (at + 1) more) (at + suc i)))) (ne_eqb (at + suc i) at (λ p. omega (arith, p)))
    ∙ ap suc (ap (place_in (run (at + 1) more)) e ∙ place-run (at + 1) more i (omega arith))

-- Lists without repetition: none of the second is in what stands before it.

abbrev Apart : List ℕ → List ℕ → Type 0
Apart front [] = Unit
Apart front (n ∷ rest) = (member n front ≡ false) × Apart (front ++ n ∷ []) rest

apart : (limit : ℕ) (met front rest : List ℕ) → ((a : ℕ) → member a met ≡ member a front) → fresh limit met rest ≡ true → Apart front rest
unfolding fresh member
apart limit met front [] s f = tt
apart limit met front (n ∷ rest) s f =
    let k = parts (ltb n limit) (member n met) (fresh limit (n ∷ met) rest) f in
    (sym (s n) ∙ k.0, apart limit (n ∷ met) (front ++ n ∷ []) rest (λ a. ap (λ b. eqb a n || b) (s a) ∙ last (eqb a n) (member a front) ∙ sym (member-append a front (n ∷ []))) k.1)
  where
    parts : (u v w : Bool) → (u && (not v && w)) ≡ true → (v ≡ false) × (w ≡ true)
    parts true true w h = never h
    parts true false w h = (refl, h)
    parts false v w h = never h

    last : (b m : Bool) → (b || m) ≡ (m || (b || false))
    last true true = refl
    last true false = refl
    last false true = refl
    last false false = refl

place-behind : (front : List ℕ) (n : ℕ) (back : List ℕ) → member n front ≡ false → place_in (front ++ n ∷ back) n ≡ length front
unfolding member place_in
place-behind [] n back h = ap (λ b. cond b zero (suc (place_in back n))) (eq-eqb n n refl)
place-behind (x ∷ xs) n back h = go (eqb n x) h (λ m. place-behind xs n back m)
  where
    go : (b : Bool) → (b || member n xs) ≡ false → (member n xs ≡ false → place_in (xs ++ n ∷ back) n ≡ length xs) → cond b zero (suc (place_in (xs ++ n ∷ back) n)) ≡ suc (length xs)
    go true h f = never (sym h)
    go false h f = ap suc (f h)

before-behind : (nodes front : List ℕ) (n : ℕ) (back : List ℕ) → member n front ≡ false → before nodes (front ++ n ∷ back) n ≡ total nodes front
unfolding member before total
before-behind nodes [] n back h = ap (λ b. cond b 0 ((node_at nodes n).count + before nodes back n)) (eq-eqb n n refl)
before-behind nodes (x ∷ xs) n back h = go (eqb n x) h (λ m. before-behind nodes xs n back m)
  where
    go : (b : Bool) → (b || member n xs) ≡ false → (member n xs ≡ false → before nodes (xs ++ n ∷ back) n ≡ total nodes xs)
        → cond b 0 ((node_at nodes x).count + before nodes (xs ++ n ∷ back) n) ≡ (node_at nodes x).count + total nodes xs
    go true h f = never (sym h)
    go false h f = ap (λ k. (node_at nodes x).count + k) (f h)

pub total-snoc : (nodes front : List ℕ) (n : ℕ) → total nodes (front ++ n ∷ []) ≡ total nodes front + (node_at nodes n).count
unfolding total
total-snoc nodes [] n = omega arith
total-snoc nodes (x ∷ xs) n = omega (arith, total-snoc nodes xs n)

in_numbers : (front rest : List ℕ) → Apart front rest → map (place_in (front ++ rest)) rest ≡ run (length front) (length rest)
unfolding run
in_numbers front [] a = refl
in_numbers front (n ∷ rest) a =
    ap₂ (λ x y. x ∷ y) (place-behind front n rest a.0)
    (ap (λ l. map (place_in l) rest) (sym (append_assoc front (n ∷ []) rest)) ∙ in_numbers (front ++ n ∷ []) rest a.1 ∙ ap (λ k. run k (length rest)) (length-append front (n ∷ [])))

-- the root is the first
pub place-root : (root : ℕ) (order : List ℕ) → First order root → place_in order root ≡ 0
unfolding place_in
place-root root order f = ap (λ o. place_in o root) f.is ∙ ap (λ b. cond b zero (suc (place_in f.more root))) (eq-eqb root root refl)

module _ (t : Stores) (root : ℕ) (final : List ℕ) (found : visit_from t root ≡ visited final) where
  abbrev place : ℕ → ℕ
  place n = place_in final n

  abbrev after : Stores
  after = stores (nodes_after t.nodes final) (entries_after t final) (length final) (length (chains t final))

  no_two : Apart [] final
  unfolding member
  no_two = apart t.node_limit [] [] final (λ a. refl) (visited-once t root final found).nodes

  pub numbered : map place final ≡ run 0 (length final)
  numbered = in_numbers [] final no_two

  -- what the moved nodes before one have of entries
  chains_of : (front xs back : List ℕ) → final ≡ front ++ (xs ++ back) → Apart front (xs ++ back) → chains after (map place xs) ≡ run (total t.nodes front) (total t.nodes xs)
  unfolding chains total run
  chains_of front [] back e a = refl
  chains_of front (n ∷ xs) back e a =
      ap₂ (λ x y. x ++ y)
      (same_chain t final n (ap (member n) e ∙ member_right n front (n ∷ xs ++ back) (member-cons_same n (xs ++ back))) (length final) (length (chains t final))
      ∙ ap (λ k. run k (node_at t.nodes n).count) (ap (λ l. before t.nodes l n) e ∙ before-behind t.nodes front n (xs ++ back) a.0))
      (chains_of (front ++ n ∷ []) xs back (e ∙ sym (append_assoc front (n ∷ []) (xs ++ back))) a.1 ∙ ap (λ k. run k (total t.nodes xs)) (total-snoc t.nodes front n))
      ∙ sym (run_more (total t.nodes front) (node_at t.nodes n).count (total t.nodes xs))

  same_test : (n x : ℕ) → member n final ≡ true → member x final ≡ true → eqb (place n) (place x) ≡ eqb n x
  same_test n x h k = go (eqb n x) refl
    where
      go : (b : Bool) → eqb n x ≡ b → eqb (place n) (place x) ≡ b
      go true e = eq-eqb (place n) (place x) (ap place (eqb-true n x e))
      go false e = ne_eqb (place n) (place x) (λ p. eqb-false n x e (shared final n x h k p))

  member_same : (n : ℕ) → member n final ≡ true → (xs : List ℕ) → ((a : ℕ) → member a xs ≡ true → member a final ≡ true) → member (place n) (map place xs) ≡ member n xs
  unfolding member
  member_same n h [] k = refl
  member_same n h (x ∷ xs) k =
      ap₂ (λ a b. a || b) (same_test n x h (k x (member-cons_same x xs))) (member_same n h xs (λ a m. k a (member_right a (x ∷ []) xs m)))

  -- a new node's entries are fresh there too: they stand behind all that was met
  fresh-there : (n : ℕ) (order more : List ℕ) → final ≡ order ++ (n ∷ more) → member n order ≡ false → fresh (length (chains t final)) (chains after (map place order)) (chain_of after (place n)) ≡ true
  unfolding total
  fresh-there n order more e q =
      let h : member n final ≡ true = ap (member n) e ∙ member_right n order (n ∷ more) (member-cons_same n more) in
      let at : before t.nodes final n ≡ total t.nodes order = ap (λ l. before t.nodes l n) e ∙ before-behind t.nodes order n more q in
      ap₂ (λ x y. fresh (length (chains t final)) x y) (chains_of [] order (n ∷ more) e (subst (λ l. Apart [] l) e no_two))
      (same_chain t final n h (length final) (length (chains t final)) ∙ ap (λ k. run k (node_at t.nodes n).count) at)
      ∙ fresh-run (length (chains t final)) (run 0 (total t.nodes order)) (total t.nodes order) (node_at t.nodes n).count
      (λ a m. omega (arith, run-below 0 (total t.nodes order) a m)) (omega (arith, at, before-most t.nodes final n h, length-chains t final))

  mirror_cases : (turns n : ℕ) (pending order : List ℕ)
      → ((p o : List ℕ) → visit turns t p o ≡ visited final → visit turns after (map place p) (map place o) ≡ visited (map place final))
      → Closed t (n ∷ pending) order final → (u v w : Bool) → member n order ≡ v
      → cond u (cond v (visit turns t pending order) (cond w (visit turns t (children t n ++ pending) (order ++ n ∷ [])) (bad n))) (bad n) ≡ visited final
      → cond (ltb (place n) (length final))
      (cond (member (place n) (map place order)) (visit turns after (map place pending) (map place order))
      (cond (fresh (length (chains t final)) (chains after (map place order)) (chain_of after (place n)))
      (visit turns after (children after (place n) ++ map place pending) (map place order ++ place n ∷ [])) (bad (place n))))
      (bad (place n))
      ≡ visited (map place final)
  mirror_cases turns n pending order ih c true v w q e =
      let h : member n final ≡ true = c.reaches n (member-cons_same n pending) in
      ap₂ (λ a b. cond a (cond b (visit turns after (map place pending) (map place order)) (cond (fresh (length (chains t final)) (chains after (map place order)) (chain_of after (place n)))
      (visit turns after (children after (place n) ++ map place pending) (map place order ++ place n ∷ [])) (bad (place n)))) (bad (place n)))
      (lt-ltb (place n) (length final) (place-below final n h)) (member_same n h order (λ a m. ap (member a) c.is ∙ left a order c.more m) ∙ q)
      ∙ by_test v w q e h
    where
      left : (a : ℕ) (xs ys : List ℕ) → member a xs ≡ true → member a (xs ++ ys) ≡ true
      left a xs ys m = member-append a xs ys ∙ ap (λ b. b || member a ys) m

      by_test : (v w : Bool) → member n order ≡ v → cond v (visit turns t pending order) (cond w (visit turns t (children t n ++ pending) (order ++ n ∷ [])) (bad n)) ≡ visited final → member n final ≡ true
          → cond v (visit turns after (map place pending) (map place order))
          (cond (fresh (length (chains t final)) (chains after (map place order)) (chain_of after (place n)))
          (visit turns after (children after (place n) ++ map place pending) (map place order ++ place n ∷ [])) (bad (place n)))
          ≡ visited (map place final)
      by_test true w q e h = ih pending order e
      by_test false true q e h =
          let k = visit-closed turns t (children t n ++ pending) (order ++ n ∷ []) final e in
          ap (λ b. cond b (visit turns after (children after (place n) ++ map place pending) (map place order ++ place n ∷ [])) (bad (place n)))
          (fresh-there n order k.more (k.is ∙ append_assoc order (n ∷ []) k.more) q)
          ∙ ap₂ (λ p o. visit turns after p o)
          (ap (λ l. l ++ map place pending) (same_children t final n h (length final) (length (chains t final))) ∙ sym (map-append place (children t n) pending)) (sym (map-append place order (n ∷ [])))
          ∙ ih (children t n ++ pending) (order ++ n ∷ []) e
      by_test false false q e h = bad_not n final e
  mirror_cases turns n pending order ih c false v w q e = bad_not n final e

  mirror_done : (order : List ℕ) → visited order ≡ visited final → visited (map place order) ≡ visited (map place final)
  mirror_done order e = let same : order ≡ final = cc in ap (λ o. visited (map place o)) same

  mirror : (turns : ℕ) (pending order : List ℕ) → visit turns t pending order ≡ visited final → visit turns after (map place pending) (map place order) ≡ visited (map place final)
  unfolding visit
  mirror zero [] order e = mirror_done order e
  mirror zero (n ∷ pending) order e = bad_not n final e
  mirror (suc turns) [] order e = mirror_done order e
  mirror (suc turns) (n ∷ pending) order e =
      mirror_cases turns n pending order (λ p o h. mirror turns p o h) (visit-closed (suc turns) t (n ∷ pending) order final e) (ltb n t.node_limit) (member n order)
      (fresh t.entry_limit (chains t order) (chain_of t n)) refl e

  -- the second visit meets the nodes in the order of their numbers
  pub in_order : visit_from after 0 ≡ visited (run 0 (length final))
  in_order =
      let few : length (chains t final) ≤ t.entry_limit = fresh-most t.entry_limit (chains t final) (visited-once t root final found).entries in
      let all : suc (length (chains t final)) + (t.entry_limit - length (chains t final)) ≡ suc t.entry_limit = omega arith in
      sym (turns_enough (t.entry_limit - length (chains t final)) after 0)
      ∙ ap (λ k. visit k after (0 ∷ []) []) all
      ∙ ap (λ r. visit (suc t.entry_limit) after (r ∷ []) []) (sym (place-root root final (root_first t root final found)))
      ∙ mirror (suc t.entry_limit) (root ∷ []) [] found
      ∙ ap visited numbered

  -- and their entries, container by container, in the order of theirs
  pub entries_in-order : chains after (run 0 (length final)) ≡ run 0 (length (chains t final))
  unfolding total
  entries_in-order =
      ap (chains after) (sym numbered) ∙ chains_of [] final [] (sym (no_more final)) (subst (λ l. Apart [] l) (sym (no_more final)) no_two) ∙ ap (run 0) (sym (length-chains t final))
    where
      no_more : (xs : List ℕ) → xs ++ [] ≡ xs
      no_more [] = refl
      no_more (x ∷ xs) = ap (λ r. x ∷ r) (no_more xs)

  -- Every record stays where it is.

  abbrev In : List ℕ → Type 0
  In xs = (a : ℕ) → member a xs ≡ true → member a final ≡ true

  rest_in : (n : ℕ) (xs : List ℕ) → In (n ∷ xs) → In xs
  rest_in n xs k a m = k a (member_right a (n ∷ []) xs m)

  nodes_still : (at : ℕ) (xs : List ℕ) → In xs → moved_nodes after.nodes at (map place xs) ≡ moved_nodes t.nodes at xs
  unfolding moved_nodes
  nodes_still at [] k = refl
  nodes_still at (n ∷ xs) k =
      ap (λ r. renewed r (first_of r.count at) ∷ moved_nodes after.nodes (at + r.count) (map place xs)) (same_node t final n (k n (member-cons_same n xs)))
      ∙ ap (λ r. renewed (node_at t.nodes n) (first_of (node_at t.nodes n).count at) ∷ r) (nodes_still (at + (node_at t.nodes n).count) xs (rest_in n xs k))

  own_place : (c : ℕ) → member c final ≡ true → place_in (run 0 (length final)) (place c) ≡ place c
  own_place c m =
      let e : place c ≡ 0 + place c = omega arith in
      ap (place_in (run 0 (length final))) e ∙ place-run 0 (length final) (place c) (place-below final c m)

  relinked_still : (at : ℕ) (cs : List ℕ) → In cs → relinked (run 0 (length final)) at (map place cs) ≡ relinked final at cs
  unfolding relinked
  relinked_still at [] k = refl
  relinked_still at (c ∷ []) k = ap (λ p. record { child = p; next = nothing } ∷ []) (own_place c (k c (member-cons_same c [])))
  relinked_still at (c ∷ d ∷ cs) k =
      ap₂ (λ p r. record { child = p; next = at + 1 } ∷ r) (own_place c (k c (member-cons_same c (d ∷ cs)))) (relinked_still (at + 1) (d ∷ cs) (rest_in c (d ∷ cs) k))

  entries_still : (at : ℕ) (xs : List ℕ) → In xs → moved_entries after (run 0 (length final)) at (map place xs) ≡ moved_entries t final at xs
  unfolding moved_entries
  entries_still at [] k = refl
  entries_still at (n ∷ xs) k =
      let h = k n (member-cons_same n xs) in
      ap₂ (λ a b. a ++ b)
      (ap (relinked (run 0 (length final)) at) (same_children t final n h (length final) (length (chains t final))) ∙ relinked_still at (children t n) (λ c m. kept-children t root final found n h c m))
      (ap (λ r. moved_entries after (run 0 (length final)) (at + r.count) (map place xs)) (same_node t final n h) ∙ entries_still (at + (node_at t.nodes n).count) xs (rest_in n xs k))

  pub still_nodes : length after.nodes ≡ length t.nodes → nodes_after after.nodes (run 0 (length final)) ≡ after.nodes
  still_nodes l =
      ap₂ (λ m ns. padded m (node_cells ns)) l (ap (moved_nodes after.nodes 0) (sym numbered) ∙ nodes_still 0 final (λ a m. m))

  pub still_entries : length after.entries ≡ length t.entries → entries_after after (run 0 (length final)) ≡ after.entries
  still_entries l =
      ap₂ (λ m es. padded m (entry_cells es)) l (ap (moved_entries after (run 0 (length final)) 0) (sym numbered) ∙ entries_still 0 final (λ a m. m))
