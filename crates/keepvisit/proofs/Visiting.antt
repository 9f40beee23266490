-- The visit with its pending nodes at the end of the scratch: what stands there, and a turn of its loop. Assumes nothing.
use mathlib.Core.Path.{◌≡◌, refl, sym, ap, ap₂, subst, ◌∙◌}
use Prim.Native.Nat.{ℕ, zero, suc, ◌+◌, ◌-◌, ◌*◌, ◌≤◌, ◌<◌}
use native.Mathlib.Omega.{arith}
use native.Mathlib.Numerals.{add-one}
use mathlib.Core.Bool.{Bool, true, false}
use mathlib.Core.List.{List, [], ◌∷◌, ◌++◌}
use lib.ListN.{length, get_or, set, take, drop, length-append, length-set, drop_of_length-le, get_or-replicate}
use lib.Seq.{sets, length-sets, take-set-le, take-suc-set, take-take, drop-drop, drop-set-lt, drop-cons, get_or-take, get_or-set_same, get_or-set_other}
use lib.Dec.{eqb}
use borrow.Author.Tests.{lt-ltb, le-ltb, eqb-true, eqb-false}
use Rattle.grammar.specs.State.{node_at}
use Rattle.std.specs.Prelude.{Result, Ok}
use Rattle.refusals.specs.Faults.{refused}
use Rattle.refusals.specs.declared.Fault.{Fault}
use Rattle.refusals.specs.declared.Refusal.TheVariants.{BadTable}
use Rattle.keepvisit.specs.declared.Seen.{Seen}
use Rattle.keepvisit.specs.Visit.{Stores, stores, bad, visited, member, fresh, linked, children_of, children, chain_of, chains, visit, visit_from}
use Rattle.keepvisit.specs.Found.{flag, rank, Marked, Marks, Answers, Room}
use Rattle.keepvisit.proofs.Members.{fresh-append, fresh-most}
use Rattle.keepvisit.proofs.Pushing.{length-linked, length-children_of}
use Rattle.keepvisit.proofs.Ranks.{rank_seen, rank_new, rank_same, rank-other, chains-snoc, take-sets, get_d_sets, drop-sets}

-- A turn, by its four cases.
module _ (turns : ℕ) (t : Stores) (n : ℕ) (pending order : List ℕ) where
  visit-bad : t.node_limit ≤ n → visit (suc turns) t (n ∷ pending) order ≡ bad n
  unfolding visit
  visit-bad h = rw (le-ltb n t.node_limit h)

  visit_seen : n < t.node_limit → member n order ≡ true → visit (suc turns) t (n ∷ pending) order ≡ visit turns t pending order
  unfolding visit
  visit_seen h m = rw (lt-ltb n t.node_limit h, m)

  visit-refused : n < t.node_limit → member n order ≡ false → fresh t.entry_limit (chains t order) (chain_of t n) ≡ false
      → visit (suc turns) t (n ∷ pending) order ≡ bad n
  unfolding visit
  visit-refused h m f = rw (lt-ltb n t.node_limit h, m, f)

  visit-enter : n < t.node_limit → member n order ≡ false → fresh t.entry_limit (chains t order) (chain_of t n) ≡ true
      → visit (suc turns) t (n ∷ pending) order ≡ visit turns t (children t n ++ pending) (order ++ n ∷ [])
  unfolding visit
  visit-enter h m f = rw (lt-ltb n t.node_limit h, m, f)

visit-done : (turns : ℕ) (t : Stores) (order : List ℕ) → visit turns t [] order ≡ visited order
unfolding visit
visit-done zero t order = refl
visit-done (suc turns) t order = refl

-- What the scratch holds when these nodes were visited.
pub record Visiting (t : Stores) (order s : List ℕ) : Type 0 where
  pub ordered : take (length order) s ≡ order
  pub ranked : (a : ℕ) → a < t.node_limit → get_or s (t.node_limit + a) 0 ≡ rank order a
  pub marked : Marked (t.node_limit * 2) t.entry_limit (chains t order) s
  pub distinct : fresh t.node_limit [] order ≡ true
  pub whole : fresh t.entry_limit [] (chains t order) ≡ true

-- The numbers: there is a turn for each pending node and each entry not met, and the pending nodes stand behind the marks.
pub record Counts (bound limit size kept moved top turns : ℕ) : Type 0 where
  pub fuel : turns + moved + top ≡ limit + size
  pub within : top ≤ size
  pub low : size ≤ top + moved + 1
  pub kept_most : kept ≤ bound
  pub moved_most : moved ≤ limit
  pub room : bound * 3 + limit * 2 ≤ size
  pub some : 0 < bound
  pub most : bound ≤ 1048576
  pub most_entries : limit ≤ 1048576

pub record Searching (t : Stores) (root size : ℕ) (s : List ℕ) (kept moved top : ℕ) : Type 0 where
  pub sized : length s ≡ size
  pub order : List ℕ
  pub turns : ℕ
  pub comes : visit_from t root ≡ visit turns t (drop top s) order
  pub holds : Visiting t order s
  pub keeps : kept ≡ length order
  pub moves : moved ≡ length (chains t order)
  pub counts : Counts t.node_limit t.entry_limit (length s) kept moved top turns

-- The ways out.

refused_lem : (t : Stores) (root n : ℕ) (s : List ℕ) → visit_from t root ≡ bad n → Answers t (visit_from t root) (refused BadTable n) s
refused_lem t root n s e = subst (λ v. Answers t v (refused BadTable n) s) (sym e) refl

-- one pending node is taken
module _ {t : Stores} {root size : ℕ} {s : List ℕ} {kept moved top : ℕ} (w : Searching t root size s kept moved top) (h : top < length s) where
  taken : visit_from t root ≡ visit (suc (w.turns - 1)) t (get_or s top 0 ∷ drop (suc top) s) w.order
  taken =
      let c = w.counts in
      let some : w.turns ≡ suc (w.turns - 1) = omega arith in
      w.comes ∙ ap₂ (λ m p. visit m t p w.order) some (drop-cons s top 0 h)

  pub beyond : t.node_limit ≤ get_or s top 0 → Answers t (visit_from t root) (refused BadTable (get_or s top 0)) s
  beyond o = refused_lem t root (get_or s top 0) s (taken ∙ visit-bad (w.turns - 1) t (get_or s top 0) (drop (suc top) s) w.order o)

  pub passed : get_or s top 0 < t.node_limit → (get_or s (t.node_limit + get_or s top 0) 0 ≡ 0 → ⊥) → Searching t root size s kept moved (top + 1)
  passed o z =
      let c = w.counts in
      record {
        sized = w.sized;
        order = w.order;
        turns = w.turns - 1;
        comes =
            taken
            ∙ visit_seen (w.turns - 1) t (get_or s top 0) (drop (suc top) s) w.order o
            (rank_seen w.order (get_or s top 0) (λ p. z (w.holds.ranked (get_or s top 0) o ∙ p)))
            ∙ ap (λ i. visit (w.turns - 1) t (drop i s) w.order) (sym (add-one top));
        holds = w.holds;
        keeps = w.keeps;
        moves = w.moves;
        counts = omega arith;
      }

pub finished : {t : Stores} {root size : ℕ} {s : List ℕ} {kept moved top : ℕ} → Searching t root size s kept moved top → length s ≤ top
    → Answers t (visit_from t root) (Ok (record { kept = kept; moved = moved })) s
finished {t} {root} {size} {s} {kept} {moved} {top} w h =
    let c = w.counts in
    let all : visit_from t root ≡ visited w.order =
    w.comes ∙ ap (λ p. visit w.turns t p w.order) (drop_of_length-le s {i = top} h) ∙ visit-done w.turns t w.order in
    subst (λ v. Answers t v (Ok (record { kept = kept; moved = moved })) s) (sym all) (
      ap₂ (λ (k m : ℕ). Ok (record { kept = k; moved = m })) w.keeps w.moves,
      record {
        ordered = w.holds.ordered;
        ranked = w.holds.ranked;
        distinct = w.holds.distinct;
        nodes = fresh-most t.node_limit w.order w.holds.distinct;
        entries = fresh-most t.entry_limit (chains t w.order) w.holds.whole;
      },
    )

-- A new node is entered.
record Entering (t : Stores) (order s : List ℕ) (n count first : ℕ) (s₁ : List ℕ) (top : ℕ) : Type 0 where
  holds : Visiting t order s
  inside : n < t.node_limit
  new : member n order ≡ false
  chain : chain_of t n ≡ linked t.entries count first
  marks : Marks t.entries (t.node_limit * 2) t.entry_limit count first s s₁ true
  room : t.node_limit * 3 + t.entry_limit * 2 ≤ length s
  low : length s ≤ top + length (chains t order) + 1
  within : suc top ≤ length s

module _ {t : Stores} {order s : List ℕ} {n count first : ℕ} {s₁ : List ℕ} {top : ℕ} (w : Entering t order s n count first s₁ top) where
  fresh-chain : fresh t.entry_limit (chains t order) (chain_of t n) ≡ true
  fresh-chain = ap (fresh t.entry_limit (chains t order)) w.chain ∙ sym (w.marks.exact (chains t order) w.holds.marked)

  more_distinct : fresh t.node_limit [] (order ++ n ∷ []) ≡ true
  unfolding fresh
  more_distinct = fresh-append t.node_limit [] order (n ∷ []) w.holds.distinct (rw (lt-ltb n t.node_limit w.inside, w.new))

  more_whole : fresh t.entry_limit [] (chains t (order ++ n ∷ [])) ≡ true
  more_whole =
      ap (fresh t.entry_limit []) (chains-snoc t order n)
      ∙ fresh-append t.entry_limit [] (chains t order) (chain_of t n) w.holds.whole fresh-chain

  more_nodes : suc (length order) ≤ t.node_limit
  more_nodes = omega (arith, fresh-most t.node_limit (order ++ n ∷ []) more_distinct, length-append order (n ∷ []))

  length-chain : length (chain_of t n) ≡ count
  length-chain = ap length w.chain ∙ length-linked t.entries count first

  length_more : length (chains t (order ++ n ∷ [])) ≡ length (chains t order) + count
  length_more = ap length (chains-snoc t order n) ∙ omega (arith, length-append (chains t order) (chain_of t n), length-chain)

  more_entries : length (chains t order) + count ≤ t.entry_limit
  more_entries = omega (arith, fresh-most t.entry_limit (chains t (order ++ n ∷ [])) more_whole, length_more)

  -- the scratch then
  kids : List ℕ
  kids = children_of t.entries (linked t.entries count first)

  named : List ℕ
  named = set (set s₁ (length order) n) (t.node_limit + n) (suc (length order))

  after : List ℕ
  after = sets named (suc top - count) kids

  length-kids : length kids ≡ count
  unfolding kids
  length-kids = length-children_of t.entries (linked t.entries count first) ∙ length-linked t.entries count first

  length_named : length named ≡ length s
  unfolding named
  length_named =
      length-set (set s₁ (length order) n) (t.node_limit + n) (suc (length order)) ∙ length-set s₁ (length order) n ∙ w.marks.same

  length-after : length after ≡ length s
  unfolding after
  length-after = length-sets named (suc top - count) kids ∙ length_named

  above : t.node_limit * 2 + t.entry_limit ≤ suc top - count
  above = omega (arith, more_entries, more_nodes, w.low, w.room)

  fits : suc top - count + count ≡ suc top
  fits = omega (arith, more_entries, more_nodes, w.low, w.room)

  front_same : (k : ℕ) → k ≤ t.node_limit * 2 → take k s₁ ≡ take k s
  front_same k l = sym (take-take k (t.node_limit * 2) s₁ l) ∙ ap (take k) w.marks.front ∙ take-take k (t.node_limit * 2) s l

  front_at : (i : ℕ) → i < t.node_limit * 2 → get_or s₁ i 0 ≡ get_or s i 0
  front_at i l = sym (get_or-take (t.node_limit * 2) s₁ i 0 l) ∙ ap (λ x. get_or x i 0) w.marks.front ∙ get_or-take (t.node_limit * 2) s i 0 l

  more_ordered : take (length (order ++ n ∷ [])) after ≡ order ++ n ∷ []
  unfolding after named
  more_ordered =
      let l : length (order ++ n ∷ []) ≡ suc (length order) = omega (arith, length-append order (n ∷ [])) in
      ap (λ k. take k after) l
      ∙ take-sets (suc (length order)) named (suc top - count) kids (omega (arith, above, more_nodes))
      ∙ take-set-le (suc (length order)) (set s₁ (length order) n) (t.node_limit + n) (suc (length order)) (omega (arith, more_nodes))
      ∙ take-suc-set s₁ (length order) n (omega (arith, more_nodes, w.room, w.marks.same))
      ∙ ap (λ x. x ++ n ∷ []) (front_same (length order) (omega (arith, more_nodes)) ∙ w.holds.ordered)

  rank_at : (a : ℕ) → a < t.node_limit → (b : Bool) → eqb a n ≡ b → get_or named (t.node_limit + a) 0 ≡ rank (order ++ n ∷ []) a
  unfolding named
  rank_at a l true q =
      let same : a ≡ n = eqb-true a n q in
      rw same
      (get_or-set_same (set s₁ (length order) n) (t.node_limit + n) (suc (length order)) 0
      (omega (arith, length-set s₁ (length order) n, w.marks.same, w.room, w.inside))
      ∙ sym (rank_same order n w.new))
  rank_at a l false q =
      let other : a ≡ n → ⊥ = eqb-false a n q in
      get_or-set_other (set s₁ (length order) n) (t.node_limit + n) (t.node_limit + a) (suc (length order)) 0 (λ p. other (omega arith))
      ∙ get_or-set_other s₁ (length order) (t.node_limit + a) n 0 (λ p. absurd (omega (arith, more_nodes)))
      ∙ front_at (t.node_limit + a) (omega arith)
      ∙ w.holds.ranked a l
      ∙ sym (rank-other order n a other)

  more_ranked : (a : ℕ) → a < t.node_limit → get_or after (t.node_limit + a) 0 ≡ rank (order ++ n ∷ []) a
  unfolding after
  more_ranked a l = get_d_sets named (suc top - count) kids (t.node_limit + a) (omega (arith, above)) ∙ rank_at a l (eqb a n) refl

  mark_at : (e : ℕ) → e < t.entry_limit → get_or after (t.node_limit * 2 + e) 0 ≡ get_or s₁ (t.node_limit * 2 + e) 0
  unfolding after named
  mark_at e l =
      get_d_sets named (suc top - count) kids (t.node_limit * 2 + e) (omega (arith, above))
      ∙ get_or-set_other (set s₁ (length order) n) (t.node_limit + n) (t.node_limit * 2 + e) (suc (length order)) 0 (λ p. omega (arith, w.inside))
      ∙ get_or-set_other s₁ (length order) (t.node_limit * 2 + e) n 0 (λ p. omega (arith, more_nodes))

  more_marked : Marked (t.node_limit * 2) t.entry_limit (chains t (order ++ n ∷ [])) after
  more_marked =
      record {
        at = λ e l.
            mark_at e l
            ∙ (w.marks.marked (chains t order) w.holds.marked refl).at e l
            ∙ ap (λ x. flag (member e (chains t order ++ x))) (sym w.chain)
            ∙ ap (λ x. flag (member e x)) (sym (chains-snoc t order n));
      }

  more_holds : Visiting t (order ++ n ∷ []) after
  more_holds = record { ordered = more_ordered; ranked = more_ranked; marked = more_marked; distinct = more_distinct; whole = more_whole }

  back_same : drop (suc top) s₁ ≡ drop (suc top) s
  back_same =
      let e : t.node_limit * 2 + t.entry_limit + (suc top - (t.node_limit * 2 + t.entry_limit)) ≡ suc top = omega (arith, above) in
      let base = t.node_limit * 2 + t.entry_limit in
      let over = suc top - (t.node_limit * 2 + t.entry_limit) in
      ap (λ k. drop k s₁) (sym e) ∙ sym (drop-drop over base s₁) ∙ ap (drop over) w.marks.back ∙ drop-drop over base s ∙ ap (λ k. drop k s) e

  more_pending : drop (suc top - count) after ≡ children t n ++ drop (suc top) s
  unfolding after named kids
  more_pending =
      drop-sets named (suc top - count) kids (omega (arith, length-kids, fits, length_named, w.within))
      ∙ ap₂ (λ x y. x ++ y) (ap (children_of t.entries) (sym w.chain))
      (ap (λ k. drop k named) (ap (λ k. suc top - count + k) length-kids ∙ fits)
      ∙ drop-set-lt (suc top) (set s₁ (length order) n) (t.node_limit + n) (suc (length order)) (omega (arith, above, w.inside))
      ∙ drop-set-lt (suc top) s₁ (length order) n (omega (arith, above, more_nodes))
      ∙ back_same)

-- the numbers of a node that is entered
pub record Enters (bound limit kept moved count top size : ℕ) : Type 0 where
  pub node : kept < bound
  pub entries : moved + count ≤ limit
  pub pending : count ≤ top + 1
  pub within : top + 1 - count + count ≤ size
  pub behind : bound * 2 + limit ≤ top + 1 - count

-- A node that is not visited, its chain marked or refused.
module _ {ns es : List ℕ} {bound limit root size : ℕ} {s : List ℕ} {kept moved top : ℕ} (w : Searching (stores ns es bound limit) root size s kept moved top)
    (h : top < length s) (o : get_or s top 0 < bound) (z : get_or s (bound + get_or s top 0) 0 ≡ 0) {count first : ℕ} (c : count ≡ (node_at ns (get_or s top 0)).count)
    (f : first ≡ (node_at ns (get_or s top 0)).first) where
  its_chain : chain_of (stores ns es bound limit) (get_or s top 0) ≡ linked es count first
  its_chain = ap₂ (λ a b. linked es a b) (sym c) (sym f)

  its_new : member (get_or s top 0) w.order ≡ false
  its_new = rank_new w.order (get_or s top 0) (sym (w.holds.ranked (get_or s top 0) o) ∙ z)

  pub unsound : {s₁ : List ℕ} {r : Bool} → Marks es (bound * 2) limit count first s s₁ r → r ≡ false → Answers (stores ns es bound limit) (visit_from (stores ns es bound limit) root) (refused BadTable (get_or s top 0)) s₁
  unsound {s₁} m p =
      refused_lem (stores ns es bound limit) root (get_or s top 0) s₁
      (taken w h
      ∙ visit-refused (w.turns - 1) (stores ns es bound limit) (get_or s top 0) (drop (suc top) s) w.order o its_new
      (ap (fresh limit (chains (stores ns es bound limit) w.order)) its_chain ∙ sym (m.exact (chains (stores ns es bound limit) w.order) w.holds.marked) ∙ p))

  entering : {s₁ : List ℕ} → Marks es (bound * 2) limit count first s s₁ true → Entering (stores ns es bound limit) w.order s (get_or s top 0) count first s₁ top
  entering m =
      let k = w.counts in
      let e = w.moves in
      record {
        holds = w.holds;
        inside = o;
        new = its_new;
        chain = its_chain;
        marks = m;
        room = omega arith;
        low = omega arith;
        within = omega arith;
      }

  pub enters : {s₁ : List ℕ} {r : Bool} → Marks es (bound * 2) limit count first s s₁ r → r ≡ true → Enters bound limit kept moved count top (length s)
  enters {s₁} {r} m p =
      let e = entering (subst (λ b. Marks es (bound * 2) limit count first s s₁ b) p m) in
      let k = w.counts in
      let x = w.moves in
      let y = w.keeps in
      omega (arith, more_nodes e, more_entries e, above e, fits e)

  pub entered : {s₁ s₂ : List ℕ} {r : Bool} → Marks es (bound * 2) limit count first s s₁ r → r ≡ true
      → s₂ ≡ sets (set (set s₁ kept (get_or s top 0)) (bound + get_or s top 0) (kept + 1)) (top + 1 - count) (children_of es (linked es count first))
      → Searching (stores ns es bound limit) root size s₂ (kept + 1) (moved + count) (top + 1 - count)
  unfolding after named kids
  entered {s₁} {s₂} {r} m p q =
      let marks = subst (λ b. Marks es (bound * 2) limit count first s s₁ b) p m in
      let e = entering marks in
      let n = get_or s top 0 in
      let t = stores ns es bound limit in
      let k = w.counts in
      let x = w.moves in
      let y = w.keeps in
      let same : s₂ ≡ after e =
      q
      ∙ ap₂ (λ a b. sets (set (set s₁ a n) (bound + n) b) (top + 1 - count) (children_of es (linked es count first))) y (add-one kept ∙ ap suc y)
      ∙ ap (λ b. sets (named e) (b - count) (kids e)) (add-one top) in
      let size' : length s₂ ≡ length s = ap length same ∙ length-after e in
      record {
        sized = size' ∙ w.sized;
        order = w.order ++ n ∷ [];
        turns = w.turns - 1;
        comes =
            taken w h
            ∙ visit-enter (w.turns - 1) t n (drop (suc top) s) w.order o its_new (fresh-chain e)
            ∙ ap (λ l. visit (w.turns - 1) t l (w.order ++ n ∷ []))
            (sym (more_pending e) ∙ sym (ap₂ (λ a b. drop (a - count) b) (add-one top) same));
        holds = subst (λ b. Visiting t (w.order ++ n ∷ []) b) (sym same) (more_holds e);
        keeps = omega (arith, length-append w.order (n ∷ []));
        moves = omega (arith, length_more e);
        counts = omega (arith, more_nodes e, more_entries e, above e, fits e);
      }

  pub falls : {s₁ s₂ : List ℕ} {r : Bool} → Marks es (bound * 2) limit count first s s₁ r → r ≡ true
      → s₂ ≡ sets (set (set s₁ kept (get_or s top 0)) (bound + get_or s top 0) (kept + 1)) (top + 1 - count) (children_of es (linked es count first))
      → limit + length s₂ - (moved + count + (top + 1 - count)) < limit + length s - (moved + top)
  falls m p q =
      let k = w.counts in
      let e = w.sized in
      omega (arith, enters m p, (entered m p q).sized)

-- The beginning: the root alone is pending.
pub starting : {ns es : List ℕ} {bound limit root : ℕ} {s : List ℕ} → Room bound limit s
    → Searching (stores ns es bound limit) root (length (set s (length s - 1) root)) (set s (length s - 1) root) 0 0 (length s - 1)
unfolding chains fresh rank member
starting {ns} {es} {bound} {limit} {root} {s} r =
    let size = length-set s (length s - 1) root in
    record {
      sized = refl;
      order = [];
      turns = suc limit;
      comes = ap (λ p. visit (suc limit) (stores ns es bound limit) p []) (sym one);
      holds =
          record {
            ordered = refl;
            ranked = λ a l. blank (bound + a) (omega (arith, r.room, r.some));
            marked = record { at = λ e l. blank (bound * 2 + e) (omega (arith, r.room, r.some)) };
            distinct = refl;
            whole = refl;
          };
      keeps = refl;
      moves = refl;
      counts = omega (arith, r.room, r.some, r.most, r.most_entries, size);
    }
  where
    some : 0 < length s
    some = omega (arith, r.room, r.some)

    one : drop (length s - 1) (set s (length s - 1) root) ≡ root ∷ []
    one =
        drop-cons (set s (length s - 1) root) (length s - 1) 0 (omega (arith, length-set s (length s - 1) root, some))
        ∙ ap₂ (λ a b. a ∷ b) (get_or-set_same s (length s - 1) root 0 (omega (arith, some)))
        (drop_of_length-le (set s (length s - 1) root) {i = suc (length s - 1)} (omega (arith, length-set s (length s - 1) root, some)))

    blank : (i : ℕ) → i < length s - 1 → get_or (set s (length s - 1) root) i 0 ≡ 0
    blank i l =
        get_or-set_other s (length s - 1) i root 0 (λ p. omega arith)
        ∙ ap (λ x. get_or x i 0) r.cleared
        ∙ get_or-replicate (length s) i 0 0 (omega arith)
