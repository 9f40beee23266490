-- One turn of each loop, and its end: the first so many records are raised and the others as they were. One law for any list of records, and
-- from it one invariant for nodes, one for entries and one for slots. Assumes nothing.
use Rattle.std.proofs.Common.{◌≡◌, ℕ, zero, suc, ◌+◌, ◌*◌, ◌%◌, ◌<◌, ◌≤◌, Bool, true, false, cond, eqb, List, [], ◌∷◌, map, length, get_or, set, sym, refl, ap, ◌∙◌, subst, ap₂, mod-eq_of_lt, arith, length-set, set-set, ne_eqb}
use lib.Seq.{length-sets}
use Rattle.refusals.specs.Limits.{nothing}
use Rattle.clearing.specs.Lent.{padded}
use Rattle.grammar.specs.State.{Node, Entry, blank, unlinked, node_width, entry_width, node_cells, entry_cells, node_at, entry_at}
use Rattle.grammar.proofs.Contents.{length-entry_cells}
use Rattle.stores.specs.Written.{Keeps, node_of, node_written, entry_written, entry_linked}
use Rattle.stores.specs.declared.Node as stored
use Rattle.stores.proofs.Padded.{set-padded, sets-inside}
use Rattle.stores.proofs.Records.{node_written_lem, entry_set}
use Rattle.stores.proofs.Lookups.{cell_kept, node_kept, entry_kept}
use Rattle.raising.specs.Appended.{raised_link, relabelled, appended_node, appended_entry, appended_slot}
use Rattle.raising.specs.Raised.{sum32, NodesRaise, EntriesRaise, SlotsRaise, NodesRaised, EntriesRaised, SlotsRaised}

-- The first i of a list changed.
module _ {A : Type 0} (f : A → A) where
  unfoldable pub up_to : ℕ → List A → List A
  up_to zero xs = xs
  up_to (suc i) [] = []
  up_to (suc i) (x ∷ xs) = f x ∷ up_to i xs

  -- the next is as it was ..
  next_as_was : (i : ℕ) (xs : List A) (d : A) → get_or (up_to i xs) i d ≡ get_or xs i d
  unfolding up_to
  next_as_was zero xs d = refl
  next_as_was (suc i) [] d = refl
  next_as_was (suc i) (x ∷ xs) d = next_as_was i xs d

  -- .. and when it is changed, one more is
  one_more : (i : ℕ) (xs : List A) (d : A) → i < length xs → set (up_to i xs) i (f (get_or xs i d)) ≡ up_to (suc i) xs
  unfolding up_to
  one_more i [] d l = absurd (omega arith)
  one_more zero (x ∷ xs) d l = refl
  one_more (suc i) (x ∷ xs) d l = ap (λ ys. f x ∷ ys) (one_more i xs d (omega arith))

  length_up_to : (i : ℕ) (xs : List A) → length (up_to i xs) ≡ length xs
  unfolding up_to
  length_up_to zero xs = refl
  length_up_to (suc i) [] = refl
  length_up_to (suc i) (x ∷ xs) = ap suc (length_up_to i xs)

  all_of_them : (i : ℕ) (xs : List A) → length xs ≡ i → up_to i xs ≡ map f xs
  unfolding up_to
  all_of_them zero [] e = refl
  all_of_them zero (x ∷ xs) e = absurd (omega arith)
  all_of_them (suc i) [] e = refl
  all_of_them (suc i) (x ∷ xs) e = ap (λ ys. f x ∷ ys) (all_of_them i xs (omega arith))

-- Sums of 32 bits that are sums.

link_sum : (kept e : ℕ) → raised_link kept e < 4294967296 → sum32 nothing kept e ≡ raised_link kept e
link_sum kept e l = go (eqb e nothing) l
  where
    go : (b : Bool) → cond b e (kept + e) < 4294967296 → cond b e ((kept + e) % 4294967296) ≡ cond b e (kept + e)
    go true l = refl
    go false l = mod-eq_of_lt l

slot-sum : (kept v : ℕ) → kept + v < 4294967296 → sum32 0 kept v ≡ appended_slot kept v
slot-sum kept zero l = refl
slot-sum kept (suc v) l = rw (ne_eqb (suc v) 0 (λ e. omega arith)) (mod-eq_of_lt l ∙ omega arith)

-- Nodes.

-- what the code of `raise_node` writes
pub node-relabelled : (store : List ℕ) (n kept number : ℕ) {after : List ℕ} {first : ℕ} {read : stored.Node} → node_of read ≡ node_at store n → first ≡ sum32 nothing kept read.first
    → after ≡ node_written store n (relabelled first number (node_of read))
    → after ≡ node_written store n (relabelled (sum32 nothing kept (node_at store n).first) number (node_at store n))
node-relabelled store n kept number {after} {first} {read} r s w =
    w
    ∙ ap (λ z. node_written store n (relabelled z number (node_of read))) s
    ∙ ap (λ z. node_written store n (relabelled (sum32 nothing kept z.first) number z)) r

pub record Nodes (before : List ℕ) (count kept number i : ℕ) (now : List ℕ) : Type 0 where
  pub exact : (ns : List Node) → Keeps before (node_cells ns) → length ns ≡ count → NodesRaise kept ns → Keeps now (node_cells (up_to (appended_node kept number) i ns))
  pub within : i ≤ count
  pub room : count * node_width ≤ length now
  pub same : length now ≡ length before

pub nodes_start : {store : List ℕ} {count kept number : ℕ} → count * node_width ≤ length store → Nodes store count kept number 0 store
unfolding up_to
nodes_start l = record { exact = λ ns k c r. k; within = omega arith; room = l; same = refl }

module _ {before now : List ℕ} {count kept number i : ℕ} where
  pub nodes-turn : {after : List ℕ} → Nodes before count kept number i now → i < count
      → after ≡ node_written now i (relabelled (sum32 nothing kept (node_at now i).first) number (node_at now i)) → Nodes before count kept number (i + 1) after
  nodes-turn {after} n l e =
      record {
        exact = λ ns k c r. turn ns k c r;
        within = omega arith;
        room = omega (arith, n.room, long);
        same = long ∙ n.same;
      }
    where
      long : length after ≡ length now
      long = ap length e ∙ length-sets now (i * node_width) (node_cells (relabelled (sum32 nothing kept (node_at now i).first) number (node_at now i) ∷ []))

      turn : (ns : List Node) → Keeps before (node_cells ns) → length ns ≡ count → NodesRaise kept ns → Keeps after (node_cells (up_to (appended_node kept number) (i + 1) ns))
      turn ns k c r =
          let f = appended_node kept number in
          let held = n.exact ns k c r in
          let here : node_at now i ≡ get_or ns i blank = node_kept (up_to f i ns) i held ∙ next_as_was f i ns blank in
          let fits : sum32 nothing kept (get_or ns i blank).first ≡ raised_link kept (get_or ns i blank).first = link_sum kept (get_or ns i blank).first (r i (omega arith)) in
          let new : relabelled (sum32 nothing kept (node_at now i).first) number (node_at now i) ≡ f (get_or ns i blank)
          = ap (λ z. relabelled (sum32 nothing kept z.first) number z) here ∙ ap (λ z. relabelled z number (get_or ns i blank)) fits in
          let step = node_written_lem (up_to f i ns) i (f (get_or ns i blank)) held (omega (arith, length_up_to f i ns)) in
          let is : after ≡ node_written now i (f (get_or ns i blank)) = e ∙ ap (node_written now i) new in
          let s : i + 1 ≡ suc i = omega arith in
          subst (λ t. Keeps t (node_cells (up_to f (i + 1) ns))) (sym is) (rw (s, ← (one_more f i ns blank (omega arith))) step)

  pub nodes-done : Nodes before count kept number i now → count ≤ i → NodesRaised before count kept number now
  nodes-done n l = record { exact = λ ns k c r. rw (← (all_of_them (appended_node kept number) i ns (omega (arith, n.within)))) (n.exact ns k c r); same = n.same }

-- Entries.

-- what the code of `raise_entry` writes
pub entry-relinked : (store : List ℕ) (e nodes kept : ℕ) {mid after : List ℕ} {child next was after' : ℕ} → was ≡ (entry_at store e).child → child ≡ (nodes + was) % 4294967296
    → after' ≡ (entry_at store e).next → next ≡ sum32 nothing kept after' → mid ≡ entry_written store e (record { child = child; next = nothing }) → after ≡ entry_linked mid e next
    → after ≡ entry_written store e (record { child = (nodes + (entry_at store e).child) % 4294967296; next = sum32 nothing kept (entry_at store e).next })
entry-relinked store e nodes kept {mid} {after} {child} {next} {was} {after'} w c a n m l =
    let z : e * entry_width + 1 ≡ suc (e * entry_width) = omega arith in
    l
    ∙ ap (λ t. entry_linked t e next) m
    ∙ ap (λ i. set (entry_written store e (record { child = child; next = nothing })) i next) z
    ∙ set-set (set store (e * entry_width) child) (suc (e * entry_width)) nothing next
    ∙ ap₂ (λ x y. entry_written store e (record { child = x; next = y })) (c ∙ ap (λ x. (nodes + x) % 4294967296) w) (n ∙ ap (sum32 nothing kept) a)

-- an entry that stands in the store is written anew
entry-rewritten : {store : List ℕ} (es : List Entry) (e : ℕ) (r : Entry) → Keeps store (entry_cells es) → e < length es → Keeps (entry_written store e r) (entry_cells (set es e r))
entry-rewritten {store} es e r k l =
    ap (λ t. entry_written t e r) k
    ∙ sets-inside (length store) (entry_cells es) (e * entry_width) (entry_cells (r ∷ [])) (omega (arith, length-entry_cells es))
    ∙ ap₂ padded (sym (length-sets store (e * entry_width) (entry_cells (r ∷ [])))) (sym (entry_set es e r l))

pub record Entries (before : List ℕ) (count nodes kept i : ℕ) (now : List ℕ) : Type 0 where
  pub exact : (es : List Entry) → Keeps before (entry_cells es) → length es ≡ count → EntriesRaise nodes kept es → Keeps now (entry_cells (up_to (appended_entry nodes kept) i es))
  pub within : i ≤ count
  pub room : count * entry_width ≤ length now
  pub same : length now ≡ length before

pub entries_start : {store : List ℕ} {count nodes kept : ℕ} → count * entry_width ≤ length store → Entries store count nodes kept 0 store
unfolding up_to
entries_start l = record { exact = λ es k c r. k; within = omega arith; room = l; same = refl }

module _ {before now : List ℕ} {count nodes kept i : ℕ} where
  pub entries-turn : {after : List ℕ} → Entries before count nodes kept i now → i < count
      → after ≡ entry_written now i (record { child = (nodes + (entry_at now i).child) % 4294967296; next = sum32 nothing kept (entry_at now i).next })
      → Entries before count nodes kept (i + 1) after
  entries-turn {after} n l e =
      record {
        exact = λ es k c r. turn es k c r;
        within = omega arith;
        room = omega (arith, n.room, long);
        same = long ∙ n.same;
      }
    where
      long : length after ≡ length now
      long = ap length e ∙ length-sets now (i * entry_width) ((nodes + (entry_at now i).child) % 4294967296 ∷ sum32 nothing kept (entry_at now i).next ∷ [])

      turn : (es : List Entry) → Keeps before (entry_cells es) → length es ≡ count → EntriesRaise nodes kept es → Keeps after (entry_cells (up_to (appended_entry nodes kept) (i + 1) es))
      turn es k c r =
          let f = appended_entry nodes kept in
          let held = n.exact es k c r in
          let x = get_or es i unlinked in
          let here : entry_at now i ≡ x = entry_kept (up_to f i es) i held ∙ next_as_was f i es unlinked in
          let fits = r i (omega arith) in
          let child : (nodes + (entry_at now i).child) % 4294967296 ≡ nodes + x.child = ap (λ z. (nodes + z.child) % 4294967296) here ∙ mod-eq_of_lt fits.0 in
          let next : sum32 nothing kept (entry_at now i).next ≡ raised_link kept x.next = ap (λ z. sum32 nothing kept z.next) here ∙ link_sum kept x.next fits.1 in
          let step = entry-rewritten (up_to f i es) i (f x) held (omega (arith, length_up_to f i es)) in
          let s : i + 1 ≡ suc i = omega arith in
          rw (e, child, next, s, ← (one_more f i es unlinked (omega arith))) step

  pub entries-done : Entries before count nodes kept i now → count ≤ i → EntriesRaised before count nodes kept now
  entries-done n l = record { exact = λ es k c r. rw (← (all_of_them (appended_entry nodes kept) i es (omega (arith, n.within)))) (n.exact es k c r); same = n.same }

-- Slots.

pub record Slots (before : List ℕ) (count nodes i : ℕ) (now : List ℕ) : Type 0 where
  pub exact : (ss : List ℕ) → Keeps before ss → length ss ≡ count → SlotsRaise nodes ss → Keeps now (up_to (appended_slot nodes) i ss)
  pub within : i ≤ count
  pub room : count ≤ length now
  pub same : length now ≡ length before

pub slots_start : {store : List ℕ} {count nodes : ℕ} → count ≤ length store → Slots store count nodes 0 store
unfolding up_to
slots_start l = record { exact = λ ss k c r. k; within = omega arith; room = l; same = refl }

module _ {before now : List ℕ} {count nodes i : ℕ} where
  pub slots-turn : {v : ℕ} → Slots before count nodes i now → i < count → v ≡ sum32 0 nodes (get_or now i 0) → Slots before count nodes (i + 1) (set now i v)
  slots-turn {v} n l e =
      record {
        exact = λ ss k c r. turn ss k c r;
        within = omega arith;
        room = omega (arith, n.room, length-set now i v);
        same = length-set now i v ∙ n.same;
      }
    where
      turn : (ss : List ℕ) → Keeps before ss → length ss ≡ count → SlotsRaise nodes ss → Keeps (set now i v) (up_to (appended_slot nodes) (i + 1) ss)
      turn ss k c r =
          let f = appended_slot nodes in
          let held = n.exact ss k c r in
          let here : get_or now i 0 ≡ get_or ss i 0 = cell_kept (up_to f i ss) i held ∙ next_as_was f i ss 0 in
          let new : v ≡ f (get_or ss i 0) = e ∙ ap (sum32 0 nodes) here ∙ slot-sum nodes (get_or ss i 0) (r i (omega arith)) in
          let s : i + 1 ≡ suc i = omega arith in
          rw s
          (ap (λ t. set t i v) held
          ∙ set-padded (length now) (up_to f i ss) i v (omega (arith, length_up_to f i ss))
          ∙ ap₂ padded (sym (length-set now i v)) (ap (set (up_to f i ss) i) new ∙ one_more f i ss 0 (omega arith)))

  pub slots-done : Slots before count nodes i now → count ≤ i → SlotsRaised before count nodes now
  slots-done n l = record { exact = λ ss k c r. rw (← (all_of_them (appended_slot nodes) i ss (omega (arith, n.within)))) (n.exact ss k c r); same = n.same }
