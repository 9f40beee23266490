-- The question as it is answered from the stores is the question by the plain reading: a reference is a child of a node inside, and it names an
-- earlier slot exactly where that child is outside. Assumes that the input is bytes, 16 MiB of them at most.
use mathlib.Core.Path.{◌≡◌, refl, ap, ap₂, ◌∙◌}
use Prim.Native.Nat.{ℕ, zero, suc, ◌+◌, ◌-◌, ◌≤◌, ◌<◌}
use native.Mathlib.Omega.{arith}
use mathlib.Core.Bool.{Bool, true, false, cond, ◌&&◌}
use mathlib.Core.Option.{some}
use mathlib.Core.List.{List, [], ◌∷◌}
use lib.ListN.{length, get_or}
use lib.Dec.{leb, ltb}
use borrow.Author.Tests.{ltb-true, leb-true, ltb-false, lt-ltb, le-leb, le-ltb}
use Rattle.refusals.specs.Limits.{most_bytes}
use Rattle.grammar.specs.Input.{Bytes}
use Rattle.grammar.specs.Reading.{gives}
use Rattle.grammar.specs.Letters.{among}
use Rattle.grammar.specs.Fields.{le32}
use Rattle.grammar.specs.Room.{Rooms, run}
use Rattle.grammar.specs.State.{State, start, blank}
use Rattle.grammar.specs.Answer.{plain}
use Rattle.grammar.specs.Record.{Tables, nodes_in, entries_in, node_of, chain}
use Rattle.grammar.proofs.Tests.{both_true, each_way}
use Rattle.grammar.proofs.Links.{Linked, grows_linked}
use Rattle.grammar.proofs.Standing.{few}
use Rattle.nodespan.specs.Header.{header_of}
use Rattle.nodespan.specs.Span.{inside, all_inside, all_used, children_at, onward, closed_from}
use Rattle.shifts.specs.Lower.{between}
use Rattle.shifts.proofs.Onward.{Met, New, old, new}
use Rattle.shifts.proofs.Lowered.{between_in, in_between, spaced_behind}
use Rattle.alone.specs.Question.{start_of, end_of, all_named, names_own}
use Rattle.alone.proofs.Totals.{total, total-one}
use Rattle.alone.proofs.Kin.{counted, Child, fresh, shared, Parent, Given, yet, of}
use Rattle.alone.proofs.KinSteps.{among_one}
use Rattle.alone.proofs.Made.{Inside, slot-there}
use Rattle.alone.proofs.Nested.{everything, own, own_made, starts, ends, inside-from, inside-to, starts-inside, ends-inside, slots_before_start, slots_before_end}
use Rattle.alone.proofs.Every.{inside-each, each-inside, each-used, named_each, each_named, kids_at, children_of, every, every_each, each_every}

-- the stores that a reading left, as the question takes them
pub record Held (s : List ℕ) (fin : State) (t : Tables) : Type 0 where
  pub input : t.input ≡ s
  pub many : nodes_in t.nodes t.used_nodes ≡ length fin.nodes
  pub node : (m : ℕ) → m < length fin.nodes → node_of t m ≡ get_or fin.nodes m blank
  pub linked : (e : ℕ) (vs : List ℕ) → Linked fin.entries e vs → chain t (length vs) e ≡ some vs
  pub entries : length fin.entries ≤ entries_in t.entries t.used_entries

module _ (s : List ℕ) (R : Rooms) (small : length s ≤ most_bytes) (bytes : Bytes s) (v : ℕ) (fin : State) (read : run R (plain s) ≡ gives (v, fin)) (t : Tables) (held : Held s fin t) where
  pub header_held : (m : ℕ) → m < length fin.nodes → header_of (node_of t m) ≡ start_of fin m
  unfolding start_of
  header_held m l = ap header_of (held.node m l)

  -- a reading by itself numbers its input 0
  pub input_held : (m : ℕ) → m < length fin.nodes → (node_of t m).input ≡ 0
  input_held m l = ap (λ z. z.input) (held.node m l) ∙ ((everything s R small bytes v fin read).valued.finished m (omega arith) l).input

  chain_held : (m : ℕ) → m < length fin.nodes → (kids : List ℕ) → Linked fin.entries (get_or fin.nodes m blank).first kids → (get_or fin.nodes m blank).count ≡ length kids
      → chain t (node_of t m).count (node_of t m).first ≡ some kids
  chain_held m l kids k c =
      ap₂ (chain t) (ap (λ z. z.count) (held.node m l) ∙ c) (ap (λ z. z.first) (held.node m l)) ∙ held.linked (get_or fin.nodes m blank).first kids k

  -- the children of a node, and that they are nodes that there are
  module _ (m : ℕ) (l : m < length fin.nodes) where
    abbrev parent : Parent s start fin m
    parent = (everything s R small bytes v fin read).kin.parents m (omega arith) l

    child-used : (w : ℕ) → Child s start fin w → w < length fin.nodes
    child-used w (fresh lo hi) = hi
    child-used w (shared r) = omega (arith, r.names, (everything s R small bytes v fin read).valued.holds.slots_in (le32 s r.place))

    kids_held : chain t (node_of t m).count (node_of t m).first ≡ some parent.kids
    kids_held = chain_held m l parent.kids parent.linked parent.count

    kids-used : all_used t parent.kids ≡ true
    kids-used = each-used t parent.kids (λ w q. omega (arith, held.many, child-used w (parent.each w q)))

    count_held : (node_of t m).count ≡ length parent.kids
    count_held = ap (λ z. z.count) (held.node m l) ∙ parent.count

    -- with steps enough the chain does not fail
    children_held : (steps : ℕ) → (node_of t m).count ≤ steps → children_at t steps m ≡ gives parent.kids
    unfolding children_at
    children_held steps h = rw (le-ltb steps (node_of t m).count h, kids_held, kids-used) refl

  -- No chain fails, and together they take no more steps than entries are used.
  closed_is : (a e more m steps : ℕ) → m + more ≤ length fin.nodes → total counted fin.nodes more m ≤ steps → closed_from t 0 a e more m steps ≡ gives (every t 0 a e more m)
  unfolding closed_from every
  closed_is a e zero m steps l h = refl
  closed_is a e (suc more) m steps l h = go (inside t 0 a e m) (λ steps q. closed_is a e more (m + 1) steps (omega arith) q)
    where
      there : m < length fin.nodes
      there = omega arith

      sum : (get_or fin.nodes m blank).count + total counted fin.nodes more (m + 1) ≤ steps
      sum = omega (arith, total-one counted fin.nodes more m)

      counts : (node_of t m).count ≡ (get_or fin.nodes m blank).count
      counts = ap (λ z. z.count) (held.node m there)

      go : (b : Bool) → ((steps : ℕ) → total counted fin.nodes more (m + 1) ≤ steps → closed_from t 0 a e more (m + 1) steps ≡ gives (every t 0 a e more (m + 1)))
          → cond b (onward t 0 a e (children_at t steps m) (λ taken. closed_from t 0 a e more (m + 1) (steps - taken))) (closed_from t 0 a e more (m + 1) steps)
          ≡ gives (cond b (all_inside t 0 a e (kids_at t m) && every t 0 a e more (m + 1)) (every t 0 a e more (m + 1)))
      go true again =
          rw (children_held m there steps (omega (arith, sum, counts)), again (steps - length (parent m there).kids) (omega (arith, sum, counts, count_held m there)), kids_held m there) refl
      go false again = again steps (omega (arith, sum))

  module _ (n : ℕ) (used : n < length fin.nodes) where
    abbrev mine : Inside s R start n fin
    mine = own s R small bytes v fin read n used

    abbrev a : ℕ
    a = start_of fin n

    abbrev e : ℕ
    e = end_of fin n

    abbrev N : ℕ
    N = length fin.nodes

    in_span : (m : ℕ) → n ≤ m → m < length mine.end.nodes → inside t 0 a e m ≡ true
    in_span m lo hi =
        let l : m < length fin.nodes = omega (arith, mine.stands.more_nodes) in
        rw (header_held m l, input_held m l, le-leb a (start_of fin m) (starts-inside s R small bytes v fin read n used m lo hi), lt-ltb (start_of fin m) e (ends-inside s R small bytes v fin read n used m lo hi)) refl

    span_in : (m : ℕ) → m < length fin.nodes → inside t 0 a e m ≡ true → (n ≤ m) × (m < length mine.end.nodes)
    span_in m l i =
        let q : leb a (start_of fin m) && ltb (start_of fin m) e ≡ true = rw (header_held m l, input_held m l) at i in
        let p = both_true (leb a (start_of fin m)) (ltb (start_of fin m) e) q in
        (inside-from s R small bytes v fin read n used m l (leb-true a (start_of fin m) p.0), inside-to s R small bytes v fin read n used m l (ltb-true (start_of fin m) e p.1))

    -- the children of a node inside, as the span's own reading left them
    same_kids : (m : ℕ) → n ≤ m → m < length mine.end.nodes → (kids : List ℕ) → Linked mine.end.entries (get_or mine.end.nodes m blank).first kids
        → (get_or mine.end.nodes m blank).count ≡ length kids → kids_at t m ≡ kids
    same_kids m lo hi kids k c =
        let z = mine.stands.nodes m (omega (arith, mine.first)) hi in
        let f = few small (own_made s R small bytes v fin read n used).valued.holds in
        ap children_of
        (chain_held m (omega (arith, mine.stands.more_nodes)) kids
        (rw z (grows_linked mine.end.entries fin.entries mine.stands.links f (get_or mine.end.nodes m blank).first kids k)) (ap (λ x. x.count) z ∙ c))

    -- a reference to a node of the span names a slot reserved in it, and only such a one does
    own_index : (i w : ℕ) → get_or mine.end.slots i 0 ≡ suc w → n ≤ w → (length mine.st.slots ≤ i) × (i < length mine.end.slots)
    own_index i w z l = (go (ltb i (length mine.st.slots)) refl, slot-there mine.end.slots i w z)
      where
        go : (b : Bool) → ltb i (length mine.st.slots) ≡ b → length mine.st.slots ≤ i
        go true q =
            absurd (omega (arith, (own_made s R small bytes v fin read n used).slots.kept i (ltb-true i (length mine.st.slots) q), mine.holds.slots_in i, mine.first))
        go false q = ltb-false i (length mine.st.slots) q

    index_own : (i w : ℕ) → get_or mine.end.slots i 0 ≡ suc w → length mine.st.slots ≤ i → (n ≤ w) × (w < length mine.end.nodes)
    index_own i w z l = (
      omega (arith, mine.first, (own_made s R small bytes v fin read n used).filled i l (slot-there mine.end.slots i w z)),
      omega (arith, (own_made s R small bytes v fin read n used).valued.holds.slots_in i),
    )

    -- a reference of the span is met by its end
    met_by_end : (r : ℕ) → r < mine.end.at → New mine.end fin r → Met r mine.end
    met_by_end r l (old m) = m
    met_by_end r l (new h z) = absurd (omega arith)

    abbrev Named : ℕ → Type 0
    Named r = (length mine.st.slots ≤ le32 s r) × (le32 s r < length mine.end.slots)

    given_named : every t 0 a e N 0 ≡ true → (r : ℕ) → Given s mine.st mine.end (n ∷ []) r → Named r
    given_named q r (yet w m z) = own_index (le32 s r) w z (omega (arith, among_one w n m))
    given_named q r (of o) =
        let lo : n ≤ o.node = omega (arith, o.from, mine.first) in
        let l : o.node < length fin.nodes = omega (arith, o.to, mine.stands.more_nodes) in
        let k = every_each t 0 a e N 0 q o.node (omega arith) (omega arith) (in_span o.node lo o.to) in
        let i = inside-each t 0 a e o.kids (rw (same_kids o.node lo o.to o.kids o.linked o.count) at k) o.child o.in_kids in
        let u = (own_made s R small bytes v fin read n used).valued.holds.slots_in (le32 s r) in
        own_index (le32 s r) o.child o.names (span_in o.child (omega (arith, u, o.names, mine.stands.more_nodes)) i).0

    child-inside : ((r : ℕ) → Met r fin → mine.st.at < r → r < mine.end.at → Named r) → (w : ℕ) → Child s mine.st mine.end w → inside t 0 a e w ≡ true
    child-inside f w (fresh lo hi) = in_span w (omega (arith, mine.first)) hi
    child-inside f w (shared x) =
        let sp = (own_made s R small bytes v fin read n used).on.1.spaced mine.spaced in
        let h = spaced_behind mine.end.at mine.end.met sp x.place x.met in
        let q = f x.place (mine.stands.onward.still x.place x.met) x.ahead (omega arith) in
        let k = index_own (le32 s x.place) w x.names q.0 in
        in_span w k.0 k.1

    abbrev places : List ℕ
    places = between a e fin.met

    -- from the stores to the references ..
    every_named : every t 0 a e N 0 ≡ true → names_own s fin n ≡ true
    unfolding names_own
    every_named q =
        rw (slots_before_start s R small bytes v fin read n used, slots_before_end s R small bytes v fin read n used)
        (each_named s (length mine.st.slots) (length mine.end.slots) places (λ r m. named r (between_in a e fin.met r m)))
      where
        named : (r : ℕ) → (among r fin.met ≡ true) × (a < r) × (r < e) → Named r
        named r h =
            let lo : mine.st.at < r = omega (arith, h.1, starts s R small bytes v fin read n used) in
            let hi : r < mine.end.at = omega (arith, h.2, ends s R small bytes v fin read n used) in
            given_named q r ((own_made s R small bytes v fin read n used).kin.given r (met_by_end r hi (mine.stands.onward.fresh r h.0)) lo)

    -- .. and back
    pub named_own : names_own s fin n ≡ true → (r : ℕ) → Met r fin → mine.st.at < r → r < mine.end.at → Named r
    unfolding names_own
    named_own q r m lo hi =
        let z : all_named s (length mine.st.slots) (length mine.end.slots) places ≡ true =
        rw (slots_before_start s R small bytes v fin read n used, slots_before_end s R small bytes v fin read n used) at q in
        named_each s (length mine.st.slots) (length mine.end.slots) places z r
        (in_between a e fin.met r m (omega (arith, starts s R small bytes v fin read n used)) (omega (arith, ends s R small bytes v fin read n used)))

    named_every : names_own s fin n ≡ true → every t 0 a e N 0 ≡ true
    named_every q = each_every t 0 a e N 0 (λ m lo hi i. kids m (omega arith) (span_in m (omega arith) i))
      where
        kids : (m : ℕ) → m < length fin.nodes → (n ≤ m) × (m < length mine.end.nodes) → all_inside t 0 a e (kids_at t m) ≡ true
        kids m l h =
            let p = (own_made s R small bytes v fin read n used).kin.parents m (omega (arith, h.0, mine.first)) h.1 in
            rw (same_kids m h.0 h.1 p.kids p.linked p.count) (each-inside t 0 a e p.kids (λ w k. child-inside (named_own q) w (p.each w k)))

    -- The question, answered from the stores.
    pub closed_held : closed_from t 0 a e (nodes_in t.nodes t.used_nodes) 0 (entries_in t.entries t.used_entries) ≡ gives (names_own s fin n)
    closed_held =
        let k = (everything s R small bytes v fin read).kin in
        let z : k.made ≡ length fin.nodes = omega (arith, k.many) in
        let c : total counted fin.nodes (length fin.nodes) 0 ≤ entries_in t.entries t.used_entries = rw (← z) (omega (arith, k.entries, held.entries)) in
        rw held.many (closed_is a e (length fin.nodes) 0 (entries_in t.entries t.used_entries) (omega arith) c ∙ ap gives
        (each_way (every t 0 a e N 0) (names_own s fin n) every_named named_every))
