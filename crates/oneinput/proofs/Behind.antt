-- Records laid behind others: what stood stays, and what a reading left, its numbers raised, keeps to itself and names one input.
-- Assumes nothing.
use mathlib.Core.Path.{◌≡◌, refl, sym, ap, ap₂, subst, ◌∙◌}
use Prim.Native.Nat.{ℕ, zero, suc, ◌+◌, ◌-◌, ◌≤◌, ◌<◌}
use native.Mathlib.Omega.{arith}
use mathlib.Core.Bool.{Bool, true, false, cond}
use mathlib.Core.List.{List, [], ◌∷◌}
use lib.ListN.{length, get_or}
use lib.Dec.{ltb}
use borrow.Author.Tests.{ltb-true, ltb-false, ne_eqb}
use Rattle.refusals.specs.Limits.{nothing}
use Rattle.grammar.specs.State.{Node, Entry, State, blank, unlinked, node_at, entry_at}
use Rattle.grammar.proofs.Links.{next_of, More, Linked}
use Rattle.grammar.proofs.Bounded.{Accepted}
use Rattle.keepvisit.specs.Visit.{Stores, member, linked, children_of, children, chain_of}
use Rattle.keepvisit.proofs.Members.{member-cons_same}
use Rattle.keepvisit.proofs.Closed.{either, empty, member_right}
use Rattle.raising.specs.Appended.{raised_link, appended_node, appended_entry}
use Rattle.oneinput.specs.Inputs.{OneInput}

-- t' is t with these records behind its own
pub record Behind (t t' : Stores) (number : ℕ) (ns : List Node) (es : List Entry) : Type 0 where
  pub all_nodes : t'.node_limit ≡ t.node_limit + length ns
  pub all_entries : t'.entry_limit ≡ t.entry_limit + length es
  pub same_node : (n : ℕ) → n < t.node_limit → node_at t'.nodes n ≡ node_at t.nodes n
  pub same_entry : (e : ℕ) → e < t.entry_limit → entry_at t'.entries e ≡ entry_at t.entries e
  pub new_node : (i : ℕ) → i < length ns → node_at t'.nodes (t.node_limit + i) ≡ appended_node t.entry_limit number (get_or ns i blank)
  pub new_entry_lem : (j : ℕ) → j < length es → entry_at t'.entries (t.entry_limit + j) ≡ appended_entry t.node_limit t.entry_limit (get_or es j unlinked)

-- a number among so many from one on
abbrev Among : (from size x : ℕ) → Type 0
Among from size x = (j : ℕ) × (x ≡ from + j) × (j < size)

module _ (t t' : Stores) (number : ℕ) (s : List ℕ) (r : ℕ × State) (a : Accepted s r) (few : length r.1.entries ≤ nothing) (b : Behind t t' number r.1.nodes r.1.entries) where
  abbrev ns : List Node
  ns = r.1.nodes

  abbrev es : List Entry
  es = r.1.entries

  -- What stood.

  same_linked : (count e : ℕ) → ((x : ℕ) → member x (linked t.entries count e) ≡ true → x < t.entry_limit) → linked t'.entries count e ≡ linked t.entries count e
  unfolding linked
  same_linked zero e h = refl
  same_linked (suc more) e h =
      ap (λ x. e ∷ x)
      (ap (λ k. linked t'.entries more k.next) (b.same_entry e (h e (member-cons_same e (linked t.entries more (entry_at t.entries e).next))))
      ∙ same_linked more (entry_at t.entries e).next (λ x m. h x (member_right x (e ∷ []) (linked t.entries more (entry_at t.entries e).next) m)))

  same_kids : (xs : List ℕ) → ((x : ℕ) → member x xs ≡ true → x < t.entry_limit) → children_of t'.entries xs ≡ children_of t.entries xs
  unfolding children_of
  same_kids [] h = refl
  same_kids (x ∷ xs) h = ap₂ (λ k l. k.child ∷ l) (b.same_entry x (h x (member-cons_same x xs))) (same_kids xs (λ y m. h y (member_right y (x ∷ []) xs m)))

  module _ (o : OneInput t) where
    old_chain : (n : ℕ) → n < t.node_limit → chain_of t' n ≡ chain_of t n
    old_chain n l =
        ap (λ k. linked t'.entries k.count k.first) (b.same_node n l) ∙ same_linked (node_at t.nodes n).count (node_at t.nodes n).first (λ x m. o.chained n x l m)

    old_children : (n : ℕ) → n < t.node_limit → children t' n ≡ children t n
    old_children n l = ap (children_of t'.entries) (old_chain n l) ∙ same_kids (chain_of t n) (λ x m. o.chained n x l m)

  -- What is new.

  raised-used : (e : ℕ) → e < length es → raised_link t.entry_limit e ≡ t.entry_limit + e
  raised-used e l = ap (λ x. cond x e (t.entry_limit + e)) (ne_eqb e nothing (λ q. omega (arith, q, few)))

  walk : (e : ℕ) (vs : List ℕ) → e < length es → More es e vs → (x : ℕ) → member x (linked t'.entries (suc (length vs)) (t.entry_limit + e)) ≡ true → Among t.entry_limit (length es) x
  unfolding linked
  walk e [] l m x k = either x (t.entry_limit + e) [] k (λ q. (e, q, l)) (λ z. absurd (empty x z))
  walk e (w ∷ ws) l m x k =
      let on : (entry_at t'.entries (t.entry_limit + e)).next ≡ t.entry_limit + next_of es e = ap (λ y. y.next) (b.new_entry_lem e l) ∙ raised-used (next_of es e) m.1 in
      either x (t.entry_limit + e) (linked t'.entries (suc (length ws)) (entry_at t'.entries (t.entry_limit + e)).next) k (λ q. (e, q, l))
      (λ z. walk (next_of es e) ws m.1 m.3 x (sym (ap (λ y. member x (linked t'.entries (suc (length ws)) y)) on) ∙ z))

  from_first : (first : ℕ) (kids : List ℕ) → Linked es first kids → (x : ℕ) → member x (linked t'.entries (length kids) (raised_link t.entry_limit first)) ≡ true → Among t.entry_limit (length es) x
  unfolding linked
  from_first first [] h x k = absurd (empty x k)
  from_first first (v ∷ vs) h x k =
      walk first vs h.0 h.2 x (sym (ap (λ y. member x (linked t'.entries (suc (length vs)) y)) (raised-used first h.0)) ∙ k)

  new_chain : (i : ℕ) → i < length ns → (x : ℕ) → member x (chain_of t' (t.node_limit + i)) ≡ true → Among t.entry_limit (length es) x
  new_chain i l x k =
      let f = a.finished i l in
      from_first (get_or ns i blank).first f.kids f.linked x
      (sym (ap (λ y. member x (linked t'.entries y.count y.first)) (b.new_node i l) ∙ ap (λ c. member x (linked t'.entries c (raised_link t.entry_limit (get_or ns i blank).first))) f.counted) ∙ k)

  kids_of_lem : (xs : List ℕ) → ((x : ℕ) → member x xs ≡ true → Among t.entry_limit (length es) x) → (c : ℕ) → member c (children_of t'.entries xs) ≡ true → Among t.node_limit (length ns) c
  unfolding children_of
  kids_of_lem [] h c k = absurd (empty c k)
  kids_of_lem (x ∷ xs) h c k =
      either c (entry_at t'.entries x).child (children_of t'.entries xs) k
      (λ q. let y = h x (member-cons_same x xs) in (
        (get_or es y.0 unlinked).child,
        q ∙ ap (λ z. (entry_at t'.entries z).child) y.1 ∙ ap (λ z. z.child) (b.new_entry_lem y.0 y.2),
        (a.entries_in_lem y.0 y.2).child,
      ))
      (λ m. kids_of_lem xs (λ y n. h y (member_right y (x ∷ []) xs n)) c m)

  new_children : (i : ℕ) → i < length ns → (c : ℕ) → member c (children t' (t.node_limit + i)) ≡ true → Among t.node_limit (length ns) c
  new_children i l c k = kids_of_lem (chain_of t' (t.node_limit + i)) (λ x m. new_chain i l x m) c k

  new_input : (i : ℕ) → i < length ns → (node_at t'.nodes (t.node_limit + i)).input ≡ number
  new_input i l = ap (λ y. y.input) (b.new_node i l)

  -- a node is one that stood or a new one
  which : {P : ℕ → Type 0} (n : ℕ) → n < t'.node_limit → ((m : ℕ) → m < t.node_limit → P m) → ((i : ℕ) → i < length ns → P (t.node_limit + i)) → P n
  which {P} n l old new = go (ltb n t.node_limit) refl
    where
      go : (x : Bool) → ltb n t.node_limit ≡ x → P n
      go true e = old n (ltb-true n t.node_limit e)
      go false e =
          let h : t.node_limit ≤ n = ltb-false n t.node_limit e in
          let z : t.node_limit + (n - t.node_limit) ≡ n = omega arith in
          subst P z (new (n - t.node_limit) (omega (arith, l, b.all_nodes)))

  pub behind_one : OneInput t → OneInput t'
  behind_one o =
      record {
        chained = λ n e l.
            which {P = λ n. member e (chain_of t' n) ≡ true → e < t'.entry_limit} n l
            (λ m h k. omega (arith, b.all_entries, o.chained m e h (sym (ap (member e) (old_chain o m h)) ∙ k)))
            (λ i h k. let x = new_chain i h e k in omega (arith, b.all_entries, x.1, x.2));
        counted = λ n c l.
            which {P = λ n. member c (children t' n) ≡ true → c < t'.node_limit} n l
            (λ m h k. omega (arith, b.all_nodes, o.counted m c h (sym (ap (member c) (old_children o m h)) ∙ k)))
            (λ i h k. let x = new_children i h c k in omega (arith, b.all_nodes, x.1, x.2));
        alike = λ n c l.
            which {P = λ n. member c (children t' n) ≡ true → (node_at t'.nodes c).input ≡ (node_at t'.nodes n).input} n l
            (λ m h k.
            let q = sym (ap (member c) (old_children o m h)) ∙ k in
            ap (λ y. y.input) (b.same_node c (o.counted m c h q)) ∙ o.alike m c h q ∙ sym (ap (λ y. y.input) (b.same_node m h)))
            (λ i h k. let x = new_children i h c k in ap (λ y. (node_at t'.nodes y).input) x.1 ∙ new_input x.0 x.2 ∙ sym (new_input i h));
      }
