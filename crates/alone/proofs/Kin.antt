-- What a reading made between two states: where its headers stand, whose children its nodes have, which entry each reference that it met gave,
-- and how many slots and entries there are for the nodes made. The law of each change of the state. Assumes nothing but what it names.
use mathlib.Core.Path.{◌≡◌, ap, ◌∙◌}
use Prim.Native.Nat.{ℕ, suc, ◌+◌, ◌≤◌, ◌<◌}
use native.Mathlib.Omega.{arith}
use mathlib.Core.Bool.{true}
use mathlib.Core.List.{List, []}
use lib.ListN.{length, get_or}
use Rattle.refusals.specs.Limits.{nothing}
use Rattle.grammar.specs.Letters.{flag_of, among}
use Rattle.grammar.specs.Fields.{le32}
use Rattle.grammar.specs.State.{Node, State, blank, moved_to}
use Rattle.grammar.proofs.Tests.{never}
use Rattle.grammar.proofs.Links.{Linked, Grows, grows_linked}
use Rattle.nodespan.specs.Header.{header_of}
use Rattle.shifts.proofs.Onward.{Met}
use Rattle.alone.proofs.Totals.{total, total_none, total_same}

abbrev pub header_at : State → ℕ → ℕ
header_at st v = header_of (get_or st.nodes v blank)

-- the flag of a node's header, and how many children it has
abbrev pub flag : List ℕ → Node → ℕ
flag s n = flag_of (get_or s (header_of n) 0)

abbrev pub counted : Node → ℕ
counted n = n.count

module _ (s : List ℕ) where
  -- a reference that was met after a, and names this node in b
  pub record Refers (a b : State) (w : ℕ) : Type 0 where
    pub place : ℕ
    pub met : Met place b
    pub ahead : a.at < place
    pub names : get_or b.slots (le32 s place) 0 ≡ suc w

  -- a child is a node made after a, or one that a reference met after a names
  pub data Child (a b : State) (w : ℕ) : Type 0 where
    fresh : length a.nodes ≤ w → w < length b.nodes → Child a b w
    shared : Refers a b w → Child a b w

  pub record Parent (a b : State) (v : ℕ) : Type 0 where
    pub kids : List ℕ
    pub linked : Linked b.entries (get_or b.nodes v blank).first kids
    pub count : (get_or b.nodes v blank).count ≡ length kids
    pub each : (w : ℕ) → among w kids ≡ true → Child a b w

  -- a reference is a child that is not yet of a node, or of a node made after a
  pub record Of (a b : State) (x : ℕ) : Type 0 where
    pub node : ℕ
    pub child : ℕ
    pub from : length a.nodes ≤ node
    pub to : node < length b.nodes
    pub kids : List ℕ
    pub linked : Linked b.entries (get_or b.nodes node blank).first kids
    pub count : (get_or b.nodes node blank).count ≡ length kids
    pub in_kids : among child kids ≡ true
    pub names : get_or b.slots (le32 s x) 0 ≡ suc child

  pub data Given (a b : State) (loose : List ℕ) (x : ℕ) : Type 0 where
    yet : (w : ℕ) → among w loose ≡ true → get_or b.slots (le32 s x) 0 ≡ suc w → Given a b loose x
    of : Of a b x → Given a b loose x

  -- where a node's header stands: behind as many bytes as there are nodes before it
  pub record Headed (a b : State) (v : ℕ) : Type 0 where
    pub from : a.at + v ≤ header_at b v + length a.nodes
    pub to : header_at b v < b.at

  -- `loose` are the children that are not yet of a node, and `extra` the entries that they have
  pub record Kin (a b : State) (loose : List ℕ) (extra : ℕ) : Type 0 where
    pub few : length b.nodes + a.at ≤ length a.nodes + b.at
    pub headed : (v : ℕ) → length a.nodes ≤ v → v < length b.nodes → Headed a b v
    pub each : (w : ℕ) → among w loose ≡ true → Child a b w
    pub parents : (v : ℕ) → length a.nodes ≤ v → v < length b.nodes → Parent a b v
    pub given : (x : ℕ) → Met x b → a.at < x → Given a b loose x
    pub made : ℕ
    pub many : length b.nodes ≡ length a.nodes + made
    pub flags : length b.slots ≡ length a.slots + total (flag s) b.nodes made (length a.nodes)
    pub entries : length b.entries ≡ length a.entries + (extra + total counted b.nodes made (length a.nodes))

  -- A state further on: the nodes from one on stay, links that are set stay, and so do references and filled slots.
  pub record Grown (from : ℕ) (b d : State) : Type 0 where
    pub on : b.at ≤ d.at
    pub longer : length b.nodes ≤ length d.nodes
    pub same : (i : ℕ) → from ≤ i → i < length b.nodes → get_or d.nodes i blank ≡ get_or b.nodes i blank
    pub links : Grows b.entries d.entries
    pub few : length b.entries ≤ nothing
    pub still : (x : ℕ) → Met x b → Met x d
    pub slots : (i w : ℕ) → get_or b.slots i 0 ≡ suc w → get_or d.slots i 0 ≡ suc w

  -- and an earlier base
  pub record Earlier (c a : State) : Type 0 where
    pub on : c.at ≤ a.at
    pub nodes : length c.nodes ≤ length a.nodes

  module _ {from : ℕ} {b d c a : State} (g : Grown from b d) (e : Earlier c a) where
    pub refers_on : {w : ℕ} → Refers a b w → Refers c d w
    refers_on r = record { place = r.place; met = g.still r.place r.met; ahead = omega (arith, r.ahead, e.on); names = g.slots (le32 s r.place) _ r.names }

    pub child_on : {w : ℕ} → Child a b w → Child c d w
    child_on (fresh lo hi) = fresh (omega (arith, e.nodes)) (omega (arith, g.longer))
    child_on (shared r) = shared (refers_on r)

    pub parent_on : {v : ℕ} → from ≤ v → v < length b.nodes → Parent a b v → Parent c d v
    parent_on {v} lo hi p =
        record {
          kids = p.kids;
          linked = rw (g.same v lo hi) (grows_linked b.entries d.entries g.links g.few (get_or b.nodes v blank).first p.kids p.linked);
          count = ap (λ z. z.count) (g.same v lo hi) ∙ p.count;
          each = λ w m. child_on (p.each w m);
        }

    pub of_on : {x : ℕ} → from ≤ length a.nodes → Of a b x → Of c d x
    of_on {x} l o =
        let y = g.same o.node (omega (arith, o.from)) o.to in
        record {
          node = o.node;
          child = o.child;
          from = omega (arith, o.from, e.nodes);
          to = omega (arith, o.to, g.longer);
          kids = o.kids;
          linked = rw y (grows_linked b.entries d.entries g.links g.few (get_or b.nodes o.node blank).first o.kids o.linked);
          count = ap (λ z. z.count) y ∙ o.count;
          in_kids = o.in_kids;
          names = g.slots (le32 s x) o.child o.names;
        }

    -- where nothing that was loose is let go
    pub given_on : {loose more : List ℕ} {x : ℕ} → from ≤ length a.nodes → ((w : ℕ) → among w loose ≡ true → among w more ≡ true) → Given a b loose x → Given c d more x
    given_on l k (yet w m n) = yet w (k w m) (g.slots _ w n)
    given_on l k (of o) = of (of_on l o)

  -- a header's place, seen further on
  pub header_on : {from : ℕ} {b d : State} → Grown from b d → (v : ℕ) → from ≤ v → v < length b.nodes → header_at d v ≡ header_at b v
  header_on g v lo hi = ap header_of (g.same v lo hi)

  pub totals_on : {from : ℕ} {b d : State} (f : Node → ℕ) → Grown from b d → (more i : ℕ) → from ≤ i → i + more ≤ length b.nodes → total f d.nodes more i ≡ total f b.nodes more i
  totals_on {from} {b} {d} f g more i lo hi = total_same f b.nodes d.nodes more i (λ j l h. g.same j (omega arith) (omega arith))

  -- Nothing read.
  pub kin_none : (a : State) → ((x : ℕ) → Met x a → a.at < x → ⊥) → Kin a a [] 0
  kin_none a q =
      record {
        few = omega arith;
        headed = λ v lo hi. absurd (omega arith);
        each = λ w m. never m;
        parents = λ v lo hi. absurd (omega arith);
        given = λ x m l. absurd (q x m l);
        made = 0;
        many = omega arith;
        flags = omega (arith, total_none (flag s) a.nodes (length a.nodes));
        entries = omega (arith, total_none counted a.nodes (length a.nodes));
      }

  -- Bytes passed.
  pub kin_moved : {a b : State} {loose : List ℕ} {extra : ℕ} (at : ℕ) → b.at ≤ at → Kin a b loose extra → Kin a (moved_to at b) loose extra
  kin_moved {a} {b} at l k =
      record {
        few = omega (arith, k.few);
        headed = λ v lo hi. record { from = (k.headed v lo hi).from; to = omega (arith, (k.headed v lo hi).to) };
        each = λ w m. moved-child (k.each w m);
        parents = λ v lo hi. record {
          kids = (k.parents v lo hi).kids;
          linked = (k.parents v lo hi).linked;
          count = (k.parents v lo hi).count;
          each = λ w m. moved-child ((k.parents v lo hi).each w m);
        };
        given = λ x m q. moved-given (k.given x m q);
        made = k.made;
        many = k.many;
        flags = k.flags;
        entries = k.entries;
      }
    where
      moved-child : {w : ℕ} → Child a b w → Child a (moved_to at b) w
      moved-child (fresh lo hi) = fresh lo hi
      moved-child (shared r) = shared (record { place = r.place; met = r.met; ahead = r.ahead; names = r.names })

      moved-given : {loose : List ℕ} {x : ℕ} → Given a b loose x → Given a (moved_to at b) loose x
      moved-given (yet w m n) = yet w m n
      moved-given (of o) =
          of (record {
            node = o.node;
            child = o.child;
            from = o.from;
            to = o.to;
            kids = o.kids;
            linked = o.linked;
            count = o.count;
            in_kids = o.in_kids;
            names = o.names;
          })
