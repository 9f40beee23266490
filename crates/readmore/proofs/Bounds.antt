-- The numbers of an accepted reading, in the room that is left: its records fit behind what is kept, and every number raised has 32 bits.
-- By the bounds of every reading (grammar, Bounded and Keeping). Assumes nothing.
use mathlib.Core.Path.{◌≡◌, sym, ◌∙◌}
use Prim.Native.Nat.{ℕ, ◌+◌, ◌*◌, ◌≤◌, ◌<◌}
use native.Mathlib.Omega.{arith}
use mathlib.Core.List.{List}
use lib.ListN.{length, get_or}
use borrow.Author.Tests.{eq-eqb, ne_eqb}
use Rattle.refusals.specs.Limits.{most_bytes, nothing}
use Rattle.grammar.specs.Reading.{node, entry, slot, gives}
use Rattle.grammar.specs.Room.{run, plainly}
use Rattle.grammar.specs.State.{State, start, node_width, entry_width}
use Rattle.grammar.specs.Answer.{plain, rooms_of}
use Rattle.grammar.specs.Counted.{claims_of}
use Rattle.grammar.proofs.Fitting.{exact_where_all_fit, most-fits, fits-unless_of_room, gives_not_of_room}
use Rattle.grammar.proofs.Following.{Follows, follows_gives}
use Rattle.grammar.proofs.Links.{UsedOrNone, is_used, is_none}
use Rattle.grammar.proofs.Standing.{Valued}
use Rattle.grammar.proofs.Fielding.{Own}
use Rattle.grammar.proofs.Keeping.{value_keeps}
use Rattle.grammar.proofs.Bounded.{first_used-or_none, none_claimed, at_start, accepted-within}
use Rattle.raising.specs.Appended.{raised_link}
use Rattle.raising.specs.Raised.{NodesRaise, EntriesRaise, SlotsRaise}
use Rattle.readmore.specs.More.{Kept, room_left}
use Rattle.readmore.specs.Parts.{Fitting}

-- every slot names a node that there is, or is open
slots_in : (s : List ℕ) → length s ≤ most_bytes → (r : ℕ × State) → plainly (plain s) ≡ gives r → (i : ℕ) → get_or r.1.slots i 0 ≤ length r.1.nodes
unfolding plain
slots_in s small r e = (follows_gives (λ n p. Own s n p) (λ p. p ≤ length s) (Valued s start) none_claimed (plain s) r follows e).holds.holds.slots_in
  where
    follows : Follows (λ n p. Own s n p) (λ p. p ≤ length s) (Valued s start) none_claimed (plain s)
    follows = value_keeps s small (length s) 0 none_claimed start (at_start s small)

-- an entry's number of few, raised by few
few-raised : (kept : ℕ) {n e : ℕ} → kept ≤ 1048576 → n ≤ 16777216 → UsedOrNone n e → raised_link kept e < 4294967296
few-raised kept {n} {e} k l (is_used u) = rw (ne_eqb e nothing (λ q. omega arith)) (omega arith)
few-raised kept {n} {e} k l (is_none q) = rw (eq-eqb e nothing q) (omega arith)

-- what is known of a reading that is accepted in the room that is left
pub record Bounded (k : Kept) (nodes entries slots : ℕ) (r : ℕ × State) : Type 0 where
  pub nodes_fit : k.nodes * node_width + length r.1.nodes * node_width ≤ nodes
  pub entries_fit : k.entries * entry_width + length r.1.entries * entry_width ≤ entries
  pub slots_fit : length r.1.slots ≤ slots
  pub few-nodes : k.nodes + length r.1.nodes ≤ 1048576
  pub few-entries : k.entries + length r.1.entries ≤ 1048576
  pub nodes_raise : NodesRaise k.entries r.1.nodes
  pub entries_raise : EntriesRaise k.nodes k.entries r.1.entries
  pub slots_raise : SlotsRaise k.nodes r.1.slots

pub bounded : (s : List ℕ) (nodes entries slots nesting : ℕ) (k : Kept) → Fitting (length s) nodes entries k → (r : ℕ × State)
    → run (room_left (rooms_of nodes entries slots nesting) k) (plain s) ≡ gives r → Bounded k nodes entries slots r
bounded s nodes entries slots nesting k f r e =
    let R = room_left (rooms_of nodes entries slots nesting) k in
    let a = accepted-within s f.small R r e in
    let fits = fits-unless_of_room R (plain s) (λ n p q. gives_not_of_room r n p (sym e ∙ q)) in
    let m = most-fits R (claims_of s) fits in
    let n : k.nodes + length r.1.nodes ≤ 1048576 = omega (arith, a.needed-nodes, m node, f.in_nodes) in
    let x : k.entries + length r.1.entries ≤ 1048576 = omega (arith, a.needed-entries, m entry, f.in_entries) in
    record {
      nodes_fit = omega (arith, a.needed-nodes, m node, f.in_nodes);
      entries_fit = omega (arith, a.needed-entries, m entry, f.in_entries);
      slots_fit = omega (arith, a.needed-slots, m slot);
      few-nodes = n;
      few-entries = x;
      nodes_raise = λ i l. few-raised k.entries (omega arith) (omega arith) (first_used-or_none a i l);
      entries_raise = λ i l. (omega (arith, (a.entries_in_lem i l).child, n), few-raised k.entries (omega arith) (omega arith) (a.entries_in_lem i l).next);
      slots_raise = λ i l. omega (arith, slots_in s f.small r (sym (exact_where_all_fit R (plain s) fits) ∙ e) i, n);
    }
