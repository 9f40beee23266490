-- The room that a move reports free is what a new read behind it can claim: the stores keep their lengths, and what is kept is within their
-- capacities. By the laws of a move (carried). Assumes nothing.
use mathlib.Core.Path.{◌≡◌, refl, sym, ap, subst}
use Prim.Native.Nat.{ℕ, ◌-◌}
use native.Mathlib.Omega.{arith}
use mathlib.Core.List.{List, []}
use lib.ListN.{length}
use Rattle.grammar.specs.State.{node_capacity, entry_capacity}
use Rattle.keepvisit.specs.Visit.{chains}
use Rattle.keep.specs.Kept.{lent_stores, moves, outcome, held_by, kept_of}
use Rattle.carried.proofs.Moved.{few-nodes, few-entries, long-nodes, long-entries}
use Rattle.carried.proofs.Promised.{visit_of}
use Rattle.appended.specs.Promised.{Freed}

pub free_is_left : (nodes entries slots : List ℕ) (used_nodes used_entries root size : ℕ) (order : List ℕ)
    → outcome (lent_stores nodes entries used_nodes used_entries) used_nodes used_entries root size ≡ moves order
    → (lent nesting number : ℕ) → Freed (kept_of nodes entries slots used_nodes used_entries root size) lent nesting number
unfolding kept_of
free_is_left nodes entries slots used_nodes used_entries root size order e lent nesting number =
    let v = visit_of (lent_stores nodes entries used_nodes used_entries) used_nodes used_entries root size order e in
    let n = few-nodes [] nodes entries used_nodes used_entries root order v in
    let x = few-entries [] nodes entries used_nodes used_entries root order v in
    let ln = long-nodes [] nodes entries used_nodes used_entries root order v in
    let moved = length (chains (lent_stores nodes entries used_nodes used_entries) order) in
    let lx = long-entries [] nodes entries used_nodes used_entries root order v in
    subst (λ o. Freed (held_by o (lent_stores nodes entries used_nodes used_entries) slots) lent nesting number) (sym e)
    (record {
      told =
          record {
            nodes = length order;
            entries = moved;
            freenodes = node_capacity (length nodes) - length order;
            freeentries = entry_capacity (length entries) - moved;
          };
      accepted = refl;
      holds = record { in_nodes = omega (arith, n, ln); in_entries = omega (arith, x, lx) };
      left_nodes_lem = ap (λ m. node_capacity m - length order) ln;
      left_entries_lem = ap (λ m. entry_capacity m - moved) lx;
    })
