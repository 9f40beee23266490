-- How a move and an append end, for demand 1, with the two exemptions of 02's K11: by cases of the outcome. Assumes nothing.
use mathlib.Core.Path.{◌≡◌, refl, sym, ap, ◌∙◌}
use Prim.Native.Nat.{ℕ, ◌-◌, ◌*◌, ◌≤◌}
use native.Mathlib.Omega.{arith}
use mathlib.Core.Bool.{Bool, true, false, cond}
use mathlib.Core.List.{List}
use lib.ListN.{length}
use lib.Dec.{ltb}
use borrow.Author.Tests.{ltb-false}
use Rattle.refusals.specs.Numbers.{no_node, no_entry, input_too_long}
use Rattle.refusals.specs.Faults.{number_of}
use Rattle.refusals.proofs.Faults.{number_in_table}
use Rattle.refusals.specs.Limits.{most_bytes}
use Rattle.grammar.specs.Reading.{Answer, gives, stops}
use Rattle.grammar.specs.Room.{Rooms, run}
use Rattle.grammar.specs.State.{State, node_width, entry_width, node_capacity, entry_capacity}
use Rattle.grammar.specs.Answer.{plain, rooms_of}
use Rattle.keepvisit.specs.Visit.{chains}
use Rattle.keep.specs.Kept as move
use Rattle.keep.specs.Kept.{Outcome, outcome, lent_stores, held_by, kept_of}
use Rattle.readmore.specs.More.{Kept, keeping, room_left, appending, counts_with, appended_to, more_of, kept_part}
use Rattle.sillgarland.specs.Reclaiming.{KeptAs}
use Rattle.sillgarland.specs.Values.{ReadAs, read_struct}
use Rattle.sillgarland.specs.declared.reclaiming.SillKept.{SillKept}
use Rattle.sillgarland.specs.declared.values.SillRead.{SillRead}
use Rattle.promises.specs.Demand1.{InTable, Ends, answers, refuses, Zero, AsItWas, KeptThenZero, KeepEnds}
use Rattle.promises.proofs.Numbers.{Tabled, if_tabled, run_in_table}

-- A move.

pub keep_ends : (nodes entries slots : List ℕ) (used_nodes used_entries node : ℕ) (stack : List ℕ) (r : SillKept) (ns es ss st : List ℕ)
    → KeptAs (kept_of nodes entries slots used_nodes used_entries node (length stack)) (length stack) r ns es ss st
    → KeepEnds r (AsItWas nodes ns × AsItWas entries es × AsItWas slots ss × Zero stack st)
unfolding kept_of
keep_ends nodes entries slots used_nodes used_entries node stack r ns es ss st h =
    let t = lent_stores nodes entries used_nodes used_entries in
    go (outcome t used_nodes used_entries node (length stack)) h
  where
    go : (o : Outcome) → KeptAs (held_by o (lent_stores nodes entries used_nodes used_entries) slots) (length stack) r ns es ss st
        → KeepEnds r (AsItWas nodes ns × AsItWas entries es × AsItWas slots ss × Zero stack st)
    go (move.refuses why place) k = refuses (number_of why) place (number_in_table why) k.numbers (k.holds-nodes, k.holds-entries, k.holds-slots, k.cleared)
    go (move.moves order) k =
        let t = lent_stores nodes entries used_nodes used_entries in
        answers (length order, length (chains t order), node_capacity (length nodes) - length order, entry_capacity (length entries) - length (chains t order)) k.numbers

-- An append.

appending-listed : (s : List ℕ) (R : Rooms) (k : Kept) → Tabled (appending s R k)
unfolding appending
appending-listed s R k = go (ltb most_bytes (length s)) refl
  where
    read : length s ≤ most_bytes → (a : Answer (ℕ × State)) → run (room_left R k) (plain s) ≡ a → Tabled a
    read small (gives r) e = tt
    read small (stops number place) e = run_in_table s small (room_left R k) number place e

    go : (b : Bool) → ltb most_bytes (length s) ≡ b
        → Tabled (cond b (stops input_too_long 0) (cond (ltb R.nodes k.nodes) (stops no_node 0) (cond (ltb R.entries k.entries) (stops no_entry 0) (run (room_left R k) (plain s)))))
    go true e = (omega arith, omega arith)
    go false e =
        if_tabled (ltb R.nodes k.nodes) _ _ (omega arith, omega arith)
        (if_tabled (ltb R.entries k.entries) _ _ (omega arith, omega arith) (read (ltb-false most_bytes (length s) e) (run (room_left R k) (plain s)) refl))

pub more_ends : (s nodes entries slots : List ℕ) (nesting kept_nodes kept_entries number : ℕ) (r : SillRead) (ns es ss : List ℕ)
    → ReadAs (more_of s nodes entries (length slots) nesting kept_nodes kept_entries number) r ns es ss
    → Ends r (λ counts. read_struct (gives counts)) (λ number place. read_struct (stops number place))
    (KeptThenZero (kept_nodes * node_width) nodes ns × KeptThenZero (kept_entries * entry_width) entries es × Zero slots ss)
unfolding more_of
more_ends s nodes entries slots nesting kept_nodes kept_entries number r ns es ss h =
    let k = keeping kept_nodes kept_entries number in
    let R = rooms_of (length nodes) (length entries) (length slots) nesting in
    go (appending s R k) (appending-listed s R k) h
  where
    go : (a : Answer (ℕ × State)) → Tabled a → ReadAs (appended_to (keeping kept_nodes kept_entries number) nodes entries (length slots) a) r ns es ss
        → Ends r (λ counts. read_struct (gives counts)) (λ number place. read_struct (stops number place))
        (KeptThenZero (kept_nodes * node_width) nodes ns × KeptThenZero (kept_entries * entry_width) entries es × Zero slots ss)
    go (gives x) t k = answers (counts_with (keeping kept_nodes kept_entries number) x.1) k.numbers
    go (stops n p) t k = refuses n p t k.numbers (k.holds-nodes, k.holds-entries, k.holds-slots)
