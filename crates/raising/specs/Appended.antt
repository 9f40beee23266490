-- The records of a new read behind those that are kept: what each number of the plain reading becomes.
-- 02, K11: "its node and entry numbers are the plain reading's raised by those kept", "appended nodes take an input number".
use Rattle.std.specs.Prelude.{ℕ, zero, suc, ◌+◌, cond, ◌==◌}
use Rattle.refusals.specs.Limits.{nothing}
use Rattle.grammar.specs.State.{Node, Entry}

-- an entry's number, raised by the entries kept; 01: "No entry and no next entry are 4,294,967,295", which stays so
abbrev pub raised_link : (kept_entries e : ℕ) → ℕ
raised_link kept_entries e = cond (e == nothing) e (kept_entries + e)

-- a node with another first entry, of an input with this number: all else is as it was read
abbrev pub relabelled : (first number : ℕ) → Node → Node
relabelled first number n =
    record {
      letter = n.letter;
      place = n.place;
      size = n.size;
      first = first;
      count = n.count;
      end = n.end;
      input = number;
    }

abbrev pub appended_node : (kept_entries number : ℕ) → Node → Node
appended_node kept_entries number n = relabelled (raised_link kept_entries n.first) number n

abbrev pub appended_entry : (kept_nodes kept_entries : ℕ) → Entry → Entry
appended_entry kept_nodes kept_entries e = record { child = kept_nodes + e.child; next = raised_link kept_entries e.next }

-- "Slots of a new read begin at 0 again": their own numbers are not raised, but the nodes that they name are. 01: "0 while open, else node + 1".
abbrev pub appended_slot : (kept_nodes slot : ℕ) → ℕ
appended_slot kept_nodes zero = zero
appended_slot kept_nodes (suc v) = suc (kept_nodes + v)
