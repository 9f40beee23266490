-- The struct that the export of a move returns, and what such a call leaves. 02, K11.
use Rattle.std.specs.Prelude.{◌≡◌, List, ℕ, Result, Ok, Err}
use Rattle.clearing.specs.Lent.{zeros}
use Rattle.refusals.specs.Numbers.{accepted}
use Rattle.refusals.specs.Faults.{number_of}
use Rattle.refusals.specs.declared.Fault.{Fault}
use Rattle.keep.specs.declared.Kept.{Kept}
use Rattle.keep.specs.Kept.{Held}
use Rattle.sillgarland.specs.declared.reclaiming.SillKept.{SillKept}

abbrev pub keep_struct : Result Kept Fault → SillKept
keep_struct (Ok kept) =
    record {
      refusal = accepted;
      place = 0;
      nodes = kept.nodes;
      entries = kept.entries;
      free_nodes = kept.freenodes;
      free_entries = kept.freeentries;
    }
keep_struct (Err fault) =
    record { refusal = number_of fault.refusal; place = fault.place; nodes = 0; entries = 0; free_nodes = 0; free_entries = 0 }

-- The contract: r gives the answer's numbers, the three stores hold what the outcome says, and the stack is zero.
pub record KeptAs (o : Held) (size : ℕ) (r : SillKept) (nodes entries slots stack : List ℕ) : Type 0 where
  pub numbers : r ≡ keep_struct o.answer
  pub holds-nodes : nodes ≡ o.nodes
  pub holds-entries : entries ≡ o.entries
  pub holds-slots : slots ≡ o.slots
  pub cleared : stack ≡ zeros size
