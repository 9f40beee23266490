-- The struct that the moves of golden files return: 01's numbers of the answer; and what such a call leaves.
use Rattle.std.specs.Prelude.{◌≡◌, List, ℕ, length}
use Rattle.clearing.specs.Lent.{zeros}
use Rattle.refusals.specs.Numbers.{accepted}
use Rattle.grammar.specs.Reading.{Answer, gives, stops}
use Rattle.sillgarland.specs.declared.goldenfiles.SillMoved.{SillMoved}

abbrev pub moved_struct : Answer ℕ → SillMoved
moved_struct (gives written) = record { refusal = accepted; place = 0; written = written }
moved_struct (stops number place) = record { refusal = number; place = place; written = 0 }

-- The contract: r gives the answer's numbers, the output holds what was written, and the three stores, which are working room, are zero.
pub record Moves (o : Answer ℕ × List ℕ) (r : SillMoved) (output lent₁ left₁ lent₂ left₂ lent₃ left₃ : List ℕ) : Type 0 where
  pub numbers : r ≡ moved_struct o.0
  pub holds : output ≡ o.1
  pub clear_nodes : left₁ ≡ zeros (length lent₁)
  pub clear_entries : left₂ ≡ zeros (length lent₂)
  pub clear_slots : left₃ ≡ zeros (length lent₃)
