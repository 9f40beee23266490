-- No export and no promise rests on this page.
-- What the code carries and what the stores hold, against the state of the definitions; and the bounds that every step keeps.
-- A node that is claimed and not complete is a record of zeros, so that claiming writes nothing. The records are those of 01, 'What is lent
-- and what is kept'.
use Rattle.std.specs.Prelude.{◌≡◌, ℕ, ◌+◌, ◌*◌, ◌≤◌, ◌<◌, List, length, get_or}
use Rattle.std.proofs.Math.Option.{Option, none, some}
use Rattle.refusals.specs.Limits.{most_bytes, most_records, nothing}
use Rattle.grammar.specs.Room.{Rooms}
use Rattle.grammar.specs.State.{State, node_width, entry_width, node_cells, entry_cells}
use Rattle.grammar.specs.Steps.{Chain, code_part, locals_part, kinds_part}
use Rattle.stores.specs.Written.{Keeps}
use Rattle.readsteps.specs.declared.Room.{Room}
use Rattle.readsteps.specs.declared.Walk.{Walk}
use Rattle.readsteps.specs.declared.Line.{Line}

-- the capacities, and so many levels
abbrev pub rooms : Room → ℕ → Rooms
rooms room levels = record { levels = levels; nodes = room.nodes; entries = room.entries; slots = room.slots }

-- The walk and the stores hold the state.
pub record Holds (w : Walk) (ns es ss : List ℕ) (st : State) : Type 0 where
  pub at : w.at ≡ st.at
  pub nodes : w.nodes ≡ length st.nodes
  pub entries : w.entries ≡ length st.entries
  pub slots : w.slots ≡ length st.slots
  pub node_store : Keeps ns (node_cells st.nodes)
  pub entry_store : Keeps es (entry_cells st.entries)
  pub slot_store : Keeps ss st.slots

-- the last entry as a number, and that it is one of so many
abbrev pub or_nothing : Option ℕ → ℕ
or_nothing none = nothing
or_nothing (some e) = e

abbrev pub LastIn : Option ℕ → ℕ → Type 0
LastIn none entries = Unit
LastIn (some e) entries = e < entries

-- The line holds the chain. Of the children only their count is kept, and the nodes of three parts, which a code's end checks look at.
pub record HoldsChain (l : Line) (ns es ss : List ℕ) (c : Chain) : Type 0 where
  pub walk : Holds l.walk ns es ss c.st
  pub first : l.first ≡ c.first
  pub last : l.last ≡ or_nothing c.last
  pub last_in : LastIn c.last l.walk.entries
  pub count : l.count ≡ length c.kids
  pub line : l.line ≡ c.line
  pub code : l.code ≡ get_or c.kids code_part 0
  pub locals : l.locals ≡ get_or c.kids locals_part 0
  pub kinds : l.kinds ≡ get_or c.kids kinds_part 0

-- The numbers are within the input, the rooms and the stores.
pub record Safe (s : List ℕ) (room : Room) (w : Walk) (ns es ss : List ℕ) : Type 0 where
  pub at : w.at ≤ length s
  pub input : length s ≤ most_bytes
  pub nodes : w.nodes ≤ room.nodes
  pub entries : w.entries ≤ room.entries
  pub slots : w.slots ≤ room.slots
  pub node_room : room.nodes ≤ most_records
  pub entry_room : room.entries ≤ most_records
  pub slot_room : room.slots ≤ most_records
  pub node_store : room.nodes * node_width ≤ length ns
  pub entry_store : room.entries * entry_width ≤ length es
  pub slot_store : room.slots ≤ length ss

-- A reading goes on from one walk to another, by so many bytes at least.
pub record Moved (least : ℕ) (s : List ℕ) (room : Room) (w a : Walk) : Type 0 where
  pub at : w.at + least ≤ a.at
  pub within : a.at ≤ length s
  pub nodes : w.nodes ≤ a.nodes
  pub node_room : a.nodes ≤ room.nodes
  pub entries : w.entries ≤ a.entries
  pub entry_room : a.entries ≤ room.entries
  pub slots : w.slots ≤ a.slots
  pub slot_room : a.slots ≤ room.slots

-- The numbers of a line are within those of its walk.
pub record LineIn (l : Line) : Type 0 where
  pub last_in : (l.last ≡ nothing → ⊥) → l.last < l.walk.entries
  pub count : l.count ≤ l.walk.entries

-- the line before the first child
abbrev pub no_line : Walk → Line
no_line w = record { first = nothing; last = nothing; count = 0; line = 0; code = 0; locals = 0; kinds = 0; walk = w }
