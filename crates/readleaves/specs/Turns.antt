-- No export and no promise rests on this page.
-- What holds at the head of the loop over a node's children, by the kind of these: what is still to be read comes to the same answer as
-- the whole. And what is said of a plain value, of a plain child, and of a loop over plain children: it keeps what holds there.
use Rattle.std.specs.Prelude.{◌≡◌, ℕ, ◌+◌, ◌-◌, ◌*◌, ◌%◌, ◌≤◌, ◌<◌, List, length, Result, Ok, Err, Option, Some, None}
use Rattle.refusals.specs.declared.Fault.{Fault}
use Rattle.refusals.specs.Limits.{most_bytes, most_records}
use Rattle.grammar.specs.Reading.{bind}
use Rattle.grammar.specs.Room.{run}
use Rattle.grammar.specs.State.{node_width}
use Rattle.grammar.specs.Fields.{parts, code_numbers}
use Rattle.grammar.specs.Steps.{Chain, whatever, code_parts, ended}
use Rattle.fields.specs.Behind.{children_of}
use Rattle.fields.specs.declared.Kids.{Kids}
use Rattle.fields.specs.declared.Kids.TheVariants as kind
use Rattle.readsteps.specs.declared.Room.{Room}
use Rattle.readsteps.specs.declared.Walk.{Walk}
use Rattle.readsteps.specs.declared.Line.{Line}
use Rattle.readsteps.specs.declared.Step.{Step}
use Rattle.readsteps.specs.declared.Next.{Next}
use Rattle.readsteps.specs.declared.Next.TheVariants as next
use Rattle.readsteps.specs.Held.{rooms, Safe, HoldsChain, Moved, LineIn}
use Rattle.readsteps.specs.Linking.{Nexts, below_of}
use Rattle.readleaves.specs.Readings.{ChainReader, ReadsValue, ReadsChild, ReadsBody, child_of, kids_of, couples_of, parts_of}

-- What is asked where a code's parts are read: its numbers stand behind its header; and, where its levels are not yet tested, one is left.
abbrev pub NumbersIn : Kids → (header : ℕ) → List ℕ → Type 0
NumbersIn kids header s = children_of kids ≡ parts → header + 1 + code_numbers ≤ length s

abbrev pub PartsIn : Kids → (allowance header : ℕ) → List ℕ → Type 0
PartsIn kids allowance header s = children_of kids ≡ parts → (0 < allowance) × (header + 1 + code_numbers ≤ length s)

-- The head of the loop.

-- what does not hang on the reading
pub record Stands (s : List ℕ) (room : Room) (line₀ : Line) (ns₀ es₀ ss₀ ns es ss : List ℕ) (line : Line) : Type 0 where
  pub moved : Moved 0 s room line₀.walk line.walk
  pub line_in : LineIn line
  pub node_store : length ns ≡ length ns₀
  pub entry_store : length es ≡ length es₀
  pub slot_store : length ss ≡ length ss₀

pub record Inv (whole rest : ChainReader) (s : List ℕ) (room : Room) (allowance : ℕ) (line₀ : Line) (ns₀ es₀ ss₀ ns es ss : List ℕ) (line : Line) : Type 0 where
  pub stands : Stands s room line₀ ns₀ es₀ ss₀ ns es ss line
  pub exact : (fuel depth : ℕ) (c₀ : Chain) → HoldsChain line₀ ns₀ es₀ ss₀ c₀ → length s ≤ line₀.walk.at + fuel
      → (c : Chain) × HoldsChain line ns es ss c × (run (rooms room (depth + allowance)) (whole fuel depth c₀) ≡ run (rooms room (depth + allowance)) (rest fuel depth c))

-- a reader F is called, and G is what is read after it
abbrev pub Then : ChainReader → ChainReader → ChainReader
Then F G fuel depth c = bind (F fuel depth c) (G fuel depth)

-- so many children
pub record InvKids (s : List ℕ) (room : Room) (allowance count : ℕ) (line₀ : Line) (ns₀ es₀ ss₀ ns es ss : List ℕ) (line : Line) (i : ℕ) : Type 0 where
  pub bound : i ≤ count
  pub inv : Inv (kids_of s count) (kids_of s (count - i)) s room allowance line₀ ns₀ es₀ ss₀ ns es ss line

-- a dict's pairs, where a key stands: for whatever fuel outlasts the bytes from the first line on
pub record InvPairs (s : List ℕ) (room : Room) (allowance : ℕ) (line₀ : Line) (ns₀ es₀ ss₀ ns es ss : List ℕ) (line : Line) : Type 0 where
  pub stands : Stands s room line₀ ns₀ es₀ ss₀ ns es ss line
  pub inv : (extra₀ : ℕ) → length s ≤ line₀.walk.at + extra₀
      → (extra : ℕ) × (length s ≤ line.walk.at + extra) × Inv (couples_of s extra₀) (couples_of s extra) s room allowance line₀ ns₀ es₀ ss₀ ns es ss line

-- where a key is read and its value is asked for
pub record InvValue (s : List ℕ) (room : Room) (allowance : ℕ) (line₀ : Line) (ns₀ es₀ ss₀ ns es ss : List ℕ) (line : Line) : Type 0 where
  pub stands : Stands s room line₀ ns₀ es₀ ss₀ ns es ss line
  pub inv : (extra₀ : ℕ) → length s ≤ line₀.walk.at + extra₀
      → (extra : ℕ) × (length s ≤ line.walk.at + extra) × Inv (couples_of s extra₀) (Then (child_of s whatever) (couples_of s extra)) s room allowance line₀ ns₀ es₀ ss₀ ns es ss line

pub record InvDict (s : List ℕ) (room : Room) (allowance : ℕ) (line₀ : Line) (ns₀ es₀ ss₀ ns es ss : List ℕ) (line : Line) : Type 0 where
  pub key : line.count % 2 ≡ 0 → InvPairs s room allowance line₀ ns₀ es₀ ss₀ ns es ss line
  pub item : (line.count % 2 ≡ 0 → ⊥) → InvValue s room allowance line₀ ns₀ es₀ ss₀ ns es ss line

-- a code's parts: its body has the allowance, and its parts one less; so many parts are read
pub record InvCode (s : List ℕ) (room : Room) (allowance at : ℕ) (line₀ : Line) (ns₀ es₀ ss₀ ns es ss : List ℕ) (line : Line) (i : ℕ) : Type 0 where
  pub bound : i ≤ code_parts
  pub inv : Inv (Then (parts_of s code_parts 0) (λ fuel depth. ended s at)) (Then (parts_of s (code_parts - i) i) (λ fuel depth. ended s at)) s room (allowance - 1) line₀ ns₀ es₀ ss₀ ns es ss line

abbrev pub InvOf : Kids → ℕ → List ℕ → Room → ℕ → Line → (ns₀ es₀ ss₀ ns es ss : List ℕ) → Line → Type 0
InvOf (kind.Items count) at s room allowance line₀ ns₀ es₀ ss₀ ns es ss line = InvKids s room allowance count line₀ ns₀ es₀ ss₀ ns es ss line line.count
InvOf kind.Pairs at s room allowance line₀ ns₀ es₀ ss₀ ns es ss line = InvDict s room allowance line₀ ns₀ es₀ ss₀ ns es ss line
InvOf kind.Parts at s room allowance line₀ ns₀ es₀ ss₀ ns es ss line = InvCode s room allowance at line₀ ns₀ es₀ ss₀ ns es ss line line.count

pub record InvBody (kids : Kids) (at : ℕ) (s : List ℕ) (room : Room) (allowance : ℕ) (line₀ : Line) (ns₀ es₀ ss₀ ns es ss : List ℕ) (line : Line) : Type 0 where
  pub stands : Stands s room line₀ ns₀ es₀ ss₀ ns es ss line
  pub inv : InvOf kids at s room allowance line₀ ns₀ es₀ ss₀ ns es ss line

-- Plain values and children.

-- `Safe`, but for the entries, which a plain value has none of
pub record SafeLeaf (s : List ℕ) (room : Room) (w : Walk) (ns ss : List ℕ) : Type 0 where
  pub at : w.at ≤ length s
  pub input : length s ≤ most_bytes
  pub nodes : w.nodes ≤ room.nodes
  pub slots : w.slots ≤ room.slots
  pub node_room : room.nodes ≤ most_records
  pub slot_room : room.slots ≤ most_records
  pub node_store : room.nodes * node_width ≤ length ns
  pub slot_store : room.slots ≤ length ss

-- a value that is taken is read as any value is; where none is taken the stores are as they were
abbrev pub TakesOf : List ℕ → Room → ℕ → Walk → (ns ss : List ℕ) → Option Step → (ns' ss' : List ℕ) → Type 0
TakesOf s room allowance w ns ss (Some given) ns' ss' =
    (es : List ℕ) → Safe s room w ns es ss → ReadsValue s room allowance w ns es ss (Ok given) ns' es ss'
TakesOf s room allowance w ns ss None ns' ss' = (ns' ≡ ns) × (ss' ≡ ss)

pub record Takes (s : List ℕ) (room : Room) (allowance : ℕ) (w : Walk) (ns ss : List ℕ) (r : Option Step) (ns' ss' : List ℕ) : Type 0 where
  pub is : TakesOf s room allowance w ns ss r ns' ss'

abbrev pub TriesOf : ℕ → List ℕ → Room → ℕ → Line → (ns es ss : List ℕ) → Result (Option Line) Fault → (ns' es' ss' : List ℕ) → Type 0
TriesOf rule s room allowance line ns es ss (Ok (Some l)) ns' es' ss' = ReadsChild rule s room allowance line ns es ss (Ok l) ns' es' ss'
TriesOf rule s room allowance line ns es ss (Err f) ns' es' ss' = ReadsChild rule s room allowance line ns es ss (Err f) ns' es' ss'
TriesOf rule s room allowance line ns es ss (Ok None) ns' es' ss' = (ns' ≡ ns) × (es' ≡ es) × (ss' ≡ ss)

pub record Tries (rule : ℕ) (s : List ℕ) (room : Room) (allowance : ℕ) (line : Line) (ns es ss : List ℕ) (r : Result (Option Line) Fault) (ns' es' ss' : List ℕ) : Type 0 where
  pub is : TriesOf rule s room allowance line ns es ss r ns' es' ss'

-- Where the loop over plain children ends: before a child that is not plain, and then what holds at its head holds there; or with the
-- whole answer.
abbrev pub RunsTo : Kids → ℕ → List ℕ → Room → ℕ → Line → (ns₀ es₀ ss₀ : List ℕ) → Line → Result Next Fault → (ns es ss : List ℕ) → Type 0
RunsTo kids at s room allowance line₀ ns₀ es₀ ss₀ line (Ok (next.Child m rule)) ns es ss =
    (l : Line) × InvBody kids at s room allowance line₀ ns₀ es₀ ss₀ ns es ss l × Nexts s ns kids at l (Ok (next.Child m rule)) × (line.walk.at ≤ l.walk.at)
RunsTo kids at s room allowance line₀ ns₀ es₀ ss₀ line (Ok (next.Done m)) ns es ss = ReadsBody kids at s room allowance line₀ ns₀ es₀ ss₀ (Ok m) ns es ss
RunsTo kids at s room allowance line₀ ns₀ es₀ ss₀ line (Err f) ns es ss = ReadsBody kids at s room allowance line₀ ns₀ es₀ ss₀ (Err f) ns es ss

-- from whatever line the children began, where what holds at the head holds of the line that the loop is given
pub record Runs (kids : Kids) (at : ℕ) (s : List ℕ) (room : Room) (below : ℕ) (line : Line) (ns es ss : List ℕ) (n : Result Next Fault) (ns' es' ss' : List ℕ) : Type 0 where
  pub on : (allowance : ℕ) (line₀ : Line) (ns₀ es₀ ss₀ : List ℕ) → below ≡ below_of kids allowance → (children_of kids ≡ parts → 0 < allowance)
      → InvBody kids at s room allowance line₀ ns₀ es₀ ss₀ ns es ss line → RunsTo kids at s room allowance line₀ ns₀ es₀ ss₀ line n ns' es' ss'
