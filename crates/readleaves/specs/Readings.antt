-- No export and no promise rests on this page.
-- What the members of the cycle ensure: their answer, and where they read on the three stores, are those of the plain reading within the
-- capacities and the levels that the depth and the allowance make. What the stores hold on an inner refusal is not said: the entry clears.
-- 01, 'Reading a value': "A reader of values and a reader of containers call one another".
use Rattle.std.specs.Prelude.{◌≡◌, ℕ, ◌+◌, ◌≤◌, List, length, Result, Ok, Err}
use Rattle.refusals.specs.Faults.{number_of}
use Rattle.refusals.specs.declared.Fault.{Fault}
use Rattle.grammar.specs.Reading.{Reading, bind, Answer, gives, stops}
use Rattle.grammar.specs.Room.{run}
use Rattle.grammar.specs.State.{State}
use Rattle.grammar.specs.Steps.{Rule, Chain, child, kids, couples, code_parts, first_line_of, parts_from, ended, body, value}
use Rattle.fields.specs.Behind.{children_of}
use Rattle.fields.specs.declared.Kids.{Kids}
use Rattle.fields.specs.declared.Kids.TheVariants as kind
use Rattle.readsteps.specs.declared.Room.{Room}
use Rattle.readsteps.specs.declared.Walk.{Walk}
use Rattle.readsteps.specs.declared.Line.{Line}
use Rattle.readsteps.specs.declared.Step.{Step}
use Rattle.readsteps.specs.Held.{rooms, Holds, HoldsChain, Moved, LineIn}
use Rattle.readsteps.specs.Linking.{rule_of}

-- A value.

abbrev pub StepMoved : List ℕ → Room → Walk → Result Step Fault → Type 0
StepMoved s room w (Ok given) = Moved 1 s room w given.walk
StepMoved s room w (Err f) = Unit

abbrev pub Agrees : Result Step Fault → List ℕ → List ℕ → List ℕ → Answer (ℕ × State) → Type 0
Agrees (Ok given) ns es ss x = (st : State) × (x ≡ gives (given.node, st)) × Holds given.walk ns es ss st
Agrees (Err f) ns es ss x = x ≡ stops (number_of f.refusal) f.place

-- for every fuel that outlasts the bytes, every depth, and every state that the stores hold
pub record ReadsValue (s : List ℕ) (room : Room) (allowance : ℕ) (w : Walk) (ns es ss : List ℕ) (r : Result Step Fault) (ns' es' ss' : List ℕ) : Type 0 where
  pub moved : StepMoved s room w r
  pub exact : (fuel depth : ℕ) (st : State) → Holds w ns es ss st → length s ≤ w.at + fuel
      → Agrees r ns' es' ss' (run (rooms room (depth + allowance)) (value fuel s depth st))

-- Children.

abbrev pub LinkedMoved : ℕ → List ℕ → Room → Walk → Result Line Fault → Type 0
LinkedMoved least s room w (Ok l) = Moved least s room w l.walk × LineIn l
LinkedMoved least s room w (Err f) = Unit

abbrev pub AgreesChain : Result Line Fault → List ℕ → List ℕ → List ℕ → Answer Chain → Type 0
AgreesChain (Ok l) ns es ss x = (c : Chain) × (x ≡ gives c) × HoldsChain l ns es ss c
AgreesChain (Err f) ns es ss x = x ≡ stops (number_of f.refusal) f.place

-- a reading of children, by the fuel and the depth
abbrev pub ChainReader : Type 0
ChainReader = ℕ → ℕ → Chain → Reading Chain

-- `F` is the plain reading that the member stands for, and it reads so many bytes at least
pub record Lists (F : ChainReader) (least : ℕ) (s : List ℕ) (room : Room) (allowance : ℕ) (line : Line) (ns es ss : List ℕ) (r : Result Line Fault) (ns' es' ss' : List ℕ) : Type 0 where
  pub moved : LinkedMoved least s room line.walk r
  pub exact : (fuel depth : ℕ) (c : Chain) → HoldsChain line ns es ss c → length s ≤ line.walk.at + fuel
      → AgreesChain r ns' es' ss' (run (rooms room (depth + allowance)) (F fuel depth c))

-- The readings that the members stand for. The depth is that of the children, but for a code and for what a node holds: of these it is
-- that of the code's body and of the node.
abbrev pub child_of : List ℕ → Rule → ChainReader
child_of s rule fuel depth = child rule (value fuel s depth)

abbrev pub kids_of : List ℕ → ℕ → ChainReader
kids_of s count fuel depth = kids (value fuel s depth) count

abbrev pub couples_of : List ℕ → ℕ → ChainReader
couples_of s extra fuel depth = couples (value fuel s depth) s extra

abbrev pub line_of : List ℕ → ℕ → ChainReader
line_of s i fuel depth = first_line_of s i

abbrev pub parts_of : List ℕ → ℕ → ℕ → ChainReader
parts_of s more i fuel depth = parts_from (value fuel s depth) s more i

abbrev pub code_of : List ℕ → ℕ → ChainReader
code_of s at fuel depth c = bind (parts_of s code_parts 0 fuel (depth + 1) c) (ended s at)

abbrev pub body_of : List ℕ → ℕ → Kids → ChainReader
body_of s at kids fuel depth = body (value fuel s) s fuel depth at (children_of kids)

-- One child, held to a rule.
abbrev pub Counted : Line → Result Line Fault → Type 0
Counted line (Ok l) = l.count ≡ line.count + 1
Counted line (Err f) = Unit

pub record ReadsChild (rule : ℕ) (s : List ℕ) (room : Room) (allowance : ℕ) (line : Line) (ns es ss : List ℕ) (r : Result Line Fault) (ns' es' ss' : List ℕ) : Type 0 where
  pub counted : Counted line r
  pub lists : Lists (child_of s (rule_of rule)) 1 s room allowance line ns es ss r ns' es' ss'

-- What a container or a code's body holds, the node's header at a place: so many children; a dict's pairs, for every fuel that outlasts
-- the bytes; the parts of a code.
abbrev pub BodyLists : Kids → ℕ → List ℕ → Room → ℕ → Line → (ns es ss : List ℕ) → Result Line Fault → (ns' es' ss' : List ℕ) → Type 0
BodyLists (kind.Items count) at s room allowance line ns es ss r ns' es' ss' = Lists (kids_of s count) 0 s room allowance line ns es ss r ns' es' ss'
BodyLists kind.Pairs at s room allowance line ns es ss r ns' es' ss' =
    (extra : ℕ) → length s ≤ line.walk.at + extra → Lists (couples_of s extra) 0 s room allowance line ns es ss r ns' es' ss'
BodyLists kind.Parts at s room allowance line ns es ss r ns' es' ss' = Lists (code_of s at) 0 s room allowance line ns es ss r ns' es' ss'

pub record ReadsBody (kids : Kids) (at : ℕ) (s : List ℕ) (room : Room) (allowance : ℕ) (line : Line) (ns es ss : List ℕ) (r : Result Line Fault) (ns' es' ss' : List ℕ) : Type 0 where
  pub lists : BodyLists kids at s room allowance line ns es ss r ns' es' ss'
