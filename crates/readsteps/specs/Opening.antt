-- No export and no promise rests on this page.
-- What the code answers of a header and its fields, against `front` of the definitions: 01, 'Reading a value', steps 1 to 3.
use Rattle.std.specs.Prelude.{◌≡◌, ℕ, ◌+◌, ◌≤◌, ◌<◌, List, length, get_or, Result, Ok, Err}
use Rattle.refusals.specs.Faults.{number_of}
use Rattle.refusals.specs.declared.Fault.{Fault}
use Rattle.grammar.specs.Reading.{Reading, claim, level, Answer, gives, stops}
use Rattle.grammar.specs.Letters.{Class, refers, keeps, contains, codes, refuses, letter_of, flag_of}
use Rattle.grammar.specs.Room.{run}
use Rattle.grammar.specs.Steps.{Front, known, opens, opened, reference, front}
use Rattle.grammar.specs.Fields.{parts, code_numbers}
use Rattle.fields.specs.Classes.{class_at}
use Rattle.fields.specs.Behind.{fields_of, children_of}
use Rattle.fields.specs.declared.Kids.{Kids}
use Rattle.readsteps.specs.declared.Room.{Room}
use Rattle.readsteps.specs.declared.Walk.{Walk}
use Rattle.readsteps.specs.declared.Head.{Head}
use Rattle.readsteps.specs.declared.Opened.{Opened}
use Rattle.readsteps.specs.declared.Opened.TheVariants as answer
use Rattle.readsteps.specs.Held.{rooms}

-- the code's answer in the words of the grammar
abbrev pub front_of : Result Opened Fault → Answer Front
front_of (Ok (answer.Known v at)) = gives (known v at)
front_of (Ok (answer.Node h kids)) = gives (opens h.letter h.flag (record { place = h.place; size = h.size; children = children_of kids }))
front_of (Err f) = stops (number_of f.refusal) f.place

-- What `resolve_ref` answers: never a node's head, and a place in the input.
abbrev pub KnownAhead : List ℕ → ℕ → Result Opened Fault → Type 0
KnownAhead s at (Ok (answer.Known v a)) = (at ≤ a) × (a ≤ length s)
KnownAhead s at (Ok (answer.Node h kids)) = ⊥
KnownAhead s at (Err f) = Unit

pub record References (s slots : List ℕ) (at : ℕ) (r : Result Opened Fault) : Type 0 where
  pub ahead : KnownAhead s at r
  pub exact : front_of r ≡ reference s slots at

-- What `open_node` answers of a header's fields, once its slot and its node are claimed: "Code spends two levels: the code body has the
-- allowance less one (0: refusal 10, before any field)". A class that is no node has no fields here.
abbrev pub inner : List ℕ → (depth at letter flag : ℕ) → Class → Reading Front
inner s depth at letter flag codes = claim level (depth + 2) at (opened letter flag (fields_of s codes at))
inner s depth at letter flag (keeps form) = opened letter flag (fields_of s (keeps form) at)
inner s depth at letter flag (contains sort) = opened letter flag (fields_of s (contains sort) at)
inner s depth at letter flag refers = opened letter flag (fields_of s refers at)
inner s depth at letter flag (refuses number) = opened letter flag (fields_of s (refuses number) at)

-- only a code has parts; its numbers stand behind its header, and its parts have an allowance left
abbrev pub CodeAt : (at allowance : ℕ) → Head → Kids → Type 0
CodeAt at allowance h kids = children_of kids ≡ parts → (h.place ≡ at) × (h.size ≡ code_numbers) × (2 ≤ allowance)

pub record Spans (s : List ℕ) (allowance letter flag at : ℕ) (h : Head) (kids : Kids) : Type 0 where
  pub past : at ≤ h.place
  pub within : h.place + h.size ≤ length s
  pub lettered : h.letter ≡ letter
  pub flagged : h.flag ≡ flag
  pub code : CodeAt at allowance h kids

abbrev pub NodeAhead : List ℕ → (allowance letter flag at : ℕ) → Result Opened Fault → Type 0
NodeAhead s allowance letter flag at (Ok (answer.Known v a)) = ⊥
NodeAhead s allowance letter flag at (Ok (answer.Node h kids)) = Spans s allowance letter flag at h kids
NodeAhead s allowance letter flag at (Err f) = Unit

pub record Opens (s : List ℕ) (allowance letter flag class at : ℕ) (r : Result Opened Fault) : Type 0 where
  pub ahead : NodeAhead s allowance letter flag at r
  pub exact : (room : Room) (depth : ℕ) → front_of r ≡ run (rooms room (depth + allowance)) (inner s depth at letter flag (class_at class))

-- What a caller of `front` goes on with: the head lies in the input, its letter and its flag are those of the header byte, and there is
-- room for the node and for its slot.
pub record HeadIn (s : List ℕ) (room : Room) (allowance : ℕ) (w : Walk) (h : Head) (kids : Kids) : Type 0 where
  pub past : w.at + 1 ≤ h.place
  pub within : h.place + h.size ≤ length s
  pub lettered : h.letter ≡ letter_of (get_or s w.at 0)
  pub flagged : h.flag ≡ flag_of (get_or s w.at 0)
  pub flag : h.flag ≤ 1
  pub slot : w.slots + h.flag ≤ room.slots
  pub node : w.nodes < room.nodes
  pub level : 0 < allowance
  pub code : CodeAt (w.at + 1) allowance h kids

abbrev pub Ahead : List ℕ → Room → ℕ → Walk → Result Opened Fault → Type 0
Ahead s room allowance w (Ok (answer.Known v at)) = (w.at + 1 ≤ at) × (at ≤ length s)
Ahead s room allowance w (Ok (answer.Node h kids)) = HeadIn s room allowance w h kids
Ahead s room allowance w (Err f) = Unit

-- At any depth, what `front` answers is what the definition gives where the levels are the depth and the allowance.
pub record Fronts (s slots : List ℕ) (room : Room) (allowance : ℕ) (w : Walk) (r : Result Opened Fault) : Type 0 where
  pub ahead : Ahead s room allowance w r
  pub exact : (depth : ℕ) → front_of r ≡ run (rooms room (depth + allowance)) (front s depth w.at w.nodes w.slots slots)
