-- Room for a reading: the answer within it, what the reading claims, and how much of each kind it needs.
-- 01, 'What is lent and what is kept': "Each capacity counts as at most 1,048,576 and nesting as at most 2,000."
use Rattle.std.specs.Prelude.{ℕ, ◌≤◌, max, Bool, true, false, cond, List, [], ◌∷◌, leb}
use Rattle.refusals.specs.Numbers.{too_deep, no_node, no_entry, no_slot}
use Rattle.grammar.specs.Reading.{Kind, level, node, entry, slot, Reading, done, refused, claim, Answer, gives, stops}

-- the nesting allowance and the three capacities
pub record Rooms : Type 0 where
  pub levels : ℕ
  pub nodes : ℕ
  pub entries : ℕ
  pub slots : ℕ

abbrev pub room_for : Rooms → Kind → ℕ
room_for R level = R.levels
room_for R node = R.nodes
room_for R entry = R.entries
room_for R slot = R.slots

-- 01, 'Numbers given when nothing is read': TooDeep, NoNode, NoEntry, NoSlot
abbrev pub number_of : Kind → ℕ
number_of level = too_deep
number_of node = no_node
number_of entry = no_entry
number_of slot = no_slot

-- The answer within room: the first claim for more than there is room for is refused at its place.
unfoldable pub run : {A : Type 0} → Rooms → Reading A → Answer A
run R (done a) = gives a
run R (refused n p) = stops n p
run R (claim k need p m) = cond (leb need (room_for R k)) (run R m) (stops (number_of k) p)

-- The answer where no room is too small.
unfoldable pub plainly : {A : Type 0} → Reading A → Answer A
plainly (done a) = gives a
plainly (refused n p) = stops n p
plainly (claim k need p m) = plainly m

-- What is claimed, in reading order, to where the plain reading stops.
pub record Claim : Type 0 where
  pub kind : Kind
  pub need : ℕ
  pub place : ℕ

unfoldable pub claims : {A : Type 0} → Reading A → List Claim
claims (done a) = []
claims (refused n p) = []
claims (claim k need p m) = record { kind = k; need = need; place = p } ∷ claims m

abbrev pub same : Kind → Kind → Bool
same level level = true
same level node = false
same level entry = false
same level slot = false
same node level = false
same node node = true
same node entry = false
same node slot = false
same entry level = false
same entry node = false
same entry entry = true
same entry slot = false
same slot level = false
same slot node = false
same slot entry = false
same slot slot = true

-- How much is needed of a kind. For levels 01 calls it the nesting count: "the least allowance that meets no refusal 10".
unfoldable pub most : Kind → List Claim → ℕ
most k [] = 0
most k (c ∷ cs) = max (cond (same k c.kind) c.need 0) (most k cs)

-- every claim of a list is for no more than there is room for
unfoldable pub AllFit : Rooms → List Claim → Type 0
AllFit R [] = Unit
AllFit R (c ∷ cs) = (c.need ≤ room_for R c.kind) × AllFit R cs
