-- The words of demand 3 over the plain reading: what it needs of each kind, when all of it fits, the first claim that does not, and which
-- answers more room and more bytes leave as they are. "Take the plain reading: the grammar's answer without limits on nesting, nodes,
-- entries or slots, counted to where it stops."
use Rattle.std.specs.Prelude.{◌≡◌, ℕ, ◌≤◌, ◌<◌, ◌-◌, Bool, true, false, cond, List, ◌∷◌, ◌++◌, eqb}
use Rattle.refusals.specs.Numbers.{eof_object, data_too_short, too_deep, no_slot}
use Rattle.clearing.specs.Lent.{zeros}
use Rattle.grammar.specs.Reading.{Kind, Answer, stops}
use Rattle.grammar.specs.Room.{Rooms, room_for, Claim, claims, most, AllFit}
use Rattle.grammar.specs.Answer.{plain, Outcome}

-- "counted to where it stops": what the plain reading of an input claims, and how much it needs of a kind.
abbrev pub claims_of : List ℕ → List Claim
claims_of s = claims (plain s)

abbrev pub needed : List ℕ → Kind → ℕ
needed s k = most k (claims_of s)

-- "when all four counts fit": nesting, nodes, entries and slots.
abbrev pub AllFour : List ℕ → Rooms → Type 0
AllFour s R = (k : Kind) → needed s k ≤ room_for R k

-- "the first room refusal in reading order": a claim for more than there is room for, all before it fitting.
pub record Over (R : Rooms) (cs : List Claim) : Type 0 where
  pub before : List Claim
  pub first : Claim
  pub rest : List Claim
  pub order : cs ≡ before ++ first ∷ rest
  pub fitting : AllFit R before
  pub over : room_for R first.kind < first.need

-- "More room never changes any other answer." The numbers of refusals for want of room are 10 to 13; any other answer is none of these.
abbrev pub OfRoom : ℕ → Type 0
OfRoom number = (too_deep ≤ number) × (number ≤ no_slot)

abbrev pub NotOfRoom : {A : Type 0} → Answer A → Type 0
NotOfRoom a = (number place : ℕ) → a ≡ stops number place → OfRoom number → ⊥

-- Stores and nesting at least as large; and what larger stores hold: the same numbers, then zeros to their end.
pub record Larger (nodes entries slots nesting nodes' entries' slots' nesting' : ℕ) : Type 0 where
  pub more_nodes : nodes ≤ nodes'
  pub more_entries : entries ≤ entries'
  pub more_slots : slots ≤ slots'
  pub more_nesting : nesting ≤ nesting'

pub record Widened (nodes entries slots nodes' entries' slots' : ℕ) (o o' : Outcome) : Type 0 where
  pub same_answer : o'.answer ≡ o.answer
  pub node_store_lem : o'.nodes ≡ o.nodes ++ zeros (nodes' - nodes)
  pub entry_store_lem : o'.entries ≡ o.entries ++ zeros (entries' - entries)
  pub slot_store_lem : o'.slots ≡ o.slots ++ zeros (slots' - slots)

-- "bytes added at the end change only refusals 1 and 2": there were not bytes enough; and an answer that is neither.
abbrev pub cut : ℕ → Bool
cut number = cond (eqb number eof_object) true (eqb number data_too_short)

abbrev pub Uncut : {A : Type 0} → Answer A → Type 0
Uncut a = (number place : ℕ) → a ≡ stops number place → cut number ≡ false
