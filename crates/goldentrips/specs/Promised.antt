-- What 02's K13 promises of golden files. `proofs/Promised` has the theorem.
-- "Move old to new and back; the old bytes return exactly, since references never cross the two values. Both are read before anything is written".
use Rattle.std.specs.Prelude.{◌≡◌, List, [], ◌∷◌, ◌++◌, ℕ, ◌≤◌, min, length}
use Rattle.refusals.specs.Limits.{nothing}
use Rattle.clearing.specs.Lent.{padded}
use Rattle.taggedfields.specs.Fields.{spelt}
use Rattle.grammar.specs.Input.{Bytes}
use Rattle.grammar.specs.Reading.{gives}
use Rattle.grammar.specs.LetterNames.{code_letter}
use Rattle.grammar.specs.State.{State}
use Rattle.grammar.specs.Steps.{letter_in}
use Rattle.readalone.specs.Alone.{Room, within}
use Rattle.goldens.specs.Moving.{written, to_fields, to_plain, moved_as}

-- a value that reads from its own bytes alone, to their end, as the reader says
pub record Whole (R : Room) (bytes : List ℕ) : Type 0 where
  pub root : ℕ
  pub state : State
  pub reads : within R bytes ≡ gives (root, state)
  pub all : state.at ≡ length bytes

-- The two forms of one golden: its values back to back, and in fields; and they are a code and a value.
pub record Both (R : Room) (old new : List ℕ) : Type 0 where
  pub code : List ℕ
  pub result : List ℕ
  pub back_to_back : old ≡ code ++ result
  pub in_fields_lem : new ≡ spelt (written 1 (1 ∷ []) ∷ written 2 code ∷ written 3 result ∷ [])
  pub code_reads : Whole R code
  pub a_code_lem : letter_in code_reads.state.nodes code_reads.root ≡ code_letter
  pub result-reads : Whole R result

pub record Promised : Type 0 where
  -- what is accepted holds a code and a value, and what is written is the other form of them
  pub to_fields_lem : (R : Room) (old new : List ℕ) → to_fields R old ≡ gives new → Both R old new
  pub to_plain_lem : (R : Room) (new old : List ℕ) → Bytes new → to_plain R new ≡ gives old → Both R old new
  -- "the old bytes return exactly", wherever the move is accepted; and so do the new ones
  pub old_returns : (R : Room) (old new : List ℕ) → to_fields R old ≡ gives new → to_plain R new ≡ gives old
  pub new_returns : (R : Room) (new old : List ℕ) → Bytes new → to_plain R new ≡ gives old → to_fields R old ≡ gives new
  -- the call writes it wherever there is room
  pub written_out : (bytes : List ℕ) (room : ℕ) → length bytes ≤ min room nothing
      → moved_as (gives bytes) room ≡ (gives (length bytes), padded room bytes)
