-- The split's answer and the contents of its five stores: one of each for every input.
-- 01, 'Locals, numbers and locations': "Checks: lengths 8, sum 18, each output shorter than the names 17 (the first short, in that order)";
-- 'Numbers given when nothing is read': "InputTooLong, tested before all", here of the kind bytes.
use Rattle.std.specs.Prelude.{◌≡◌, cond, not, List, [], ◌∷◌, ℕ, ◌^◌, ltb, leb, eqb, length, Result, Ok, Err}
use Rattle.refusals.specs.Limits.{most_bytes}
use Rattle.refusals.specs.Faults.{refused}
use Rattle.refusals.specs.declared.Fault.{Fault}
use Rattle.refusals.specs.declared.Refusal.TheVariants.{InvalidBytecode, InputTooLong, NoRoom, NumberRange}
use Rattle.clearing.specs.Lent.{zeros, padded}
use Rattle.localsplus.specs.declared.Rooms.{Rooms}
use Rattle.localsplus.specs.declared.Split.{Split}
use Rattle.localsplus.specs.Sum.{argument_sum}
use Rattle.localsplus.specs.Kind.{local_bit, cell_bit, free_bit}
use Rattle.localsplus.specs.Lists.{positions, deref_map, present, cell_to_argument}

-- the outputs in the order of the checks: Local, Cell, Free, map, cell-to-argument
abbrev pub in_order : Rooms → List ℕ
in_order rooms = rooms.locals ∷ rooms.cells ∷ rooms.frees ∷ rooms.map ∷ rooms.arguments ∷ []

-- the lengths of five stores
abbrev pub rooms_of : List ℕ → List ℕ → List ℕ → List ℕ → List ℕ → Rooms
rooms_of locals cells frees map arguments =
    record {
      locals = length locals;
      cells = length cells;
      frees = length frees;
      map = length map;
      arguments = length arguments;
    }

-- "each output shorter than the names 17 (the first short, in that order)": its place is that output's length
unfoldable pub room_for : ℕ → ℕ → List ℕ → Result ℕ Fault
room_for names sum [] = Ok sum
room_for names sum (room ∷ rooms) = cond (ltb room names) (refused NoRoom room) (room_for names sum rooms)

-- every check, in order; where all hold, the argument sum. count is the number of kind bytes.
unfoldable pub checks : ℕ → ℕ → ℕ → Rooms → Result ℕ Fault
checks count names sum rooms =
    cond (ltb most_bytes count) (refused InputTooLong 0)
    (cond (not (eqb names count)) (refused InvalidBytecode 0)
    (cond (leb (2 ^ 32) sum) (refused NumberRange 0)
    (room_for names sum (in_order rooms))))

-- the three counts, and whether the cell-to-argument list is present
unfoldable pub answered : List ℕ → Result ℕ Fault → Result Split Fault
answered kinds (Ok sum) =
    Ok
    record {
      locals = length (positions local_bit kinds);
      cells = length (positions cell_bit kinds);
      frees = length (positions free_bit kinds);
      present = present sum kinds;
    }
answered kinds (Err fault) = Err fault

unfoldable pub split_of : List ℕ → ℕ → ℕ → ℕ → ℕ → Rooms → Result Split Fault
split_of kinds names args kwonly flags rooms =
    answered kinds (checks (length kinds) names (argument_sum args kwonly flags) rooms)

-- what a store of n numbers holds after an answer: the list and then zeros, or zeros alone where the split is refused
unfoldable pub stored : Result Split Fault → ℕ → List ℕ → List ℕ
stored (Ok split) n list = padded n list
stored (Err fault) n list = zeros n

-- The contract: r is the answer to a call with five stores, and the primed lists are what they hold when it is over.
pub record IsSplit
    (kinds : List ℕ)
    (names args kwonly flags : ℕ)
    (locals cells frees map arguments : List ℕ)
    (r : Result Split Fault)
    (locals' cells' frees' map' arguments' : List ℕ) : Type 0 where
  pub answer : r ≡ split_of kinds names args kwonly flags (rooms_of locals cells frees map arguments)
  pub holds-locals : locals' ≡ stored r (length locals) (positions local_bit kinds)
  pub holds-cells : cells' ≡ stored r (length cells) (positions cell_bit kinds)
  pub holds-frees : frees' ≡ stored r (length frees) (positions free_bit kinds)
  pub holds-map : map' ≡ stored r (length map) (deref_map kinds)
  pub holds_arguments : arguments' ≡ stored r (length arguments) (cell_to_argument (argument_sum args kwonly flags) kinds)
