-- Splits worked out by computation: the five lists of one code object, and the refusals in their order. Assumes nothing.
use mathlib.Core.Path.{◌≡◌, refl}
use mathlib.Core.Bool.{true, false}
use mathlib.Core.List.{List, [], ◌∷◌}
use Prim.Native.Nat.{ℕ}
use Rattle.std.specs.Prelude.{Ok}
use Rattle.refusals.specs.Faults.{refused}
use Rattle.refusals.specs.declared.Refusal.TheVariants.{InvalidBytecode, NoRoom, NumberRange}
use Rattle.refusals.specs.Limits.{nothing}
use Rattle.localsplus.specs.declared.Rooms.{Rooms}
use Rattle.localsplus.specs.Sum.{argument_sum}
use Rattle.localsplus.specs.Kind.{local_bit, cell_bit, free_bit, has}
use Rattle.localsplus.specs.Lists.{positions_from, positions, mapped, counted, map_from, deref_map, argument_cell, argument_of, cell_args_from, all_nothing, cell_to_argument}
use Rattle.localsplus.specs.Answer.{room_for, checks, answered, split_of}

-- A function of two arguments, a and b, that defines an inner one: a Local; b Local and Cell, an argument cell; the inner
-- function's name Local; a Cell of its own; a Cell that is Free too, which wins in the map; a Free.
unfoldable pub kinds : List ℕ
kinds = 32 ∷ 96 ∷ 32 ∷ 64 ∷ 192 ∷ 128 ∷ []

unfoldable pub rooms : ℕ → ℕ → Rooms
rooms n last = record { locals = n; cells = n; frees = n; map = n; arguments = last }

pub lists :
    (positions local_bit kinds ≡ 0 ∷ 1 ∷ 2 ∷ [])
    × (positions cell_bit kinds ≡ 1 ∷ 3 ∷ 4 ∷ [])
    × (positions free_bit kinds ≡ 4 ∷ 5 ∷ [])
    × (deref_map kinds ≡ nothing ∷ 0 ∷ nothing ∷ 1 ∷ 3 ∷ 4 ∷ [])
    × (cell_to_argument 2 kinds ≡ 1 ∷ nothing ∷ nothing ∷ [])
unfolding kinds positions_from mapped counted map_from argument_cell argument_of cell_args_from all_nothing has
lists = (refl, refl, refl, refl, refl)

-- one argument fewer: b is no argument cell, and the list is absent; with flag 0x08 the sum is 2 again
pub absent : (cell_to_argument 1 kinds ≡ []) × (argument_sum 1 0 0 ≡ 1) × (argument_sum 1 0 8 ≡ 2) × (argument_sum 0 1 12 ≡ 3)
unfolding kinds argument_cell argument_of cell_args_from all_nothing has
absent = (refl, refl, refl, refl)

-- the answer, and each refusal before those that follow it: 8, then 18, then 17 at the first short output's length
pub answers :
    (split_of kinds 6 2 0 0 (rooms 6 6) ≡ Ok record { locals = 3; cells = 3; frees = 2; present = true })
    × (split_of kinds 6 1 0 0 (rooms 7 9) ≡ Ok record { locals = 3; cells = 3; frees = 2; present = false })
    × (split_of kinds 5 4294967295 1 0 (rooms 0 0) ≡ refused InvalidBytecode 0)
    × (split_of kinds 6 4294967295 1 0 (rooms 0 0) ≡ refused NumberRange 0)
    × (split_of kinds 6 4294967295 0 0 (rooms 6 4) ≡ refused NoRoom 4)
    × (split_of kinds 6 0 0 0 (rooms 5 4) ≡ refused NoRoom 5)
unfolding kinds rooms split_of answered checks room_for positions_from argument_cell argument_of cell_args_from all_nothing has
answers = (refl, refl, refl, refl, refl, refl)
