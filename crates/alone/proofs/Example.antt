-- One input, computed: a tuple of a flagged number and a list of a reference to it. The list's bytes name a slot reserved before them, the
-- tuple's do not. Assumes nothing.
use mathlib.Core.Path.{◌≡◌, refl}
use Prim.Native.Nat.{ℕ}
use mathlib.Core.Bool.{true, false}
use mathlib.Core.List.{List, [], ◌∷◌}
use Rattle.refusals.specs.Limits.{nothing}
use Rattle.grammar.specs.Reading.{bind, gives}
use Rattle.grammar.specs.Letters.{class_of, letters, found}
use Rattle.grammar.specs.Fields.{fields, contained, code_fields}
use Rattle.grammar.specs.State.{State, node_cells, entry_cells}
use Rattle.grammar.specs.Room.{plainly}
use Rattle.grammar.specs.Steps.{header, front, reference, attach, suits, child, kids, couples, body, enter, close, after, one, value}
use Rattle.grammar.specs.Answer.{plain}
use Rattle.grammar.specs.Record.{Tables, tables_of, sound, sound_at, chain}
use Rattle.nodespan.specs.Header.{header_of, spanned}
use Rattle.nodespan.specs.Span.{all_inside, all_used, children_at, closed_from, flagged_before, span_of}
use Rattle.shifts.specs.Lower.{between}
use Rattle.alone.specs.Question.{start_of, end_of, reserved_before, all_named, names_own}

-- ) 2 | i+flag 7 | [ 1 : r 0
abbrev s : List ℕ
s = 0x29 ∷ 2 ∷ 0xE9 ∷ 7 ∷ 0 ∷ 0 ∷ 0 ∷ 0x5B ∷ 1 ∷ 0 ∷ 0 ∷ 0 ∷ 0x72 ∷ 0 ∷ 0 ∷ 0 ∷ 0 ∷ []

abbrev left : State
left =
    record {
      at = 17;
      nodes =
          record { letter = 0x29; place = 1; size = 1; first = 0; count = 2; end = 17; input = 0 }
          ∷ record { letter = 0x69; place = 3; size = 4; first = nothing; count = 0; end = 7; input = 0 }
          ∷ record { letter = 0x5B; place = 8; size = 4; first = 1; count = 1; end = 17; input = 0 } ∷ [];
      entries = record { child = 1; next = 2 } ∷ record { child = 1; next = nothing } ∷ record { child = 2; next = nothing } ∷ [];
      slots = 2 ∷ [];
      met = 13 ∷ [];
    }

read : plainly (plain s) ≡ gives (0, left)
unfolding plain plainly bind class_of letters found fields contained code_fields header front reference attach suits child kids couples body enter close after one value
read = refl

-- no of the list, yes of the tuple and of the number
list_names_another : names_own s left 2 ≡ false
unfolding names_own all_named start_of end_of reserved_before header_of class_of letters found between
list_names_another = refl

tuple-names_own : names_own s left 0 ≡ true
unfolding names_own all_named start_of end_of reserved_before header_of class_of letters found between
tuple-names_own = refl

-- and the same from the stores
abbrev stores : Tables
stores = tables_of s (node_cells left.nodes) (entry_cells left.entries) 3 3

list_told : span_of stores 2 ≡ gives (record { start = 7; end = 17; closed = false; slots_before = 1 })
unfolding span_of sound_at sound spanned header_of class_of letters found fields closed_from children_at chain all_inside all_used flagged_before
list_told = refl

tuple_told : span_of stores 0 ≡ gives (record { start = 0; end = 17; closed = true; slots_before = 0 })
unfolding span_of sound_at sound spanned header_of class_of letters found fields closed_from children_at chain all_inside all_used flagged_before
tuple_told = refl
