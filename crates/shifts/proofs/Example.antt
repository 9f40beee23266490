-- One input, computed: a tuple of a flagged number, a flagged list of a flagged number and a reference to it, and a reference to the first.
use mathlib.Core.Path.{◌≡◌, refl}
use Prim.Native.Nat.{ℕ}
use mathlib.Core.List.{List, [], ◌∷◌}
use Rattle.grammar.specs.Reading.{bind, gives}
use Rattle.grammar.specs.Letters.{class_of, letters, found}
use Rattle.grammar.specs.Fields.{fields, contained, code_fields}
use Rattle.refusals.specs.Limits.{nothing}
use Rattle.grammar.specs.State.{State}
use Rattle.grammar.specs.Room.{plainly}
use Rattle.grammar.specs.Steps.{header, front, reference, attach, suits, child, kids, couples, body, enter, close, after, one, value}
use Rattle.grammar.specs.Answer.{plain}
use Rattle.shifts.specs.Lower.{lowered, between, alone_of}

-- ) 3 | i+flag 7 | [+flag 2 : i+flag 8, r 2 | r 0      slots: 0 the first number, 1 the list, 2 the second number
abbrev s : List ℕ
s = 0x29 ∷ 3 ∷ 0xE9 ∷ 7 ∷ 0 ∷ 0 ∷ 0 ∷ 0xDB ∷ 2 ∷ 0 ∷ 0 ∷ 0 ∷ 0xE9 ∷ 8 ∷ 0 ∷ 0 ∷ 0 ∷ 0x72 ∷ 2 ∷ 0 ∷ 0 ∷ 0 ∷ 0x72 ∷ 0 ∷ 0 ∷ 0 ∷ 0 ∷ []

abbrev whole : State
whole =
    record {
      at = 27;
      nodes =
          record { letter = 0x29; place = 1; size = 1; first = 0; count = 3; end = 27; input = 0 } ∷ record { letter = 0x69; place = 3; size = 4; first = nothing; count = 0; end = 7; input = 0 }
          ∷ record { letter = 0x5B; place = 8; size = 4; first = 1; count = 2; end = 22; input = 0 } ∷ record { letter = 0x69; place = 13; size = 4; first = nothing; count = 0; end = 17; input = 0 } ∷ [];
      entries =
          record { child = 1; next = 3 } ∷ record { child = 3; next = 2 } ∷ record { child = 3; next = nothing } ∷ record { child = 2; next = 4 } ∷ record { child = 1; next = nothing } ∷ [];
      slots = 2 ∷ 3 ∷ 4 ∷ [];
      met = 23 ∷ 18 ∷ [];
    }

read_whole : plainly (plain s) ≡ gives (0, whole)
unfolding plain plainly bind class_of letters found fields contained code_fields header front reference attach suits child kids couples body enter close after one value
read_whole = refl

-- the list: header at 7, end 22, one slot before it; indices met at 23 and 18
abbrev list : List ℕ
list = 0xDB ∷ 2 ∷ 0 ∷ 0 ∷ 0 ∷ 0xE9 ∷ 8 ∷ 0 ∷ 0 ∷ 0 ∷ 0x72 ∷ 1 ∷ 0 ∷ 0 ∷ 0 ∷ []

alone : alone_of s 1 7 22 (23 ∷ 18 ∷ []) ≡ list
unfolding lowered between
alone = refl

abbrev part : State
part =
    record {
      at = 15;
      nodes = record { letter = 0x5B; place = 1; size = 4; first = 0; count = 2; end = 15; input = 0 } ∷ record { letter = 0x69; place = 6; size = 4; first = nothing; count = 0; end = 10; input = 0 } ∷ [];
      entries = record { child = 1; next = 1 } ∷ record { child = 1; next = nothing } ∷ [];
      slots = 1 ∷ 2 ∷ [];
      met = 11 ∷ [];
    }

read-alone : plainly (plain list) ≡ gives (0, part)
unfolding plain plainly bind class_of letters found fields contained code_fields header front reference attach suits child kids couples body enter close after one value
read-alone = refl
