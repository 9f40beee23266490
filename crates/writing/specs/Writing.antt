-- A writing: the bytes as they come, node by node, and how it ends. The room for them stands apart, in `into`.
-- 01, 'Writing it back': "Node by node in writing order: nesting .., then the record (16), then room for its own bytes as they come (17)."
use Rattle.std.specs.Prelude.{ℕ, ◌+◌, cond, List, [], ◌∷◌, ◌++◌, length, leb}
use Rattle.refusals.specs.Numbers.{no_room}
use Rattle.grammar.specs.Reading.{Answer, gives, stops}

-- It has ended; it is refused with a number at a place; or these bytes come first, and then the rest.
pub data Writing : Type 0 where
  ended : Writing
  refused : (number place : ℕ) → Writing
  emit : List ℕ → Writing → Writing

-- one writing, then another
unfoldable pub then : Writing → Writing → Writing
then ended u = u
then (refused number place) u = refused number place
then (emit bytes w) u = emit bytes (then w u)

-- one after another
unfoldable pub each : (ℕ → Writing) → List ℕ → Writing
each f [] = ended
each f (v ∷ vs) = then (f v) (each f vs)

-- The bytes into a room of so many, after those that are written: "NoRoom" at "the output's capacity".
unfoldable pub into : (room : ℕ) → List ℕ → Writing → Answer (List ℕ)
into room out ended = gives out
into room out (refused number place) = stops number place
into room out (emit bytes w) = cond (leb (length out + length bytes) room) (into room (out ++ bytes) w) (stops no_room room)
