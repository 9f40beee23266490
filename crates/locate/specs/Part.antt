-- A line table that is a node's bytes. 01, 'Locals, numbers and locations': "The line table may be the middle part of a larger input."
use Rattle.std.specs.Prelude.{ℕ, ◌/◌, ℤ, cond, ◌&&◌, List, length, ltb}
use Rattle.refusals.specs.Numbers.{input_too_long, bad_table}
use Rattle.refusals.specs.Limits.{most_bytes}
use Rattle.grammar.specs.Letters.{is_bytes}
use Rattle.grammar.specs.Fields.{contents}
use Rattle.grammar.specs.State.{node_at}
use Rattle.grammar.specs.Record.{sound_at}
use Rattle.linetable.specs.Walk.{Reading, refused}
use Rattle.linetable.specs.Answer.{first_line_of, located}

-- "InputTooLong, tested before all", at 0; then the node's record, 16 at the node number, also where its letter is not `s`; then the
-- part at its place and size is read as a table, and places count from the table's start.
unfoldable pub located_at : List ℕ → List ℕ → (used node first count capacity : ℕ) → Reading
located_at s nodes used n first count capacity =
    cond (ltb most_bytes (length s)) (refused input_too_long 0)
    (cond (sound_at s nodes used n && is_bytes (node_at nodes n).letter)
    (located (contents s (node_at nodes n).place (node_at nodes n).size) first count capacity)
    (refused bad_table n))

-- for the first line as it is given, and as many records of four numbers as the lent store has room for
abbrev pub located_node : (input nodes : List ℕ) → (used node : ℕ) → (first : ℤ) → (count : ℕ) → (records : List ℕ) → Reading
located_node s nodes used n first count records = located_at s nodes used n (first_line_of first) count (length records / 4)
