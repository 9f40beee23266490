-- No export and no promise rests on this page.
-- A whole table, said by its entries: s is a row of complete entries and nothing else, of n instructions, from the line f to the line g, and
-- shows the locations ls. It is linetable's `Complete` with what the entries come to (`proofs/Joins`).
use Rattle.std.specs.Prelude.{◌≡◌, List, ℕ, length}
use Rattle.lineentry.specs.declared.Location.{Location}
use Rattle.lineentry.specs.declared.Span.{Span}
use Rattle.rows.specs.Row.{Chain, line_after, place_after, total, locations}

pub record Spells (s : List ℕ) (f n g : ℕ) (ls : List Location) : Type 0 where
  pub entries : List Span
  pub chain : Chain s f 0 entries
  pub ends : place_after 0 entries ≡ length s
  pub sum : total entries ≡ n
  pub line : line_after f entries ≡ g
  pub shows : locations entries ≡ ls
