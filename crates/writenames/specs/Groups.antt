-- No export and no promise rests on this page.
-- Names that are written one after another and counted, as the tuple of local names asks it. 01, 'Writing it back': "Local names are written
-- as all Local, then Cell whose name equals no Local name, then Free".
use Rattle.std.specs.Prelude.{◌≡◌, ℕ, ◌+◌, List, length, Result, Ok, Err}
use Rattle.grammar.specs.Record.{Tables}
use Rattle.writing.specs.Writing.{Writing, each}
use Rattle.writing.specs.Names.{in_groups}
use Rattle.writing.specs.Steps.{string_part}
use Rattle.output.specs.Puts.{Wrote, Puts}
use Rattle.cellnames.specs.declared.Locals.{Locals}
use Rattle.cellnames.specs.Groups.{names_in, kinds_in, group_in}
use Rattle.writenames.specs.declared.Grouped.{Grouped}
use Rattle.refusals.specs.declared.Fault.{Fault}

-- the answer of a put, but for the count
abbrev pub wrote_of : Result Grouped Fault → Wrote
wrote_of (Ok names) = Ok names.at
wrote_of (Err stop) = Err stop

-- where they are done, they are so many
abbrev pub CountedTo : ℕ → Result Grouped Fault → Type 0
CountedTo many (Ok names) = names.counted ≡ many
CountedTo many (Err stop) = Unit

-- the names, each written by f, and counted on from `counted`
pub record Groups (f : ℕ → Writing) (names : List ℕ) (counted at : ℕ) (before : List ℕ) (r : Result Grouped Fault) (after : List ℕ) : Type 0 where
  pub puts : Puts (each f names) at before (wrote_of r) after
  pub count : CountedTo (counted + length names) r

-- the names in the group of a bit, and those of the three groups one after another
abbrev pub Group : Tables → (allowance : ℕ) → Locals → (bit counted at : ℕ) → (before : List ℕ) → Result Grouped Fault → (after : List ℕ) → Type 0
Group t a l bit = Groups (string_part t a) (group_in t l bit)

abbrev pub AllGroups : Tables → (allowance : ℕ) → Locals → (at : ℕ) → (before : List ℕ) → Result Grouped Fault → (after : List ℕ) → Type 0
AllGroups t a l = Groups (string_part t a) (in_groups t (kinds_in t l) (names_in t l)) 0
