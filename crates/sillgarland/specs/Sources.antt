-- The struct that `sill_sources` returns: the answer's numbers.
use Rattle.std.specs.Prelude.{List, ℕ, Result, Ok, Err}
use Rattle.refusals.specs.Numbers.{accepted}
use Rattle.refusals.specs.Faults.{number_of}
use Rattle.refusals.specs.declared.Fault.{Fault}
use Rattle.sources.specs.declared.Counts.{Counts}
use Rattle.sources.specs.Marks.{Marks, sources}
use Rattle.sillgarland.specs.declared.origins.SillSourced.{SillSourced}

-- the bytes of a table, by a name that no parameter has
abbrev pub marks_for : List ℕ → ℕ → ℕ → ℕ → Marks
marks_for s first count capacity = sources s first count capacity

abbrev pub sourced_struct : Result Counts Fault → SillSourced
sourced_struct (Ok c) =
    record { refusal = accepted; place = 0; from_entries = c.from_entries; with_line = c.with_line; with_columns = c.with_columns; sure = c.sure }
sourced_struct (Err f) =
    record { refusal = number_of f.refusal; place = f.place; from_entries = 0; with_line = 0; with_columns = 0; sure = 0 }
