-- What 02's K1 promises of exception tables, each sentence a field. `proofs/Promised` has the theorem.
use Rattle.std.specs.Prelude.{◌≡◌, List, [], ◌∷◌, ℕ, ◌^◌, ◌≤◌, ◌<◌, length, Ok}
use Rattle.std.proofs.Math.Option.{none}
use Rattle.exceptiontable.specs.Entry.{Entry}
use Rattle.exceptiontable.specs.Reading.{run_from}
use Rattle.exceptiontable.specs.Writing.{table_of, encoded_from}

-- An entry that can be written: each of its four numbers fits in 32 bits, and the bit is one.
pub record Fit (e : Entry) : Type 0 where
  pub start : e.start < 2 ^ 32
  pub size : e.size < 2 ^ 32
  pub target : e.target < 2 ^ 32
  pub depth : e.depth < 2 ^ 31
  pub last : e.last < 2

abbrev pub AllFit : List Entry → Type 0
AllFit [] = Unit {0}
AllFit (e ∷ es) = Fit e × AllFit es

-- the table reads to its end as these entries
abbrev pub ReadsAs : List ℕ → List Entry → Type 0
ReadsAs table es = run_from (length table) table 0 ≡ record { entries = es; stopped = none }

pub record Promised : Type 0 where
  -- "a written table reads as the same entries"
  pub reads_back : (es : List Entry) → AllFit es → ReadsAs (table_of es) es
  -- "Write the same entries back in shortest form": no table that reads as those entries is shorter
  pub shortest : (table : List ℕ) (es : List Entry) → ReadsAs table es → length (table_of es) ≤ length table
  -- what is read can be written again, and reads the same
  pub again : (table : List ℕ) (es : List Entry) → ReadsAs table es → AllFit es × ReadsAs (table_of es) es
  -- what can be written is written wherever there is room
  pub written : (room : ℕ) (es : List Entry) → AllFit es → length (table_of es) ≤ room → encoded_from room 0 es ≡ Ok (length (table_of es))
