-- The struct that the repair of line tables returns: 01's numbers of each answer.
use Rattle.std.specs.Prelude.{Result, Ok, Err, ℕ}
use Rattle.refusals.specs.Numbers.{accepted}
use Rattle.refusals.specs.Faults.{number_of}
use Rattle.refusals.specs.declared.Fault.{Fault}
use Rattle.salvage.specs.declared.Salvaged.{Salvaged}
use Rattle.sillgarland.specs.declared.repairs.SillSalvaged.{SillSalvaged}

-- a refusal's numbers
abbrev pub unsalvaged : ℕ → ℕ → SillSalvaged
unsalvaged number place = record { refusal = number; place = place; written = 0; kept = 0; dropped = 0; shortened = 0; covered = 0 }

abbrev pub salvaged_struct : Result Salvaged Fault → SillSalvaged
salvaged_struct (Ok told) =
    record { refusal = accepted; place = 0; written = told.written; kept = told.kept; dropped = told.dropped; shortened = told.shortened; covered = told.covered }
salvaged_struct (Err why) = unsalvaged (number_of why.refusal) why.place
