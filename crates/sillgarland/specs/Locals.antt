-- The struct that the split's export returns: 01's numbers of each answer.
use Rattle.std.specs.Prelude.{◌≡◌, List, ℕ, Result, Ok, Err}
use Rattle.refusals.specs.Numbers.{accepted}
use Rattle.refusals.specs.Faults.{number_of}
use Rattle.refusals.specs.declared.Fault.{Fault}
use Rattle.varint.specs.Answers.{truth}
use Rattle.localsplus.specs.declared.Split.{Split}
use Rattle.localsplus.specs.Answer.{rooms_of, split_of, IsSplit}
use Rattle.sillgarland.specs.declared.locals.SillSplit.{SillSplit}

abbrev pub split_struct : Result Split Fault → SillSplit
split_struct (Ok split) =
    record { refusal = accepted; place = 0; locals = split.locals; cells = split.cells; frees = split.frees; present = truth split.present }
split_struct (Err fault) =
    record { refusal = number_of fault.refusal; place = fault.place; locals = 0; cells = 0; frees = 0; present = 0 }

-- The contract: r gives the split's numbers, and the five stores hold what `localsplus` says of the split.
pub record SplitAs
    (kinds : List ℕ)
    (names args kwonly flags : ℕ)
    (locals cells frees map arguments : List ℕ)
    (r : SillSplit)
    (locals' cells' frees' map' arguments' : List ℕ) : Type 0 where
  pub numbers : r ≡ split_struct (split_of kinds names args kwonly flags (rooms_of locals cells frees map arguments))
  pub stores : IsSplit kinds names args kwonly flags locals cells frees map arguments
      (split_of kinds names args kwonly flags (rooms_of locals cells frees map arguments)) locals' cells' frees' map' arguments'
