-- The structs that the exports of row starts return: the numbers of each answer, and what the lent index holds.
use Rattle.std.specs.Prelude.{List, ℕ, Result, Ok, Err}
use Rattle.refusals.specs.Numbers.{accepted}
use Rattle.refusals.specs.Faults.{number_of}
use Rattle.refusals.specs.declared.Fault.{Fault}
use Rattle.sillgarland.specs.declared.rowstarts.SillIndexed.{SillIndexed}
use Rattle.sillgarland.specs.declared.rowstarts.SillStart.{SillStart}

abbrev pub indexed_struct : Result ℕ Fault → SillIndexed
indexed_struct (Ok starts) = record { refusal = accepted; place = 0; starts = starts }
indexed_struct (Err f) = record { refusal = number_of f.refusal; place = f.place; starts = 0 }

abbrev pub indexed_as : Result ℕ Fault × List ℕ → SillIndexed × List ℕ
indexed_as outcome = (indexed_struct outcome.0, outcome.1)

abbrev pub start_struct : Result ℕ Fault → SillStart
start_struct (Ok value) = record { refusal = accepted; place = 0; value = value }
start_struct (Err f) = record { refusal = number_of f.refusal; place = f.place; value = 0 }
