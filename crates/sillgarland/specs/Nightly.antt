-- The struct that the exports of nightly totals return: the numbers of each answer, and what the lent store holds. The printing export's
-- is a written varint's.
use Rattle.std.specs.Prelude.{ℕ, List, Result, Ok, Err}
use Rattle.refusals.specs.Numbers.{accepted}
use Rattle.refusals.specs.Faults.{number_of}
use Rattle.refusals.specs.declared.Fault.{Fault}
use Rattle.totals.specs.Totals.{Outcome}
use Rattle.sillgarland.specs.declared.nightly.SillTotalled.{SillTotalled}

abbrev pub totalled_struct : Result (Unit {0}) Fault → SillTotalled
totalled_struct (Ok done) = record { refusal = accepted; place = 0 }
totalled_struct (Err f) = record { refusal = number_of f.refusal; place = f.place }

abbrev pub totalled_as : Outcome → SillTotalled × List ℕ
totalled_as outcome = (totalled_struct outcome.0, outcome.1)
