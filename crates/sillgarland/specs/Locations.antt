-- The struct that the exports of line tables return: 01's numbers of each answer.
use Rattle.std.specs.Prelude.{Result, Ok, Err, ℕ}
use Rattle.refusals.specs.Numbers.{accepted}
use Rattle.varint.specs.Answers.{truth}
use Rattle.linetable.specs.declared.Located.{Located}
use Rattle.sillgarland.specs.declared.locations.SillLocated.{SillLocated}

abbrev pub located_struct : Result Located (ℕ × ℕ) → SillLocated
located_struct (Ok told) = record { refusal = accepted; place = 0; from_entries = told.from_entries; whole = truth told.whole }
located_struct (Err why) = record { refusal = why.0; place = why.1; from_entries = 0; whole = 0 }
