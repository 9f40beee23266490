-- The struct that the reading export of exception tables returns: the numbers of each answer, and what the lent store holds. The writing
-- export's is a written varint's.
use Rattle.std.specs.Prelude.{ℕ, List, Result, Ok, Err}
use Rattle.refusals.specs.Numbers.{accepted}
use Rattle.refusals.specs.Faults.{number_of}
use Rattle.refusals.specs.declared.Fault.{Fault}
use Rattle.sillgarland.specs.declared.exceptions.SillExceptions.{SillExceptions}

abbrev pub decoded_struct : Result ℕ Fault → SillExceptions
decoded_struct (Ok count) = record { refusal = accepted; place = 0; count = count }
decoded_struct (Err f) = record { refusal = number_of f.refusal; place = f.place; count = 0 }

abbrev pub decoded_as : Result ℕ Fault × List ℕ → SillExceptions × List ℕ
decoded_as outcome = (decoded_struct outcome.0, outcome.1)
