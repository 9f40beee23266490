-- The structs that the varint exports return: 01's numbers of each answer, as `varint` defines them.
use Rattle.std.specs.Prelude.{ℕ, List, Result}
use Rattle.refusals.specs.declared.Fault.{Fault}
use Rattle.varint.specs.Answers.{written_numbers}
use Rattle.varintread.specs.Reading.{Reading, found_numbers}
use Rattle.sillgarland.specs.declared.varints.SillWritten.{SillWritten}
use Rattle.sillgarland.specs.declared.varints.SillFound.{SillFound}

abbrev pub written_struct : Result ℕ Fault → SillWritten
written_struct answer =
    record { refusal = (written_numbers answer).refusal; place = (written_numbers answer).place; written = (written_numbers answer).written }

-- a writer's answer as a struct, and what it leaves in the store
abbrev pub written_as : Result ℕ Fault × List ℕ → SillWritten × List ℕ
written_as outcome = (written_struct outcome.0, outcome.1)

abbrev pub found_struct : ℕ → Reading → SillFound
found_struct at answer =
    record {
      refusal = (found_numbers at answer).refusal;
      found = (found_numbers at answer).found;
      value = (found_numbers at answer).value;
      pad = 0;
      place = (found_numbers at answer).place;
      next = (found_numbers at answer).next;
    }
