-- The reading handed on as numbers: the export's promise is `deserialize_value`'s.
-- Assumes nothing.
use mathlib.Core.Path.{◌≡◌, ap, ◌∙◌}
use Prim.Native.Nat.{ℕ}
use mathlib.Core.List.{List}
use Rattle.grammar.specs.Answer.{Outcome}
use Rattle.std.specs.Prelude.{Result}
use Rattle.refusals.specs.declared.Fault.{Fault}
use Rattle.reader.specs.declared.Read.{Read}
use Rattle.reader.specs.Delivered.{answer_of, Delivers}
use Rattle.sillgarland.specs.declared.values.SillRead.{SillRead}
use Rattle.sillgarland.specs.Values.{read_struct, ReadAs}

pub read_handed : {o : Outcome} {answer : Result Read Fault} {r : SillRead} {nodes entries slots : List ℕ}
    → r ≡ read_struct (answer_of answer) → Delivers o answer nodes entries slots → ReadAs o r nodes entries slots
read_handed is read =
    record {
      numbers = is ∙ ap read_struct read.answer;
      holds-nodes = read.nodes;
      holds-entries = read.entries;
      holds-slots = read.slots;
    }
