-- The writing handed on as numbers: the export's promise is `serialize_value`'s.
-- Assumes nothing.
use mathlib.Core.Path.{◌≡◌, refl, ap, ◌∙◌}
use Prim.Native.Nat.{ℕ}
use mathlib.Core.List.{List}
use Rattle.grammar.specs.Reading.{Answer}
use Rattle.writer.specs.Entry.{Serialized}
use Rattle.sillgarland.specs.declared.varints.SillWritten.{SillWritten}
use Rattle.sillgarland.specs.Values.{wrote_struct, WroteAs}
use Rattle.grammar.specs.Numbered.{numbered}
use Rattle.output.specs.Puts.{Wrote}
use Rattle.std.specs.Prelude.{Ok, Err}
use Rattle.sillgarland.specs.Varints.{written_struct}

-- the varint writers' numbers are this writer's too
same_numbers : (answer : Wrote) → written_struct answer ≡ wrote_struct (numbered answer)
same_numbers (Ok bytes) = refl
same_numbers (Err stop) = refl

pub wrote_handed : {a : Answer (List ℕ)} {room : ℕ} {answer : Wrote} {r : SillWritten} {output : List ℕ}
    → r ≡ written_struct answer → Serialized a room answer output → WroteAs a room r output
wrote_handed {answer = answer} is done = record { numbers = is ∙ same_numbers answer ∙ ap wrote_struct done.answers; holds = done.holds }
