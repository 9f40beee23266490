-- 01, 'Sheets for the proof and the rig': "Table `E9 02`, first line 10, three instructions: line 11 twice, then 10; all columns 1;
-- two from entries, not whole." By computation, with room for a fourth record, which stays zero.
use mathlib.Core.Path.{◌≡◌, refl}
use mathlib.Core.Bool.{false}
use mathlib.Core.List.{[], ◌∷◌}
use lib.IntN.{pos}
use Rattle.clearing.specs.Lent.{padded}
use Rattle.lineentry.specs.Varint.{varint_within, signed_at}
use Rattle.lineentry.specs.Line.{as_signed, moved}
use Rattle.lineentry.specs.Entry.{location, no_columns, by_code, entry_of}
use Rattle.linetable.specs.Walk.{Reading}
use Rattle.linetable.specs.Answer.{first_line_of, located, answer, tells, records_of, locations_of, blank}

abbrev sheet : Reading
sheet = located (0xE9 ∷ 2 ∷ []) (first_line_of (pos 10)) 3 4

pub sheet_answer : answer sheet ≡ tells 2 false
unfolding located entry_of by_code no_columns signed_at varint_within moved as_signed
sheet_answer = refl

pub sheet_records : records_of 16 sheet ≡ 11 ∷ 1 ∷ 11 ∷ 1 ∷ 11 ∷ 1 ∷ 11 ∷ 1 ∷ 10 ∷ 1 ∷ 10 ∷ 1 ∷ 0 ∷ 0 ∷ 0 ∷ 0 ∷ []
unfolding records_of padded located entry_of by_code no_columns signed_at varint_within moved as_signed
sheet_records = refl

pub sheet_locations : locations_of 4 sheet ≡ location 11 1 11 1 ∷ location 11 1 11 1 ∷ location 10 1 10 1 ∷ blank ∷ []
unfolding locations_of located entry_of by_code no_columns signed_at varint_within moved as_signed
sheet_locations = refl
