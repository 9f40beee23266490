-- By computation: what the definitions say of small tables. 01's `E9 02` for three instructions; an entry that runs past the count; one that is
-- cut there; a complete one that is refused there; a table that is whole from line 1 and refused at once from the last. Assumes nothing.
use mathlib.Core.Path.{◌≡◌, refl}
use mathlib.Core.List.{List, [], ◌∷◌}
use Prim.Native.Nat.{ℕ}
use lib.IntN.{pos}
use Rattle.lineentry.specs.Varint.{varint_within, signed_at}
use Rattle.lineentry.specs.Line.{as_signed, moved}
use Rattle.lineentry.specs.Entry.{short_form, one_line, no_columns, by_code, entry_of}
use Rattle.linetable.specs.Answer.{first_line_of}
use Rattle.rows.specs.Row.{row}
use Rattle.salvage.specs.Salvage.{salvaged, Account, salvage}

-- the repaired table and its list, from a first line
abbrev repaired : List ℕ → ℕ → ℕ → List ℕ × Account
repaired s first count = (salvaged s (first_line_of (pos first)) count, salvage s (first_line_of (pos first)) count)

abbrev list : ℕ → ℕ → ℕ → ℕ → Account
list kept dropped shortened covered = record { kept = kept; dropped = dropped; shortened = shortened; covered = covered }

pub sheet :
    (repaired (0xE9 ∷ 2 ∷ []) 10 3 ≡ (0xE9 ∷ 2 ∷ 0xF8 ∷ [], list 1 0 0 1))
    × (repaired (0xEF ∷ 2 ∷ 0xF8 ∷ []) 10 3 ≡ (0xEA ∷ 2 ∷ [], list 1 1 1 0))
    × (repaired (0xDF ∷ 0 ∷ []) 10 1 ≡ (0xF8 ∷ [], list 0 2 0 1))
    × (repaired (0xDF ∷ 0 ∷ 0 ∷ []) 2147483647 1 ≡ (0xF8 ∷ [], list 0 3 0 1))
    × (repaired (0xD8 ∷ 0 ∷ 0 ∷ 0x80 ∷ 0 ∷ []) 1 2 ≡ (0xD8 ∷ 0 ∷ 0 ∷ 0x80 ∷ 0 ∷ [], list 2 0 0 0))
    × (repaired (0xD8 ∷ 0 ∷ 0 ∷ 0x80 ∷ 0 ∷ []) 2147483647 2 ≡ (0xF9 ∷ [], list 0 5 0 2))
    × (repaired (0xE9 ∷ 2 ∷ 0 ∷ 0xF8 ∷ []) 10 11 ≡ (0xE9 ∷ 2 ∷ 0xFF ∷ 0xF8 ∷ [], list 1 2 0 9))
unfolding salvaged salvage row entry_of by_code short_form one_line no_columns signed_at varint_within moved as_signed
sheet = (refl, refl, refl, refl, refl, refl, refl)
