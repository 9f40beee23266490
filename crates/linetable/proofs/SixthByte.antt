-- 02, K2: "in a line table a varint's value must be under 2^32. .. 18 at the entry, met before a seventh byte." Seven tables of one entry with a
-- line step of six or seven bytes, from line 10, by computation; the third's step is 2^32 - 1, half of it backwards.
use mathlib.Core.Path.{◌≡◌, refl}
use mathlib.Core.Bool.{false}
use mathlib.Core.List.{List, [], ◌∷◌}
use Prim.Native.Nat.{ℕ}
use lib.IntN.{pos}
use Rattle.refusals.specs.Numbers.{number_range}
use Rattle.lineentry.specs.Varint.{read_as, varint_within, varint_at, signed_at}
use Rattle.lineentry.specs.Line.{as_signed, moved}
use Rattle.lineentry.specs.Entry.{location, no_columns, by_code, entry_of}
use Rattle.linetable.specs.Walk.{Reading, done, refused}
use Rattle.linetable.specs.Answer.{first_line_of, located}

-- `E8`, five `40`, and what follows
abbrev five40 : List ℕ → Reading
five40 behind = located (0xE8 ∷ 0x40 ∷ 0x40 ∷ 0x40 ∷ 0x40 ∷ 0x40 ∷ behind) (first_line_of (pos 10)) 1 1

-- accepted, and not whole: a byte is missing
abbrev cut_at : ℕ → Reading
cut_at line = done (location line 1 line 1 ∷ []) 1 false

pub sixth-byte :
    (five40 (0x3F ∷ []) ≡ refused number_range 0)
    × (five40 (0x3C ∷ []) ≡ refused number_range 0)
    × (varint_at (0xE8 ∷ 0x7F ∷ 0x7F ∷ 0x7F ∷ 0x7F ∷ 0x7F ∷ 0x03 ∷ []) 1 ≡ read_as 4294967295 7 false)
    × (five40 (0x43 ∷ []) ≡ cut_at 1610612746)
    × (five40 (0x7F ∷ []) ≡ refused number_range 0)
    × (five40 (0x40 ∷ []) ≡ cut_at 10)
    × (five40 (0x40 ∷ 0x00 ∷ []) ≡ refused number_range 0)
unfolding located entry_of by_code no_columns signed_at varint_within moved as_signed
sixth-byte = (refl, refl, refl, refl, refl, refl, refl)
