-- 01, 'Sheets for the proof and the rig': "Run: 64 is `40 01` little-endian, `41 00` big-endian, `C1 00` with marker."
-- Computed from the definitions, and so is K5's.
use Rattle.std.proofs.Common.{◌≡◌, [], ◌∷◌, refl}
use Rattle.refusals.specs.declared.Refusal.TheVariants.{DataTooShort, NumberRange}
use Rattle.varint.specs.Writing.{groups_of, groups, chained, little_endian, big_endian, started, big_endian_with_start}
use Rattle.varintread.specs.Reading.{found, unread, read_groups, read_varint}

pub sixty_four : (little_endian 64 ≡ 0x40 ∷ 0x01 ∷ []) × (big_endian 64 ≡ 0x41 ∷ 0x00 ∷ []) × (big_endian_with_start 64 ≡ 0xC1 ∷ 0x00 ∷ [])
unfolding groups_of groups chained little_endian big_endian started big_endian_with_start
sixty_four = (refl, refl, refl)

-- 02, K5: a cut number, 2^32 whole and cut, the largest number, and eight zero groups before a 5.
pub k5 :
    (read_varint (0x40 ∷ []) 0 ≡ unread DataTooShort 0)
    × (read_varint (0x00 ∷ 0x44 ∷ 0x40 ∷ 0x40 ∷ 0x40 ∷ 0x40 ∷ 0x00 ∷ []) 1 ≡ unread NumberRange 1)
    × (read_varint (0x00 ∷ 0x44 ∷ 0x40 ∷ 0x40 ∷ 0x40 ∷ 0x40 ∷ 0x40 ∷ []) 1 ≡ unread DataTooShort 1)
    × (read_varint (0x43 ∷ 0x7F ∷ 0x7F ∷ 0x7F ∷ 0x7F ∷ 0x3F ∷ []) 0 ≡ found 4294967295 6)
    × (read_varint (0x40 ∷ 0x40 ∷ 0x40 ∷ 0x40 ∷ 0x40 ∷ 0x40 ∷ 0x40 ∷ 0x40 ∷ 0x05 ∷ []) 0 ≡ found 5 9)
unfolding read_groups read_varint
k5 = (refl, refl, refl, refl, refl)
