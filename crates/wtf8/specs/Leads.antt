-- No export and no promise rests on this page.
-- The table of first bytes: each of the 256 bytes by what it does at the head of a sequence, and where it may stand inside one.
-- 02, K10: "two tables of 256 entries, each with its rule shown over the whole table"; the rule is `leads_right` of proofs/Table.
use Rattle.std.specs.Prelude.{ℕ, ◌/◌, ◌%◌, ◌^◌, List, [], ◌∷◌, get_or}
use Rattle.wtf8.specs.Forms.{Expected, point, trail, wrong}

-- The group of each byte: 0 is ASCII; 1 to 3 are 80..8F, 90..9F, A0..BF, which lead nothing and continue; 4 leads nothing and
-- continues nothing; 5 is C2..DF, 6 E0, 7 E1..EF, 8 F0, 9 F1..F3, 10 F4. Sixteen bytes a line.
unfoldable pub lead_table : List ℕ
lead_table =
    0 ∷ 0 ∷ 0 ∷ 0 ∷ 0 ∷ 0 ∷ 0 ∷ 0 ∷ 0 ∷ 0 ∷ 0 ∷ 0 ∷ 0 ∷ 0 ∷ 0 ∷ 0
    ∷ 0 ∷ 0 ∷ 0 ∷ 0 ∷ 0 ∷ 0 ∷ 0 ∷ 0 ∷ 0 ∷ 0 ∷ 0 ∷ 0 ∷ 0 ∷ 0 ∷ 0 ∷ 0
    ∷ 0 ∷ 0 ∷ 0 ∷ 0 ∷ 0 ∷ 0 ∷ 0 ∷ 0 ∷ 0 ∷ 0 ∷ 0 ∷ 0 ∷ 0 ∷ 0 ∷ 0 ∷ 0
    ∷ 0 ∷ 0 ∷ 0 ∷ 0 ∷ 0 ∷ 0 ∷ 0 ∷ 0 ∷ 0 ∷ 0 ∷ 0 ∷ 0 ∷ 0 ∷ 0 ∷ 0 ∷ 0
    ∷ 0 ∷ 0 ∷ 0 ∷ 0 ∷ 0 ∷ 0 ∷ 0 ∷ 0 ∷ 0 ∷ 0 ∷ 0 ∷ 0 ∷ 0 ∷ 0 ∷ 0 ∷ 0
    ∷ 0 ∷ 0 ∷ 0 ∷ 0 ∷ 0 ∷ 0 ∷ 0 ∷ 0 ∷ 0 ∷ 0 ∷ 0 ∷ 0 ∷ 0 ∷ 0 ∷ 0 ∷ 0
    ∷ 0 ∷ 0 ∷ 0 ∷ 0 ∷ 0 ∷ 0 ∷ 0 ∷ 0 ∷ 0 ∷ 0 ∷ 0 ∷ 0 ∷ 0 ∷ 0 ∷ 0 ∷ 0
    ∷ 0 ∷ 0 ∷ 0 ∷ 0 ∷ 0 ∷ 0 ∷ 0 ∷ 0 ∷ 0 ∷ 0 ∷ 0 ∷ 0 ∷ 0 ∷ 0 ∷ 0 ∷ 0
    ∷ 1 ∷ 1 ∷ 1 ∷ 1 ∷ 1 ∷ 1 ∷ 1 ∷ 1 ∷ 1 ∷ 1 ∷ 1 ∷ 1 ∷ 1 ∷ 1 ∷ 1 ∷ 1
    ∷ 2 ∷ 2 ∷ 2 ∷ 2 ∷ 2 ∷ 2 ∷ 2 ∷ 2 ∷ 2 ∷ 2 ∷ 2 ∷ 2 ∷ 2 ∷ 2 ∷ 2 ∷ 2
    ∷ 3 ∷ 3 ∷ 3 ∷ 3 ∷ 3 ∷ 3 ∷ 3 ∷ 3 ∷ 3 ∷ 3 ∷ 3 ∷ 3 ∷ 3 ∷ 3 ∷ 3 ∷ 3
    ∷ 3 ∷ 3 ∷ 3 ∷ 3 ∷ 3 ∷ 3 ∷ 3 ∷ 3 ∷ 3 ∷ 3 ∷ 3 ∷ 3 ∷ 3 ∷ 3 ∷ 3 ∷ 3
    ∷ 4 ∷ 4 ∷ 5 ∷ 5 ∷ 5 ∷ 5 ∷ 5 ∷ 5 ∷ 5 ∷ 5 ∷ 5 ∷ 5 ∷ 5 ∷ 5 ∷ 5 ∷ 5
    ∷ 5 ∷ 5 ∷ 5 ∷ 5 ∷ 5 ∷ 5 ∷ 5 ∷ 5 ∷ 5 ∷ 5 ∷ 5 ∷ 5 ∷ 5 ∷ 5 ∷ 5 ∷ 5
    ∷ 6 ∷ 7 ∷ 7 ∷ 7 ∷ 7 ∷ 7 ∷ 7 ∷ 7 ∷ 7 ∷ 7 ∷ 7 ∷ 7 ∷ 7 ∷ 7 ∷ 7 ∷ 7
    ∷ 8 ∷ 9 ∷ 9 ∷ 9 ∷ 10 ∷ 4 ∷ 4 ∷ 4 ∷ 4 ∷ 4 ∷ 4 ∷ 4 ∷ 4 ∷ 4 ∷ 4 ∷ 4 ∷ []

-- What is expected after a first byte, by its group: Table 3-7 of the Unicode Standard, a group a row.
unfoldable pub led_by : List Expected
led_by =
    point ∷ wrong ∷ wrong ∷ wrong ∷ wrong
    ∷ trail 0x80 0xBF 0 ∷ trail 0xA0 0xBF 1 ∷ trail 0x80 0xBF 1
    ∷ trail 0x90 0xBF 2 ∷ trail 0x80 0xBF 2 ∷ trail 0x80 0x8F 2 ∷ []

abbrev pub lead_of : ℕ → Expected
lead_of group = get_or led_by group wrong

-- All that can be expected while well-formed bytes are gone through, each as the place, in bits, of its number in a group's row.
pub data Stage : Type 0 where
  fresh : Stage
  one : Stage
  two : Stage
  three : Stage
  after_e0 : Stage
  after_f0 : Stage
  after_f4 : Stage
  spoilt : Stage

abbrev pub expected : Stage → Expected
expected fresh = point
expected one = trail 0x80 0xBF 0
expected two = trail 0x80 0xBF 1
expected three = trail 0x80 0xBF 2
expected after_e0 = trail 0xA0 0xBF 1
expected after_f0 = trail 0x90 0xBF 2
expected after_f4 = trail 0x80 0x8F 2
expected spoilt = wrong

abbrev pub shift : Stage → ℕ
shift fresh = 0
shift one = 6
shift two = 12
shift three = 18
shift after_e0 = 24
shift after_f0 = 30
shift after_f4 = 36
shift spoilt = 42

-- A group's row: at the place of each stage, the place of the stage after a byte of the group.
unfoldable pub row_table : List ℕ
row_table =
    0xAAAAAAAAAA80
    ∷ 0xA8CAAA30602A
    ∷ 0xAAA32A30602A
    ∷ 0xAAA30630602A
    ∷ 0xAAAAAAAAAAAA
    ∷ 0xAAAAAAAAAA86
    ∷ 0xAAAAAAAAAA98
    ∷ 0xAAAAAAAAAA8C
    ∷ 0xAAAAAAAAAA9E
    ∷ 0xAAAAAAAAAA92
    ∷ 0xAAAAAAAAAAA4 ∷ []

-- One byte more: the row of its group, brought down to the place of the stage.
abbrev pub turned : (state byte : ℕ) → ℕ
turned state byte = get_or row_table (get_or lead_table byte 0) 0 / 2 ^ (state % 64)
