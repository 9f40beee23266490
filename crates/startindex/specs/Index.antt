-- 02, K4: "Keep beside the locations one bit per instruction .. with running totals every 512 bits." The index as it is built from records, in
-- blocks of nine words of 64 bits: a running total and eight words of bits. Block n / 512 is there for n equal to the count too.
use Rattle.std.specs.Prelude.{cond, List, [], ◌∷◌, ◌++◌, ℕ, zero, suc, ◌+◌, ◌-◌, ◌*◌, ◌/◌, min, length, ltb, Result, Ok}
use Rattle.refusals.specs.Faults.{refused}
use Rattle.refusals.specs.declared.Fault.{Fault}
use Rattle.refusals.specs.declared.Refusal.TheVariants.{NoRoom}
use Rattle.clearing.specs.Lent.{zeros, padded}
use Rattle.startindex.specs.Starts.{is_start, bit, starts_in}

-- the bits of the n instructions from i on, the first of them lowest
unfoldable pub word_of : List ℕ → ℕ → ℕ → ℕ
word_of records i zero = 0
word_of records i (suc n) = bit (is_start records i) + 2 * word_of records (i + 1) n

-- n words from instruction i on; behind the last instruction no bit is set
unfoldable pub words : List ℕ → ℕ → ℕ → ℕ → List ℕ
words records count i zero = []
words records count i (suc n) = word_of records i (min 64 (count - i)) ∷ words records count (i + 64) n

-- block b: how many starts lie before its first instruction, then the bits of its 512 instructions
abbrev pub block : List ℕ → ℕ → ℕ → List ℕ
block records count b = starts_in records 0 (512 * b) ∷ words records count (512 * b) 8

-- n blocks from block b on
unfoldable pub blocks : List ℕ → ℕ → ℕ → ℕ → List ℕ
blocks records count b zero = []
blocks records count b (suc n) = block records count b ++ blocks records count (b + 1) n

-- how many blocks, and how many words, an index of so many instructions has
abbrev pub blocks_of : ℕ → ℕ
blocks_of count = count / 512 + 1

abbrev pub need : ℕ → ℕ
need count = 9 * blocks_of count

unfoldable pub built : List ℕ → ℕ → List ℕ
built records count = blocks records count 0 (blocks_of count)

-- ---- the answer, and the lent words
-- "store short 17": fewer records than instructions, then an index of too few words
unfoldable pub indexed : List ℕ → ℕ → ℕ → Result ℕ Fault × List ℕ
indexed records count room =
    cond (ltb (length records / 4) count) (refused NoRoom (length records / 4), zeros room)
    (cond (ltb room (need count)) (refused NoRoom room, zeros room)
    (Ok (starts_in records 0 count), padded room (built records count)))
