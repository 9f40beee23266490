-- The bytes that a number is written as. 01, 'Locals, numbers and locations': "Varints hold six bits a byte, 0x40 meaning more.
-- Little-endian serves line tables, big-endian exception tables, there also with 0x80 on the first byte."
use Rattle.std.specs.Prelude.{ℕ, zero, suc, ◌+◌, ◌-◌, ◌*◌, ◌/◌, ◌%◌, ◌^◌, cond, List, [], ◌∷◌, reverse, nat_lt}

-- A number in groups of six bits, the lowest first: at least one group, and no zero group above the others.
-- The first argument only bounds the recursion; the number itself is bound enough.
unfoldable pub groups_of : ℕ → ℕ → List ℕ
groups_of zero n = n ∷ []
groups_of (suc bound) n =
    let higher = groups_of bound (n / 64) in
    cond (nat_lt n 64) (n ∷ []) (n % 64 ∷ higher)

unfoldable pub groups : ℕ → List ℕ
unfolding groups_of
groups n = groups_of n n

-- "0x40 meaning more": on every byte but the last
unfoldable pub chained : List ℕ → List ℕ
chained [] = []
chained (group ∷ []) = group ∷ []
chained (group ∷ next ∷ rest) = (0x40 + group) ∷ chained (next ∷ rest)

-- the lowest group first
unfoldable pub little_endian : ℕ → List ℕ
unfolding chained groups
little_endian n = chained (groups n)

-- the highest group first
unfoldable pub big_endian : ℕ → List ℕ
unfolding chained groups
big_endian n = chained (reverse (groups n))

-- "there also with 0x80 on the first byte"
unfoldable pub started : List ℕ → List ℕ
started [] = []
started (first ∷ rest) = (0x80 + first) ∷ rest

unfoldable pub big_endian_with_start : ℕ → List ℕ
unfolding started big_endian
big_endian_with_start n = started (big_endian n)

-- "Signed writing takes the magnitude as zero minus the bits, wrapping, doubled plus one": of a negative number, whose highest
-- bit of 32 is set. Any other number is doubled.
abbrev pub signed_code : ℕ → ℕ
signed_code bits = cond (nat_lt bits (2 ^ 31)) (bits * 2) ((2 ^ 32 - bits) * 2 + 1)
