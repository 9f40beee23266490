-- 01, 'Locals, numbers and locations': the bytes and the little-endian varints of a location table.
-- "Varints hold six bits a byte, 0x40 meaning more." "Missing bytes are 0."
-- CPython, InternalDocs/code_objects.md, 'Source code locations': a varint is chunks of six bits, the least significant first, with bit 6 set on
-- each but the last (`number`, `more`); of a signed varint the lowest bit is the sign and the others are the magnitude (`signed_of`).
use Rattle.std.specs.Prelude.{Bool, Option, Some, None, true, false, cond, ◌&&◌, List, [], ◌∷◌, ℕ, ◌+◌, ◌-◌, ◌*◌, ◌/◌, ◌%◌, ◌^◌, length, drop, get_or, leb, ltb, eqb}
use Rattle.lineentry.specs.declared.Byte.{Byte}
use Rattle.lineentry.specs.declared.Varint.{Varint}
use Rattle.lineentry.specs.Line.{origin}

-- The byte at p: "Missing bytes are 0", and nothing is passed.
abbrev pub byte_at : List ℕ → ℕ → Byte
byte_at s p =
    cond (ltb p (length s)) (record { value = get_or s p 0; next = p + 1; missing = false })
    (record { value = 0; next = p; missing = true })

-- "0x40 meaning more"
abbrev pub more : ℕ → Bool
more b = leb 64 (b % 128)

-- the bytes of the number at the front of s: up to the first that has no 0x40
abbrev pub digits : List ℕ → List ℕ
digits [] = []
digits (b ∷ s) = b ∷ cond (more b) (digits s) []

-- "six bits a byte", the lowest first
abbrev pub number : List ℕ → ℕ
number [] = 0
number (b ∷ s) = b % 64 + 64 * number s

-- a byte that should follow is missing
abbrev pub cut : List ℕ → Bool
cut [] = true
cut (b ∷ s) = more b && cut s

-- a value, the place after its bytes, and whether a byte was missing
abbrev pub read_as : ℕ → ℕ → Bool → Option Varint
read_as v p m = Some (record { value = v; next = p; missing = m })

-- The varint at p, of at most `most` bytes: its value, which is the sum of its groups, the place after it, and whether a byte was missing.
-- 02, K2: "in a line table a varint's value must be under 2^32". A value that is not, whether or not a byte is missing behind it, and a
-- byte too many are refused alike.
unfoldable pub varint_within : ℕ → List ℕ → ℕ → Option Varint
varint_within most s p =
    cond (leb (length (digits (drop p s))) most && ltb (number (digits (drop p s))) (2 ^ 32))
    (read_as (number (digits (drop p s))) (p + length (digits (drop p s))) (cut (drop p s)))
    None

-- "a seventh byte is 18"; 02, K2: "18 at the entry, met before a seventh byte"
abbrev pub varint_at : List ℕ → ℕ → Option Varint
varint_at s p = varint_within 6 s p

-- A signed number: the lowest bit says that it is negative, the others are its magnitude. It is kept as lines are.
abbrev pub signed_of : ℕ → ℕ
signed_of v = cond (eqb (v % 2) 0) (origin + v / 2) (origin - v / 2)

abbrev pub signed : Option Varint → Option Varint
signed (Some v) = read_as (signed_of v.value) v.next v.missing
signed None = None

unfoldable pub signed_at : List ℕ → ℕ → Option Varint
signed_at s p = signed (varint_within 6 s p)
