-- The kind byte of a name, and the bits that are read of it; its other bits are not looked at.
-- 01, 'Locals, numbers and locations': "Kinds: Local 0x20, Cell 0x40, Free 0x80."
use Rattle.std.specs.Prelude.{Bool, ℕ, ◌/◌, ◌%◌, eqb}

abbrev pub local_bit : ℕ
local_bit = 32

abbrev pub cell_bit : ℕ
cell_bit = 64

abbrev pub free_bit : ℕ
free_bit = 128

-- whether a kind byte has a bit; a name may have several
unfoldable pub has : ℕ → ℕ → Bool
has bit kind = eqb (kind / bit % 2) 1
