-- The argument sum, over plain numbers: the split tests it, and so does the reader at the end of a code object.
-- 01, 'Locals, numbers and locations': "arguments + keyword-only + 1 for flag 0x04 + 1 for flag 0x08".
use Rattle.std.specs.Prelude.{ℕ, ◌+◌, ◌/◌, ◌%◌}

abbrev pub argument_sum : ℕ → ℕ → ℕ → ℕ
argument_sum args kwonly flags = args + kwonly + flags / 4 % 2 + flags / 8 % 2
