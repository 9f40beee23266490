-- 01, 'Locals, numbers and locations': lines. A line, or a step from line to line, is kept as the signed 32-bit number plus 2^31,
-- so that every one is a number below 2^32. That lines come as steps, the first from the code's first line, is CPython's
-- InternalDocs/code_objects.md, 'Source code locations'.
use Rattle.std.specs.Prelude.{Option, Some, None, cond, ℕ, ◌+◌, ◌-◌, ◌^◌, max, ltb}

-- 0 as it is kept
abbrev pub origin : ℕ
origin = 2147483648

-- 32 bits "taken as signed"
unfoldable pub as_signed : ℕ → ℕ
as_signed bits = cond (ltb bits origin) (bits + origin) (bits - origin)

-- The line after a step. "A line outside signed 32 bits is 18"
unfoldable pub moved : ℕ → ℕ → Option ℕ
moved line step =
    cond (ltb (line + step) origin) None
    (cond (ltb (line + step) (origin + 2 ^ 32)) (Some (line + step - origin)) None)

-- "Lines of 0 or less show as 1"
abbrev pub shown : ℕ → ℕ
shown line = max 1 (line - origin)
