-- 01, 'What is lent and what is kept': the limits that hold for every call, named once.
-- "at most 16,777,216 bytes", "at most 1,048,576 and nesting as at most 2,000", "No entry and no next entry are 4,294,967,295".
use Rattle.std.specs.Prelude.{ℕ}

abbrev pub most_bytes : ℕ
most_bytes = 16777216

abbrev pub most_records : ℕ
most_records = 1048576

abbrev pub most_nesting : ℕ
most_nesting = 2000

abbrev pub nothing : ℕ
nothing = 4294967295
