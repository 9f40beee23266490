-- No export and no promise rests on this page.
-- What is answered of a long number's digits: the number that they stand for, unless it is above 2^63.
-- 01, 'What is lent and what is kept': "wide" (a long outside signed 64 bits).
use Rattle.std.specs.Prelude.{◌≡◌, ℕ, ◌<◌, Option, Some, None}

abbrev pub Measures : ℕ → Option ℕ → Type 0
Measures number (Some given) = given ≡ number
Measures number None = 9223372036854775808 < number
