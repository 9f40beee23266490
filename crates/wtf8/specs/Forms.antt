-- The same as a test of the bytes from left to right: the Unicode Standard, Table 3-7, 'Well-Formed UTF-8 Byte Sequences',
-- with one row the wider: after ED all of 80..BF may follow, so that surrogates are allowed.
use Rattle.std.specs.Prelude.{ℕ, zero, suc, Bool, true, false, cond, List, [], ◌∷◌, leb, ltb, eqb}

-- What may come next: a new code point; a byte from low up to high and so many bytes 80..BF after it; or nothing, since a byte was wrong.
pub data Expected : Type 0 where
  point : Expected
  trail : (low high more : ℕ) → Expected
  wrong : Expected

-- Table 3-7, by the first byte of a sequence.
unfoldable pub after_lead : ℕ → Expected
after_lead b =
    cond (ltb b 0x80) point
    (cond (ltb b 0xC2) wrong
    (cond (ltb b 0xE0) (trail 0x80 0xBF 0)
    (cond (eqb b 0xE0) (trail 0xA0 0xBF 1)
    (cond (ltb b 0xF0) (trail 0x80 0xBF 1)
    (cond (eqb b 0xF0) (trail 0x90 0xBF 2)
    (cond (ltb b 0xF4) (trail 0x80 0xBF 2)
    (cond (eqb b 0xF4) (trail 0x80 0x8F 2) wrong)))))))

abbrev pub after_trail : ℕ → Expected
after_trail zero = point
after_trail (suc more) = trail 0x80 0xBF more

-- What may come after one more byte.
unfoldable pub after : Expected → ℕ → Expected
after point b = after_lead b
after (trail low high more) b = cond (leb low b) (cond (leb b high) (after_trail more) wrong) wrong
after wrong b = wrong

-- The bytes may end where a new code point could begin.
abbrev pub may_end : Expected → Bool
may_end point = true
may_end (trail low high more) = false
may_end wrong = false

unfoldable pub allows : List ℕ → Expected → Bool
allows [] e = may_end e
allows (b ∷ bs) e = allows bs (after e b)

-- Whether the bytes are UTF-8 with surrogate code points allowed.
abbrev pub well_formed : List ℕ → Bool
well_formed bytes = allows bytes point
