-- No export and no promise rests on this page.
-- UTF-8 with surrogate code points allowed, as the Unicode Standard writes it: the encodings, one after another, of a list of code points.
-- 01, 'Reading a value': "All strings, ASCII letters too, are UTF-8 with surrogate code points allowed (9)."
-- They rest on Forms, which may be left unread for this page: `proofs/Exactly` shows that it allows just these bytes.
use Rattle.std.specs.Prelude.{◌≡◌, ℕ, ◌+◌, ◌/◌, ◌%◌, ◌≤◌, cond, List, [], ◌∷◌, ◌++◌, ltb}

abbrev pub last_point : ℕ
last_point = 0x10FFFF

-- The Unicode Standard, Table 3-6, 'UTF-8 Bit Distribution': one to four bytes, six bits in each byte after the first.
unfoldable pub encoding : ℕ → List ℕ
encoding c =
    cond (ltb c 0x80) (c ∷ [])
    (cond (ltb c 0x800) ((0xC0 + c / 64) ∷ (0x80 + c % 64) ∷ [])
    (cond (ltb c 0x10000) ((0xE0 + c / 64 / 64) ∷ (0x80 + c / 64 % 64) ∷ (0x80 + c % 64) ∷ [])
    ((0xF0 + c / 64 / 64 / 64) ∷ (0x80 + c / 64 / 64 % 64) ∷ (0x80 + c / 64 % 64) ∷ (0x80 + c % 64) ∷ [])))

unfoldable pub encodings : List ℕ → List ℕ
encodings [] = []
encodings (c ∷ cs) = encoding c ++ encodings cs

-- Code points up to 10FFFF, the surrogates D800 to DFFF among them.
unfoldable pub Points : List ℕ → Type 0
Points [] = Unit
Points (c ∷ cs) = (c ≤ last_point) × Points cs

-- The bytes are the encodings of a list of code points.
pub record Encoded (bytes : List ℕ) : Type 0 where
  pub points : List ℕ
  pub proper : Points points
  pub spelt : bytes ≡ encodings points
