-- No two numbers are written alike, not even where something follows: what is written reads back.
-- Assumes nothing.
use Rattle.std.proofs.Common.{◌≡◌, ℕ, ◌+◌, ◌-◌, ◌*◌, ◌^◌, ◌<◌, Bool, true, false, ltb, List, [], ◌++◌, sym, refl, ap, ◌∙◌, arith}
use Rattle.lineentry.specs.Varint.{digits, number}
use Rattle.varint.specs.Writing.{little_endian, big_endian, big_endian_with_start, signed_code}
use Rattle.varintread.specs.Reading.{Reading, read_varint, read_varint_with_start}
use Rattle.std.specs.Prelude.{Ok, Err, Some, None}
use Rattle.varint.proofs.ReadsBack.{little_endian-stands, big_endian-reads_back, with_start_reads_back}

-- the number of an answer
value : Reading → ℕ
value (Ok (Some f)) = f.value
value (Ok None) = 0
value (Err f) = 0

pub little_endian-apart : (m n : ℕ) (s t : List ℕ) → little_endian m ++ s ≡ little_endian n ++ t → m ≡ n
little_endian-apart m n s t h =
    let a = little_endian-stands m s in
    let b = little_endian-stands n t in
    sym a.its_number ∙ ap number (sym a.its_digits ∙ ap digits h ∙ b.its_digits) ∙ b.its_number

-- the code of a signed number is no other's
codes-apart : (y z : ℕ) → y < 2 ^ 32 → z < 2 ^ 32 → signed_code y ≡ signed_code z → y ≡ z
codes-apart y z fy fz h = go (ltb y (2 ^ 31)) (ltb z (2 ^ 31)) refl refl h
  where
    go : (s t : Bool) → ltb y (2 ^ 31) ≡ s → ltb z (2 ^ 31) ≡ t → signed_code y ≡ signed_code z → y ≡ z
    go true true d e k = let q : y * 2 ≡ z * 2 = rw (d, e) at k in omega arith
    go true false d e k = let q : y * 2 ≡ (2 ^ 32 - z) * 2 + 1 = rw (d, e) at k in absurd (omega arith)
    go false true d e k = let q : (2 ^ 32 - y) * 2 + 1 ≡ z * 2 = rw (d, e) at k in absurd (omega arith)
    go false false d e k = let q : (2 ^ 32 - y) * 2 + 1 ≡ (2 ^ 32 - z) * 2 + 1 = rw (d, e) at k in omega arith

pub signed-apart : (y z : ℕ) (s t : List ℕ) → y < 2 ^ 32 → z < 2 ^ 32 → little_endian (signed_code y) ++ s ≡ little_endian (signed_code z) ++ t → y ≡ z
signed-apart y z s t fy fz h = codes-apart y z fy fz (little_endian-apart (signed_code y) (signed_code z) s t h)

pub big_endian-apart : (m n : ℕ) (s t : List ℕ) → m < 2 ^ 32 → n < 2 ^ 32 → big_endian m ++ s ≡ big_endian n ++ t → m ≡ n
unfolding value
big_endian-apart m n s t fm fn h =
    ap value
    (sym (big_endian-reads_back [] m s fm) ∙ ap (λ (bytes : List ℕ). read_varint bytes 0) h ∙ big_endian-reads_back [] n t fn)

pub with_start_apart : (m n : ℕ) (s t : List ℕ) → m < 2 ^ 32 → n < 2 ^ 32
    → big_endian_with_start m ++ s ≡ big_endian_with_start n ++ t → m ≡ n
unfolding value
with_start_apart m n s t fm fn h =
    ap value
    (sym (with_start_reads_back [] m s fm) ∙ ap (λ (bytes : List ℕ). read_varint_with_start bytes 0) h ∙ with_start_reads_back [] n t fn)
