-- What is written reads back, whatever stands before and after it: in both byte orders, with and without marker, and signed.
-- Assumes nothing.
use Rattle.std.proofs.Common.{◌≡◌, ℕ, zero, suc, ◌+◌, ◌-◌, ◌*◌, ◌/◌, ◌%◌, ◌^◌, ◌<◌, ◌≤◌, Bool, true, false, ltb, leb, List, [], ◌∷◌, ◌++◌, length, sym, refl, ap, ◌∙◌, append_assoc, arith, length-append, ltb-false, ltb-true, lt-ltb, eq-eqb, ne_eqb, le-leb}
use lib.Seq.{drop-append_seam, get_or-append_seam}
use borrow.Author.Tests.{lt-leb}
use Rattle.lineentry.specs.Line.{as_signed}
use Rattle.lineentry.specs.Varint.{read_as, digits, number, cut, varint_within, varint_at, signed_of, signed_at}
use Rattle.varint.specs.Writing.{little_endian, big_endian, started, big_endian_with_start, signed_code}
use Rattle.varintread.specs.Reading.{found, more, read_groups, read_varint, read_varint_with_start}
use Rattle.varint.proofs.Groups.{size_six}
use Rattle.varint.proofs.Bytes.{little_last, little_more, ahead, ahead_none, ahead_more, big_last, length_little, length-started}

-- 0x40 and what is below it
more_yes : (g : ℕ) → g < 64 → more (0x40 + g) ≡ true
more_yes g h = eq-eqb ((0x40 + g) / 0x40 % 2) 1 (omega arith)

more_no : (g : ℕ) → g < 64 → more g ≡ false
more_no g h = ne_eqb (g / 0x40 % 2) 1 (λ e. omega arith)

-- a line table's bytes: 0x40 is asked of the seven low bits
table_more : (g : ℕ) → g < 64 → leb 64 ((0x40 + g) % 128) ≡ true
table_more g h = le-leb 64 ((0x40 + g) % 128) (omega arith)

table_last : (g : ℕ) → g < 64 → leb 64 (g % 128) ≡ false
table_last g h = lt-leb 64 (g % 128) (omega arith)

-- What `lineentry` finds where a number's little-endian bytes stand: those bytes are its digits, their groups sum to the number, and none
-- is missing.
pub record Stands (n : ℕ) (after : List ℕ) : Type 0 where
  pub its_digits : digits (little_endian n ++ after) ≡ little_endian n
  pub its_number : number (little_endian n) ≡ n
  pub not_cut : cut (little_endian n ++ after) ≡ false

little_stands : (f n : ℕ) (after : List ℕ) → n ≤ f → Stands n after
little_stands zero n after h =
    let e : n ≡ 0 = omega arith in
    rw e (record { its_digits = rw (little_last 0 (omega arith)); its_number = rw (little_last 0 (omega arith)); not_cut = rw (little_last 0 (omega arith)) })
little_stands (suc f) n after h = go (ltb n 64) refl (little_stands f (n / 64) after (omega arith))
  where
    go : (t : Bool) → ltb n 64 ≡ t → Stands (n / 64) after → Stands n after
    go true e i =
        let k = ltb-true n 64 e in
        let r : n % 64 + 64 * 0 ≡ n = omega arith in
        record {
          its_digits = rw (little_last n k, table_last n k);
          its_number = rw (little_last n k) r;
          not_cut = rw (little_last n k, table_last n k);
        }
    go false e i =
        let k = ltb-false n 64 e in
        let m = table_more (n % 64) (omega arith) in
        let r : (0x40 + n % 64) % 64 + 64 * (n / 64) ≡ n = omega arith in
        record {
          its_digits = rw (little_more n k, m, i.its_digits);
          its_number = rw (little_more n k, i.its_number) r;
          not_cut = rw (little_more n k, m, i.not_cut);
        }

pub little_endian-stands : (n : ℕ) (after : List ℕ) → Stands n after
little_endian-stands n after = little_stands n n after (omega arith)

-- a byte with 0x40, and one without
group_reads : (at val next g : ℕ) (rest : List ℕ) → g < 64
    → read_groups at val next ((0x40 + g) ∷ rest) ≡ read_groups at (val * 64 + g) (next + 1) rest
unfolding read_groups
group_reads at val next g rest h =
    let e : (0x40 + g) % 64 ≡ g = omega arith in
    rw (more_yes g h, e)

last_reads : (at val next g : ℕ) (rest : List ℕ) → g < 64 → val * 64 + g < 2 ^ 32
    → read_groups at val next (g ∷ rest) ≡ found (val * 64 + g) (next + 1)
unfolding read_groups
last_reads at val next g rest h k =
    let e : g % 64 ≡ g = omega arith in
    rw (more_no g h, e, lt-ltb (val * 64 + g) (2 ^ 32) k)

-- the bytes with 0x40 give the groups above the last
ahead-reads : (f at n next : ℕ) (rest : List ℕ) → n ≤ f → read_groups at 0 next (ahead n ++ rest) ≡ read_groups at n (next + length (ahead n)) rest
ahead-reads zero at n next rest h =
    let e : n ≡ 0 = omega arith in
    let z : next + 0 ≡ next = omega arith in
    rw (e, ahead_none, z)
ahead-reads (suc f) at n next rest h =
    go (ltb 0 n) refl (ahead-reads f at (n / 64) next ((0x40 + n % 64) ∷ rest) (omega arith))
  where
    go : (t : Bool) → ltb 0 n ≡ t
        → read_groups at 0 next (ahead (n / 64) ++ (0x40 + n % 64) ∷ rest)
        ≡ read_groups at (n / 64) (next + length (ahead (n / 64))) ((0x40 + n % 64) ∷ rest)
        → read_groups at 0 next (ahead n ++ rest) ≡ read_groups at n (next + length (ahead n)) rest
    go true e i =
        let m = ahead_more n (ltb-true 0 n e) in
        let v : n / 64 * 64 + n % 64 ≡ n = omega arith in
        let p : next + length (ahead (n / 64)) + 1 ≡ next + length (ahead n) = omega (arith, simp length-append at (ap length m)) in
        ap (λ (bytes : List ℕ). read_groups at 0 next (bytes ++ rest)) m
        ∙ ap (read_groups at 0 next) (append_assoc (ahead (n / 64)) ((0x40 + n % 64) ∷ []) rest)
        ∙ i
        ∙ group_reads at (n / 64) (next + length (ahead (n / 64))) (n % 64) rest (omega arith)
        ∙ ap (λ (val : ℕ). read_groups at val (next + length (ahead (n / 64)) + 1) rest) v
        ∙ ap (λ (place : ℕ). read_groups at n place rest) p
    go false e i =
        let z : n ≡ 0 = omega (arith, ltb-false 0 n e) in
        let y : next + 0 ≡ next = omega arith in
        rw (z, ahead_none, y)

-- from any place of a larger input
module _ (before : List ℕ) (n : ℕ) (after : List ℕ) where
  -- little-endian, as a line table's numbers are read
  pub little_endian-reads_back : n < 2 ^ 32
      → varint_at (before ++ (little_endian n ++ after)) (length before) ≡ read_as n (length before + length (little_endian n)) false
  unfolding varint_within
  little_endian-reads_back h =
      let i = little_endian-stands n after in
      let six : length (little_endian n) ≤ 6 = omega (arith, length_little n, size_six n h) in
      rw (drop-append_seam before (little_endian n ++ after), i.its_digits, i.its_number, i.not_cut, le-leb _ 6 six, lt-ltb n (2 ^ 32) h)

  -- what is read where the bytes stand
  reads-there : (bytes : List ℕ) → 1 ≤ length bytes
      → read_varint (before ++ (bytes ++ after)) (length before) ≡ read_groups (length before) 0 (length before) (bytes ++ after)
  unfolding read_varint
  reads-there bytes h =
      let e : length before < length (before ++ (bytes ++ after)) = simp length-append (omega arith) in
      rw (lt-ltb _ _ e, drop-append_seam before (bytes ++ after))

  pub big_endian-reads_back : n < 2 ^ 32
      → read_varint (before ++ (big_endian n ++ after)) (length before) ≡ found n (length before + length (big_endian n))
  big_endian-reads_back h =
      let at = length before in
      let m = big_last n in
      let v : n / 64 * 64 + n % 64 ≡ n = omega arith in
      let l : length (big_endian n) ≡ length (ahead (n / 64)) + 1 = ap length m ∙ simp length-append in
      let p : at + length (ahead (n / 64)) + 1 ≡ at + length (big_endian n) = omega arith in
      reads-there (big_endian n) (omega arith)
      ∙ ap (λ (bytes : List ℕ). read_groups at 0 at (bytes ++ after)) m
      ∙ ap (read_groups at 0 at) (append_assoc (ahead (n / 64)) (n % 64 ∷ []) after)
      ∙ ahead-reads (n / 64) at (n / 64) at (n % 64 ∷ after) (omega arith)
      ∙ last_reads at (n / 64) (at + length (ahead (n / 64))) (n % 64) after (omega arith) (omega arith)
      ∙ ap (λ (v : ℕ). found v (at + length (ahead (n / 64)) + 1)) v
      ∙ ap (λ (p : ℕ). found n p) p

  -- 0x80 is not looked at where no marker is asked
  start_unread : (bytes : List ℕ) → 1 ≤ length bytes
      → read_varint (before ++ (started bytes ++ after)) (length before) ≡ read_varint (before ++ (bytes ++ after)) (length before)
  unfolding read_groups started
  start_unread [] h = refl
  start_unread (b ∷ bytes) h =
      let e : (0x80 + b) % 64 ≡ b % 64 = omega arith in
      let q : (0x80 + b) / 0x40 ≡ 2 + b / 0x40 = omega arith in
      let d : (2 + b / 0x40) % 2 ≡ b / 0x40 % 2 = omega arith in
      reads-there ((0x80 + b) ∷ bytes) (omega arith) ∙ rw (e, q, d) (sym (reads-there (b ∷ bytes) (omega arith)))

  start_stands : (bytes : List ℕ) → 1 ≤ length bytes
      → read_varint_with_start (before ++ (started bytes ++ after)) (length before) ≡ read_varint (before ++ (started bytes ++ after)) (length before)
  unfolding read_varint_with_start started
  start_stands [] h = absurd (omega arith)
  start_stands (b ∷ bytes) h =
      rw (get_or-append_seam before (0x80 + b) (bytes ++ after) 0, le-leb 0x80 (0x80 + b) (omega arith))

  big_some : 1 ≤ length (big_endian n)
  big_some = omega (arith, simp length-append at (ap length (big_last n)))

  pub with_start_reads_back : n < 2 ^ 32
      → read_varint_with_start (before ++ (big_endian_with_start n ++ after)) (length before)
      ≡ found n (length before + length (big_endian_with_start n))
  unfolding big_endian_with_start
  with_start_reads_back h =
      rw length-started
      (start_stands (big_endian n) big_some ∙ start_unread (big_endian n) big_some ∙ big_endian-reads_back h)

-- a signed number's code stands for the number, the smallest aside
pub code_back : (bits : ℕ) → bits < 2 ^ 32 → (bits ≡ 2 ^ 31 → ⊥) → (signed_code bits < 2 ^ 32) × (signed_of (signed_code bits) ≡ as_signed bits)
unfolding as_signed
code_back bits h other = go (ltb bits (2 ^ 31)) refl
  where
    go : (t : Bool) → ltb bits (2 ^ 31) ≡ t → (signed_code bits < 2 ^ 32) × (signed_of (signed_code bits) ≡ as_signed bits)
    go true e =
        let k = ltb-true bits (2 ^ 31) e in
        rw (e, eq-eqb (bits * 2 % 2) 0 (omega arith)) (omega arith, omega arith)
    go false e =
        let k : 2 ^ 31 < bits = omega (arith, ltb-false bits (2 ^ 31) e, other) in
        rw (e, ne_eqb (((2 ^ 32 - bits) * 2 + 1) % 2) 0 (λ z. omega arith)) (omega arith, omega arith)

pub signed-reads_back : (before : List ℕ) (bits : ℕ) (after : List ℕ) → bits < 2 ^ 32 → (bits ≡ 2 ^ 31 → ⊥)
    → signed_at (before ++ (little_endian (signed_code bits) ++ after)) (length before)
    ≡ read_as (as_signed bits) (length before + length (little_endian (signed_code bits))) false
unfolding signed_at
signed-reads_back before bits after h other =
    let c = code_back bits h other in
    rw (little_endian-reads_back before (signed_code bits) after c.0, c.1)
