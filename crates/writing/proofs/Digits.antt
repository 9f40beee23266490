-- Integers as digits: the fewest digits of a number, one after another, and a sound long, whose stored digits are the fewest already, so
-- that it is written as it stands. Assumes nothing.
use mathlib.Core.Path.{◌≡◌, refl, sym, ap, ◌∙◌}
use Prim.Native.Nat.{ℕ, zero, suc, ◌+◌, ◌-◌, ◌*◌, ◌/◌, ◌%◌, ◌≤◌, ◌<◌}
use native.Mathlib.Omega.{arith}
use mathlib.Core.Bool.{Bool, true, false, cond, not}
use mathlib.Core.List.{List, [], ◌∷◌, ◌++◌}
use lib.ListN.{length, get_or}
use lib.Seq.{slice, slice_empty}
use lib.Dec.{leb, ltb, eqb}
use borrow.Author.Tests.{le-ltb, ltb-true, leb-true, eqb-false}
use Rattle.refusals.specs.Numbers.{data_too_short, invalid_bytecode}
use Rattle.grammar.specs.Reading.{Answer, gives, stops}
use Rattle.grammar.specs.Letters as letter
use Rattle.grammar.specs.Fields.{Fields, items, span, fields, digits, last_digit, pylong, le16, le32, contents, not_negative, digit_count}
use Rattle.grammar.specs.Leaf.{magnitude}
use Rattle.writing.specs.Canonical.{bytes32, bits_of, digits_from, digits_of, digit_bytes, long_bytes}
use Rattle.writing.specs.Shape.{long_at}
use Rattle.writing.proofs.Numbers.{part-append, word_bytes, pair_bytes, word_below}

-- The fewest digits, from the least on.

digits-bound : (b b' m : ℕ) → m ≤ b → m ≤ b' → digits_from b m ≡ digits_from b' m
unfolding digits_from
digits-bound zero zero m h h' = refl
digits-bound zero (suc b') zero h h' = refl
digits-bound zero (suc b') (suc m) h h' = absurd (omega arith)
digits-bound (suc b) zero zero h h' = refl
digits-bound (suc b) zero (suc m) h h' = absurd (omega arith)
digits-bound (suc b) (suc b') zero h h' = refl
digits-bound (suc b) (suc b') (suc m) h h' = ap (λ l. suc m % 32768 ∷ l) (digits-bound b b' (suc m / 32768) (omega arith) (omega arith))

pub digits_none : digits_of 0 ≡ []
unfolding digits_from
digits_none = refl

pub digits-next : (m : ℕ) → 0 < m → digits_of m ≡ m % 32768 ∷ digits_of (m / 32768)
unfolding digits_from
digits-next zero h = absurd (omega arith)
digits-next (suc m) h = ap (λ l. suc m % 32768 ∷ l) (digits-bound m (suc m / 32768) (suc m / 32768) (omega arith) (omega arith))

pub digit_bytes-length : (ds : List ℕ) → length (digit_bytes ds) ≡ 2 * length ds
unfolding digit_bytes
digit_bytes-length [] = refl
digit_bytes-length (d ∷ ds) = omega (arith, digit_bytes-length ds)

length_next : (m : ℕ) → 0 < m → length (digits_of m) ≡ suc (length (digits_of (m / 32768)))
length_next m h = ap length (digits-next m h)

length-zero : (m : ℕ) → m ≡ 0 → length (digits_of m) ≡ 0
length-zero m e = rw e (ap length digits_none)

-- a number outside signed 32 bits and within 64 has three digits, four or five
module _ (m : ℕ) (h : 2147483648 ≤ m) where
  more_than_two : length (digits_of m) ≡ suc (suc (suc (length (digits_of (m / 32768 / 32768 / 32768)))))
  more_than_two =
      length_next m (omega arith)
      ∙ ap suc (length_next (m / 32768) (omega arith))
      ∙ ap (λ n. suc (suc n)) (length_next (m / 32768 / 32768) (omega arith))

  pub three-digits : m < 35184372088832 → length (digits_of m) ≡ 3
  three-digits l = more_than_two ∙ ap (λ n. suc (suc (suc n))) (length-zero (m / 32768 / 32768 / 32768) (omega arith))

  pub four_digits : 35184372088832 ≤ m → m < 1152921504606846976 → length (digits_of m) ≡ 4
  four_digits k l =
      more_than_two
      ∙ ap (λ n. suc (suc (suc n))) (length_next (m / 32768 / 32768 / 32768) (omega arith)
      ∙ ap suc (length-zero (m / 32768 / 32768 / 32768 / 32768) (omega arith)))

  pub five-digits : 1152921504606846976 ≤ m → m < 18446744073709551616 → length (digits_of m) ≡ 5
  five-digits k l =
      more_than_two
      ∙ ap (λ n. suc (suc (suc n))) (length_next (m / 32768 / 32768 / 32768) (omega arith)
      ∙ ap suc (length_next (m / 32768 / 32768 / 32768 / 32768) (omega arith)
      ∙ ap suc (length-zero (m / 32768 / 32768 / 32768 / 32768 / 32768) (omega arith))))

-- The digits that stand in the input.

unfoldable stored : List ℕ → ℕ → ℕ → List ℕ
stored s zero at = []
stored s (suc more) at = le16 s at ∷ stored s more (at + 2)

-- each below 32,768 and in the input
unfoldable Below : List ℕ → ℕ → ℕ → Type 0
Below s zero at = Unit
Below s (suc more) at = (at + 2 ≤ length s) × (le16 s at < 32768) × Below s more (at + 2)

unfoldable Top : List ℕ → ℕ → ℕ → Type 0
Top s zero at = Unit
Top s (suc more) at = 0 < le16 s (at + 2 * more)

stored-length : (s : List ℕ) (k at : ℕ) → length (stored s k at) ≡ k
unfolding stored
stored-length s zero at = refl
stored-length s (suc k) at = ap suc (stored-length s k (at + 2))

top_rest : (s : List ℕ) (k at : ℕ) → Top s (suc (suc k)) at → Top s (suc k) (at + 2)
unfolding Top
top_rest s k at t = let e : at + 2 * suc k ≡ at + 2 + 2 * k = omega arith in rw e at (t)

positive : (s : List ℕ) (k at : ℕ) → Top s (suc k) at → 0 < magnitude s (suc k) at
unfolding magnitude Top
positive s zero at t = let e : at + 2 * 0 ≡ at = omega arith in let u : 0 < le16 s at = rw e at (t) in omega arith
positive s (suc k) at t = omega (arith, positive s k (at + 2) (top_rest s k at t))

fewest : (s : List ℕ) (k at : ℕ) → Below s k at → Top s k at → digits_of (magnitude s k at) ≡ stored s k at
unfolding magnitude stored Below Top
fewest s zero at b t = digits_none
fewest s (suc k) at b t =
    let p = positive s k at t in
    let d = le16 s at in
    let m = magnitude s k (at + 2) in
    let low = b.1 in
    let e : (d + 32768 * m) % 32768 ≡ d = omega arith in
    let q : (d + 32768 * m) / 32768 ≡ m = omega arith in
    digits-next (d + 32768 * m) p ∙ rw (e, q) (ap (λ l. d ∷ l) (rest k (fewest s k (at + 2)) b t))
  where
    rest : (k : ℕ) → (Below s k (at + 2) → Top s k (at + 2) → digits_of (magnitude s k (at + 2)) ≡ stored s k (at + 2)) → Below s (suc k) at → Top s (suc k) at
        → digits_of (magnitude s k (at + 2)) ≡ stored s k (at + 2)
    rest zero more b t = more b.2 tt
    rest (suc k) more b t = more b.2 (top_rest s k at t)

below-within : (s : List ℕ) (k at : ℕ) → Below s k at → at ≤ length s → at + 2 * k ≤ length s
unfolding Below
below-within s zero at b h = omega arith
below-within s (suc k) at b h = omega (arith, below-within s k (at + 2) b.2 b.0)

stored_bytes : (s : List ℕ) → ((i : ℕ) → get_or s i 0 < 256) → (k at : ℕ) → at + 2 * k ≤ length s → digit_bytes (stored s k at) ≡ contents s at (2 * k)
unfolding stored digit_bytes
stored_bytes s small zero at h = let e : at + 2 * 0 ≡ at = omega arith in sym (ap (λ end. slice at end s) e ∙ slice_empty at s)
stored_bytes s small (suc k) at h =
    let e : 2 + 2 * k ≡ 2 * suc k = omega arith in
    ap (λ l. l ++ digit_bytes (stored s k (at + 2))) (pair_bytes s small at (omega arith))
    ∙ ap (λ l. contents s at 2 ++ l) (stored_bytes s small k (at + 2) (omega arith))
    ∙ sym (part-append s at 2 (2 * k) (omega arith)) ∙ ap (contents s at) e

-- What a sound long's fields tell.

digits_in : (s : List ℕ) (k at : ℕ) (rest : Answer Fields) (f : Fields) → digits s k at rest ≡ gives f → Below s k at × (rest ≡ gives f)
unfolding digits Below
digits_in s zero at rest f e = (tt, e)
digits_in s (suc k) at rest f e = go (digits_in s k (at + 2) rest f) (leb (at + 2) (length s)) refl (ltb (le16 s at) 32768) refl e
  where
    go : (digits s k (at + 2) rest ≡ gives f → Below s k (at + 2) × (rest ≡ gives f)) → (t : Bool) → leb (at + 2) (length s) ≡ t → (u : Bool) → ltb (le16 s at) 32768 ≡ u
        → cond t (cond u (digits s k (at + 2) rest) (stops invalid_bytecode at)) (stops data_too_short at) ≡ gives f
        → Below s (suc k) at × (rest ≡ gives f)
    go more true p true q e =
        let r = more e in
        ((leb-true (at + 2) (length s) p, ltb-true (le16 s at) 32768 q, r.0), r.1)
    go more true p false q e = let z : ◌≡◌ {A = ℕ} 0 1 = cc in absurd (omega arith)
    go more false p u q e = let z : ◌≡◌ {A = ℕ} 0 1 = cc in absurd (omega arith)

last-in : (s : List ℕ) (k at : ℕ) (rest : Answer Fields) (f : Fields) → last_digit s k at rest ≡ gives f → Top s k at × (rest ≡ gives f)
unfolding Top
last-in s zero at rest f e = (tt, e)
last-in s (suc k) at rest f e = go (eqb (le16 s (at + 2 * k)) 0) refl e
  where
    go : (t : Bool) → eqb (le16 s (at + 2 * k)) 0 ≡ t → cond t (stops invalid_bytecode (at + 2 * k)) rest ≡ gives f → Top s (suc k) at × (rest ≡ gives f)
    go true p e = let z : ◌≡◌ {A = ℕ} 0 1 = cc in absurd (omega arith)
    go false p e = (positive_of (le16 s (at + 2 * k)) (eqb-false (le16 s (at + 2 * k)) 0 p), e)
      where
        positive_of : (n : ℕ) → (n ≡ 0 → ⊥) → 0 < n
        positive_of zero h = absurd (h refl)
        positive_of (suc n) h = omega arith

abbrev size_in : Answer Fields → ℕ
size_in (gives f) = f.size
size_in (stops number place) = 0

record Stands (s : List ℕ) (at size : ℕ) : Type 0 where
  counted : at + 4 ≤ length s
  is : size ≡ 4 + 2 * digit_count (le32 s at)
  below : Below s (digit_count (le32 s at)) (at + 4)
  top : Top s (digit_count (le32 s at)) (at + 4)

stands : (s : List ℕ) (at size : ℕ) → fields s letter.long at ≡ span at size (items 0) → Stands s at size
unfolding fields pylong
stands s at size e = go (leb (at + 4) (length s)) refl e
  where
    go : (t : Bool) → leb (at + 4) (length s) ≡ t
        → cond t (pylong s at (digit_count (le32 s at))) (stops data_too_short at) ≡ span at size (items 0) → Stands s at size
    go true p e =
        let k = digit_count (le32 s at) in
        let r = digits_in s k (at + 4) (last_digit s k (at + 4) (span at (4 + 2 * k) (items 0))) (record { place = at; size = size; children = items 0 }) e in
        let l = last-in s k (at + 4) (span at (4 + 2 * k) (items 0)) (record { place = at; size = size; children = items 0 }) r.1 in
        record { counted = leb-true (at + 4) (length s) p; is = sym (ap size_in l.1); below = r.0; top = l.0 }
    go false p e = let z : ◌≡◌ {A = ℕ} 0 1 = cc in absurd (omega arith)

many : (s : List ℕ) (k at : ℕ) → Top s k at → 3 < k → 35184372088832 ≤ magnitude s k at
unfolding magnitude
many s zero at t h = absurd (omega arith)
many s (suc zero) at t h = absurd (omega arith)
many s (suc (suc zero)) at t h = absurd (omega arith)
many s (suc (suc (suc zero))) at t h = absurd (omega arith)
many s (suc (suc (suc (suc k)))) at t h =
    omega (arith, positive s k (at + 2 + 2 + 2) (top_rest s k (at + 2 + 2) (top_rest s (suc k) (at + 2) (top_rest s (suc (suc k)) at t))))

some_top : (s : List ℕ) (k at : ℕ) → Top s k at → 0 < k → 0 < magnitude s k at
some_top s zero at t h = absurd (omega arith)
some_top s (suc k) at t h = positive s k at t

-- A sound long.
module _ (s : List ℕ) (small : (i : ℕ) → get_or s i 0 < 256) (at size : ℕ) (sound : fields s letter.long at ≡ span at size (items 0)) where
  pub long-within : at + size ≤ length s
  long-within =
      let w = stands s at size sound in
      omega (arith, w.counted, w.is, below-within s (digit_count (le32 s at)) (at + 4) w.below w.counted)

  pub long-counted : (at + 4 ≤ length s) × (size ≡ 4 + 2 * digit_count (le32 s at))
  long-counted = let w = stands s at size sound in (w.counted, w.is)

  count_back : bits_of 4294967296 (record { negative = not (not_negative (le32 s at)); magnitude = digit_count (le32 s at) }) ≡ le32 s at
  count_back = go (ltb (le32 s at) 2147483648) refl
    where
      go : (t : Bool) → ltb (le32 s at) 2147483648 ≡ t
          → cond (not t) (4294967296 - cond t (le32 s at) (4294967296 - le32 s at)) (cond t (le32 s at) (4294967296 - le32 s at)) ≡ le32 s at
      go true p = refl
      go false p = omega (arith, word_below s small at)

  pub long_as_stored : long_bytes (long_at s at) ≡ 0x6C ∷ contents s at size
  long_as_stored =
      let w = stands s at size sound in
      let k = digit_count (le32 s at) in
      let few = fewest s k (at + 4) w.below w.top in
      let n : length (digits_of (magnitude s k (at + 4))) ≡ k = ap length few ∙ stored-length s k (at + 4) in
      let value = magnitude s k (at + 4) in
      let sign = not (not_negative (le32 s at)) in
      ap (λ c. 0x6C ∷ bytes32 (bits_of 4294967296 (record { negative = sign; magnitude = c })) ++ digit_bytes (digits_of value)) n
      ∙ ap (λ w. 0x6C ∷ bytes32 w ++ digit_bytes (digits_of value)) count_back
      ∙ ap (λ ds. 0x6C ∷ bytes32 (le32 s at) ++ digit_bytes ds) few
      ∙ ap (λ l. 0x6C ∷ bytes32 (le32 s at) ++ l) (stored_bytes s small k (at + 4) (below-within s k (at + 4) w.below w.counted))
      ∙ ap (λ l. 0x6C ∷ l ++ contents s (at + 4) (2 * k)) (word_bytes s small at w.counted)
      ∙ ap (λ l. 0x6C ∷ l) (sym (part-append s at 4 (2 * k) (omega (arith, long-within, w.is))))
      ∙ ap (λ z. 0x6C ∷ contents s at z) (sym w.is)

  -- more than three digits are outside signed 32 bits
  pub many-digits : 3 < digit_count (le32 s at) → 35184372088832 ≤ magnitude s (digit_count (le32 s at)) (at + 4)
  many-digits h =
      let w = stands s at size sound in
      many s (digit_count (le32 s at)) (at + 4) w.top h

  -- a negative long is not zero
  pub negative-above : 2147483648 ≤ le32 s at → 0 < magnitude s (digit_count (le32 s at)) (at + 4)
  negative-above h =
      let w = stands s at size sound in
      let c : digit_count (le32 s at) ≡ 4294967296 - le32 s at = rw (le-ltb (le32 s at) 2147483648 h) refl in
      some_top s (digit_count (le32 s at)) (at + 4) w.top (omega (arith, c, word_below s small at))
