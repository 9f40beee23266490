-- A sound record whose children mean proper values means a proper value itself: one case a class of letters. Assumes that the input is
-- bytes, 16 MiB at most.
use mathlib.Core.Path.{◌≡◌, refl, sym, ap, ◌∙◌}
use Prim.Native.Nat.{ℕ, zero, suc, ◌+◌, ◌-◌, ◌*◌, ◌/◌, ◌%◌, ◌≤◌, ◌<◌}
use native.Mathlib.Omega.{arith}
use mathlib.Core.Bool.{Bool, true, false, cond, not, ◌&&◌}
use mathlib.Core.List.{List, [], ◌∷◌}
use lib.ListN.{length, get_or, take, drop}
use lib.Seq.{length-slice}
use lib.Dec.{leb, ltb, eqb}
use borrow.Author.Tests.{leb-true, ltb-true, ltb-false, eqb-true, eqb-false}
use Rattle.refusals.specs.Numbers.{accepted, invalid_bytecode}
use Rattle.refusals.specs.Limits.{most_bytes}
use Rattle.wtf8.specs.Forms.{well_formed}
use Rattle.grammar.specs.Reading.{Answer, stops}
use Rattle.grammar.specs.Letters as letter
use Rattle.grammar.specs.Letters.{Class, refers, keeps, contains, codes, refuses, class_of}
use Rattle.grammar.specs.Fields.{Fields, le16, le32, le64, contents, not_negative, digit_count, digits, last_digit, pylong, code_numbers, sum_at, fields}
use Rattle.grammar.specs.Leaf.{magnitude}
use Rattle.grammar.specs.State.{Node}
use Rattle.grammar.specs.Steps.{line_part, code_parts}
use Rattle.grammar.specs.Record.{reads_as, ruled, sound}
use Rattle.grammar.proofs.Tests.{both_true}
use Rattle.grammar.specs.Input.{Bytes}
use Rattle.writing.specs.Canonical.{Integer, of_bits, digits_from, digits_of, shown_line}
use Rattle.writing.specs.Shape as shape
use Rattle.writing.specs.Shape.{classed, numbers_at, long_at}
use Rattle.writing.proofs.Numbers.{word_below}
use Rattle.meaning.specs.Value.{Value, Values, nil, more, single, integer, float, complex, bytes as byte_string, text, sequence, slice, dict, code, count_of}
use Rattle.meaning.specs.Proper.{Below, lengths, Signed, SuitFrom, fault_in, Proper, ProperAll}
use Rattle.meaning.proofs.Means.{Sees, Means, MeanAll, take_of, drop_of, mean_all_count, mean_all_take, mean_all_drop}
use Rattle.meaning.proofs.Inversion.{class_lettered}

-- Numbers of bytes.
module _ (s : List ℕ) (bytes : Bytes s) where
  pub long-below : (at : ℕ) → le64 s at < 18446744073709551616
  long-below at = omega (arith, bytes at, bytes (at + 1), bytes (at + 2), bytes (at + 3), bytes (at + 4), bytes (at + 5), bytes (at + 6), bytes (at + 7))

below_list : (s : List ℕ) → ((i : ℕ) → get_or s i 0 < 256) → Below 256 s
unfolding Below
below_list [] h = tt
below_list (x ∷ xs) h = (h 0, below_list xs (λ i. h (suc i)))

below-take : (k : ℕ) (s : List ℕ) → Below 256 s → Below 256 (take k s)
unfolding Below
below-take zero s h = tt
below-take (suc k) [] h = tt
below-take (suc k) (x ∷ xs) h = (h.0, below-take k xs h.1)

below-drop : (k : ℕ) (s : List ℕ) → Below 256 s → Below 256 (drop k s)
unfolding Below
below-drop zero s h = h
below-drop (suc k) [] h = tt
below-drop (suc k) (x ∷ xs) h = below-drop k xs h.1

-- Digits: how many there are of a number below a power.
abbrev pub power : ℕ → ℕ
power zero = 1
power (suc k) = 32768 * power k

digits-few : (k bound m : ℕ) → m < power k → length (digits_from bound m) ≤ k
unfolding digits_from
digits-few k zero m h = omega arith
digits-few k (suc bound) zero h = omega arith
digits-few zero (suc bound) (suc m) h = absurd (omega arith)
digits-few (suc k) (suc bound) (suc m) h =
    let e = digits-few k bound (suc m / 32768) (omega arith) in
    omega arith

abbrev Few : Integer → Type 0
Few z = Signed z × (length (digits_of z.magnitude) < lengths)

bits-proper : (half bits : ℕ) → bits < half + half → half ≤ 9223372036854775808 → Few (of_bits half bits)
bits-proper half bits h l = go (ltb bits half) refl
  where
    go : (b : Bool) → ltb bits half ≡ b
        → Few (cond b (record { negative = false; magnitude = bits }) (record { negative = true; magnitude = half + half - bits }))
    go true e = let few = digits-few 5 bits bits (omega arith) in ((λ q. let z : ◌≡◌ {A = ℕ} 0 1 = cc in absurd (omega arith)), omega (arith, few))
    go false e =
        let few = digits-few 5 (half + half - bits) (half + half - bits) (omega (arith, ltb-false bits half e)) in
        ((λ q. omega arith), omega (arith, few))

-- What a record that reads as its fields passed.
pub reads-cond : (b : Bool) (r : Answer Fields) (number place : ℕ) (n : Node) → reads_as (cond b r (stops number place)) n ≡ true → (b ≡ true) × (reads_as r n ≡ true)
reads-cond true r number place n e = (refl, e)
reads-cond false r number place n e = let z : ◌≡◌ {A = ℕ} 0 1 = cc in absurd (omega arith)

abbrev pub DigitsAt : List ℕ → ℕ → ℕ → Type 0
DigitsAt s zero at = Unit
DigitsAt s (suc k) at = (le16 s at < 32768) × DigitsAt s k (at + 2)

pub digits-passed : (s : List ℕ) (k at : ℕ) (r : Answer Fields) (n : Node) → at ≤ length s → reads_as (digits s k at r) n ≡ true → DigitsAt s k at × (at + 2 * k ≤ length s) × (reads_as r n ≡ true)
unfolding digits
digits-passed s zero at r n w e = (tt, omega arith, e)
digits-passed s (suc k) at r n w e =
    let a = reads-cond (leb (at + 2) (length s)) _ _ _ n e in
    let b = reads-cond (ltb (le16 s at) 32768) _ _ _ n a.1 in
    let c = digits-passed s k (at + 2) r n (leb-true (at + 2) (length s) a.0) b.1 in
    ((ltb-true (le16 s at) 32768 b.0, c.0), omega (arith, c.1), c.2)

magnitude-below : (s : List ℕ) (k at : ℕ) → DigitsAt s k at → magnitude s k at < power k
unfolding magnitude
magnitude-below s zero at h = omega arith
magnitude-below s (suc k) at h = let e = magnitude-below s k (at + 2) h.1 in omega (arith, h.0)

magnitude-some : (s : List ℕ) (k at : ℕ) → 0 < le16 s (at + 2 * k) → 0 < magnitude s (suc k) at
unfolding magnitude
magnitude-some s zero at h =
    let e : at + 2 * 0 ≡ at = omega arith in
    let h' : 0 < le16 s at = rw e at h in
    omega (arith, h')
magnitude-some s (suc k) at h =
    let e : at + 2 * suc k ≡ at + 2 + 2 * k = omega arith in
    let h' : 0 < le16 s (at + 2 + 2 * k) = rw e at h in
    let m = magnitude-some s k (at + 2) h' in
    omega (arith, m)

last_passed : (s : List ℕ) (k at : ℕ) (r : Answer Fields) (n : Node) → reads_as (last_digit s k at r) n ≡ true → 0 < k → 0 < magnitude s k at
last_passed s zero at r n e h = absurd (omega arith)
last_passed s (suc k) at r n e h = go (eqb (le16 s (at + 2 * k)) 0) refl e
  where
    go : (b : Bool) → eqb (le16 s (at + 2 * k)) 0 ≡ b → reads_as (cond b (stops invalid_bytecode (at + 2 * k)) r) n ≡ true → 0 < magnitude s (suc k) at
    go true q e = let z : ◌≡◌ {A = ℕ} 0 1 = cc in absurd (omega arith)
    go false q e = magnitude-some s k at (some (le16 s (at + 2 * k)) (eqb-false (le16 s (at + 2 * k)) 0 q))
      where
        some : (x : ℕ) → (x ≡ 0 → ⊥) → 0 < x
        some zero h = absurd (h refl)
        some (suc x) h = omega arith

long-proper : (s : List ℕ) → Bytes s → length s ≤ most_bytes → (at : ℕ) (n : Node) → reads_as (fields s letter.long at) n ≡ true → Few (long_at s at)
unfolding fields pylong
long-proper s bytes small at n e =
    let w = le32 s at in
    let k = digit_count w in
    let a = reads-cond (leb (at + 4) (length s)) _ _ _ n e in
    let here = leb-true (at + 4) (length s) a.0 in
    let b = digits-passed s k (at + 4) (last_digit s k (at + 4) _) n here a.1 in
    let few = digits-few k (magnitude s k (at + 4)) (magnitude s k (at + 4)) (magnitude-below s k (at + 4) b.0) in
    ((λ q. last_passed s k (at + 4) _ n b.2 (some w (word_below s bytes at) q)), omega (arith, few, b.1))
  where
    some : (w : ℕ) → w < 4294967296 → not (not_negative w) ≡ true → 0 < digit_count w
    some w h q = go (ltb w 2147483648) q
      where
        go : (b : Bool) → not b ≡ true → 0 < cond b w (4294967296 - w)
        go true q = let z : ◌≡◌ {A = ℕ} 0 1 = cc in absurd (omega arith)
        go false q = omega arith

-- The parts of a code.
pub suit_take : (k i : ℕ) (us : Values) → SuitFrom i us → SuitFrom i (take_of k us)
unfolding SuitFrom take_of
suit_take zero i us h = tt
suit_take (suc k) i nil h = tt
suit_take (suc k) i (more u us) h = (h.0, suit_take k (i + 1) us h.1)

suit_drop : (k i : ℕ) (us : Values) → SuitFrom i us → SuitFrom (i + k) (drop_of k us)
unfolding SuitFrom drop_of
suit_drop zero i us h =
    let e : i + 0 ≡ i = omega arith in
    rw e h
suit_drop (suc k) i nil h = tt
suit_drop (suc k) i (more u us) h =
    let e : i + suc k ≡ i + 1 + k = omega arith in
    rw e (suit_drop k (i + 1) us h.1)

pub count-take : (k : ℕ) (us : Values) → k ≤ count_of us → count_of (take_of k us) ≡ k
unfolding take_of count_of
count-take zero us h = refl
count-take (suc k) nil h = absurd (omega arith)
count-take (suc k) (more u us) h = ap suc (count-take k us (omega arith))

count-drop : (k : ℕ) (us : Values) → count_of (drop_of k us) ≡ count_of us - k
unfolding drop_of count_of
count-drop zero us = omega arith
count-drop (suc k) nil = omega arith
count-drop (suc k) (more u us) = count-drop k us ∙ omega arith

proper-take : (k : ℕ) (us : Values) → ProperAll us → ProperAll (take_of k us)
unfolding Proper take_of
proper-take zero us h = tt
proper-take (suc k) nil h = tt
proper-take (suc k) (more u us) h = (h.0, proper-take k us h.1)

proper-drop : (k : ℕ) (us : Values) → ProperAll us → ProperAll (drop_of k us)
unfolding Proper drop_of
proper-drop zero us h = h
proper-drop (suc k) nil h = tt
proper-drop (suc k) (more u us) h = proper-drop k us h.1

-- what is known of a code's parts: they suit, and there is no fault at the end
pub record CodeGood (s : List ℕ) (place : ℕ) (us : Values) : Type 0 where
  pub suit : SuitFrom 0 us
  pub no_fault : fault_in (numbers_at s place) (take_of line_part us) ≡ accepted

pub record Sense (P : Sees) (n : ℕ) : Type 0 where
  pub value : Value
  pub means : Means P n value
  pub proper : Proper value

module _ (s : List ℕ) (bytes : Bytes s) (small : length s ≤ most_bytes) (P : Sees) (n : ℕ) (node : Node) (kids : List ℕ) (us : Values) (ms : MeanAll P kids us) (ps : ProperAll us)
    (count : node.count ≡ length kids) where
  many : count_of us ≡ node.count
  many = sym (mean_all_count P us kids ms) ∙ sym count

  counted_is : (k : ℕ) → eqb node.count k ≡ true → count_of us ≡ k
  counted_is k e = many ∙ eqb-true node.count k e

  fixed_sense : (size : ℕ) → P n kids (classed s node kids (keeps (letter.fixed size))) → Sense P n
  unfolding Means Proper
  fixed_sense size p = go (eqb size 4) (eqb node.letter 0x67) p
    where
      go : (a b : Bool) → P n kids (cond a (shape.integer (of_bits 2147483648 (le32 s node.place))) (cond b (shape.float (le64 s node.place)) (shape.integer (of_bits 9223372036854775808 (le64 s node.place))))) → Sense P n
      go true b p =
          record { value = integer (of_bits 2147483648 (le32 s node.place)); means = (kids, p); proper = bits-proper 2147483648 (le32 s node.place) (word_below s bytes node.place) (omega arith) }
      go false true p = record { value = float (le64 s node.place); means = (kids, p); proper = long-below s bytes node.place }
      go false false p =
          record { value = integer (of_bits 9223372036854775808 (le64 s node.place)); means = (kids, p); proper = bits-proper 9223372036854775808 (le64 s node.place) (long-below s bytes node.place) (omega arith) }

  sequence_sense : reads_as (fields s letter.sequence node.place) node ≡ true → count_of us < lengths
  unfolding fields
  sequence_sense e =
      let at = node.place in
      let a = reads-cond (leb (at + 4) (length s)) _ _ _ node e in
      let b = reads-cond (not_negative (le32 s at)) _ _ _ node a.1 in
      let c = both_true (eqb node.size 4) (eqb node.count (le32 s at)) b.1 in
      let z = counted_is (le32 s at) c.1 in
      omega (arith, z, ltb-true (le32 s at) 2147483648 b.0)

  few_sense : reads_as (fields s letter.few node.place) node ≡ true → count_of us < lengths
  unfolding fields
  few_sense e =
      let at = node.place in
      let a = reads-cond (leb (at + 1) (length s)) _ _ _ node e in
      let c = both_true (eqb node.size 1) (eqb node.count (get_or s at 0)) a.1 in
      let z = counted_is (get_or s at 0) c.1 in
      omega (arith, z, bytes at)

  contents-sized : node.place + node.size ≤ length s → (length (contents s node.place node.size) < lengths) × Below 256 (contents s node.place node.size)
  contents-sized w =
      let l = length-slice node.place (node.place + node.size) s w in
      (omega (arith, l), below-drop node.place (take (node.place + node.size) s) (below-take (node.place + node.size) s (below_list s bytes)))

  shown-below : (word : ℕ) → shown_line word < lengths
  shown-below word = go (ltb word 2147483648) refl
    where
      go : (b : Bool) → ltb word 2147483648 ≡ b → cond b word 0 < lengths
      go true e = ltb-true word 2147483648 e
      go false e = omega arith

  code_sense : ruled s node codes ≡ true → CodeGood s node.place us → P n kids (classed s node kids codes) → Sense P n
  unfolding Means Proper Below
  code_sense e g p =
      let at = node.place in
      let a = both_true (leb code_numbers node.size && leb (at + node.size + 4) (length s) && eqb node.count code_parts) (ltb (sum_at s at) 4294967296) e in
      let b = both_true (leb code_numbers node.size && leb (at + node.size + 4) (length s)) (eqb node.count code_parts) a.0 in
      let ten : count_of us ≡ 10 = counted_is 10 b.1 in
      record {
        value = code (numbers_at s at) (take_of line_part us) (shown_line (le32 s (at + node.size))) (drop_of line_part us);
        means = (kids, le32 s (at + node.size), p, refl, mean_all_take P line_part us kids ms, mean_all_drop P line_part us kids ms);
        proper = (
          record {
            five = refl;
            numbers_fit = (word_below s bytes at, (word_below s bytes (at + 4), (word_below s bytes (at + 8), (word_below s bytes (at + 12), (word_below s bytes (at + 16), tt)))));
            eight = count-take line_part us (omega (arith, ten));
            line-fits = shown-below (le32 s (at + node.size));
            two = count-drop line_part us ∙ omega (arith, ten);
            parts_suit = suit_take line_part 0 us g.suit;
            tables_suit = suit_drop line_part 0 us g.suit;
            no_fault = g.no_fault;
          },
          proper-take line_part us ps,
          proper-drop line_part us ps,
        );
      }

  class_sense : (c : Class) → class_of node.letter ≡ c → node.place + node.size ≤ length s → ruled s node c ≡ true → (c ≡ codes → CodeGood s node.place us) → P n kids (classed s node kids c) → Sense P n
  unfolding Means Proper fields
  class_sense refers q w e g p = let z : ◌≡◌ {A = ℕ} 0 1 = cc in absurd (omega arith)
  class_sense (refuses number) q w e g p = let z : ◌≡◌ {A = ℕ} 0 1 = cc in absurd (omega arith)
  class_sense (keeps letter.single) q w e g p = record { value = single node.letter; means = (kids, p); proper = class_lettered node.letter (keeps letter.single) q }
  class_sense (keeps (letter.fixed size)) q w e g p = fixed_sense size p
  class_sense (keeps letter.double) q w e g p =
      record { value = complex (le64 s node.place) (le64 s (node.place + 8)); means = (kids, p); proper = (long-below s bytes node.place, long-below s bytes (node.place + 8)) }
  class_sense (keeps letter.long) q w e g p = record { value = integer (long_at s node.place); means = (kids, p); proper = long-proper s bytes small node.place node e }
  class_sense (keeps letter.sequence) q w e g p =
      record { value = sequence node.letter us; means = (kids, p, ms); proper = (class_lettered node.letter (keeps letter.sequence) q, sequence_sense e, ps) }
  class_sense (keeps letter.few) q w e g p = record { value = sequence 0x28 us; means = (kids, p, ms); proper = (refl, few_sense e, ps) }
  class_sense (keeps letter.slice) q w e g p = record { value = slice us; means = (kids, p, ms); proper = (counted_is 3 (both_true (eqb node.size 0) (eqb node.count 3) e).1, ps) }
  class_sense (keeps letter.dict) q w e g p =
      record { value = dict us; means = (kids, p, ms); proper = (ap (λ z. z % 2) many ∙ eqb-true (node.count % 2) 0 (both_true (eqb node.size 0) (eqb (node.count % 2) 0) e).1, ps) }
  class_sense (contains letter.bytes) q w e g p = record { value = byte_string (contents s node.place node.size); means = (kids, p); proper = contents-sized w }
  class_sense (contains letter.text) q w e g p =
      record { value = text (contents s node.place node.size); means = (kids, p); proper = (contents-sized w, (both_true (eqb node.count 0) (well_formed (contents s node.place node.size)) e).1) }
  class_sense (contains letter.short) q w e g p =
      let a = both_true (eqb node.count 0) (leb node.size 255 && well_formed (contents s node.place node.size)) e in
      record { value = text (contents s node.place node.size); means = (kids, p); proper = (contents-sized w, (both_true (leb node.size 255) (well_formed (contents s node.place node.size)) a.1).1) }
  class_sense codes q w e g p = code_sense e (g refl) p

  pub sound_sense : sound s node ≡ true → (class_of node.letter ≡ codes → CodeGood s node.place us) → P n kids (classed s node kids (class_of node.letter)) → Sense P n
  unfolding sound
  sound_sense e g p =
      let a = both_true (leb (node.place + node.size) (length s)) (ruled s node (class_of node.letter)) e in
      class_sense (class_of node.letter) refl (leb-true (node.place + node.size) (length s) a.0) a.1 g p
