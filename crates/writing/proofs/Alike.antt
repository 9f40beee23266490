-- Numbers, contents and the fields of a record, read from two inputs that agree on the bytes of a node itself. Carried by the size: a record
-- whose size is not what its fields say is refused whatever they hold, and otherwise they lie in its span. Assumes nothing.
use mathlib.Core.Path.{◌≡◌, refl, sym, ap, ap₂, ◌∙◌}
use Prim.Native.Nat.{ℕ, zero, suc, ◌+◌, ◌*◌, ◌≤◌, ◌<◌}
use native.Mathlib.Omega.{arith}
use mathlib.Core.Bool.{Bool, true, false, cond}
use mathlib.Core.List.{List, [], ◌∷◌}
use lib.ListN.{length, get_or}
use lib.Seq.{slice}
use lib.Dec.{leb, ltb, eqb}
use borrow.Author.Tests.{eqb-true}
use Rattle.grammar.specs.Reading.{Answer, gives, stops}
use Rattle.grammar.specs.Letters as letter
use Rattle.grammar.specs.Letters.{Form, Class, refers, keeps, contains, codes, refuses, letters, class_of}
use Rattle.grammar.specs.Fields.{Fields, le16, le32, le64, contents, not_negative, digit_count, digits, last_digit, pylong, code_numbers, sum_at, fields}
use Rattle.grammar.specs.Leaf.{magnitude}
use Rattle.grammar.specs.State.{Node}
use Rattle.grammar.specs.Record.{reads_as, ruled, sound}
use Rattle.grammar.proofs.Tests.{never, both_true, each_way}
use Rattle.grammar.proofs.Lettered.{class_passes}
use Rattle.writing.specs.Shape.{classed, formed}
use Rattle.writing.specs.Unread.{SameFrom, SameBytes}

-- a record whose chain begins at another entry, that ends elsewhere and is of another input
abbrev pub linked : (first end input : ℕ) → Node → Node
linked first end input n = record { letter = n.letter; place = n.place; size = n.size; first = first; count = n.count; end = end; input = input }

-- The size that the fields of a form say.
abbrev size_of : List ℕ → Form → ℕ → ℕ
size_of s letter.single at = 0
size_of s (letter.fixed size) at = size
size_of s letter.double at = 16
size_of s letter.long at = 4 + 2 * digit_count (le32 s at)
size_of s letter.sequence at = 4
size_of s letter.few at = 1
size_of s letter.slice at = 0
size_of s letter.dict at = 0

-- whether what the fields give is of a size, if they give anything
abbrev Sized : ℕ → Answer Fields → Type 0
Sized size (gives f) = f.size ≡ size
Sized size (stops number place) = Unit

sized-cond : (size : ℕ) (b : Bool) (r : Answer Fields) (number place : ℕ) → Sized size r → Sized size (cond b r (stops number place))
sized-cond size true r number place h = h
sized-cond size false r number place h = tt

sized_last : (size : ℕ) (s : List ℕ) (k at : ℕ) (r : Answer Fields) → Sized size r → Sized size (last_digit s k at r)
sized_last size s zero at r h = h
sized_last size s (suc k) at r h = go (eqb (le16 s (at + 2 * k)) 0)
  where
    go : (b : Bool) → Sized size (cond b (stops 8 (at + 2 * k)) r)
    go true = tt
    go false = h

sized-digits : (size : ℕ) (s : List ℕ) (k at : ℕ) (r : Answer Fields) → Sized size r → Sized size (digits s k at r)
unfolding digits
sized-digits size s zero at r h = h
sized-digits size s (suc k) at r h =
    sized-cond size (leb (at + 2) (length s)) _ _ _ (sized-cond size (ltb (le16 s at) 32768) _ _ _ (sized-digits size s k (at + 2) r h))

fields-sized : (s : List ℕ) (form : Form) (at : ℕ) → Sized (size_of s form at) (fields s form at)
unfolding fields pylong
fields-sized s letter.single at = refl
fields-sized s (letter.fixed size) at = sized-cond size (leb (at + size) (length s)) _ _ _ refl
fields-sized s letter.double at = sized-cond 16 (leb (at + 8) (length s)) _ _ _ (sized-cond 16 (leb (at + 8 + 8) (length s)) _ _ _ refl)
fields-sized s letter.long at =
    let k = digit_count (le32 s at) in
    sized-cond (4 + 2 * k) (leb (at + 4) (length s)) _ _ _ (sized-digits (4 + 2 * k) s k (at + 4) _ (sized_last (4 + 2 * k) s k (at + 4) _ refl))
fields-sized s letter.sequence at = sized-cond 4 (leb (at + 4) (length s)) _ _ _ (sized-cond 4 (not_negative (le32 s at)) _ _ _ refl)
fields-sized s letter.few at = sized-cond 1 (leb (at + 1) (length s)) _ _ _ refl
fields-sized s letter.slice at = refl
fields-sized s letter.dict at = refl

pub reads-size : (s : List ℕ) (form : Form) (n : Node) → reads_as (fields s form n.place) n ≡ true → n.size ≡ size_of s form n.place
reads-size s form n e = go (fields s form n.place) (fields-sized s form n.place) e
  where
    go : (r : Answer Fields) → Sized (size_of s form n.place) r → reads_as r n ≡ true → n.size ≡ size_of s form n.place
    go (gives f) h e = eqb-true n.size f.size (both_true (eqb n.size f.size) _ e).0 ∙ h
    go (stops number place) h e = never e

-- `i` has four bytes, and every other field of one number eight
wide : (l size : ℕ) → class_of l ≡ keeps (letter.fixed size) → eqb size 4 ≡ false → size ≡ 8
unfolding letters
wide l size e n = eqb-true size 8 (go (class_of l) (class_passes test (λ l. refl) refl l) e)
  where
    test : ℕ → Class → Bool
    test l (keeps (letter.fixed size)) = cond (eqb size 4) true (eqb size 8)
    test l (keeps letter.single) = true
    test l (keeps letter.double) = true
    test l (keeps letter.long) = true
    test l (keeps letter.sequence) = true
    test l (keeps letter.few) = true
    test l (keeps letter.slice) = true
    test l (keeps letter.dict) = true
    test l refers = true
    test l (contains which) = true
    test l codes = true
    test l (refuses number) = true

    go : (c : Class) → test l c ≡ true → c ≡ keeps (letter.fixed size) → eqb size 8 ≡ true
    go c h q = let x : test l (keeps (letter.fixed size)) ≡ true = rw q at h in rw n at x

same_slice : (f t : ℕ) (l l' : List ℕ) → length l ≡ length l' → ((i : ℕ) → f ≤ i → i < t → get_or l i 0 ≡ get_or l' i 0) → slice f t l ≡ slice f t l'
same_slice f t [] [] e h = refl
same_slice f t [] (y ∷ ys) e h = absurd (omega (arith, e))
same_slice f t (x ∷ xs) [] e h = absurd (omega (arith, e))
same_slice zero zero (x ∷ xs) (y ∷ ys) e h = refl
same_slice (suc f) zero (x ∷ xs) (y ∷ ys) e h = refl
same_slice zero (suc t) (x ∷ xs) (y ∷ ys) e h =
    ap₂ (λ (z : ℕ) zs. z ∷ zs) (h 0 (omega arith) (omega arith)) (same_slice zero t xs ys (omega (arith, e)) (λ i k l. h (suc i) (omega arith) (omega arith)))
same_slice (suc f) (suc t) (x ∷ xs) (y ∷ ys) e h = same_slice f t xs ys (omega (arith, e)) (λ i k l. h (suc i) (omega arith) (omega arith))

module _ (s s' : List ℕ) (long : length s ≡ length s') where
  pub same_contents : (at size : ℕ) → SameFrom s s' at size → contents s at size ≡ contents s' at size
  same_contents at size h = same_slice at (at + size) s s' long h

  module _ (at size : ℕ) (h : SameFrom s s' at size) (i : ℕ) (from : at ≤ i) where
    pub same_le16 : i + 2 ≤ at + size → le16 s i ≡ le16 s' i
    same_le16 l = rw (h i from (omega arith), h (i + 1) (omega arith) (omega arith)) refl

    pub same_le32 : i + 4 ≤ at + size → le32 s i ≡ le32 s' i
    same_le32 l =
        rw (h i from (omega arith), h (i + 1) (omega arith) (omega arith), h (i + 2) (omega arith) (omega arith), h (i + 3) (omega arith) (omega arith)) refl

    pub same_le64 : i + 8 ≤ at + size → le64 s i ≡ le64 s' i
    same_le64 l =
        rw (same_le32 (omega arith), h (i + 4) (omega arith) (omega arith), h (i + 5) (omega arith) (omega arith), h (i + 6) (omega arith) (omega arith), h (i + 7) (omega arith) (omega arith))
        refl

  -- digits
  module _ (at size : ℕ) (h : SameFrom s s' at size) where
    same_digits : (k i : ℕ) (r : Answer Fields) → at ≤ i → i + 2 * k ≤ at + size → digits s k i r ≡ digits s' k i r
    unfolding digits
    same_digits zero i r from l = refl
    same_digits (suc k) i r from l = rw (long, same_le16 at size h i from (omega arith), same_digits k (i + 2) r (omega arith) (omega arith)) refl

    same_last : (k i : ℕ) (r : Answer Fields) → at ≤ i → i + 2 * k ≤ at + size → last_digit s k i r ≡ last_digit s' k i r
    same_last zero i r from l = refl
    same_last (suc k) i r from l = rw (same_le16 at size h (i + 2 * k) (omega arith) (omega arith)) refl

    same_magnitude : (k i : ℕ) → at ≤ i → i + 2 * k ≤ at + size → magnitude s k i ≡ magnitude s' k i
    unfolding magnitude
    same_magnitude zero i from l = refl
    same_magnitude (suc k) i from l = rw (same_le16 at size h i from (omega arith), same_magnitude k (i + 2) (omega arith) (omega arith)) refl

    same_fields : (form : Form) → size ≡ size_of s form at → fields s form at ≡ fields s' form at
    unfolding fields pylong
    same_fields letter.single e = refl
    same_fields (letter.fixed n) e = rw long refl
    same_fields letter.double e = rw long refl
    same_fields letter.long e =
        let w = same_le32 at size h at (omega arith) (omega arith) in
        let k = digit_count (le32 s at) in
        rw (long, ← w)
        (ap (λ r. cond (leb (at + 4) (length s')) r (stops 2 at))
        (ap (digits s k (at + 4)) (same_last k (at + 4) _ (omega arith) (omega arith)) ∙ same_digits k (at + 4) _ (omega arith) (omega arith)))
    same_fields letter.sequence e = rw (long, same_le32 at size h at (omega arith) (omega arith)) refl
    same_fields letter.few e = rw (long, h at (omega arith) (omega arith)) refl
    same_fields letter.slice e = refl
    same_fields letter.dict e = refl

-- The rules of a record.
reads-linked : (first end input : ℕ) (r : Answer Fields) (n : Node) → reads_as r n ≡ reads_as r (linked first end input n)
reads-linked first end input (gives f) n = refl
reads-linked first end input (stops number place) n = refl

reads_on : (s s' : List ℕ) → length s ≡ length s' → (first end input : ℕ) (form : Form) (n : Node) → SameFrom s s' n.place n.size
    → reads_as (fields s form n.place) n ≡ true → reads_as (fields s' form n.place) (linked first end input n) ≡ true
reads_on s s' long first end input form n h e =
    ap (λ r. reads_as r (linked first end input n)) (sym (same_fields s s' long n.place n.size h form (reads-size s form n e)))
    ∙ sym (reads-linked first end input (fields s form n.place) n) ∙ e

module _ (s s' : List ℕ) (long : length s ≡ length s') (first end input : ℕ) (n : Node) where
  pub numbers-sum : SameFrom s s' n.place code_numbers → sum_at s n.place ≡ sum_at s' n.place
  numbers-sum h =
      let word : (i : ℕ) → i ≤ 16 → le32 s (n.place + i) ≡ le32 s' (n.place + i) = λ i l. same_le32 s s' long n.place code_numbers h (n.place + i) (omega arith) (omega arith) in
      rw (same_le32 s s' long n.place code_numbers h n.place (omega arith) (omega arith), word 8 (omega arith), word 16 (omega arith)) refl

  same_ruled : (c : Class) → SameBytes s s' n c → ruled s n c ≡ ruled s' (linked first end input n) c
  same_ruled refers h = refl
  same_ruled (refuses number) h = refl
  same_ruled (keeps form) h =
      each_way (reads_as (fields s form n.place) n) (reads_as (fields s' form n.place) (linked first end input n)) (reads_on s s' long first end input form n h)
      (reads_on s' s (sym long) n.first n.end n.input form (linked first end input n) (λ i a b. sym (h i a b)))
  same_ruled (contains letter.bytes) h = refl
  same_ruled (contains letter.text) h = rw (same_contents s s' long n.place n.size h) refl
  same_ruled (contains letter.short) h = rw (same_contents s s' long n.place n.size h) refl
  same_ruled codes h = rw (long, numbers-sum h.0) refl

  pub same_sound : SameBytes s s' n (class_of n.letter) → sound s n ≡ sound s' (linked first end input n)
  unfolding sound
  same_sound h = rw (long, same_ruled (class_of n.letter) h) refl

  -- The shape of a record that keeps them.
  pub same_classed : (kids : List ℕ) (c : Class) → class_of n.letter ≡ c → ruled s n c ≡ true → SameBytes s s' n c → classed s n kids c ≡ classed s' (linked first end input n) kids c
  same_classed kids refers q e h = refl
  same_classed kids (refuses number) q e h = refl
  same_classed kids (keeps letter.single) q e h = refl
  same_classed kids (keeps (letter.fixed size)) q e h = go (eqb size 4) refl
    where
      full : n.size ≡ size
      full = reads-size s (letter.fixed size) n e

      go : (b : Bool) → eqb size 4 ≡ b → formed s n kids (letter.fixed size) ≡ formed s' (linked first end input n) kids (letter.fixed size)
      go true p = let l = eqb-true size 4 p in rw (p, same_le32 s s' long n.place n.size h n.place (omega arith) (omega (arith, full, l))) refl
      go false p = let l = wide n.letter size q p in rw (p, same_le64 s s' long n.place n.size h n.place (omega arith) (omega (arith, full, l))) refl
  same_classed kids (keeps letter.double) q e h =
      let full = reads-size s letter.double n e in
      let word : (i : ℕ) → n.place ≤ i → i + 8 ≤ n.place + n.size → le64 s i ≡ le64 s' i = λ i. same_le64 s s' long n.place n.size h i in
      rw (word n.place (omega arith) (omega (arith, full)), word (n.place + 8) (omega arith) (omega (arith, full))) refl
  same_classed kids (keeps letter.long) q e h =
      let full = reads-size s letter.long n e in
      let w = same_le32 s s' long n.place n.size h n.place (omega arith) (omega (arith, full)) in
      rw (same_magnitude s s' long n.place n.size h (digit_count (le32 s n.place)) (n.place + 4) (omega arith) (omega (arith, full)), w) refl
  same_classed kids (keeps letter.sequence) q e h = refl
  same_classed kids (keeps letter.few) q e h = refl
  same_classed kids (keeps letter.slice) q e h = refl
  same_classed kids (keeps letter.dict) q e h = refl
  same_classed kids (contains letter.bytes) q e h = rw (same_contents s s' long n.place n.size h) refl
  same_classed kids (contains letter.text) q e h = rw (same_contents s s' long n.place n.size h) refl
  same_classed kids (contains letter.short) q e h = rw (same_contents s s' long n.place n.size h) refl
  same_classed kids codes q e h =
      let word : (i : ℕ) → i ≤ 16 → le32 s (n.place + i) ≡ le32 s' (n.place + i) = λ i l. same_le32 s s' long n.place code_numbers h.0 (n.place + i) (omega arith) (omega arith) in
      rw (same_le32 s s' long n.place code_numbers h.0 n.place (omega arith) (omega arith), word 4 (omega arith), word 8 (omega arith), word 12 (omega arith), word 16 (omega arith), same_le32 s s' long (n.place + n.size) 4 h.1 (n.place + n.size) (omega arith) (omega arith))
      refl
