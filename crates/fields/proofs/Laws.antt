-- What the functions' proofs share, said of plain lists and numbers: a letter that is none of the letters, a test that was passed or not,
-- and the digits of a long number, one at a time. Assumes nothing.
use mathlib.Core.Path.{◌≡◌, refl, sym, ap, ◌∙◌}
use Prim.Native.Nat.{ℕ, zero, suc, ◌+◌, ◌-◌, ◌*◌, ◌/◌, ◌≤◌, ◌<◌}
use mathlib.Core.Bool.{Bool, true, false, cond}
use mathlib.Core.List.{List, [], ◌∷◌}
use mathlib.Core.Logic.{⊎_elim}
use native.Mathlib.Nat.{eq-or-lt_of_le}
use native.Mathlib.Omega.{arith}
use lib.Dec.{eqb, ltb, leb}
use lib.ListN.{length, get_or, take, drop}
use lib.Seq.{take-nil, drop-nil}
use borrow.Author.Tests.{ne_eqb, leb-true, leb-false, le-leb, lt-leb, lt-ltb, le-ltb}
use Rattle.std.specs.Prelude.{Result, Ok, Err}
use Rattle.refusals.specs.Numbers.{unknown_type, data_too_short, invalid_bytecode, invalid_utf8}
use Rattle.refusals.specs.Faults.{number_of, refused}
use Rattle.refusals.specs.declared.Fault.{Fault}
use Rattle.refusals.specs.declared.Refusal.TheVariants.{DataTooShort, InvalidBytecode, InvalidUtf8}
use Rattle.wtf8.specs.Forms.{well_formed}
use Rattle.grammar.specs.Reading.{Answer, stops}
use Rattle.grammar.specs.Letters as letter
use Rattle.grammar.specs.Letters.{Class, keeps, contains, refuses, found}
use Rattle.grammar.specs.Fields.{Fields, field, span, items, size32, string, contents, le16, le32, digits, last_digit, numbers, digit_count, pylong, fields, contained}
use Rattle.fields.specs.Behind.{Judges, Reads, fields_of}
use Rattle.fields.specs.declared.Behind.{Behind}
use Rattle.fields.specs.declared.Kids.TheVariants as kids

-- The letter is none of these: as a `match` with an arm for each tells it, one fact after another.
abbrev pub Absent : Type 0 → ℕ → List (ℕ × Class) → Type 0
Absent Before letter [] = Before
Absent Before letter (l ∷ ls) = Absent (Before × (letter ≡ l.0 → ⊥)) letter ls

before : {Before : Type 0} (letter : ℕ) (ls : List (ℕ × Class)) → Absent Before letter ls → Before
before letter [] told = told
before letter (l ∷ ls) told = (before letter ls told).0

pub absent : (Before : Type 0) (letter : ℕ) (ls : List (ℕ × Class)) → Absent Before letter ls → found letter ls ≡ refuses unknown_type
unfolding found
absent Before letter [] told = refl
absent Before letter (l ∷ ls) told =
    rw (ne_eqb letter l.0 (before letter ls told).1) (absent (Before × (letter ≡ l.0 → ⊥)) letter ls told)

-- The number is none of the first so many: told in the same way.
abbrev pub Avoids : ℕ → ℕ → Type 0
Avoids x zero = Unit
Avoids x (suc k) = Avoids x k × (x ≡ k → ⊥)

pub avoids : (x k : ℕ) → Avoids x k → k ≤ x
avoids x zero told = omega arith
avoids x (suc k) told =
    let so_far : k ≤ x = avoids x k told.0 in
    ⊎_elim (λ same. absurd (told.1 (sym same))) (λ less. omega arith) (eq-or-lt_of_le so_far)

-- A test that was passed leaves the rest; one that was not, its refusal.
pub record Passed (s : List ℕ) (end : ℕ) (test : Answer Fields → Answer Fields) : Type 0 where
  pub within : end ≤ length s
  pub exact : (rest : Answer Fields) → rest ≡ test rest

pub passed : {s : List ℕ} {end : ℕ} {test : Answer Fields → Answer Fields} {r : Result (Unit {0}) Fault} → Judges s end test r → {u : Unit {0}} → r ≡ Ok u → Passed s end test
passed {s} {end} {test} {r} j {u} e =
    record { within = rw e at j.within; exact = λ rest. rw e at (j.exact rest) }

pub failed : {s : List ℕ} {end : ℕ} {test : Answer Fields → Answer Fields} {r : Result (Unit {0}) Fault} {f : Fault} → Judges s end test r
    → r ≡ Err f → (rest : Answer Fields) → stops (number_of f.refusal) f.place ≡ test rest
failed j e rest = rw e at (j.exact rest)

-- One law for every field of a fixed size.
module _ (s : List ℕ) (at size : ℕ) (rest : Answer Fields) where
  pub field_cut : length s < at + size → stops data_too_short at ≡ field s at size rest
  field_cut h = rw (lt-leb (at + size) (length s) h)

  pub field_in : at + size ≤ length s → rest ≡ field s at size rest
  field_in h = rw (le-leb (at + size) (length s) h)

-- So many numbers of 32 bits: how many of them are whole says where the first cut one stands.
either : {X : Type 0} (a b : ℕ) → (a ≤ b → X) → (b < a → X) → X
either {X} a b low high = go (leb a b) refl
  where
    go : (t : Bool) → leb a b ≡ t → X
    go true e = low (leb-true a b e)
    go false e = high (leb-false a b e)

abbrev CutAt : List ℕ → ℕ → Answer Fields → Type 0
CutAt s at answer = stops data_too_short (at + 4 * ((length s - at) / 4)) ≡ answer

cut-here : (s : List ℕ) (at : ℕ) (rest : Answer Fields) → at ≤ length s → length s < at + 4 → CutAt s at (field s at 4 rest)
cut-here s at rest le cut =
    let first : at + 4 * ((length s - at) / 4) ≡ at = omega arith in
    rw first (field_cut s at 4 rest cut)

cut_later : (s : List ℕ) (at : ℕ) (rest : Answer Fields) → at + 4 ≤ length s → CutAt s (at + 4) rest → CutAt s at (field s at 4 rest)
cut_later s at rest here later =
    let next : at + 4 * ((length s - at) / 4) ≡ at + 4 + 4 * ((length s - (at + 4)) / 4) = omega arith in
    rw next (later ∙ field_in s at 4 rest here)

pub numbers-cut : (s : List ℕ) (count at : ℕ) (rest : Answer Fields) → at ≤ length s → (length s - at) / 4 < count
    → CutAt s at (numbers s count at rest)
unfolding numbers
numbers-cut s zero at rest le h = absurd (omega arith)
numbers-cut s (suc more) at rest le h =
    either (at + 4) (length s)
    (λ here. cut_later s at (numbers s more (at + 4) rest) here (numbers-cut s more (at + 4) rest here (omega arith)))
    (λ cut. cut-here s at (numbers s more (at + 4) rest) le cut)

pub numbers_in : (s : List ℕ) (count at : ℕ) (rest : Answer Fields) → at + 4 * count ≤ length s → rest ≡ numbers s count at rest
unfolding numbers
numbers_in s zero at rest h = refl
numbers_in s (suc more) at rest h =
    numbers_in s more (at + 4) rest (omega arith) ∙ field_in s at 4 (numbers s more (at + 4) rest) (omega arith)

-- A part of the input, as the code lends it, is the contents that the definition names.
take-drop : (at size : ℕ) (s : List ℕ) → take size (drop at s) ≡ drop at (take (at + size) s)
take-drop zero size s = let e : 0 + size ≡ size = omega arith in rw e
take-drop (suc at) size [] = simp (take-nil, drop-nil)
take-drop (suc at) size (x ∷ xs) = let e : suc at + size ≡ suc (at + size) = omega arith in rw e (take-drop at size xs)

pub part : (s : List ℕ) (at size : ℕ) → take (at + size - at) (drop at s) ≡ contents s at size
part s at size = let e : at + size - at ≡ size = omega arith in rw e (take-drop at size s)

module _ (s : List ℕ) (at size : ℕ) {t : Bool} (here : at + size ≤ length s) (is : t ≡ well_formed (take (at + size - at) (drop at s))) where
  string_is : (rest : Answer Fields) → cond t rest (stops invalid_utf8 at) ≡ string s at size rest
  string_is rest =
      let formed : t ≡ well_formed (contents s at size) = is ∙ ap well_formed (part s at size) in
      rw formed (field_in s at size _ here)

  pub string-bad : t ≡ false → Judges s (at + size) (string s at size) (refused InvalidUtf8 at)
  string-bad no_form = record { within = tt; exact = λ rest. rw no_form at (string_is rest) }

  pub string_in : t ≡ true → Judges s (at + size) (string s at size) (Ok tt)
  string_in form = record { within = here; exact = λ rest. rw form at (string_is rest) }

-- Contents behind a length.
module _ {s : List ℕ} {at size : ℕ} (fine : Passed s (at + 4) (size32 s at)) (is : size ≡ le32 s at) where
  pub bytes_cut : length s < at + 4 + size → Reads s (contains letter.bytes) at (refused DataTooShort (at + 4))
  unfolding fields_of contained
  bytes_cut h = record { ahead = tt; exact = field_cut s (at + 4) (le32 s at) _ (rw is at h) ∙ fine.exact _ }

  pub bytes_in_lem : at + 4 + size ≤ length s → Reads s (contains letter.bytes) at (Ok (record { place = (at + 4); size = size; kids = kids.Items 0 }))
  unfolding fields_of contained
  bytes_in_lem h =
      record {
        ahead = (omega arith, h);
        exact = rw is (field_in s (at + 4) (le32 s at) _ (rw is at h) ∙ fine.exact _);
      }

  pub text-bad : {f : Fault} → ((rest : Answer Fields) → stops (number_of f.refusal) f.place ≡ string s (at + 4) size rest)
      → Reads s (contains letter.text) at (Err f)
  unfolding fields_of contained
  text-bad bad = record { ahead = tt; exact = (rw is at (bad (span (at + 4) size (items 0)))) ∙ fine.exact _ }

  pub text_in : Passed s (at + 4 + size) (string s (at + 4) size) → Reads s (contains letter.text) at (Ok (record { place = (at + 4); size = size; kids = kids.Items 0 }))
  unfolding fields_of contained
  text_in good =
      record { ahead = (omega arith, good.within); exact = rw is ((rw is at (good.exact (span (at + 4) size (items 0)))) ∙ fine.exact _) }

module _ {s : List ℕ} {at size : ℕ} (here : at + 1 ≤ length s) (is : size ≡ get_or s at 0) where
  pub short-bad : {f : Fault} → ((rest : Answer Fields) → stops (number_of f.refusal) f.place ≡ string s (at + 1) size rest)
      → Reads s (contains letter.short) at (Err f)
  unfolding fields_of contained
  short-bad bad = record { ahead = tt; exact = (rw is at (bad (span (at + 1) size (items 0)))) ∙ field_in s at 1 _ here }

  pub short_in : Passed s (at + 1 + size) (string s (at + 1) size) → Reads s (contains letter.short) at (Ok (record { place = (at + 1); size = size; kids = kids.Items 0 }))
  unfolding fields_of contained
  short_in good =
      record { ahead = (omega arith, good.within); exact = rw is ((rw is at (good.exact (span (at + 1) size (items 0)))) ∙ field_in s at 1 _ here) }

-- The digits, one after another.
pub digit : (s : List ℕ) (left at : ℕ) (rest : Answer Fields) → 0 < left
    → digits s left at rest
    ≡ field s at 2 (cond (ltb (le16 s at) 32768) (digits s (left - 1) (at + 2) rest) (stops invalid_bytecode at))
unfolding digits
digit s zero at rest h = absurd (omega arith)
digit s (suc more) at rest h = let back : suc more - 1 ≡ more = omega arith in rw back

pub last : (s : List ℕ) (count at : ℕ) (rest : Answer Fields) → (count ≡ 0 → ⊥)
    → last_digit s count at rest
    ≡ cond (eqb (le16 s (at + 2 * (count - 1))) 0) (stops invalid_bytecode (at + 2 * (count - 1))) rest
last s zero at rest h = absurd (h refl)
last s (suc more) at rest h = let back : suc more - 1 ≡ more = omega arith in rw back

-- Those judged so far were fine: what is left comes to the same answer.
pub record Judging (s : List ℕ) (count at left place : ℕ) : Type 0 where
  pub fewer : left ≤ count
  pub stands : place + 2 * left ≡ at + 2 * count
  pub within : place ≤ length s
  pub comes : (rest : Answer Fields) → digits s left place rest ≡ digits s count at rest

module _ {s : List ℕ} {count at left place : ℕ} (so : Judging s count at left place) where
  pub all_judged : left ≤ 0 → Judges s (at + 2 * count) (digits s count at) (Ok tt)
  unfolding digits
  all_judged h =
      let none : left ≡ 0 = omega arith in
      record { within = omega (arith, so.stands, so.within); exact = λ rest. rw none at (so.comes rest) }

  module _ (more : 0 < left) where
    pub digit-cut : length s < place + 2 → Judges s (at + 2 * count) (digits s count at) (refused DataTooShort place)
    digit-cut h =
        record {
          within = tt;
          exact = λ rest. field_cut s place 2 _ h ∙ sym (digit s left place rest more) ∙ so.comes rest;
        }

    module _ (here : place + 2 ≤ length s) {d : ℕ} (is : d ≡ le16 s place) where
      judging : (rest : Answer Fields) → cond (ltb d 32768) (digits s (left - 1) (place + 2) rest) (stops invalid_bytecode place) ≡ digits s count at rest
      judging rest = rw is (field_in s place 2 _ here ∙ sym (digit s left place rest more) ∙ so.comes rest)

      pub digit-bad : 32768 ≤ d → Judges s (at + 2 * count) (digits s count at) (refused InvalidBytecode place)
      digit-bad h = record { within = tt; exact = λ rest. rw (le-ltb d 32768 h) at (judging rest) }

      pub digit-fine : d < 32768 → Judging s count at (left - 1) (place + 2)
      digit-fine h =
          record {
            fewer = omega (arith, so.fewer);
            stands = omega (arith, so.stands);
            within = here;
            comes = λ rest. rw (lt-ltb d 32768 h) at (judging rest);
          }

-- A long number, whose count of digits was read.
long_is : (s : List ℕ) (at count : ℕ) → at + 4 ≤ length s → count ≡ digit_count (le32 s at)
    → pylong s at count ≡ fields_of s (keeps letter.long) at
unfolding fields_of fields
long_is s at count here is = ap (pylong s at) is ∙ field_in s at 4 (pylong s at (digit_count (le32 s at))) here

module _ {s : List ℕ} {at count : ℕ} (here : at + 4 ≤ length s) (is : count ≡ digit_count (le32 s at)) where
  pub long-digits : {f : Fault} → ((rest : Answer Fields) → stops (number_of f.refusal) f.place ≡ digits s count (at + 4) rest)
      → Reads s (keeps letter.long) at (Err f)
  unfolding pylong
  long-digits bad = record { ahead = tt; exact = bad _ ∙ long_is s at count here is }

  module _ (fine : Passed s (at + 4 + 2 * count) (digits s count (at + 4))) where
    pub long_last : {f : Fault} → ((rest : Answer Fields) → stops (number_of f.refusal) f.place ≡ last_digit s count (at + 4) rest)
        → Reads s (keeps letter.long) at (Err f)
    unfolding pylong
    long_last bad = record { ahead = tt; exact = bad _ ∙ fine.exact _ ∙ long_is s at count here is }

    pub long_in : Passed s 0 (last_digit s count (at + 4)) → Reads s (keeps letter.long) at (Ok (record { place = at; size = (4 + 2 * count); kids = kids.Items 0 }))
    unfolding pylong
    long_in good =
        record { ahead = (omega arith, omega (arith, fine.within)); exact = good.exact _ ∙ fine.exact _ ∙ long_is s at count here is }

-- The class is the one that its number names.
pub of_class : {s : List ℕ} {at : ℕ} {class class' : Class} {r : Result Behind Fault} → class ≡ class' → Reads s class' at r → Reads s class at r
of_class is reads = rw is reads
