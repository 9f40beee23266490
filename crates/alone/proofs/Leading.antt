-- What a header says: where the fields stand behind it, and which slot a reference names. Assumes nothing.
use mathlib.Core.Path.{◌≡◌, refl, sym, ◌∙◌}
use Prim.Native.Nat.{ℕ, zero, suc, ◌+◌}
use native.Mathlib.Omega.{arith}
use mathlib.Core.List.{List}
use lib.ListN.{length, get_or}
use lib.Dec.{ltb}
use Rattle.grammar.specs.Reading.{refused, reads, Answer, gives, stops}
use Rattle.grammar.specs.Letters as letter
use Rattle.grammar.specs.Letters.{Form, Sort, Class, refers, keeps, contains, codes, refuses, flag_of, letter_of, class_of}
use Rattle.grammar.specs.Fields.{Fields, le32, digit_count, fields, contained, code_fields, pylong}
use Rattle.grammar.specs.Steps.{Front, known, opens, stored, reference, opened, header, front}
use Rattle.shifts.proofs.Onward.{Ends, EndsA, ends-cond, field-ends, size32-ends, string-ends, digits-ends, last_digit-ends, numbers-ends, reserving-ends}
use Rattle.grammar.specs.State.{Node}
use Rattle.grammar.specs.Fields.{code_numbers}
use Rattle.nodespan.specs.Header.{lead}

-- where a node's own fields end: behind its size, of a code behind its five numbers
abbrev pub fields_size : Class → ℕ → ℕ
fields_size refers size = size
fields_size (keeps form) size = size
fields_size (contains sort) size = size
fields_size codes size = code_numbers
fields_size (refuses number) size = size

unfoldable pub fields_end : Node → ℕ
fields_end n = n.place + fields_size (class_of n.letter) n.size

-- What a header said: a reference names the slot at its index; the letter and the flag are the header byte's, and the fields' place is so far
-- behind it.
pub record Opening (s : List ℕ) (at l g : ℕ) (f : Fields) : Type 0 where
  pub place : f.place ≡ at + lead (class_of l)
  pub letter : l ≡ letter_of (get_or s at 0)
  pub flag : g ≡ flag_of (get_or s at 0)

abbrev pub Leads : List ℕ → List ℕ → ℕ → Front → Type 0
Leads s slots at (known v a) = get_or slots (le32 s (at + 1)) 0 ≡ suc v
Leads s slots at (opens l g f) = Opening s at l g f

module _ (s : List ℕ) where
  abbrev At : ℕ → Fields → Type 0
  At p f = f.place ≡ p

  fields-lead : (form : Form) (at : ℕ) → EndsA (At at) (fields s form at)
  unfolding fields pylong
  fields-lead letter.single at = refl
  fields-lead (letter.fixed n) at = field-ends s (At at) at n _ refl
  fields-lead letter.double at = field-ends s (At at) at 8 _ (field-ends s (At at) (at + 8) 8 _ refl)
  fields-lead letter.long at = field-ends s (At at) at 4 _ (digits-ends s (At at) (digit_count (le32 s at)) (at + 4) _ (last_digit-ends s (At at) (digit_count (le32 s at)) (at + 4) _ refl))
  fields-lead letter.sequence at = size32-ends s (At at) at _ refl
  fields-lead letter.few at = field-ends s (At at) at 1 _ refl
  fields-lead letter.slice at = refl
  fields-lead letter.dict at = refl

  contained-lead : (sort : Sort) (at : ℕ) → EndsA (At (at + lead (contains sort))) (contained s sort (at + 1))
  unfolding contained
  contained-lead letter.bytes at = size32-ends s (At (at + 5)) (at + 1) _ (field-ends s (At (at + 5)) (at + 1 + 4) (le32 s (at + 1)) _ (omega arith))
  contained-lead letter.text at = size32-ends s (At (at + 5)) (at + 1) _ (string-ends s (At (at + 5)) (at + 1 + 4) (le32 s (at + 1)) _ (omega arith))
  contained-lead letter.short at = field-ends s (At (at + 2)) (at + 1) 1 _ (string-ends s (At (at + 2)) (at + 1 + 1) (get_or s (at + 1) 0) _ (omega arith))

  code_fields-lead : (at : ℕ) → EndsA (At at) (code_fields s at)
  unfolding code_fields
  code_fields-lead at = numbers-ends s (At at) 5 at _ refl

  opened-lead : (slots : List ℕ) (at l g p : ℕ) (r : Answer Fields) → l ≡ letter_of (get_or s at 0) → g ≡ flag_of (get_or s at 0) → at + lead (class_of l) ≡ p → EndsA (At p) r
      → Ends (Leads s slots at) (opened l g r)
  opened-lead slots at l g p (gives f) a b e h = record { place = h ∙ sym e; letter = a; flag = b }
  opened-lead slots at l g p (stops n q) a b e h = tt

  stored-lead : (slots : List ℕ) (at p i : ℕ) → get_or slots (le32 s (at + 1)) 0 ≡ i → EndsA (Leads s slots at) (stored p i)
  stored-lead slots at p zero e = tt
  stored-lead slots at p (suc v) e = e

  reads-lead : (slots : List ℕ) (at : ℕ) (r : Answer Front) → EndsA (Leads s slots at) r → Ends (Leads s slots at) (reads r)
  reads-lead slots at (gives a) e = e
  reads-lead slots at (stops n p) e = e

  header-lead : (depth at nodes used : ℕ) (slots : List ℕ) (l g : ℕ) → l ≡ letter_of (get_or s at 0) → g ≡ flag_of (get_or s at 0) → (c : Class) → class_of l ≡ c
      → Ends (Leads s slots at) (header s depth at nodes used slots l g c)
  unfolding header reference
  header-lead depth at nodes used slots l g a b refers e =
      reads-lead slots at (reference s slots (at + 1)) (field-ends s (Leads s slots at) (at + 1) 4 _ (stored-lead slots at (at + 1) (get_or slots (le32 s (at + 1)) 0) refl))
  header-lead depth at nodes used slots l g a b (refuses n) e = reserving-ends s (Leads s slots at) g used at (refused n at) tt
  header-lead depth at nodes used slots l g a b (keeps form) e =
      reserving-ends s (Leads s slots at) g used at _ (opened-lead slots at l g (at + 1) (fields s form (at + 1)) a b (rw e refl) (fields-lead form (at + 1)))
  header-lead depth at nodes used slots l g a b (contains sort) e =
      reserving-ends s (Leads s slots at) g used at _ (opened-lead slots at l g (at + lead (contains sort)) (contained s sort (at + 1)) a b (rw e refl) (contained-lead sort at))
  header-lead depth at nodes used slots l g a b codes e =
      reserving-ends s (Leads s slots at) g used at _ (opened-lead slots at l g (at + 1) (code_fields s (at + 1)) a b (rw e refl) (code_fields-lead (at + 1)))

  pub front_leads : (depth at nodes used : ℕ) (slots : List ℕ) → Ends (Leads s slots at) (front s depth at nodes used slots)
  unfolding front
  front_leads depth at nodes used slots =
      ends-cond (Leads s slots at) (ltb at (length s)) _ _ (header-lead depth at nodes used slots _ _ refl refl (class_of (letter_of (get_or s at 0))) refl) tt
