-- Only a code has parts, and its numbers stand behind its header: what the fields of each class can say of the children to come.
-- Assumes nothing.
use mathlib.Core.Path.{◌≡◌, refl, sym, ap, subst, ◌∙◌}
use Prim.Native.Nat.{ℕ, zero, suc, ◌+◌, ◌*◌, ◌<◌}
use native.Mathlib.Omega.{arith}
use mathlib.Core.Bool.{Bool, true, false, cond}
use mathlib.Core.List.{List}
use lib.ListN.{length, get_or}
use lib.Dec.{leb, ltb, eqb}
use Rattle.refusals.specs.Numbers.{data_too_short, bad_size, invalid_bytecode, invalid_utf8}
use Rattle.wtf8.specs.Forms.{well_formed}
use Rattle.grammar.specs.Reading.{Answer, gives, stops}
use Rattle.grammar.specs.Letters as letter
use Rattle.grammar.specs.Letters.{Form, Sort, keeps, contains, codes}
use Rattle.grammar.specs.Fields.{Fields, Children, items, pairs, parts, span, field, le16, le32, not_negative, contents, digits, digit_count, last_digit, pylong, numbers, code_numbers, fields, contained, code_fields}
use Rattle.fields.specs.Classes.{classes, class_at, kept_classes}
use Rattle.fields.specs.Behind.{fields_of}

-- fields with no parts to come
abbrev Bare : Answer Fields → Type 0
Bare (gives f) = f.children ≡ parts → ⊥
Bare (stops n p) = Unit

is_parts : Children → ℕ
is_parts (items count) = 0
is_parts pairs = 0
is_parts parts = 1

items_bare : (count : ℕ) → items count ≡ parts → ⊥
unfolding is_parts
items_bare count e = let z : ◌≡◌ {A = ℕ} 0 1 = ap is_parts e in absurd (omega arith)

pairs-bare : pairs ≡ parts → ⊥
unfolding is_parts
pairs-bare e = let z : ◌≡◌ {A = ℕ} 0 1 = ap is_parts e in absurd (omega arith)

bare_cond : (b : Bool) (x y : Answer Fields) → Bare x → Bare y → Bare (cond b x y)
bare_cond true x y p q = p
bare_cond false x y p q = q

module _ (s : List ℕ) where
  bare_field : (at size : ℕ) (rest : Answer Fields) → Bare rest → Bare (field s at size rest)
  bare_field at size rest h = bare_cond (leb (at + size) (length s)) rest (stops data_too_short at) h tt

  bare_digits : (count at : ℕ) (rest : Answer Fields) → Bare rest → Bare (digits s count at rest)
  unfolding digits
  bare_digits zero at rest h = h
  bare_digits (suc more) at rest h =
      bare_field at 2 _ (bare_cond (ltb (le16 s at) 32768) _ (stops invalid_bytecode at) (bare_digits more (at + 2) rest h) tt)

  bare_last : (count at : ℕ) (rest : Answer Fields) → Bare rest → Bare (last_digit s count at rest)
  bare_last zero at rest h = h
  bare_last (suc more) at rest h = bare_cond (eqb (le16 s (at + 2 * more)) 0) (stops invalid_bytecode (at + 2 * more)) rest tt h

  bare_size : (at : ℕ) (rest : Answer Fields) → Bare rest → Bare (field s at 4 (cond (not_negative (le32 s at)) rest (stops bad_size at)))
  bare_size at rest h = bare_field at 4 _ (bare_cond (not_negative (le32 s at)) rest (stops bad_size at) h tt)

  bare_string : (at size : ℕ) (rest : Answer Fields) → Bare rest → Bare (field s at size (cond (well_formed (contents s at size)) rest (stops invalid_utf8 at)))
  bare_string at size rest h = bare_field at size _ (bare_cond (well_formed (contents s at size)) rest (stops invalid_utf8 at) h tt)

  bare_form : (form : Form) (at : ℕ) → Bare (fields s form at)
  unfolding fields pylong
  bare_form letter.single at = items_bare 0
  bare_form (letter.fixed size) at = bare_field at size _ (items_bare 0)
  bare_form letter.double at = bare_field at 8 _ (bare_field (at + 8) 8 _ (items_bare 0))
  bare_form letter.long at =
      bare_field at 4 _ (bare_digits (digit_count (le32 s at)) (at + 4) _ (bare_last (digit_count (le32 s at)) (at + 4) _ (items_bare 0)))
  bare_form letter.sequence at = bare_size at _ (items_bare (le32 s at))
  bare_form letter.few at = bare_field at 1 _ (items_bare (get_or s at 0))
  bare_form letter.slice at = items_bare 3
  bare_form letter.dict at = pairs-bare

  bare_sort : (sort : Sort) (at : ℕ) → Bare (contained s sort at)
  unfolding contained
  bare_sort letter.bytes at = bare_size at _ (bare_field (at + 4) (le32 s at) _ (items_bare 0))
  bare_sort letter.text at = bare_size at _ (bare_string (at + 4) (le32 s at) _ (items_bare 0))
  bare_sort letter.short at = bare_field at 1 _ (bare_string (at + 1) (get_or s at 0) _ (items_bare 0))

  -- a code's place is the byte after its header, and its numbers are its size until the first line is read
  abbrev Coded : ℕ → Answer Fields → Type 0
  Coded at (gives f) = (f.place ≡ at) × (f.size ≡ code_numbers)
  Coded at (stops n p) = Unit

  coded_cond : (b : Bool) (at : ℕ) (x y : Answer Fields) → Coded at x → Coded at y → Coded at (cond b x y)
  coded_cond true at x y p q = p
  coded_cond false at x y p q = q

  coded_numbers : (more from at : ℕ) (rest : Answer Fields) → Coded at rest → Coded at (numbers s more from rest)
  unfolding numbers
  coded_numbers zero from at rest h = h
  coded_numbers (suc more) from at rest h = coded_cond (leb (from + 4) (length s)) at _ (stops data_too_short from) (coded_numbers more (from + 4) at rest h) tt

-- a class that is kept, by its number
pub data Kept (class : ℕ) : Type 0 where
  a_form : (form : Form) → class_at class ≡ keeps form → (class ≡ 12 → ⊥) → Kept class
  a_sort : (sort : Sort) → class_at class ≡ contains sort → (class ≡ 12 → ⊥) → Kept class
  a_code : class_at class ≡ codes → class ≡ 12 → Kept class

pub kept_class : (class : ℕ) → class < kept_classes → Kept class
unfolding class_at classes
kept_class zero h = a_form letter.single refl (λ e. omega arith)
kept_class (suc zero) h = a_form (letter.fixed 4) refl (λ e. omega arith)
kept_class (suc (suc zero)) h = a_form (letter.fixed 8) refl (λ e. omega arith)
kept_class (suc (suc (suc zero))) h = a_form letter.double refl (λ e. omega arith)
kept_class (suc (suc (suc (suc zero)))) h = a_form letter.long refl (λ e. omega arith)
kept_class (suc (suc (suc (suc (suc zero))))) h = a_form letter.sequence refl (λ e. omega arith)
kept_class (suc (suc (suc (suc (suc (suc zero)))))) h = a_form letter.few refl (λ e. omega arith)
kept_class (suc (suc (suc (suc (suc (suc (suc zero))))))) h = a_form letter.slice refl (λ e. omega arith)
kept_class (suc (suc (suc (suc (suc (suc (suc (suc zero)))))))) h = a_form letter.dict refl (λ e. omega arith)
kept_class (suc (suc (suc (suc (suc (suc (suc (suc (suc zero))))))))) h = a_sort letter.bytes refl (λ e. omega arith)
kept_class (suc (suc (suc (suc (suc (suc (suc (suc (suc (suc zero)))))))))) h = a_sort letter.text refl (λ e. omega arith)
kept_class (suc (suc (suc (suc (suc (suc (suc (suc (suc (suc (suc zero))))))))))) h = a_sort letter.short refl (λ e. omega arith)
kept_class (suc (suc (suc (suc (suc (suc (suc (suc (suc (suc (suc (suc zero)))))))))))) h = a_code refl refl
kept_class (suc (suc (suc (suc (suc (suc (suc (suc (suc (suc (suc (suc (suc n))))))))))))) h = absurd (omega arith)

-- what the fields of a kept class say, where they say that parts are to come
pub parts-code : (s : List ℕ) (class at : ℕ) → class < kept_classes → (place size : ℕ) (children : Children) → span place size children ≡ fields_of s (class_at class) at
    → children ≡ parts → (class ≡ 12) × (place ≡ at) × (size ≡ code_numbers)
unfolding fields_of code_fields
parts-code s class at h place size children e is = go (kept_class class h)
  where
    go : Kept class → (class ≡ 12) × (place ≡ at) × (size ≡ code_numbers)
    go (a_form form k other) = absurd (subst Bare (sym (e ∙ ap (λ c. fields_of s c at) k)) (bare_form s form at) is)
    go (a_sort sort k other) = absurd (subst Bare (sym (e ∙ ap (λ c. fields_of s c at) k)) (bare_sort s sort at) is)
    go (a_code k it) =
        let c : Coded s at (span place size children) = subst (Coded s at) (sym (e ∙ ap (λ c. fields_of s c at) k)) (coded_numbers s 5 at at (span at code_numbers parts) (refl, refl)) in
        (it, c.0, c.1)
