-- The fields of a node: what they give lies in the input, what they refuse is a refusal of the input's at a place of it, and the record of
-- a node with these fields, once its children are read, passes the record test. That test alone assumes that the input is bytes: a string with
-- a one-byte length is at most 255 bytes long.
use mathlib.Core.Path.{◌≡◌, refl, ap, ◌∙◌}
use Prim.Native.Nat.{ℕ, zero, suc, ◌+◌, ◌-◌, ◌*◌, ◌%◌, ◌≤◌, ◌<◌}
use native.Mathlib.Omega.{arith}
use mathlib.Core.Bool.{Bool, true, false, cond, ◌&&◌}
use mathlib.Core.List.{List, [], ◌∷◌}
use lib.ListN.{length, get_or}
use lib.Dec.{leb, ltb, eqb}
use borrow.Author.Tests.{leb-true, le-leb, lt-ltb, eq-eqb}
use Rattle.refusals.specs.Numbers.{eof_object, data_too_short, unknown_type, null_object, invalid_ref, bad_size, bad_type, invalid_bytecode, invalid_utf8, not_carried, number_range}
use Rattle.wtf8.specs.Forms.{well_formed}
use Rattle.grammar.specs.Input.{Bytes}
use Rattle.grammar.specs.Reading.{Answer, gives, stops}
use Rattle.grammar.specs.Letters as letter
use Rattle.grammar.specs.Letters.{Form, Sort, Class, refers, keeps, contains, codes, refuses, class_of, letters, found, among}
use Rattle.grammar.specs.Fields.{Fields, Children, items, pairs, parts, le16, le32, not_negative, contents, field, size32, string, digit_count, digits, last_digit, pylong, numbers, code_numbers, sum_at, fields, contained, code_fields}
use Rattle.grammar.specs.State.{Node}
use Rattle.grammar.specs.Steps.{Chain, code_parts, size_of}
use Rattle.grammar.specs.Record.{containing, counted, reads_as, ruled, sound}
use Rattle.grammar.proofs.Following.{FollowsA, follows_cond_a}
use Rattle.grammar.proofs.Standing.{closing}

-- the refusals that the input itself is the reason of
abbrev pub of_input : List ℕ
of_input =
    eof_object ∷ data_too_short ∷ unknown_type ∷ null_object ∷ invalid_ref ∷ bad_size ∷ bad_type ∷ invalid_bytecode ∷ invalid_utf8 ∷ not_carried
    ∷ number_range ∷ []

-- such a refusal, at a place of the input
abbrev pub Own : List ℕ → ℕ → ℕ → Type 0
Own s n p = (among n of_input ≡ true) × (p ≤ length s)

-- What the fields of each class say.
abbrev pub NotParts : Children → Type 0
NotParts (items k) = Unit
NotParts pairs = Unit
NotParts parts = ⊥

pub record SaidKept (s : List ℕ) (form : Form) (at : ℕ) (f : Fields) : Type 0 where
  pub place : f.place ≡ at
  pub within : f.place + f.size ≤ length s
  pub children : NotParts f.children
  pub told : fields s form at ≡ gives f

pub record SaidContents (s : List ℕ) (sort : Sort) (at : ℕ) (f : Fields) : Type 0 where
  pub ahead : at ≤ f.place
  pub within : f.place + f.size ≤ length s
  pub children : f.children ≡ items 0
  pub good : Bytes s → (n : Node) → n.place ≡ f.place → n.size ≡ f.size → containing s n sort ≡ true

pub record SaidCode (s : List ℕ) (at : ℕ) (f : Fields) : Type 0 where
  pub is : f ≡ record { place = at; size = code_numbers; children = parts }
  pub within : at + code_numbers ≤ length s

abbrev pub Said : List ℕ → Class → ℕ → Fields → Type 0
Said s refers at f = ⊥
Said s (refuses n) at f = ⊥
Said s (keeps form) at f = SaidKept s form at f
Said s (contains sort) at f = SaidContents s sort at f
Said s codes at f = SaidCode s at f

module _ (s : List ℕ) where
  abbrev Q : ℕ → ℕ → Type 0
  Q n p = Own s n p

  abbrev C : ℕ → Type 0
  C p = p ≤ length s

  pub field_in : {A : Type 0} (P : A → Type 0) (at n : ℕ) (r : Answer A) → at ≤ length s → (at + n ≤ length s → FollowsA Q P r) → FollowsA Q P (field s at n r)
  field_in P at n r l h =
      follows_cond_a Q C P (leb (at + n) (length s)) r (stops data_too_short at) (λ e. h (leb-true (at + n) (length s) e)) (λ e. (refl, l))

  size32_in : {A : Type 0} (P : A → Type 0) (at : ℕ) (r : Answer A) → at ≤ length s → (at + 4 ≤ length s → FollowsA Q P r) → FollowsA Q P (size32 s at r)
  size32_in P at r l h =
      field_in P at 4 _ l (λ q. follows_cond_a Q C P (not_negative (le32 s at)) r (stops bad_size at) (λ e. h q) (λ e. (refl, l)))

  string_in : {A : Type 0} (P : A → Type 0) (at size : ℕ) (r : Answer A) → at ≤ length s
      → (at + size ≤ length s → well_formed (contents s at size) ≡ true → FollowsA Q P r) → FollowsA Q P (string s at size r)
  string_in P at size r l h =
      field_in P at size _ l (λ q. follows_cond_a Q C P (well_formed (contents s at size)) r (stops invalid_utf8 at) (λ e. h q e) (λ e. (refl, l)))

  digits_in : {A : Type 0} (P : A → Type 0) (k at : ℕ) (r : Answer A) → at ≤ length s → (at + 2 * k ≤ length s → FollowsA Q P r) → FollowsA Q P (digits s k at r)
  unfolding digits
  digits_in P zero at r l h = h (omega arith)
  digits_in P (suc k) at r l h =
      field_in P at 2 _ l
      (λ q. follows_cond_a Q C P (ltb (le16 s at) 32768) _ (stops invalid_bytecode at) (λ e. digits_in P k (at + 2) r (omega arith) (λ w. h (omega arith))) (λ e. (refl, l)))

  last_digit_in : {A : Type 0} (P : A → Type 0) (k at : ℕ) (r : Answer A) → at + 2 * k ≤ length s → FollowsA Q P r → FollowsA Q P (last_digit s k at r)
  last_digit_in P zero at r l h = h
  last_digit_in P (suc k) at r l h =
      follows_cond_a Q C P (eqb (le16 s (at + 2 * k)) 0) (stops invalid_bytecode (at + 2 * k)) r (λ e. (refl, omega arith)) (λ e. h)

  numbers_in : {A : Type 0} (P : A → Type 0) (k at : ℕ) (r : Answer A) → at ≤ length s → (at + 4 * k ≤ length s → FollowsA Q P r) → FollowsA Q P (numbers s k at r)
  unfolding numbers
  numbers_in P zero at r l h = h (omega arith)
  numbers_in P (suc k) at r l h = field_in P at 4 _ l (λ q. numbers_in P k (at + 4) r (omega arith) (λ w. h (omega arith)))

  -- a form's fields: where they stand, that they lie in the input, and what children they can tell of
  pub record Spans (at : ℕ) (f : Fields) : Type 0 where
    pub place : f.place ≡ at
    pub within : f.place + f.size ≤ length s
    pub children : NotParts f.children

  spans_in : (form : Form) (at : ℕ) → at ≤ length s → FollowsA Q (Spans at) (fields s form at)
  unfolding fields pylong
  spans_in letter.single at l = record { place = refl; within = omega arith; children = tt }
  spans_in (letter.fixed n) at l = field_in (Spans at) at n _ l (λ q. record { place = refl; within = q; children = tt })
  spans_in letter.double at l =
      field_in (Spans at) at 8 _ l (λ q. field_in (Spans at) (at + 8) 8 _ (omega arith) (λ w. record { place = refl; within = omega arith; children = tt }))
  spans_in letter.long at l =
      field_in (Spans at) at 4 _ l
      (λ q. digits_in (Spans at) (digit_count (le32 s at)) (at + 4) _ q
      (λ w. last_digit_in (Spans at) (digit_count (le32 s at)) (at + 4) _ w (record { place = refl; within = omega arith; children = tt })))
  spans_in letter.sequence at l = size32_in (Spans at) at _ l (λ q. record { place = refl; within = q; children = tt })
  spans_in letter.few at l = field_in (Spans at) at 1 _ l (λ q. record { place = refl; within = q; children = tt })
  spans_in letter.slice at l = record { place = refl; within = omega arith; children = tt }
  spans_in letter.dict at l = record { place = refl; within = omega arith; children = tt }

  -- and the answer itself, beside what holds of it
  told_too : {A : Type 0} (P P' : A → Type 0) (r : Answer A) → FollowsA Q P r → ((a : A) → P a → r ≡ gives a → P' a) → FollowsA Q P' r
  told_too P P' (gives a) e g = g a e refl
  told_too P P' (stops n p) e g = e

  pub fields_in : (form : Form) (at : ℕ) → at ≤ length s → FollowsA Q (SaidKept s form at) (fields s form at)
  fields_in form at l =
      told_too (Spans at) (SaidKept s form at) (fields s form at) (spans_in form at l)
      (λ f h e. record { place = h.place; within = h.within; children = h.children; told = e })

  pub code_fields_in : (at : ℕ) → at ≤ length s → FollowsA Q (SaidCode s at) (code_fields s at)
  unfolding code_fields
  code_fields_in at l = numbers_in (SaidCode s at) 5 at _ l (λ q. record { is = refl; within = q })

  pub contained_in : (sort : Sort) (at : ℕ) → at ≤ length s → FollowsA Q (SaidContents s sort at) (contained s sort at)
  unfolding contained
  contained_in letter.bytes at l =
      size32_in (SaidContents s letter.bytes at) at _ l
      (λ q. field_in (SaidContents s letter.bytes at) (at + 4) (le32 s at) _ q (λ w. record { ahead = omega arith; within = w; children = refl; good = λ bytes n p z. refl }))
  contained_in letter.text at l =
      size32_in (SaidContents s letter.text at) at _ l
      (λ q. string_in (SaidContents s letter.text at) (at + 4) (le32 s at) _ q
      (λ w e. record { ahead = omega arith; within = w; children = refl; good = λ bytes n p z. rw (p, z) e }))
  contained_in letter.short at l =
      field_in (SaidContents s letter.short at) at 1 _ l
      (λ q. string_in (SaidContents s letter.short at) (at + 1) (get_or s at 0) _ q
      (λ w e. record { ahead = omega arith; within = w; children = refl; good = λ bytes n p z. rw (p, z, le-leb (get_or s at 0) 255 (omega (arith, bytes at))) e }))

-- The record of a node whose children are read.
pub record FilledCode (s : List ℕ) (at : ℕ) (c : Chain) : Type 0 where
  pub count : length c.kids ≡ code_parts
  pub line : at + code_numbers ≤ c.line
  pub within : c.line + 4 ≤ length s
  pub sum : sum_at s at < 4294967296

abbrev pub Filled : List ℕ → ℕ → Children → Chain → Type 0
Filled s at (items k) c = length c.kids ≡ k
Filled s at pairs c = length c.kids % 2 ≡ 0
Filled s at parts c = FilledCode s at c

both : (a b : Bool) → a ≡ true → b ≡ true → a && b ≡ true
both true b p q = q
both false b p q = p

pub plain_size : (ch : Children) (place size line : ℕ) → NotParts ch → size_of ch place size line ≡ size
plain_size (items k) place size line h = refl
plain_size pairs place size line h = refl
plain_size parts place size line h = absurd h

filled_counted : (s : List ℕ) (at : ℕ) (ch : Children) (c : Chain) → NotParts ch → Filled s at ch c → counted ch (length c.kids) ≡ true
filled_counted s at (items k) c h e = eq-eqb (length c.kids) k e
filled_counted s at pairs c h e = eq-eqb (length c.kids % 2) 0 e
filled_counted s at parts c h e = absurd h

reads_as_lem : (r : Answer Fields) (f : Fields) (n : Node) → r ≡ gives f → n.size ≡ f.size → counted f.children n.count ≡ true → reads_as r n ≡ true
reads_as_lem r f n e z k = rw e (both (eqb n.size f.size) (counted f.children n.count) (eq-eqb n.size f.size z) k)

ruled-sound : (s : List ℕ) → Bytes s → (l at : ℕ) (f : Fields) (c : Chain) (cl : Class) → Said s cl at f → Filled s at f.children c
    → ((closing l f c).place + (closing l f c).size ≤ length s) × (ruled s (closing l f c) cl ≡ true)
ruled-sound s bytes l at f c refers said filled = absurd said
ruled-sound s bytes l at f c (refuses n) said filled = absurd said
ruled-sound s bytes l at f c (keeps form) said filled =
    let z = plain_size f.children f.place f.size c.line said.children in
    (omega (arith, z, said.within), reads_as_lem (fields s form f.place) f (closing l f c) (ap (fields s form) said.place ∙ said.told) z (filled_counted s at f.children c said.children filled))
ruled-sound s bytes l at f c (contains sort) said filled =
    let no_parts_here : NotParts f.children = rw said.children tt in
    let z = plain_size f.children f.place f.size c.line no_parts_here in (
      omega (arith, z, said.within),
      both (eqb (length c.kids) 0) (containing s (closing l f c) sort) (eq-eqb (length c.kids) 0 (rw said.children at filled)) (said.good bytes (closing l f c) refl z),
    )
ruled-sound s bytes l at f c codes said filled = coded (rw said.is at filled)
  where
    coded : FilledCode s at c → ((closing l f c).place + (closing l f c).size ≤ length s) × (ruled s (closing l f c) codes ≡ true)
    coded k =
        rw said.is (
          omega (arith, k.line, k.within),
          both (leb code_numbers (c.line - at) && leb (at + (c.line - at) + 4) (length s) && eqb (length c.kids) code_parts) (ltb (sum_at s at) 4294967296)
              (both (leb code_numbers (c.line - at) && leb (at + (c.line - at) + 4) (length s)) (eqb (length c.kids) code_parts)
              (both (leb code_numbers (c.line - at)) (leb (at + (c.line - at) + 4) (length s))
              (le-leb code_numbers (c.line - at) (omega (arith, k.line))) (le-leb (at + (c.line - at) + 4) (length s) (omega (arith, k.line, k.within))))
              (eq-eqb (length c.kids) code_parts k.count))
              (lt-ltb (sum_at s at) 4294967296 k.sum),
        )

-- the record test passes
pub closing_sound : (s : List ℕ) (l at : ℕ) (f : Fields) (c : Chain) → Said s (class_of l) at f → Filled s at f.children c → Bytes s → sound s (closing l f c) ≡ true
unfolding sound
closing_sound s l at f c said filled bytes =
    let r = ruled-sound s bytes l at f c (class_of l) said filled in
    both (leb ((closing l f c).place + (closing l f c).size) (length s)) (ruled s (closing l f c) (class_of l)) (le-leb _ (length s) r.0) r.1

-- what any fields say: they lie ahead and in the input
pub said-ahead : (s : List ℕ) (c : Class) (at : ℕ) (f : Fields) → Said s c at f → at ≤ f.place
said-ahead s refers at f h = absurd h
said-ahead s (refuses n) at f h = absurd h
said-ahead s (keeps form) at f h = omega (arith, h.place)
said-ahead s (contains sort) at f h = h.ahead
said-ahead s codes at f h = rw h.is (omega arith)

pub said-within : (s : List ℕ) (c : Class) (at : ℕ) (f : Fields) → Said s c at f → f.place + f.size ≤ length s
said-within s refers at f h = absurd h
said-within s (refuses n) at f h = absurd h
said-within s (keeps form) at f h = h.within
said-within s (contains sort) at f h = h.within
said-within s codes at f h = rw h.is h.within

-- A header that is refused is refused for its letter, with 3, 4 or 15: one computed test over the letters.
abbrev pub own_class : Class → Bool
own_class refers = true
own_class (keeps form) = true
own_class (contains sort) = true
own_class codes = true
own_class (refuses n) = among n of_input

abbrev all_own : List (ℕ × Class) → Bool
all_own [] = true
all_own (l ∷ ls) = cond (own_class l.1) (all_own ls) false

found_own : (l : ℕ) (ls : List (ℕ × Class)) → all_own ls ≡ true → own_class (found l ls) ≡ true
unfolding found
found_own l [] h = refl
found_own l (x ∷ xs) h = go (eqb l x.0) (own_class x.1) refl h (λ q. found_own l xs q)
  where
    go : (b o : Bool) → own_class x.1 ≡ o → cond o (all_own xs) false ≡ true → (all_own xs ≡ true → own_class (found l xs) ≡ true)
        → own_class (cond b x.1 (found l xs)) ≡ true
    go true true e q more = e
    go false true e q more = more q
    go b false e q more = let z : ◌≡◌ {A = ℕ} 0 1 = cc in absurd (omega arith)

pub class_own : (l : ℕ) → own_class (class_of l) ≡ true
unfolding class_of letters
class_own l = found_own l letters refl
