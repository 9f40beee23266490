-- Two readings side by side, of s and of s', which has s at its front. `Ext P m m'`: m' claims what m claims and ends as m ends, unless m
-- is refused with 1 or 2 and s' is longer; P holds of what m gives. One law a definition of Steps. Assumes nothing.
use mathlib.Core.Path.{◌≡◌, refl, ap, ◌∙◌}
use Prim.Native.Nat.{ℕ, zero, suc, ◌+◌, ◌*◌, ◌≤◌, ◌<◌}
use native.Mathlib.Omega.{arith}
use mathlib.Core.Bool.{Bool, true, false, cond}
use mathlib.Core.List.{List}
use lib.ListN.{length, get_or}
use lib.Dec.{leb, ltb, eqb}
use borrow.Author.Tests.{lt-ltb, le-ltb, le-leb, lt-leb, ltb-true, ltb-false, leb-true, leb-false}
use Rattle.refusals.specs.Numbers.{accepted, eof_object, data_too_short, bad_size, invalid_bytecode, invalid_utf8}
use Rattle.wtf8.specs.Forms.{well_formed}
use Rattle.grammar.specs.Reading.{Reading, done, refused, claim, bind, reads, Answer, gives, stops}
use Rattle.grammar.specs.Letters as letter
use Rattle.grammar.specs.Letters.{Form, Sort, Class, refers, keeps, contains, codes, refuses, flag_of, letter_of, class_of, ends_dict}
use Rattle.grammar.specs.Fields.{Fields, Children, items, pairs, parts, le16, le32, not_negative, contents, field, size32, string, digit_count, digits, last_digit, pylong, numbers, code_numbers, fields, contained, code_fields}
use Rattle.grammar.specs.State.{State}
use Rattle.grammar.specs.Steps.{Front, known, opens, stored, reference, reserving, opened, header, front, Chain, fresh, attach, Rule, whatever, suits, Reader, child, kids, key_or, couples, code_parts, rules, line_part, lined, first_line_of, parts_from, fault_of, ended, body, enter, close, after, one, value}
use Rattle.grammar.specs.Counted.{cut}
use Rattle.grammar.proofs.Unrolling.{value_unroll, couples_unroll}

-- A refusal stays if it is neither 1 nor 2, or if nothing was appended.
pub data Stays (nothing_more : Type 0) (n : ℕ) : Type 0 where
  uncut : cut n ≡ false → Stays nothing_more n
  even : nothing_more → Stays nothing_more n

abbrev pub ExtA : {A : Type 0} → Type 0 → (A → Type 0) → Answer A → Answer A → Type 0
ExtA E P (gives a) r' = P a × (r' ≡ gives a)
ExtA E P (stops n p) r' = Stays E n → r' ≡ stops n p

abbrev pub Ext : {A : Type 0} → Type 0 → (A → Type 0) → Reading A → Reading A → Type 0
Ext E P (done a) m' = P a × (m' ≡ done a)
Ext E P (refused n p) m' = Stays E n → m' ≡ refused n p
Ext {A} E P (claim k need p m) m' = (r : Reading A) × (m' ≡ claim k need p r) × Ext E P m r

clash : {X : Type 0} → true ≡ false → X
clash e = let z : ◌≡◌ {A = ℕ} 0 1 = cc in absurd (omega arith)

module _ (E : Type 0) where
  ext_bind : {A B : Type 0} (P : A → Type 0) (Q : B → Type 0) (m m' : Reading A) (f f' : A → Reading B)
      → Ext E P m m' → ((a : A) → P a → Ext E Q (f a) (f' a)) → Ext E Q (bind m f) (bind m' f')
  unfolding bind
  ext_bind P Q (done a) m' f f' e g = rw e.1 (g a e.0)
  ext_bind P Q (refused n p) m' f f' e g = λ c. rw (e c) refl
  ext_bind P Q (claim k need p m) m' f f' e g = (bind e.0 f', ap (λ x. bind x f') e.1, ext_bind P Q m e.0 f f' e.2 g)

  -- the same test on both sides
  cond_ext : {A : Type 0} (P : A → Type 0) (b : Bool) (x x' y y' : Answer A) → ExtA E P x x' → ExtA E P y y' → ExtA E P (cond b x y) (cond b x' y')
  cond_ext P true x x' y y' e d = e
  cond_ext P false x x' y y' e d = d

  cond_ext_r : {A : Type 0} (P : A → Type 0) (b : Bool) (x x' y y' : Reading A) → Ext E P x x' → Ext E P y y' → Ext E P (cond b x y) (cond b x' y')
  cond_ext_r P true x x' y y' e d = e
  cond_ext_r P false x x' y y' e d = d

  reads_ext : {A : Type 0} (P : A → Type 0) (r r' : Answer A) → ExtA E P r r' → Ext E P (reads r) (reads r')
  reads_ext P (gives a) r' e = rw e.1 (e.0, refl)
  reads_ext P (stops n p) r' e = λ st. rw (e st) refl

-- What the fields and the front give lies ahead; the five numbers of a code are within s.
abbrev pub Within : List ℕ → ℕ → Children → Type 0
Within s at (items k) = Unit
Within s at pairs = Unit
Within s at parts = at + code_numbers ≤ length s

pub record FieldsOn (s : List ℕ) (at : ℕ) (f : Fields) : Type 0 where
  pub ahead : at ≤ f.place
  pub within : Within s at f.children

abbrev pub FrontOn : List ℕ → ℕ → Front → Type 0
FrontOn s at (known v a) = at < a
FrontOn s at (opens l g f) = FieldsOn s (at + 1) f

-- s is the front of s'
pub record IsFrontOf (s s' : List ℕ) : Type 0 where
  pub longer : length s ≤ length s'
  pub byte : (i : ℕ) → i < length s → get_or s' i 0 ≡ get_or s i 0
  pub part : (i n : ℕ) → i + n ≤ length s → contents s' i n ≡ contents s i n

module _ (s s' : List ℕ) (f : IsFrontOf s s') where
  abbrev Even : Type 0
  Even = length s' ≡ length s

  half : (i : ℕ) → i + 2 ≤ length s → le16 s' i ≡ le16 s i
  half i h = rw (f.byte i (omega arith), f.byte (i + 1) (omega arith)) refl

  word : (i : ℕ) → i + 4 ≤ length s → le32 s' i ≡ le32 s i
  word i h = rw (f.byte i (omega arith), f.byte (i + 1) (omega arith), f.byte (i + 2) (omega arith), f.byte (i + 3) (omega arith)) refl

  -- a test that there are bytes enough: a cut refusal stays only if nothing was appended
  field_ext : {A : Type 0} (P : A → Type 0) (at n : ℕ) (r r' : Answer A) → (at + n ≤ length s → ExtA Even P r r')
      → ExtA Even P (field s at n r) (field s' at n r')
  field_ext P at n r r' e = go (leb (at + n) (length s)) refl
    where
      go : (b : Bool) → leb (at + n) (length s) ≡ b → ExtA Even P (cond b r (stops data_too_short at)) (field s' at n r')
      go true q =
          let h : at + n ≤ length s = leb-true (at + n) (length s) q in
          rw (le-leb (at + n) (length s') (omega (arith, f.longer))) (e h)
      go false q = λ st. cut_off st
        where
          cut_off : Stays Even data_too_short → field s' at n r' ≡ stops data_too_short at
          cut_off (uncut c) = clash c
          cut_off (even l) = rw (lt-leb (at + n) (length s') (omega (arith, leb-false (at + n) (length s) q))) refl

  size32_ext : {A : Type 0} (P : A → Type 0) (at : ℕ) (r r' : Answer A) → (at + 4 ≤ length s → ExtA Even P r r') → ExtA Even P (size32 s at r) (size32 s' at r')
  size32_ext P at r r' e =
      field_ext P at 4 _ _ (λ h. rw (word at h) (cond_ext Even P (not_negative (le32 s at)) r r' (stops bad_size at) (stops bad_size at) (e h) (λ st. refl)))

  string_ext : {A : Type 0} (P : A → Type 0) (at size : ℕ) (r r' : Answer A) → ExtA Even P r r' → ExtA Even P (string s at size r) (string s' at size r')
  string_ext P at size r r' e =
      field_ext P at size _ _
      (λ h. rw (f.part at size h) (cond_ext Even P (well_formed (contents s at size)) r r' (stops invalid_utf8 at) (stops invalid_utf8 at) e (λ st. refl)))

  digits_ext : {A : Type 0} (P : A → Type 0) (k at : ℕ) (r r' : Answer A) → at ≤ length s → (at + 2 * k ≤ length s → ExtA Even P r r')
      → ExtA Even P (digits s k at r) (digits s' k at r')
  unfolding digits
  digits_ext P zero at r r' l e = e (omega arith)
  digits_ext P (suc k) at r r' l e =
      field_ext P at 2 _ _
      (λ h. rw (half at h) (cond_ext Even P (ltb (le16 s at) 32768) _ _ (stops invalid_bytecode at) (stops invalid_bytecode at) (digits_ext P k (at + 2) r r' (omega arith) (λ q. e (omega arith))) (λ st. refl)))

  last_digit_ext : {A : Type 0} (P : A → Type 0) (k at : ℕ) (r r' : Answer A) → at + 2 * k ≤ length s → ExtA Even P r r' → ExtA Even P (last_digit s k at r) (last_digit s' k at r')
  last_digit_ext P zero at r r' l e = e
  last_digit_ext P (suc k) at r r' l e =
      rw (half (at + 2 * k) (omega arith))
      (cond_ext Even P (eqb (le16 s (at + 2 * k)) 0) (stops invalid_bytecode (at + 2 * k)) (stops invalid_bytecode (at + 2 * k)) r r' (λ st. refl) e)

  numbers_ext : {A : Type 0} (P : A → Type 0) (k at : ℕ) (r r' : Answer A) → at ≤ length s → (at + 4 * k ≤ length s → ExtA Even P r r')
      → ExtA Even P (numbers s k at r) (numbers s' k at r')
  unfolding numbers
  numbers_ext P zero at r r' l e = e (omega arith)
  numbers_ext P (suc k) at r r' l e = field_ext P at 4 _ _ (λ h. numbers_ext P k (at + 4) r r' (omega arith) (λ q. e (omega arith)))

  fields_ext : (form : Form) (at : ℕ) → ExtA Even (FieldsOn s at) (fields s form at) (fields s' form at)
  unfolding fields pylong
  fields_ext letter.single at = (record { ahead = omega arith; within = tt }, refl)
  fields_ext (letter.fixed n) at = field_ext (FieldsOn s at) at n _ _ (λ h. (record { ahead = omega arith; within = tt }, refl))
  fields_ext letter.double at = field_ext (FieldsOn s at) at 8 _ _ (λ h. field_ext (FieldsOn s at) (at + 8) 8 _ _ (λ q. (record { ahead = omega arith; within = tt }, refl)))
  fields_ext letter.long at =
      field_ext (FieldsOn s at) at 4 _ _
      (λ h. rw (word at h)
      (digits_ext (FieldsOn s at) (digit_count (le32 s at)) (at + 4) _ _ (omega arith)
      (λ q. last_digit_ext (FieldsOn s at) (digit_count (le32 s at)) (at + 4) _ _ q (record { ahead = omega arith; within = tt }, refl))))
  fields_ext letter.sequence at = size32_ext (FieldsOn s at) at _ _ (λ h. rw (word at h) (record { ahead = omega arith; within = tt }, refl))
  fields_ext letter.few at = field_ext (FieldsOn s at) at 1 _ _ (λ h. rw (f.byte at (omega arith)) (record { ahead = omega arith; within = tt }, refl))
  fields_ext letter.slice at = (record { ahead = omega arith; within = tt }, refl)
  fields_ext letter.dict at = (record { ahead = omega arith; within = tt }, refl)

  contained_ext : (sort : Sort) (at : ℕ) → ExtA Even (FieldsOn s at) (contained s sort at) (contained s' sort at)
  unfolding contained
  contained_ext letter.bytes at =
      size32_ext (FieldsOn s at) at _ _ (λ h. rw (word at h) (field_ext (FieldsOn s at) (at + 4) (le32 s at) _ _ (λ q. (record { ahead = omega arith; within = tt }, refl))))
  contained_ext letter.text at =
      size32_ext (FieldsOn s at) at _ _ (λ h. rw (word at h) (string_ext (FieldsOn s at) (at + 4) (le32 s at) _ _ (record { ahead = omega arith; within = tt }, refl)))
  contained_ext letter.short at =
      field_ext (FieldsOn s at) at 1 _ _
      (λ h. rw (f.byte at (omega arith)) (string_ext (FieldsOn s at) (at + 1) (get_or s at 0) _ _ (record { ahead = omega arith; within = tt }, refl)))

  code_fields_ext : (at : ℕ) → ExtA Even (FieldsOn s at) (code_fields s at) (code_fields s' at)
  unfolding code_fields numbers
  code_fields_ext at =
      field_ext (FieldsOn s at) at 4 _ _
      (λ h. numbers_ext (FieldsOn s at) 4 (at + 4) _ _ (omega arith) (λ q. (record { ahead = omega arith; within = omega arith }, refl)))

  stored_ext : (at i : ℕ) → ExtA Even (FrontOn s at) (stored (at + 1) i) (stored (at + 1) i)
  stored_ext at zero = λ st. refl
  stored_ext at (suc v) = (omega arith, refl)

  reference_ext : (slots : List ℕ) (at : ℕ) → ExtA Even (FrontOn s at) (reference s slots (at + 1)) (reference s' slots (at + 1))
  unfolding reference
  reference_ext slots at = field_ext (FrontOn s at) (at + 1) 4 _ _ (λ h. rw (word (at + 1) h) (stored_ext at (get_or slots (le32 s (at + 1)) 0)))

  opened_ext : (at l g : ℕ) (r r' : Answer Fields) → ExtA Even (FieldsOn s (at + 1)) r r' → Ext Even (FrontOn s at) (opened l g r) (opened l g r')
  opened_ext at l g (gives x) r' e = rw e.1 (e.0, refl)
  opened_ext at l g (stops n p) r' e = λ st. rw (e st) refl

  reserving_ext : {A : Type 0} (P : A → Type 0) (flag used at : ℕ) (m m' : Reading A) → Ext Even P m m' → Ext Even P (reserving flag used at m) (reserving flag used at m')
  reserving_ext P zero used at m m' e = e
  reserving_ext P (suc g) used at m m' e = (m', refl, e)

  header_ext : (depth at nodes used : ℕ) (slots : List ℕ) (l g : ℕ) (c : Class)
      → Ext Even (FrontOn s at) (header s depth at nodes used slots l g c) (header s' depth at nodes used slots l g c)
  unfolding header
  header_ext depth at nodes used slots l g refers = reads_ext Even (FrontOn s at) (reference s slots (at + 1)) (reference s' slots (at + 1)) (reference_ext slots at)
  header_ext depth at nodes used slots l g (refuses n) = reserving_ext (FrontOn s at) g used at (refused n at) (refused n at) (λ st. refl)
  header_ext depth at nodes used slots l g (keeps form) =
      reserving_ext (FrontOn s at) g used at _ _ (_, refl, opened_ext at l g (fields s form (at + 1)) (fields s' form (at + 1)) (fields_ext form (at + 1)))
  header_ext depth at nodes used slots l g (contains sort) =
      reserving_ext (FrontOn s at) g used at _ _ (_, refl, opened_ext at l g (contained s sort (at + 1)) (contained s' sort (at + 1)) (contained_ext sort (at + 1)))
  header_ext depth at nodes used slots l g codes =
      reserving_ext (FrontOn s at) g used at _ _ (_, refl, (_, refl, opened_ext at l g (code_fields s (at + 1)) (code_fields s' (at + 1)) (code_fields_ext (at + 1))))

  -- a test that there is a byte at a place
  byte_ext : {A : Type 0} (P : A → Type 0) (at : ℕ) (m m' : Reading A) → (at < length s → Ext Even P m m')
      → Ext Even P (cond (ltb at (length s)) m (refused eof_object (length s))) (cond (ltb at (length s')) m' (refused eof_object (length s')))
  byte_ext P at m m' e = go (ltb at (length s)) refl
    where
      go : (b : Bool) → ltb at (length s) ≡ b → Ext Even P (cond b m (refused eof_object (length s))) (cond (ltb at (length s')) m' (refused eof_object (length s')))
      go true q =
          let h : at < length s = ltb-true at (length s) q in
          rw (lt-ltb at (length s') (omega (arith, f.longer))) (e h)
      go false q = λ st. cut_off st
        where
          cut_off : Stays Even eof_object → cond (ltb at (length s')) m' (refused eof_object (length s')) ≡ refused eof_object (length s)
          cut_off (uncut c) = clash c
          cut_off (even l) = rw (le-ltb at (length s') (omega (arith, ltb-false at (length s) q))) (ap (refused eof_object) l)

  front_ext : (depth at nodes used : ℕ) (slots : List ℕ) → Ext Even (FrontOn s at) (front s depth at nodes used slots) (front s' depth at nodes used slots)
  unfolding front
  front_ext depth at nodes used slots = (
    _,
    refl,
    byte_ext (FrontOn s at) at _ _
        (λ h. rw (f.byte at h) (header_ext depth at nodes used slots (letter_of (get_or s at 0)) (flag_of (get_or s at 0)) (class_of (letter_of (get_or s at 0))))),
  )

-- a value lies ahead, and a chain goes on
abbrev pub On : ℕ → ℕ × State → Type 0
On at r = at < r.1.at

abbrev pub OnChain : ℕ → Chain → Type 0
OnChain at c = at ≤ c.st.at

module _ (E : Type 0) where
  ext_weaken : (a b : ℕ) → a ≤ b → (m m' : Reading Chain) → Ext E (OnChain b) m m' → Ext E (OnChain a) m m'
  ext_weaken a b le (done x) m' e = (omega (arith, e.0), e.1)
  ext_weaken a b le (refused n p) m' e = e
  ext_weaken a b le (claim k need p m) m' e = (e.0, e.1, ext_weaken a b le m e.0 e.2)

  -- a chain reader, then another from where the first ends
  ext_then : (a b : ℕ) → a ≤ b → (m m' : Reading Chain) (g g' : Chain → Reading Chain) → Ext E (OnChain b) m m'
      → ((c : Chain) → b ≤ c.st.at → Ext E (OnChain c.st.at) (g c) (g' c)) → Ext E (OnChain a) (bind m g) (bind m' g')
  ext_then a b le m m' g g' e h =
      ext_bind E (OnChain b) (OnChain a) m m' g g' e (λ c on. ext_weaken a c.st.at (omega arith) (g c) (g' c) (h c on))

  child_ext : (rule : Rule) (f f' : Reader) (c : Chain) → Ext E (On c.st.at) (f c.st) (f' c.st) → Ext E (OnChain (c.st.at + 1)) (child rule f c) (child rule f' c)
  unfolding child attach
  child_ext rule f f' c e =
      ext_bind E (On c.st.at) (OnChain (c.st.at + 1)) (f c.st) (f' c.st) _ _ e
      (λ r on. cond_ext_r E (OnChain (c.st.at + 1)) (suits rule r.1.nodes r.1.entries r.0) _ _ _ _ (_, refl, (omega arith, refl)) (λ st. refl))

  -- f and f' agree from a place on
  abbrev Agree : ℕ → Reader → Reader → Type 0
  Agree least f f' = (st : State) → least ≤ st.at → Ext E (On st.at) (f st) (f' st)

  kids_ext : (f f' : Reader) (least : ℕ) → Agree least f f' → (k : ℕ) (c : Chain) → least ≤ c.st.at → Ext E (OnChain c.st.at) (kids f k c) (kids f' k c)
  unfolding kids
  kids_ext f f' least h zero c le = (omega arith, refl)
  kids_ext f f' least h (suc k) c le =
      ext_then c.st.at (c.st.at + 1) (omega arith) (child whatever f c) (child whatever f' c) (kids f k) (kids f' k) (child_ext whatever f f' c (h c.st le))
      (λ d on. kids_ext f f' least h k d (omega arith))

module _ (s s' : List ℕ) (front_of : IsFrontOf s s') (f f' : Reader) (least : ℕ) (h : Agree (length s' ≡ length s) least f f') where
  abbrev Level : Type 0
  Level = length s' ≡ length s

  key_or_ext : (c : Chain) (m m' : Reading Chain) → Ext Level (OnChain c.st.at) m m' → Ext Level (OnChain c.st.at) (key_or s c m) (key_or s' c m')
  key_or_ext c m m' e =
      byte_ext s s' front_of (OnChain c.st.at) c.st.at _ _
      (λ q. rw (front_of.byte c.st.at q) (cond_ext_r Level (OnChain c.st.at) (ends_dict (get_or s c.st.at 0)) _ _ m m' (omega arith, refl) e))

  couples_ext : (x x' : ℕ) (c : Chain) → least ≤ c.st.at → length s ≤ c.st.at + x → length s' ≤ c.st.at + x' → Ext Level (OnChain c.st.at) (couples f s x c) (couples f' s' x' c)
  unfolding couples
  couples_ext zero x' c le l l' = λ st. cut_off st
    where
      cut_off : Stays Level eof_object → couples f' s' x' c ≡ refused eof_object (length s)
      cut_off (uncut q) = clash q
      cut_off (even q) = (couples_unroll f' s' x' c l').turned ∙ rw (le-ltb c.st.at (length s') (omega arith)) (ap (refused eof_object) q)
  couples_ext (suc x) x' c le l l' =
      let u = couples_unroll f' s' x' c l' in
      rw u.turned
      (key_or_ext c _ _
      (ext_then Level c.st.at (c.st.at + 1) (omega arith) (child whatever f c) (child whatever f' c) _ _ (child_ext Level whatever f f' c (h c.st le))
      (λ d on. ext_then Level d.st.at (d.st.at + 1) (omega arith) (child whatever f d) (child whatever f' d) _ _ (child_ext Level whatever f f' d (h d.st (omega arith)))
      (λ e on'. couples_ext x u.left e (omega arith) (omega arith) (omega (arith, u.enough))))))

  first_line_ext : (i : ℕ) (c : Chain) → Ext Level (OnChain c.st.at) (first_line_of s i c) (first_line_of s' i c)
  unfolding first_line_of
  first_line_ext i c =
      cond_ext_r Level (OnChain c.st.at) (eqb i line_part) _ _ _ _
      (reads_ext Level (OnChain c.st.at) (field s c.st.at 4 (gives (lined c))) (field s' c.st.at 4 (gives (lined c)))
      (field_ext s s' front_of (OnChain c.st.at) c.st.at 4 (gives (lined c)) (gives (lined c)) (λ q. (omega arith, refl))))
      (omega arith, refl)

  parts_from_ext : (k i : ℕ) (c : Chain) → least ≤ c.st.at → Ext Level (OnChain c.st.at) (parts_from f s k i c) (parts_from f' s' k i c)
  unfolding parts_from
  parts_from_ext zero i c le = (omega arith, refl)
  parts_from_ext (suc k) i c le =
      ext_then Level c.st.at c.st.at (omega arith) (first_line_of s i c) (first_line_of s' i c) _ _ (first_line_ext i c)
      (λ d on. ext_then Level d.st.at (d.st.at + 1) (omega arith) (child (get_or rules i whatever) f d) (child (get_or rules i whatever) f' d) _ _ (child_ext Level (get_or rules i whatever) f f' d (h d.st (omega arith)))
      (λ e on'. parts_from_ext k (i + 1) e (omega arith)))

-- the five numbers of a code lie within s
ended_ext : (s s' : List ℕ) (f : IsFrontOf s s') (at : ℕ) (c : Chain) → at + 21 ≤ length s → Ext (length s' ≡ length s) (OnChain c.st.at) (ended s at c) (ended s' at c)
unfolding ended
ended_ext s s' f at c h =
    rw (word s s' f (at + 1) (omega arith), word s s' f (at + 1 + 8) (omega arith), word s s' f (at + 1 + 16) (omega arith))
    (cond_ext_r (length s' ≡ length s) (OnChain c.st.at) (eqb (fault_of s at c) accepted) (done c) (done c) (refused (fault_of s at c) at) (refused (fault_of s at c) at) (omega arith, refl) (λ st. refl))

body_ext : (s s' : List ℕ) (f : IsFrontOf s s') (g g' : ℕ → Reader) (x x' depth at least : ℕ) → ((d : ℕ) → Agree (length s' ≡ length s) least (g d) (g' d))
    → (ch : Children) (c : Chain) → Within s (at + 1) ch → least ≤ c.st.at → length s ≤ c.st.at + x → length s' ≤ c.st.at + x'
    → Ext (length s' ≡ length s) (OnChain c.st.at) (body g s x depth at ch c) (body g' s' x' depth at ch c)
unfolding body
body_ext s s' f g g' x x' depth at least h (items k) c w le l l' = kids_ext (length s' ≡ length s) (g (depth + 1)) (g' (depth + 1)) least (h (depth + 1)) k c le
body_ext s s' f g g' x x' depth at least h pairs c w le l l' = couples_ext s s' f (g (depth + 1)) (g' (depth + 1)) least (h (depth + 1)) x x' c le l l'
body_ext s s' f g g' x x' depth at least h parts c w le l l' =
    ext_then (length s' ≡ length s) c.st.at c.st.at (omega arith) (parts_from (g (depth + 2)) s code_parts 0 c) (parts_from (g' (depth + 2)) s' code_parts 0 c) (ended s at) (ended s' at)
    (parts_from_ext s s' f (g (depth + 2)) (g' (depth + 2)) least (h (depth + 2)) code_parts 0 c le) (λ d on. ended_ext s s' f at d (omega arith))

after_ext : (s s' : List ℕ) (f : IsFrontOf s s') (g g' : ℕ → Reader) (x x' depth : ℕ) (st : State) → ((d : ℕ) → Agree (length s' ≡ length s) (st.at + 1) (g d) (g' d))
    → length s ≤ st.at + 1 + x → length s' ≤ st.at + 1 + x' → (r : Front) → FrontOn s st.at r
    → Ext (length s' ≡ length s) (On st.at) (after g s x depth st r) (after g' s' x' depth st r)
unfolding after enter close
after_ext s s' f g g' x x' depth st h l l' (known v at) on = (on, refl)
after_ext s s' f g g' x x' depth st h l l' (opens lt fl k) on =
    ext_bind (length s' ≡ length s) (OnChain (k.place + k.size)) (On st.at)
    (body g s x depth st.at k.children (fresh (enter st (k.place + k.size) fl))) (body g' s' x' depth st.at k.children (fresh (enter st (k.place + k.size) fl))) _ _
    (body_ext s s' f g g' x x' depth st.at (st.at + 1) h k.children (fresh (enter st (k.place + k.size) fl)) on.within (omega arith) (omega arith) (omega arith))
    (λ c ok. (omega arith, refl))

-- A value, from any state, with any fuel that is as much as the bytes left.
pub value_ext : (s s' : List ℕ) → IsFrontOf s s' → (fuel fuel' depth : ℕ) (st : State) → length s ≤ st.at + fuel → length s' ≤ st.at + fuel'
    → Ext (length s' ≡ length s) (On st.at) (value fuel s depth st) (value fuel' s' depth st)
unfolding value one front bind
value_ext s s' f zero fuel' depth st h h' = let u = value_unroll s' fuel' depth st h' in (_, u.turned, λ q. cut_off q)
  where
    cut_off : Stays (length s' ≡ length s) eof_object
        → bind (cond (ltb st.at (length s')) (header s' depth st.at (length st.nodes) (length st.slots) st.slots (letter_of (get_or s' st.at 0)) (flag_of (get_or s' st.at 0)) (class_of (letter_of (get_or s' st.at 0)))) (refused eof_object (length s')))
        (after (value (value_unroll s' fuel' depth st h').left s') s' (value_unroll s' fuel' depth st h').left depth st) ≡ refused eof_object (length s)
    cut_off (uncut q) = clash q
    cut_off (even q) = rw (le-ltb st.at (length s') (omega arith)) (ap (refused eof_object) q)
value_ext s s' f (suc n) fuel' depth st h h' =
    let u = value_unroll s' fuel' depth st h' in
    rw u.turned
    (ext_bind (length s' ≡ length s) (FrontOn s st.at) (On st.at) (front s depth st.at (length st.nodes) (length st.slots) st.slots) (front s' depth st.at (length st.nodes) (length st.slots) st.slots)
    (after (value n s) s n depth st) (after (value u.left s') s' u.left depth st)
    (front_ext s s' f depth st.at (length st.nodes) (length st.slots) st.slots)
    (after_ext s s' f (value n s) (value u.left s') n u.left depth st (λ d x le. value_ext s s' f n u.left d x (omega arith) (omega (arith, u.enough))) (omega arith) (omega (arith, u.enough))))
