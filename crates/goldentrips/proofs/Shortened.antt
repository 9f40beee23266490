-- A value that ends within the front of an input reads the same from that front alone. `Back lo P pos m m'`: where m', the reading of the longer
-- input, gives something, its position is at least `lo`, P holds of it, and m is the same reading if the position is within the front.
-- One law a definition of the grammar's Steps. Assumes nothing.
use mathlib.Core.Path.{◌≡◌, refl, sym, ap, subst, ◌∙◌}
use Prim.Native.Nat.{ℕ, zero, suc, ◌+◌, ◌*◌, ◌≤◌}
use native.Mathlib.Omega.{arith}
use mathlib.Core.Bool.{Bool, true, false, cond}
use mathlib.Core.List.{List}
use lib.ListN.{length, get_or}
use lib.Dec.{leb, ltb, eqb}
use borrow.Author.Tests.{le-leb}
use Rattle.refusals.specs.Numbers.{data_too_short, bad_size, invalid_bytecode, invalid_utf8}
use Rattle.wtf8.specs.Forms.{well_formed}
use Rattle.grammar.specs.Reading.{Kind, Reading, done, refused, claim, bind, reads, Answer, gives, stops}
use Rattle.grammar.specs.Room.{plainly}
use Rattle.grammar.specs.Letters as letter
use Rattle.grammar.specs.Letters.{Form, Sort}
use Rattle.grammar.specs.Fields.{Fields, Children, items, pairs, parts, le16, le32, not_negative, contents, field, size32, string, digit_count, digits, last_digit, pylong, numbers, code_numbers, fields, contained, code_fields}
use Rattle.grammar.proofs.Extension.{IsFrontOf}

absurd_gives : {A X : Type 0} {a : A} {n p : ℕ} → stops n p ≡ gives a → X
absurd_gives e = let z : ◌≡◌ {A = ℕ} 0 1 = cc in absurd (omega arith)

same_gives : {A : Type 0} {a b : A} → gives a ≡ gives b → a ≡ b
same_gives e = cc

-- ---- a reading, then another
pub plainly-bind : {A B : Type 0} (m : Reading A) (f : A → Reading B) (b : B) → plainly (bind m f) ≡ gives b → (a : A) × (plainly m ≡ gives a) × (plainly (f a) ≡ gives b)
unfolding plainly bind
plainly-bind (done x) f b e = (x, refl, e)
plainly-bind (refused n p) f b e = absurd_gives e
plainly-bind (claim k need p m) f b e = plainly-bind m f b e

bind_at : {A B : Type 0} (m : Reading A) (a : A) (f f' : A → Reading B) → plainly m ≡ gives a → f a ≡ f' a → bind m f ≡ bind m f'
unfolding plainly bind
bind_at (done x) a f f' e q = let z : x ≡ a = same_gives e in ap f z ∙ q ∙ ap f' (sym z)
bind_at (refused n p) a f f' e q = absurd_gives e
bind_at (claim k need p m) a f f' e q = ap (claim k need p) (bind_at m a f f' e q)

reads_plain : {A : Type 0} (r : Answer A) → plainly (reads r) ≡ r
unfolding plainly
reads_plain (gives a) = refl
reads_plain (stops n p) = refl

-- ---- the relation, within a front of `len` bytes
abbrev pub BackA : {A : Type 0} → ℕ → ℕ → (A → Type 0) → (A → ℕ) → Answer A → Answer A → Type 0
BackA {A} len lo P pos r r' = (a : A) → r' ≡ gives a → (lo ≤ pos a) × P a × (pos a ≤ len → r ≡ r')

abbrev pub Back : {A : Type 0} → ℕ → ℕ → (A → Type 0) → (A → ℕ) → Reading A → Reading A → Type 0
Back {A} len lo P pos m m' = (a : A) → plainly m' ≡ gives a → (lo ≤ pos a) × P a × (pos a ≤ len → m ≡ m')

module _ (len : ℕ) where
  module _ {A : Type 0} (P : A → Type 0) (pos : A → ℕ) where
    weaken_a : {lo lo' : ℕ} (r r' : Answer A) → lo' ≤ lo → BackA len lo P pos r r' → BackA len lo' P pos r r'
    weaken_a r r' l h a e = let w = h a e in (omega (arith, w.0), w.1, w.2)

    pub weaken : {lo lo' : ℕ} (m m' : Reading A) → lo' ≤ lo → Back len lo P pos m m' → Back len lo' P pos m m'
    weaken m m' l h a e = let w = h a e in (omega (arith, w.0), w.1, w.2)

    -- the shorter side may be put in another way where the bytes up to `lo` are there
    left_a : {lo : ℕ} (q r r' : Answer A) → (lo ≤ len → q ≡ r) → BackA len lo P pos r r' → BackA len lo P pos q r'
    left_a q r r' s h a e = let w = h a e in (w.0, w.1, λ l. s (omega (arith, w.0)) ∙ w.2 l)

    pub left : {lo : ℕ} (q r r' : Reading A) → (lo ≤ len → q ≡ r) → Back len lo P pos r r' → Back len lo P pos q r'
    left q r r' s h a e = let w = h a e in (w.0, w.1, λ l. s (omega (arith, w.0)) ∙ w.2 l)

    given_a : {lo : ℕ} (x y : A) → lo ≤ pos y → P y → (lo ≤ len → x ≡ y) → BackA len lo P pos (gives x) (gives y)
    given_a {lo} x y l p s a e = subst (λ z. (lo ≤ pos z) × P z × (pos z ≤ len → gives x ≡ gives y)) (same_gives e) (l, p, λ k. ap gives (s (omega arith)))

    pub given : {lo : ℕ} (x : A) → lo ≤ pos x → P x → Back len lo P pos (done x) (done x)
    unfolding plainly
    given {lo} x l p a e = subst (λ z. (lo ≤ pos z) × P z × (pos z ≤ len → done x ≡ done x)) (same_gives e) (l, p, λ k. refl)

    pub none_given : {lo : ℕ} (m : Reading A) (n p : ℕ) → Back len lo P pos m (refused n p)
    unfolding plainly
    none_given m n p a e = absurd_gives e

    pub claimed : {lo : ℕ} (k : Kind) (need p : ℕ) (m m' : Reading A) → Back len lo P pos m m' → Back len lo P pos (claim k need p m) (claim k need p m')
    unfolding plainly
    claimed k need p m m' h a e = let w = h a e in (w.0, w.1, λ l. ap (claim k need p) (w.2 l))

    pub reads_b : {lo : ℕ} (r r' : Answer A) → BackA len lo P pos r r' → Back len lo P pos (reads r) (reads r')
    reads_b r r' h a e = let w = h a (sym (reads_plain r') ∙ e) in (w.0, w.1, λ l. ap reads (w.2 l))

    -- a test that says the same where the bytes are there, and refuses on no
    tested : {lo : ℕ} (t t' : Bool) (r r' : Answer A) (n p : ℕ) → (lo ≤ len → t ≡ t') → BackA len lo P pos r r' → BackA len lo P pos (cond t r (stops n p)) (cond t' r' (stops n p))
    tested t true r r' n p s h a e = let w = h a e in (w.0, w.1, λ l. ap (λ b. cond b r (stops n p)) (s (omega (arith, w.0))) ∙ w.2 l)
    tested t false r r' n p s h a e = absurd_gives e

    -- or on yes
    tested_not : {lo : ℕ} (t t' : Bool) (r r' : Answer A) (n p : ℕ) → (lo ≤ len → t ≡ t') → BackA len lo P pos r r' → BackA len lo P pos (cond t (stops n p) r) (cond t' (stops n p) r')
    tested_not t true r r' n p s h a e = absurd_gives e
    tested_not t false r r' n p s h a e = let w = h a e in (w.0, w.1, λ l. ap (λ b. cond b (stops n p) r) (s (omega (arith, w.0))) ∙ w.2 l)

    pub tested_r : {lo : ℕ} (t : Bool) (x x' y y' : Reading A) → Back len lo P pos x x' → Back len lo P pos y y' → Back len lo P pos (cond t x y) (cond t x' y')
    tested_r true x x' y y' h k = h
    tested_r false x x' y y' h k = k

  pub back_bind : {A B : Type 0} {lo : ℕ} (P : A → Type 0) (pos : A → ℕ) (Q : B → Type 0) (at : B → ℕ) (m m' : Reading A) (f f' : A → Reading B)
      → Back len lo P pos m m' → ((a : A) → lo ≤ pos a → P a → Back len (pos a) Q at (f a) (f' a)) → Back len lo Q at (bind m f) (bind m' f')
  back_bind P pos Q at m m' f f' h k b e =
      let w = plainly-bind m' f' b e in
      let x = h w.0 w.1 in
      let y = k w.0 x.0 x.1 b w.2 in
      (omega (arith, x.0, y.0), y.1, λ l. ap (λ n. bind n f) (x.2 (omega (arith, y.0))) ∙ bind_at m' w.0 f f' w.1 (y.2 l))

-- ---- fields: where they end, and that a code's numbers are there
abbrev pub after : Fields → ℕ
after f = f.place + f.size

abbrev pub Deep : ℕ → ℕ → Children → Type 0
Deep at end (items k) = Unit
Deep at end pairs = Unit
Deep at end parts = at + code_numbers ≤ end

abbrev pub DeepIn : ℕ → Fields → Type 0
DeepIn at f = Deep at (after f) f.children

module _ (s s' : List ℕ) (f : IsFrontOf s s') where
  half : (i : ℕ) → i + 2 ≤ length s → le16 s i ≡ le16 s' i
  half i h = sym (rw (f.byte i (omega arith), f.byte (i + 1) (omega arith)) refl)

  pub word : (i : ℕ) → i + 4 ≤ length s → le32 s i ≡ le32 s' i
  word i h = sym (rw (f.byte i (omega arith), f.byte (i + 1) (omega arith), f.byte (i + 2) (omega arith), f.byte (i + 3) (omega arith)) refl)

  module _ {A : Type 0} (P : A → Type 0) (pos : A → ℕ) where
    -- bytes that end by `lo` are there
    pub field_back : {lo : ℕ} (at n : ℕ) (r r' : Answer A) → at + n ≤ lo → BackA (length s) lo P pos r r' → BackA (length s) lo P pos (field s at n r) (field s' at n r')
    field_back at n r r' l h =
        tested (length s) P pos (leb (at + n) (length s)) (leb (at + n) (length s')) r r' data_too_short at
        (λ k. le-leb (at + n) (length s) (omega arith) ∙ sym (le-leb (at + n) (length s') (omega (arith, f.longer)))) h

    size32_back : {lo : ℕ} (at : ℕ) (r r' : Answer A) → at + 4 ≤ lo → BackA (length s) lo P pos r r' → BackA (length s) lo P pos (size32 s at r) (size32 s' at r')
    size32_back at r r' l h =
        field_back at 4 _ _ l
        (tested (length s) P pos (not_negative (le32 s at)) (not_negative (le32 s' at)) r r' bad_size at (λ k. ap not_negative (word at (omega arith))) h)

    string_back : {lo : ℕ} (at size : ℕ) (r r' : Answer A) → at + size ≤ lo → BackA (length s) lo P pos r r' → BackA (length s) lo P pos (string s at size r) (string s' at size r')
    string_back at size r r' l h =
        field_back at size _ _ l
        (tested (length s) P pos (well_formed (contents s at size)) (well_formed (contents s' at size)) r r' invalid_utf8 at (λ k. ap well_formed (sym (f.part at size (omega arith)))) h)

    digits_back : {lo : ℕ} (k at : ℕ) (r r' : Answer A) → at + 2 * k ≤ lo → BackA (length s) lo P pos r r' → BackA (length s) lo P pos (digits s k at r) (digits s' k at r')
    unfolding digits
    digits_back zero at r r' l h = h
    digits_back (suc k) at r r' l h =
        field_back at 2 _ _ (omega arith)
        (tested (length s) P pos (ltb (le16 s at) 32768) (ltb (le16 s' at) 32768) _ _ invalid_bytecode at (λ q. ap (λ w. ltb w 32768) (half at (omega arith)))
        (digits_back k (at + 2) r r' (omega arith) h))

    last_digit_back : {lo : ℕ} (k at : ℕ) (r r' : Answer A) → at + 2 * k ≤ lo → BackA (length s) lo P pos r r' → BackA (length s) lo P pos (last_digit s k at r) (last_digit s' k at r')
    last_digit_back zero at r r' l h = h
    last_digit_back (suc k) at r r' l h =
        tested_not (length s) P pos (eqb (le16 s (at + 2 * k)) 0) (eqb (le16 s' (at + 2 * k)) 0) r r' invalid_bytecode (at + 2 * k)
        (λ q. ap (λ w. eqb w 0) (half (at + 2 * k) (omega arith))) h

    numbers_back : {lo : ℕ} (k at : ℕ) (r r' : Answer A) → at + 4 * k ≤ lo → BackA (length s) lo P pos r r' → BackA (length s) lo P pos (numbers s k at r) (numbers s' k at r')
    unfolding numbers
    numbers_back zero at r r' l h = h
    numbers_back (suc k) at r r' l h = field_back at 4 _ _ (omega arith) (numbers_back k (at + 4) r r' (omega arith) h)

  abbrev FieldsBack : ℕ → Answer Fields → Answer Fields → Type 0
  FieldsBack at r r' = BackA (length s) at (DeepIn at) after r r'

  -- the same fields on both sides
  leaf : (at lo place size : ℕ) (c : Children) → at ≤ lo → lo ≤ place + size → Deep at (place + size) c
      → BackA (length s) lo (DeepIn at) after (gives (record { place = place; size = size; children = c })) (gives (record { place = place; size = size; children = c }))
  leaf at lo place size c l h d = given_a (length s) (DeepIn at) after _ _ h d (λ k. refl)

  lower : (at lo : ℕ) (r r' : Answer Fields) → at ≤ lo → BackA (length s) lo (DeepIn at) after r r' → FieldsBack at r r'
  lower at lo r r' l h = weaken_a (length s) (DeepIn at) after r r' l h

  pub fields_back : (form : Form) (at : ℕ) → FieldsBack at (fields s form at) (fields s' form at)
  unfolding fields pylong
  fields_back letter.single at = leaf at at at 0 (items 0) (omega arith) (omega arith) tt
  fields_back (letter.fixed n) at =
      lower at (at + n) _ _ (omega arith) (field_back (DeepIn at) after at n _ _ (omega arith) (leaf at (at + n) at n (items 0) (omega arith) (omega arith) tt))
  fields_back letter.double at =
      lower at (at + 16) _ _ (omega arith)
      (field_back (DeepIn at) after at 8 _ _ (omega arith)
      (field_back (DeepIn at) after (at + 8) 8 _ _ (omega arith) (leaf at (at + 16) at 16 (items 0) (omega arith) (omega arith) tt)))
  fields_back letter.long at =
      let w = le32 s' at in
      let n = digit_count w in
      lower at (at + (4 + 2 * n)) _ _ (omega arith)
      (field_back (DeepIn at) after at 4 _ _ (omega arith)
      (left_a (length s) (DeepIn at) after (pylong s at (digit_count (le32 s at))) (pylong s at n) (pylong s' at n) (λ k. ap (λ i. pylong s at (digit_count i)) (word at (omega arith)))
      (digits_back (DeepIn at) after n (at + 4) _ _ (omega arith)
      (last_digit_back (DeepIn at) after n (at + 4) _ _ (omega arith) (leaf at (at + (4 + 2 * n)) at (4 + 2 * n) (items 0) (omega arith) (omega arith) tt)))))
  fields_back letter.sequence at =
      lower at (at + 4) _ _ (omega arith)
      (size32_back (DeepIn at) after at _ _ (omega arith)
      (given_a (length s) (DeepIn at) after _ _ (omega arith) tt (λ k. ap (λ (i : ℕ). record { place = at; size = 4; children = items i }) (word at (omega arith)))))
  fields_back letter.few at =
      lower at (at + 1) _ _ (omega arith)
      (field_back (DeepIn at) after at 1 _ _ (omega arith)
      (given_a (length s) (DeepIn at) after _ _ (omega arith) tt (λ k. ap (λ (i : ℕ). record { place = at; size = 1; children = items i }) (sym (f.byte at (omega arith))))))
  fields_back letter.slice at = leaf at at at 0 (items 3) (omega arith) (omega arith) tt
  fields_back letter.dict at = leaf at at at 0 pairs (omega arith) (omega arith) tt

  pub contained_back : (sort : Sort) (at : ℕ) → FieldsBack at (contained s sort at) (contained s' sort at)
  unfolding contained
  contained_back letter.bytes at =
      let n = le32 s' at in
      let rest : List ℕ → ℕ → Answer Fields = λ l i. field l (at + 4) i (gives (record { place = at + 4; size = i; children = items 0 })) in
      lower at (at + 4 + n) _ _ (omega arith)
      (size32_back (DeepIn at) after at _ _ (omega arith)
      (left_a (length s) (DeepIn at) after (rest s (le32 s at)) (rest s n) (rest s' n) (λ k. ap (rest s) (word at (omega arith)))
      (field_back (DeepIn at) after (at + 4) n _ _ (omega arith) (leaf at (at + 4 + n) (at + 4) n (items 0) (omega arith) (omega arith) tt))))
  contained_back letter.text at =
      let n = le32 s' at in
      let rest : List ℕ → ℕ → Answer Fields = λ l i. string l (at + 4) i (gives (record { place = at + 4; size = i; children = items 0 })) in
      lower at (at + 4 + n) _ _ (omega arith)
      (size32_back (DeepIn at) after at _ _ (omega arith)
      (left_a (length s) (DeepIn at) after (rest s (le32 s at)) (rest s n) (rest s' n) (λ k. ap (rest s) (word at (omega arith)))
      (string_back (DeepIn at) after (at + 4) n _ _ (omega arith) (leaf at (at + 4 + n) (at + 4) n (items 0) (omega arith) (omega arith) tt))))
  contained_back letter.short at =
      let n = get_or s' at 0 in
      let rest : List ℕ → ℕ → Answer Fields = λ l i. string l (at + 1) i (gives (record { place = at + 1; size = i; children = items 0 })) in
      lower at (at + 1 + n) _ _ (omega arith)
      (field_back (DeepIn at) after at 1 _ _ (omega arith)
      (left_a (length s) (DeepIn at) after (rest s (get_or s at 0)) (rest s n) (rest s' n) (λ k. ap (rest s) (sym (f.byte at (omega arith))))
      (string_back (DeepIn at) after (at + 1) n _ _ (omega arith) (leaf at (at + 1 + n) (at + 1) n (items 0) (omega arith) (omega arith) tt))))

  pub code_fields_back : (at : ℕ) → FieldsBack at (code_fields s at) (code_fields s' at)
  unfolding code_fields
  code_fields_back at =
      lower at (at + 20) _ _ (omega arith)
      (numbers_back (DeepIn at) after 5 at _ _ (omega arith) (leaf at (at + 20) at 20 parts (omega arith) (omega arith) (omega arith)))
