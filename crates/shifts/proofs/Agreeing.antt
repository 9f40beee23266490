-- Accepted readings of two inputs, the fields of two inputs that agree on the bytes up to the fields' end, and states with slots in front.
-- Assumes nothing.
use mathlib.Core.Path.{◌≡◌, refl, sym, ap, ◌∙◌}
use Prim.Native.Nat.{ℕ, zero, suc, ◌+◌, ◌*◌, ◌≤◌, ◌<◌}
use native.Mathlib.Omega.{arith}
use mathlib.Core.Bool.{Bool, true, false, cond}
use mathlib.Core.List.{List, [], ◌∷◌, ◌++◌, append_assoc}
use lib.ListN.{length, get_or, take, length-append, length-drop}
use lib.Seq.{get_or-drop, get_or-take, ext_get_or, length-take-le}
use lib.Dec.{leb, ltb, eqb}
use borrow.Author.Tests.{le-leb}
use Rattle.refusals.specs.Numbers.{data_too_short, bad_size, invalid_bytecode, invalid_utf8}
use Rattle.wtf8.specs.Forms.{well_formed}
use Rattle.grammar.specs.Reading.{Reading, done, refused, claim, bind, Answer, gives, stops}
use Rattle.grammar.specs.Letters as letter
use Rattle.grammar.specs.Letters.{Form, Sort}
use Rattle.grammar.specs.Fields.{Fields, le16, le32, not_negative, contents, field, size32, string, digit_count, digits, last_digit, pylong, numbers, code_numbers, fields, contained, code_fields, sum_at}
use Rattle.shifts.proofs.Onward.{Ends}
use Rattle.shifts.proofs.Raising.{set-append-add}
use Rattle.shifts.specs.Lower.{fronted, fronted_chain, more_need, slotted}
use Rattle.grammar.specs.State.{State}
use Rattle.grammar.specs.Steps.{Chain, reserve, fill, enter, close}

pub data Either (A B : Type 0) : Type 0 where
  this : A → Either A B
  that : B → Either A B

-- P holds of what is given, and something is.
abbrev pub Acc : {A : Type 0} → (A → Type 0) → Reading A → Type 0
Acc P (done a) = P a
Acc P (refused n p) = ⊥
Acc P (claim k need p m) = Acc P m

abbrev pub AccA : {A : Type 0} → (A → Type 0) → Answer A → Type 0
AccA P (gives a) = P a
AccA P (stops n p) = ⊥

pub acc_back : {A X : Type 0} (P F : A → Type 0) (m : Reading A) → Ends P m → Acc F m → ((a : A) → P a → F a → X) → X
acc_back P F (done a) e f k = k a e f
acc_back P F (refused n p) e f k = absurd f
acc_back P F (claim kind need p m) e f k = acc_back P F m e f k

pub acc_first : {A B : Type 0} (P : A → Type 0) (FA : A → Type 0) (FB : B → Type 0) (m : Reading A) (f : A → Reading B) → Ends P m → ((a : A) → P a → Acc FB (f a) → FA a)
    → Acc FB (bind m f) → Acc FA m
unfolding bind
acc_first P FA FB (done a) f e k acc = k a e acc
acc_first P FA FB (refused n p) f e k acc = acc
acc_first P FA FB (claim kind need p m) f e k acc = acc_first P FA FB m f e k acc

module _ (b : ℕ) where
  slot-bind : {A A' B B' : Type 0} (P : A' → Type 0) (FB : B' → Type 0) (g : A → A') (h : B → B') (m : Reading A) (f : A → Reading B) (f' : A' → Reading B')
      → Ends P (slotted b g m) → Acc FB (bind (slotted b g m) f') → ((a : A) → P (g a) → Acc FB (f' (g a)) → f' (g a) ≡ slotted b h (f a))
      → bind (slotted b g m) f' ≡ slotted b h (bind m f)
  unfolding bind slotted
  slot-bind P FB g h (done a) f f' e acc k = k a e acc
  slot-bind P FB g h (refused n p) f f' e acc k = refl
  slot-bind P FB g h (claim kind need p m) f f' e acc k = ap (claim kind (more_need b kind need) p) (slot-bind P FB g h m f f' e acc k)

  pub less_bind : {A A' B B' : Type 0} (P : A' → Type 0) (FA : A' → Type 0) (FB : B' → Type 0) (g : A → A') (h : B → B') (m' : Reading A') (m : Reading A) (f' : A' → Reading B') (f : A → Reading B)
      → Ends P m' → ((a : A') → P a → Acc FB (f' a) → FA a) → (Acc FA m' → m' ≡ slotted b g m)
      → ((a : A) → P (g a) → Acc FB (f' (g a)) → f' (g a) ≡ slotted b h (f a))
      → Acc FB (bind m' f') → bind m' f' ≡ slotted b h (bind m f)
  less_bind P FA FB g h m' m f' f e back first rest acc =
      let q = first (acc_first P FA FB m' f' e back acc) in
      rw q (slot-bind P FB g h m f f' (rw q at e) (rw q at acc) rest)

  pub less_cond : {A A' : Type 0} (F : A' → Type 0) (g : A → A') (t t' : Bool) (x' y' : Reading A') (x y : Reading A) → Acc F (cond t' x' y')
      → (t' ≡ true → Acc F x' → (t ≡ true) × (x' ≡ slotted b g x)) → (t' ≡ false → Acc F y' → (t ≡ false) × (y' ≡ slotted b g y)) → cond t' x' y' ≡ slotted b g (cond t x y)
  less_cond F g t true x' y' x y acc k l = rw (k refl acc).0 (k refl acc).1
  less_cond F g t false x' y' x y acc k l = rw (l refl acc).0 (l refl acc).1

-- The fields: two inputs that agree on the bytes from a place up to the end of the fields.

module _ (s t : List ℕ) (short : length t ≤ length s) (hi : ℕ) (inside : hi ≤ length t) where
  abbrev Alike : ℕ → Type 0
  Alike lo = (i : ℕ) → lo ≤ i → i < hi → get_or t i 0 ≡ get_or s i 0

  abbrev End : Fields → Type 0
  End f = f.place + f.size ≡ hi

  half_alike : (lo at : ℕ) → Alike lo → lo ≤ at → at + 2 ≤ hi → le16 t at ≡ le16 s at
  half_alike lo at a l h = rw (a at (omega arith) (omega arith), a (at + 1) (omega arith) (omega arith)) refl

  word_alike : (lo at : ℕ) → Alike lo → lo ≤ at → at + 4 ≤ hi → le32 t at ≡ le32 s at
  word_alike lo at a l h = rw (a at (omega arith) (omega arith), a (at + 1) (omega arith) (omega arith), a (at + 2) (omega arith) (omega arith), a (at + 3) (omega arith) (omega arith)) refl

  length-contents : (u : List ℕ) (at n : ℕ) → at + n ≤ length u → length (contents u at n) ≡ n
  length-contents u at n l = omega (arith, length-drop at (take (at + n) u), length-take-le (at + n) u l)

  part-alike : (lo at n : ℕ) → Alike lo → lo ≤ at → at + n ≤ hi → contents t at n ≡ contents s at n
  part-alike lo at n a l h =
      ext_get_or 0 (contents t at n) (contents s at n) (length-contents t at n (omega arith) ∙ sym (length-contents s at n (omega arith)))
      (λ i q. byte i (omega (arith, length-contents t at n (omega arith))))
    where
      byte : (i : ℕ) → i < n → get_or (contents t at n) i 0 ≡ get_or (contents s at n) i 0
      byte i q =
          get_or-drop at (take (at + n) t) i 0 ∙ get_or-take (at + n) t (at + i) 0 (omega arith) ∙ a (at + i) (omega arith) (omega arith)
          ∙ sym (get_or-drop at (take (at + n) s) i 0 ∙ get_or-take (at + n) s (at + i) 0 (omega arith))

  -- an accepted field
  field_acc : {A : Type 0} (P : A → Type 0) (at n : ℕ) (r : Answer A) → AccA P (field s at n r) → AccA P r
  field_acc P at n r = go (leb (at + n) (length s))
    where
      go : (c : Bool) → AccA P (cond c r (stops data_too_short at)) → AccA P r
      go true acc = acc
      go false acc = absurd acc

  cond_acc : {A : Type 0} (P : A → Type 0) (c : Bool) (r : Answer A) (n at : ℕ) → AccA P (cond c r (stops n at)) → AccA P r
  cond_acc P true r n at acc = acc
  cond_acc P false r n at acc = absurd acc

  field_less : {A : Type 0} (at n : ℕ) (r r' : Answer A) → at + n ≤ hi → r' ≡ r → field t at n r' ≡ field s at n r
  field_less at n r r' l e = rw (le-leb (at + n) (length t) (omega arith), le-leb (at + n) (length s) (omega arith)) e

  size32_acc : {A : Type 0} (P : A → Type 0) (at : ℕ) (r : Answer A) → AccA P (size32 s at r) → AccA P r
  size32_acc P at r acc = cond_acc P (not_negative (le32 s at)) r bad_size at (field_acc P at 4 _ acc)

  size32_less : {A : Type 0} (lo at : ℕ) (r r' : Answer A) → Alike lo → lo ≤ at → at + 4 ≤ hi → r' ≡ r → size32 t at r' ≡ size32 s at r
  size32_less lo at r r' a l h e = field_less at 4 _ _ h (rw (word_alike lo at a l h, e) refl)

  string_acc : {A : Type 0} (P : A → Type 0) (at n : ℕ) (r : Answer A) → AccA P (string s at n r) → AccA P r
  string_acc P at n r acc = cond_acc P (well_formed (contents s at n)) r invalid_utf8 at (field_acc P at n _ acc)

  string_less : {A : Type 0} (lo at n : ℕ) (r r' : Answer A) → Alike lo → lo ≤ at → at + n ≤ hi → r' ≡ r → string t at n r' ≡ string s at n r
  string_less lo at n r r' a l h e = field_less at n _ _ h (rw (part-alike lo at n a l h, e) refl)

  digits_acc : {A : Type 0} (P : A → Type 0) (n at : ℕ) (r : Answer A) → AccA P (digits s n at r) → AccA P r
  unfolding digits
  digits_acc P zero at r acc = acc
  digits_acc P (suc n) at r acc = digits_acc P n (at + 2) r (cond_acc P (ltb (le16 s at) 32768) _ invalid_bytecode at (field_acc P at 2 _ acc))

  digits_less : {A : Type 0} (lo n at : ℕ) (r r' : Answer A) → Alike lo → lo ≤ at → at + 2 * n ≤ hi → r' ≡ r → digits t n at r' ≡ digits s n at r
  unfolding digits
  digits_less lo zero at r r' a l h e = e
  digits_less lo (suc n) at r r' a l h e = field_less at 2 _ _ (omega arith) (rw (half_alike lo at a l (omega arith), digits_less lo n (at + 2) r r' a (omega arith) (omega arith) e) refl)

  last_digit_acc : {A : Type 0} (P : A → Type 0) (n at : ℕ) (r : Answer A) → AccA P (last_digit s n at r) → AccA P r
  last_digit_acc P zero at r acc = acc
  last_digit_acc P (suc n) at r acc = go (eqb (le16 s (at + 2 * n)) 0) acc
    where
      go : (c : Bool) → AccA P (cond c (stops invalid_bytecode (at + 2 * n)) r) → AccA P r
      go true acc = absurd acc
      go false acc = acc

  last_digit_less : {A : Type 0} (lo n at : ℕ) (r r' : Answer A) → Alike lo → lo ≤ at → at + 2 * n ≤ hi → r' ≡ r → last_digit t n at r' ≡ last_digit s n at r
  last_digit_less lo zero at r r' a l h e = e
  last_digit_less lo (suc n) at r r' a l h e = rw (half_alike lo (at + 2 * n) a (omega arith) (omega arith), e) refl

  numbers_acc : {A : Type 0} (P : A → Type 0) (n at : ℕ) (r : Answer A) → AccA P (numbers s n at r) → AccA P r
  unfolding numbers
  numbers_acc P zero at r acc = acc
  numbers_acc P (suc n) at r acc = numbers_acc P n (at + 4) r (field_acc P at 4 _ acc)

  numbers_less : {A : Type 0} (n at : ℕ) (r : Answer A) → at + 4 * n ≤ hi → numbers t n at r ≡ numbers s n at r
  unfolding numbers
  numbers_less zero at r h = refl
  numbers_less (suc n) at r h = field_less at 4 _ _ (omega arith) (numbers_less n (at + 4) r (omega arith))

  pub fields_less : (form : Form) (at : ℕ) → Alike at → AccA End (fields s form at) → fields t form at ≡ fields s form at
  unfolding fields pylong
  fields_less letter.single at a acc = refl
  fields_less (letter.fixed n) at a acc = let e = field_acc End at n _ acc in field_less at n _ _ (omega arith) refl
  fields_less letter.double at a acc =
      let e = field_acc End (at + 8) 8 _ (field_acc End at 8 _ acc) in
      field_less at 8 _ _ (omega arith) (field_less (at + 8) 8 _ _ (omega arith) refl)
  fields_less letter.long at a acc =
      let e = last_digit_acc End (digit_count (le32 s at)) (at + 4) _ (digits_acc End (digit_count (le32 s at)) (at + 4) _ (field_acc End at 4 _ acc)) in
      field_less at 4 _ _ (omega arith)
      (rw (word_alike at at a (omega arith) (omega arith))
      (digits_less at (digit_count (le32 s at)) (at + 4) _ _ a (omega arith) (omega arith) (last_digit_less at (digit_count (le32 s at)) (at + 4) _ _ a (omega arith) (omega arith) refl)))
  fields_less letter.sequence at a acc =
      let e = size32_acc End at _ acc in
      size32_less at at _ _ a (omega arith) (omega arith) (rw (word_alike at at a (omega arith) (omega arith)) refl)
  fields_less letter.few at a acc =
      let e = field_acc End at 1 _ acc in
      field_less at 1 _ _ (omega arith) (rw (a at (omega arith) (omega arith)) refl)
  fields_less letter.slice at a acc = refl
  fields_less letter.dict at a acc = refl

  pub contained_less : (sort : Sort) (at : ℕ) → Alike at → AccA End (contained s sort at) → contained t sort at ≡ contained s sort at
  unfolding contained
  contained_less letter.bytes at a acc =
      let e = field_acc End (at + 4) (le32 s at) _ (size32_acc End at _ acc) in
      size32_less at at _ _ a (omega arith) (omega arith) (rw (word_alike at at a (omega arith) (omega arith)) (field_less (at + 4) (le32 s at) _ _ (omega arith) refl))
  contained_less letter.text at a acc =
      let e = string_acc End (at + 4) (le32 s at) _ (size32_acc End at _ acc) in
      size32_less at at _ _ a (omega arith) (omega arith) (rw (word_alike at at a (omega arith) (omega arith)) (string_less at (at + 4) (le32 s at) _ _ a (omega arith) (omega arith) refl))
  contained_less letter.short at a acc =
      let e = string_acc End (at + 1) (get_or s at 0) _ (field_acc End at 1 _ acc) in
      field_less at 1 _ _ (omega arith) (rw (a at (omega arith) (omega arith)) (string_less at (at + 1) (get_or s at 0) _ _ a (omega arith) (omega arith) refl))

  pub code_fields_less : (at : ℕ) → AccA End (code_fields s at) → code_fields t at ≡ code_fields s at
  unfolding code_fields
  code_fields_less at acc =
      let e = numbers_acc End 5 at _ acc in
      numbers_less 5 at _ (omega arith)

  pub sum_less : (at : ℕ) → Alike at → at + code_numbers ≤ hi → sum_at t at ≡ sum_at s at
  sum_less at a h = rw (word_alike at at a (omega arith) (omega arith), word_alike at (at + 8) a (omega arith) (omega arith), word_alike at (at + 16) a (omega arith) (omega arith)) refl

-- Slots in front of a state stay there.
module _ (X : List ℕ) where
  reserve_up : (g : ℕ) (ss : List ℕ) → reserve g (X ++ ss) ≡ X ++ reserve g ss
  reserve_up zero ss = refl
  reserve_up (suc g) ss = append_assoc X ss (0 ∷ [])

  pub enter_up : (st : State) (at g : ℕ) → enter (fronted X st) at g ≡ fronted X (enter st at g)
  unfolding enter
  enter_up st at g = ap (λ z. record { at = at; nodes = (enter st at g).nodes; entries = st.entries; slots = z; met = st.met }) (reserve_up g st.slots)

  fill_up : (g v : ℕ) (ss cs : List ℕ) → fill g (length (X ++ ss)) v (X ++ cs) ≡ X ++ fill g (length ss) v cs
  fill_up zero v ss cs = refl
  fill_up (suc g) v ss cs = rw (length-append X ss) (set-append-add X cs (length ss) (v + 1))

  pub close_up : (st : State) (l g : ℕ) (f : Fields) (c : Chain) → close (fronted X st) l g f (fronted_chain X c) ≡ fronted X (close st l g f c)
  unfolding close
  close_up st l g f c = ap (λ z. record { at = c.st.at; nodes = (close st l g f c).nodes; entries = c.st.entries; slots = z; met = c.st.met })
      (fill_up g (length st.nodes) st.slots c.st.slots)
