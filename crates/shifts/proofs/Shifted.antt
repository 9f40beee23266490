-- The shift of a reading, up to the children: lists, fields and fronts. One law a definition. Assumes nothing.
use mathlib.Core.Path.{◌≡◌, refl, ap}
use Prim.Native.Nat.{ℕ, zero, suc, ◌+◌, ◌*◌}
use native.Mathlib.Omega.{arith}
use mathlib.Core.Bool.{Bool, true, false, cond}
use mathlib.Core.List.{List, map}
use lib.ListN.{length, get_or, get_or-map}
use lib.Dec.{leb, ltb, eqb}
use borrow.Author.Tests.{ltb-true, leb-true, lt-ltb, le-leb}
use Rattle.refusals.specs.Numbers.{data_too_short, bad_size, invalid_bytecode, invalid_utf8, eof_object}
use Rattle.wtf8.specs.Forms.{well_formed}
use Rattle.grammar.specs.Reading.{Kind, level, node, slot, Reading, done, refused, claim, bind, reads, Answer, gives, stops}
use Rattle.grammar.specs.Letters as letter
use Rattle.grammar.specs.Letters.{Form, Sort, Class, refers, keeps, contains, codes, refuses, letter_of, class_of}
use Rattle.grammar.specs.Fields.{Fields, Children, items, pairs, parts, le16, le32, not_negative, contents, field, size32, string, digit_count, digits, last_digit, pylong, numbers, code_numbers, fields, contained, code_fields, span}
use Rattle.grammar.specs.Steps.{stored, reference, reserving, opened, header, front}
use Rattle.grammar.proofs.Tests.{each_way}
use Rattle.grammar.proofs.Following.{Need, raise, Follows}
use Rattle.shifts.specs.Shift.{Shift, raised_slot, raised_need, raised_fields, raised_front, lifted, lifted_a, Further}

-- tests on two raised numbers
pub leb_raised : (p a b : ℕ) → leb (p + a) (p + b) ≡ leb a b
leb_raised p a b =
    each_way (leb (p + a) (p + b)) (leb a b) (λ e. le-leb a b (omega (arith, leb-true (p + a) (p + b) e)))
    (λ e. le-leb (p + a) (p + b) (omega (arith, leb-true a b e)))

pub ltb_raised : (p a b : ℕ) → ltb (p + a) (p + b) ≡ ltb a b
ltb_raised p a b =
    each_way (ltb (p + a) (p + b)) (ltb a b) (λ e. lt-ltb a b (omega (arith, ltb-true (p + a) (p + b) e)))
    (λ e. lt-ltb (p + a) (p + b) (omega (arith, ltb-true a b e)))

pub claim_same : {A : Type 0} (kind : Kind) {n n' p p' : ℕ} {m m' : Reading A} → n ≡ n' → p ≡ p' → m ≡ m' → claim kind n p m ≡ claim kind n' p' m'
claim_same kind e e' e'' = rw (e, e', e'') refl

module _ (k : Shift) where
  -- a reading, then another of what it gives
  pub lift_bind : {A A' B B' : Type 0} (Q : ℕ → ℕ → Type 0) (C : ℕ → Type 0) (P : Need → A → Type 0) (g : A → A') (h : B → B') (t : Need) (m : Reading A) (m' : Reading A')
      (f : A → Reading B) (f' : A' → Reading B') → Follows Q C P t m → m' ≡ lifted k g m → ((t : Need) (a : A) → P t a → f' (g a) ≡ lifted k h (f a))
      → bind m' f' ≡ lifted k h (bind m f)
  unfolding bind lifted
  lift_bind Q C P g h t (done a) m' f f' w e q = rw e (q t a w)
  lift_bind Q C P g h t (refused n p) m' f f' w e q = rw e refl
  lift_bind Q C P g h t (claim kind need p m) m' f f' w e q =
      rw e (ap (claim kind (raised_need k kind need) (k.places + p)) (lift_bind Q C P g h (raise kind need t) m (lifted k g m) f f' w.1 refl q))

  pub lift_cond : {A A' : Type 0} (g : A → A') (b b' : Bool) (x y : Reading A) {x' y' : Reading A'} → b' ≡ b → x' ≡ lifted k g x → y' ≡ lifted k g y → cond b' x' y' ≡ lifted k g (cond b x y)
  lift_cond g true b' x y e d d' = rw e d
  lift_cond g false b' x y e d d' = rw e d'

  pub lift_cond_a : {A A' : Type 0} (g : A → A') (b b' : Bool) (x y : Answer A) {x' y' : Answer A'} → b' ≡ b → x' ≡ lifted_a k g x → y' ≡ lifted_a k g y → cond b' x' y' ≡ lifted_a k g (cond b x y)
  lift_cond_a g true b' x y e d d' = rw e d
  lift_cond_a g false b' x y e d d' = rw e d'

  pub lift_reads : {A A' : Type 0} (g : A → A') (r : Answer A) (r' : Answer A') → r' ≡ lifted_a k g r → reads r' ≡ lifted k g (reads r)
  unfolding lifted lifted_a
  lift_reads g (gives a) r' e = rw e refl
  lift_reads g (stops n p) r' e = rw e refl

  stop : {A A' : Type 0} (g : A → A') (n p p' : ℕ) → p' ≡ k.places + p → ◌≡◌ {A = Answer A'} (stops n p') (lifted_a k g (stops n p))
  unfolding lifted_a
  stop g n p p' e = ap (stops n) e

module _ (k : Shift) (s s' : List ℕ) (b : Further k s s') where
  pub byte_at : (at at' : ℕ) → at' ≡ k.places + at → get_or s' at' 0 ≡ get_or s at 0
  byte_at at at' e = rw e (b.byte at)

  half_at : (at at' : ℕ) → at' ≡ k.places + at → le16 s' at' ≡ le16 s at
  half_at at at' e = rw (byte_at at at' e, byte_at (at + 1) (at' + 1) (omega arith)) refl

  pub word_at : (at at' : ℕ) → at' ≡ k.places + at → le32 s' at' ≡ le32 s at
  word_at at at' e =
      rw (byte_at at at' e, byte_at (at + 1) (at' + 1) (omega arith), byte_at (at + 2) (at' + 2) (omega arith), byte_at (at + 3) (at' + 3) (omega arith)) refl

  part_at : (at at' n : ℕ) → at' ≡ k.places + at → contents s' at' n ≡ contents s at n
  part_at at at' n e = rw e (b.part at n)

  within_at : (at at' n : ℕ) → at' ≡ k.places + at → leb (at' + n) (length s') ≡ leb (at + n) (length s)
  within_at at at' n e =
      let z : at' + n ≡ k.places + (at + n) = omega arith in
      rw (z, b.long) (leb_raised k.places (at + n) (length s))

  pub below_at : (at at' : ℕ) → at' ≡ k.places + at → ltb at' (length s') ≡ ltb at (length s)
  below_at at at' e = rw (e, b.long) (ltb_raised k.places at (length s))

  pub field-shift : {A A' : Type 0} (g : A → A') (at at' n : ℕ) (r : Answer A) (r' : Answer A') → at' ≡ k.places + at → r' ≡ lifted_a k g r → field s' at' n r' ≡ lifted_a k g (field s at n r)
  field-shift g at at' n r r' e d =
      lift_cond_a k g (leb (at + n) (length s)) (leb (at' + n) (length s')) _ _ (within_at at at' n e) d (stop k g data_too_short at at' e)

  size32-shift : {A A' : Type 0} (g : A → A') (at at' : ℕ) (r : Answer A) (r' : Answer A') → at' ≡ k.places + at → r' ≡ lifted_a k g r → size32 s' at' r' ≡ lifted_a k g (size32 s at r)
  size32-shift g at at' r r' e d =
      field-shift g at at' 4 _ _ e
      (lift_cond_a k g (not_negative (le32 s at)) (not_negative (le32 s' at')) _ _ (ap not_negative (word_at at at' e)) d (stop k g bad_size at at' e))

  string-shift : {A A' : Type 0} (g : A → A') (at at' n : ℕ) (r : Answer A) (r' : Answer A') → at' ≡ k.places + at → r' ≡ lifted_a k g r → string s' at' n r' ≡ lifted_a k g (string s at n r)
  string-shift g at at' n r r' e d =
      field-shift g at at' n _ _ e
      (lift_cond_a k g (well_formed (contents s at n)) (well_formed (contents s' at' n)) _ _ (ap well_formed (part_at at at' n e)) d (stop k g invalid_utf8 at at' e))

  digits-shift : {A A' : Type 0} (g : A → A') (n at at' : ℕ) (r : Answer A) (r' : Answer A') → at' ≡ k.places + at → r' ≡ lifted_a k g r → digits s' n at' r' ≡ lifted_a k g (digits s n at r)
  unfolding digits
  digits-shift g zero at at' r r' e d = d
  digits-shift g (suc n) at at' r r' e d =
      field-shift g at at' 2 _ _ e
      (lift_cond_a k g (ltb (le16 s at) 32768) (ltb (le16 s' at') 32768) _ _ (ap (λ z. ltb z 32768) (half_at at at' e)) (digits-shift g n (at + 2) (at' + 2) r r' (omega arith) d)
      (stop k g invalid_bytecode at at' e))

  last_digit-shift : {A A' : Type 0} (g : A → A') (n at at' : ℕ) (r : Answer A) (r' : Answer A') → at' ≡ k.places + at → r' ≡ lifted_a k g r → last_digit s' n at' r' ≡ lifted_a k g (last_digit s n at r)
  last_digit-shift g zero at at' r r' e d = d
  last_digit-shift g (suc n) at at' r r' e d =
      lift_cond_a k g (eqb (le16 s (at + 2 * n)) 0) (eqb (le16 s' (at' + 2 * n)) 0) _ _ (ap (λ z. eqb z 0) (half_at (at + 2 * n) (at' + 2 * n) (omega arith)))
      (stop k g invalid_bytecode (at + 2 * n) (at' + 2 * n) (omega arith)) d

  numbers-shift : {A A' : Type 0} (g : A → A') (n at at' : ℕ) (r : Answer A) (r' : Answer A') → at' ≡ k.places + at → r' ≡ lifted_a k g r → numbers s' n at' r' ≡ lifted_a k g (numbers s n at r)
  unfolding numbers
  numbers-shift g zero at at' r r' e d = d
  numbers-shift g (suc n) at at' r r' e d = field-shift g at at' 4 _ _ e (numbers-shift g n (at + 4) (at' + 4) r r' (omega arith) d)

  abbrev F : Fields → Fields
  F = raised_fields k

  span-shift : (at at' size : ℕ) (ch : Children) → at' ≡ k.places + at → span at' size ch ≡ lifted_a k F (span at size ch)
  unfolding lifted_a
  span-shift at at' size ch e = rw e refl

  fields-shift : (form : Form) (at at' : ℕ) → at' ≡ k.places + at → fields s' form at' ≡ lifted_a k F (fields s form at)
  unfolding fields pylong
  fields-shift letter.single at at' e = span-shift at at' 0 (items 0) e
  fields-shift (letter.fixed n) at at' e = field-shift F at at' n _ _ e (span-shift at at' n (items 0) e)
  fields-shift letter.double at at' e = field-shift F at at' 8 _ _ e (field-shift F (at + 8) (at' + 8) 8 _ _ (omega arith) (span-shift at at' 16 (items 0) e))
  fields-shift letter.long at at' e =
      field-shift F at at' 4 _ _ e
      (rw (word_at at at' e)
      (digits-shift F (digit_count (le32 s at)) (at + 4) (at' + 4) _ _ (omega arith)
      (last_digit-shift F (digit_count (le32 s at)) (at + 4) (at' + 4) _ _ (omega arith) (span-shift at at' _ (items 0) e))))
  fields-shift letter.sequence at at' e = size32-shift F at at' _ _ e (rw (word_at at at' e) (span-shift at at' 4 _ e))
  fields-shift letter.few at at' e = field-shift F at at' 1 _ _ e (rw (byte_at at at' e) (span-shift at at' 1 _ e))
  fields-shift letter.slice at at' e = span-shift at at' 0 (items 3) e
  fields-shift letter.dict at at' e = span-shift at at' 0 pairs e

  contained-shift : (sort : Sort) (at at' : ℕ) → at' ≡ k.places + at → contained s' sort at' ≡ lifted_a k F (contained s sort at)
  unfolding contained
  contained-shift letter.bytes at at' e =
      size32-shift F at at' _ _ e (rw (word_at at at' e) (field-shift F (at + 4) (at' + 4) (le32 s at) _ _ (omega arith) (span-shift (at + 4) (at' + 4) _ (items 0) (omega arith))))
  contained-shift letter.text at at' e =
      size32-shift F at at' _ _ e (rw (word_at at at' e) (string-shift F (at + 4) (at' + 4) (le32 s at) _ _ (omega arith) (span-shift (at + 4) (at' + 4) _ (items 0) (omega arith))))
  contained-shift letter.short at at' e =
      field-shift F at at' 1 _ _ e (rw (byte_at at at' e) (string-shift F (at + 1) (at' + 1) (get_or s at 0) _ _ (omega arith) (span-shift (at + 1) (at' + 1) _ (items 0) (omega arith))))

  code_fields-shift : (at at' : ℕ) → at' ≡ k.places + at → code_fields s' at' ≡ lifted_a k F (code_fields s at)
  unfolding code_fields
  code_fields-shift at at' e = numbers-shift F 5 at at' _ _ e (span-shift at at' code_numbers parts e)

  -- the front

  stored-shift : (at at' i : ℕ) → at' ≡ k.places + at → stored at' (raised_slot k i) ≡ lifted_a k (raised_front k) (stored at i)
  unfolding lifted_a
  stored-shift at at' zero e = rw e refl
  stored-shift at at' (suc v) e =
      let z : at' + 4 ≡ k.places + (at + 4) = omega arith in
      rw z refl

  reference-shift : (slots : List ℕ) (at at' : ℕ) → at' ≡ k.places + at → reference s' (map (raised_slot k) slots) at' ≡ lifted_a k (raised_front k) (reference s slots at)
  unfolding reference
  reference-shift slots at at' e =
      field-shift (raised_front k) at at' 4 _ _ e
      (rw (word_at at at' e, get_or-map (raised_slot k) slots (le32 s at) 0) (stored-shift at at' (get_or slots (le32 s at) 0) e))

  opened-shift : (l g : ℕ) (r r' : Answer Fields) → r' ≡ lifted_a k F r → opened l g r' ≡ lifted k (raised_front k) (opened l g r)
  unfolding lifted lifted_a
  opened-shift l g (gives f) r' e = rw e refl
  opened-shift l g (stops n p) r' e = rw e refl

  reserving-shift : {A A' : Type 0} (h : A → A') (g used at at' : ℕ) (m : Reading A) (m' : Reading A') → at' ≡ k.places + at → m' ≡ lifted k h m
      → reserving g used at' m' ≡ lifted k h (reserving g used at m)
  unfolding lifted
  reserving-shift h zero used at at' m m' e d = d
  reserving-shift h (suc g) used at at' m m' e d = claim_same slot refl e d

  header-shift : (depth depth' at at' nodes nodes' used : ℕ) (slots : List ℕ) (l g : ℕ) (c : Class)
      → depth' ≡ k.levels + depth → at' ≡ k.places + at → nodes' ≡ length k.nodes + nodes
      → header s' depth' at' nodes' used (map (raised_slot k) slots) l g c ≡ lifted k (raised_front k) (header s depth at nodes used slots l g c)
  unfolding header lifted
  header-shift depth depth' at at' nodes nodes' used slots l g refers d e n =
      lift_reads k (raised_front k) _ _ (reference-shift slots (at + 1) (at' + 1) (omega arith))
  header-shift depth depth' at at' nodes nodes' used slots l g (refuses number) d e n =
      reserving-shift (raised_front k) g used at at' _ _ e (ap (refused number) e)
  header-shift depth depth' at at' nodes nodes' used slots l g (keeps form) d e n =
      reserving-shift (raised_front k) g used at at' _ _ e (claim_same node (omega arith) e (opened-shift l g _ _ (fields-shift form (at + 1) (at' + 1) (omega arith))))
  header-shift depth depth' at at' nodes nodes' used slots l g (contains sort) d e n =
      reserving-shift (raised_front k) g used at at' _ _ e (claim_same node (omega arith) e (opened-shift l g _ _ (contained-shift sort (at + 1) (at' + 1) (omega arith))))
  header-shift depth depth' at at' nodes nodes' used slots l g codes d e n =
      reserving-shift (raised_front k) g used at at' _ _ e
      (claim_same node (omega arith) e (claim_same level (omega arith) (omega arith) (opened-shift l g _ _ (code_fields-shift (at + 1) (at' + 1) (omega arith)))))

  pub byte_test_shift : {A A' : Type 0} (g : A → A') (at at' : ℕ) (m : Reading A) (m' : Reading A') → at' ≡ k.places + at → m' ≡ lifted k g m
      → cond (ltb at' (length s')) m' (refused eof_object (length s')) ≡ lifted k g (cond (ltb at (length s)) m (refused eof_object (length s)))
  unfolding lifted
  byte_test_shift g at at' m m' e d =
      lift_cond k g (ltb at (length s)) (ltb at' (length s')) _ _ (below_at at at' e) d (ap (refused eof_object) b.long)

  pub front-shift : (depth depth' at at' nodes nodes' used : ℕ) (slots : List ℕ)
      → depth' ≡ k.levels + depth → at' ≡ k.places + at → nodes' ≡ length k.nodes + nodes
      → front s' depth' at' nodes' used (map (raised_slot k) slots) ≡ lifted k (raised_front k) (front s depth at nodes used slots)
  unfolding front lifted
  front-shift depth depth' at at' nodes nodes' used slots d e n =
      claim_same level (omega arith) e
      (byte_test_shift (raised_front k) at at' _ _ e
      (rw (byte_at at at' e) (header-shift depth depth' at at' nodes nodes' used slots _ _ (class_of (letter_of (get_or s at 0))) d e n)))
