-- A value that ends within the front of an input reads the same from that front alone: the laws of Shortened, through the definitions of
-- the grammar's Steps, from a header to a whole value. Assumes nothing.
use mathlib.Core.Path.{◌≡◌, refl, sym, ap, subst}
use Prim.Native.Nat.{ℕ, zero, suc, ◌+◌, ◌≤◌}
use native.Mathlib.Omega.{arith}
use mathlib.Core.Bool.{Bool, true, false, cond}
use mathlib.Core.List.{List}
use lib.ListN.{length, get_or}
use lib.Dec.{ltb, eqb}
use borrow.Author.Tests.{lt-ltb}
use Rattle.refusals.specs.Numbers.{accepted, eof_object, bad_type}
use Rattle.grammar.specs.Reading.{Kind, entry, level, node, slot, Reading, done, refused, claim, bind, Answer, gives, stops}
use Rattle.grammar.specs.Room.{plainly}
use Rattle.grammar.specs.Letters.{Class, refers, keeps, contains, codes, refuses, flag_of, letter_of, class_of, ends_dict}
use Rattle.grammar.specs.Fields.{Fields, Children, items, pairs, parts, le32, field, fields, contained, code_fields}
use Rattle.grammar.specs.State.{State}
use Rattle.grammar.specs.Steps.{Front, known, opens, stored, reference, reserving, opened, header, front, Chain, fresh, attach, Rule, whatever, suits, Reader, child, kids, passed, key_or, couples, code_parts, rules, line_part, lined, first_line_of, parts_from, fault_of, ended, body, enter, close, one, value}
use Rattle.grammar.specs.Steps as steps
use Rattle.grammar.proofs.Extension.{IsFrontOf}
use Rattle.grammar.proofs.Unrolling.{value_unroll, couples_unroll}
use Rattle.goldentrips.proofs.Shortened.{BackA, Back, weaken, left, given, none_given, claimed, reads_b, tested_r, back_bind, after, Deep, DeepIn, word, field_back, fields_back, contained_back, code_fields_back}

-- where a front, a chain and a value end
abbrev front_end : Front → ℕ
front_end (known v at) = at
front_end (opens l g f) = after f

abbrev FrontDeep : ℕ → Front → Type 0
FrontDeep at (known v a) = Unit
FrontDeep at (opens l g f) = DeepIn (at + 1) f

abbrev chain_end : Chain → ℕ
chain_end c = c.st.at

abbrev value_end : ℕ × State → ℕ
value_end r = r.1.at

abbrev Any : {A : Type 0} → A → Type 0
Any a = Unit {0}

none_gives : {A X : Type 0} {a : A} {n p : ℕ} → stops n p ≡ gives a → X
none_gives e = let z : ◌≡◌ {A = ℕ} 0 1 = cc in absurd (omega arith)

the_same : {A : Type 0} {a b : A} → gives a ≡ gives b → a ≡ b
the_same e = cc

module _ (s s' : List ℕ) (f : IsFrontOf s s') where
  abbrev len : ℕ
  len = length s

  empty : {lo : ℕ} (m : Reading (ℕ × State)) (k : Kind) (need p n q : ℕ) → Back len lo Any value_end m (claim k need p (refused n q))
  unfolding plainly
  empty m k need p n q a e = none_gives e

  -- ---- a header
  opened_back : (at l g : ℕ) (r r' : Answer Fields) → BackA len (at + 1) (DeepIn (at + 1)) after r r' → Back len (at + 1) (FrontDeep at) front_end (opened l g r) (opened l g r')
  unfolding plainly
  opened_back at l g r (gives x) h a e =
      let w = h x refl in
      subst (λ y. (at + 1 ≤ front_end y) × FrontDeep at y × (front_end y ≤ len → opened l g r ≡ done (opens l g x))) (the_same e) (w.0, w.1, λ k. ap (opened l g) (w.2 k))
  opened_back at l g r (stops n p) h a e = none_gives e

  reserving_back : {A : Type 0} {lo : ℕ} (P : A → Type 0) (pos : A → ℕ) (flag used at : ℕ) (m m' : Reading A) → Back len lo P pos m m'
      → Back len lo P pos (reserving flag used at m) (reserving flag used at m')
  reserving_back P pos zero used at m m' h = h
  reserving_back P pos (suc g) used at m m' h = claimed len P pos slot (used + 1) at m m' h

  stored_back : (at i : ℕ) → BackA len (at + 5) (FrontDeep at) front_end (stored (at + 1) i) (stored (at + 1) i)
  stored_back at zero a e = none_gives e
  stored_back at (suc v) a e =
      subst (λ y. (at + 5 ≤ front_end y) × FrontDeep at y × (front_end y ≤ len → stored (at + 1) (suc v) ≡ stored (at + 1) (suc v))) (the_same e) (omega arith, tt, λ k. refl)

  reference_back : (slots : List ℕ) (at : ℕ) → BackA len (at + 5) (FrontDeep at) front_end (reference s slots (at + 1)) (reference s' slots (at + 1))
  unfolding reference
  reference_back slots at =
      let to : ℕ → Answer Front = λ w. stored (at + 1) (get_or slots w 0) in
      field_back s s' f (FrontDeep at) front_end (at + 1) 4 _ _ (omega arith)
      (λ a e. let w = stored_back at (get_or slots (le32 s' (at + 1)) 0) a e in (w.0, w.1, λ k. ap to (word s s' f (at + 1) (omega (arith, w.0)))))

  header_back : (depth at nodes used : ℕ) (slots : List ℕ) (l g : ℕ) (c : Class)
      → Back len (at + 1) (FrontDeep at) front_end (header s depth at nodes used slots l g c) (header s' depth at nodes used slots l g c)
  unfolding header
  header_back depth at nodes used slots l g refers =
      weaken len (FrontDeep at) front_end _ _ (omega arith) (reads_b len (FrontDeep at) front_end (reference s slots (at + 1)) (reference s' slots (at + 1)) (reference_back slots at))
  header_back depth at nodes used slots l g (refuses n) =
      reserving_back (FrontDeep at) front_end g used at (refused n at) (refused n at) (none_given len (FrontDeep at) front_end (refused n at) n at)
  header_back depth at nodes used slots l g (keeps form) =
      reserving_back (FrontDeep at) front_end g used at _ _
      (claimed len (FrontDeep at) front_end node (nodes + 1) at _ _ (opened_back at l g (fields s form (at + 1)) (fields s' form (at + 1)) (fields_back s s' f form (at + 1))))
  header_back depth at nodes used slots l g (contains sort) =
      reserving_back (FrontDeep at) front_end g used at _ _
      (claimed len (FrontDeep at) front_end node (nodes + 1) at _ _ (opened_back at l g (contained s sort (at + 1)) (contained s' sort (at + 1)) (contained_back s s' f sort (at + 1))))
  header_back depth at nodes used slots l g codes =
      reserving_back (FrontDeep at) front_end g used at _ _
      (claimed len (FrontDeep at) front_end node (nodes + 1) at _ _
      (claimed len (FrontDeep at) front_end level (depth + 2) (at + 1) _ _ (opened_back at l g (code_fields s (at + 1)) (code_fields s' (at + 1)) (code_fields_back s s' f (at + 1)))))

  -- a test that there is a byte in front of `lo`
  byte_back : {A : Type 0} {lo : ℕ} (P : A → Type 0) (pos : A → ℕ) (at : ℕ) (m m' : Reading A) → at + 1 ≤ lo → Back len lo P pos m m'
      → Back len lo P pos (cond (ltb at (length s)) m (refused eof_object (length s))) (cond (ltb at (length s')) m' (refused eof_object (length s')))
  byte_back {A} {lo} P pos at m m' l h = go (ltb at (length s')) refl
    where
      go : (b : Bool) → ltb at (length s') ≡ b → Back len lo P pos (cond (ltb at (length s)) m (refused eof_object (length s))) (cond b m' (refused eof_object (length s')))
      go true q = left len P pos _ m m' (λ k. ap (λ b. cond b m (refused eof_object (length s))) (lt-ltb at (length s) (omega arith))) h
      go false q = none_given len P pos _ eof_object (length s')

  front_back : (depth at nodes used : ℕ) (slots : List ℕ) → Back len (at + 1) (FrontDeep at) front_end (front s depth at nodes used slots) (front s' depth at nodes used slots)
  unfolding front
  front_back depth at nodes used slots =
      let with : List ℕ → ℕ → Reading Front = λ x b. header x depth at nodes used slots (letter_of b) (flag_of b) (class_of (letter_of b)) in
      claimed len (FrontDeep at) front_end level (depth + 1) at _ _
      (byte_back (FrontDeep at) front_end at _ _ (omega arith)
      (left len (FrontDeep at) front_end (with s (get_or s at 0)) (with s (get_or s' at 0)) (with s' (get_or s' at 0)) (λ k. ap (with s) (sym (f.byte at (omega arith))))
      (header_back depth at nodes used slots (letter_of (get_or s' at 0)) (flag_of (get_or s' at 0)) (class_of (letter_of (get_or s' at 0))))))

  -- ---- children
  abbrev ChainBack : ℕ → Reading Chain → Reading Chain → Type 0
  ChainBack lo m m' = Back len lo Any chain_end m m'

  attached : (rule : Rule) (c : Chain) (r : ℕ × State)
      → Back len (value_end r) Any chain_end
      (cond (suits rule r.1.nodes r.1.entries r.0) (claim entry (length r.1.entries + 1) c.st.at (done (attach c r.0 r.1))) (refused bad_type c.st.at))
      (cond (suits rule r.1.nodes r.1.entries r.0) (claim entry (length r.1.entries + 1) c.st.at (done (attach c r.0 r.1))) (refused bad_type c.st.at))
  unfolding attach
  attached rule c r =
      tested_r len Any chain_end (suits rule r.1.nodes r.1.entries r.0) _ _ _ _
      (claimed len Any chain_end entry (length r.1.entries + 1) c.st.at _ _ (given len Any chain_end (attach c r.0 r.1) (omega arith) tt))
      (none_given len Any chain_end _ bad_type c.st.at)

  -- readers that agree from a place on
  abbrev Agree : ℕ → Reader → Reader → Type 0
  Agree least g g' = (st : State) → least ≤ st.at → Back len (st.at + 1) Any value_end (g st) (g' st)

  child_back : (rule : Rule) (g g' : Reader) (c : Chain) → Back len (c.st.at + 1) Any value_end (g c.st) (g' c.st) → ChainBack (c.st.at + 1) (child rule g c) (child rule g' c)
  unfolding child
  child_back rule g g' c h = back_bind len Any value_end Any chain_end (g c.st) (g' c.st) _ _ h (λ r l t. attached rule c r)

  -- a chain reader, then another from where it ends
  then : {a b : ℕ} (m m' : Reading Chain) (g g' : Chain → Reading Chain) → a ≤ b → ChainBack b m m'
      → ((c : Chain) → b ≤ c.st.at → ChainBack c.st.at (g c) (g' c)) → ChainBack a (bind m g) (bind m' g')
  then m m' g g' l h k = weaken len Any chain_end _ _ l (back_bind len Any chain_end Any chain_end m m' g g' h (λ c q t. k c q))

  module _ (least : ℕ) (g g' : Reader) (h : Agree least g g') where
    kids_back : (k : ℕ) (c : Chain) → least ≤ c.st.at → ChainBack c.st.at (kids g k c) (kids g' k c)
    unfolding kids
    kids_back zero c l = given len Any chain_end c (omega arith) tt
    kids_back (suc k) c l =
        then (child whatever g c) (child whatever g' c) (kids g k) (kids g' k) (omega arith) (child_back whatever g g' c (h c.st l)) (λ d q. kids_back k d (omega arith))

    key_or_back : (c : Chain) (m m' : Reading Chain) → ChainBack (c.st.at + 1) m m' → ChainBack (c.st.at + 1) (key_or s c m) (key_or s' c m')
    key_or_back c m m' k =
        let at = c.st.at in
        let key : ℕ → Reading Chain = λ b. cond (ends_dict b) (done (passed 1 c)) m in
        byte_back Any chain_end at _ _ (omega arith)
        (left len Any chain_end (key (get_or s at 0)) (key (get_or s' at 0)) _ (λ q. ap key (sym (f.byte at (omega arith))))
        (tested_r len Any chain_end (ends_dict (get_or s' at 0)) _ _ m m' (given len Any chain_end (passed 1 c) (omega arith) tt) k))

    -- as much fuel as the front has bytes left, and any for the longer input
    couples_back : (x' x : ℕ) (c : Chain) → least ≤ c.st.at → length s ≤ c.st.at + x → ChainBack c.st.at (couples g s x c) (couples g' s' x' c)
    unfolding couples
    couples_back zero x c l e = none_given len Any chain_end _ eof_object (length s')
    couples_back (suc x') x c l e =
        let u = couples_unroll g s x c e in
        weaken len Any chain_end _ _ (omega arith)
        (left len Any chain_end (couples g s x c) _ _ (λ k. u.turned)
        (key_or_back c _ _
        (then (child whatever g c) (child whatever g' c) _ _ (omega arith) (child_back whatever g g' c (h c.st l))
        (λ d q. then (child whatever g d) (child whatever g' d) _ _ (omega arith) (child_back whatever g g' d (h d.st (omega arith)))
        (λ b r. couples_back x' u.left b (omega arith) (omega (arith, u.enough)))))))

    first_line_back : (i : ℕ) (c : Chain) → ChainBack c.st.at (first_line_of s i c) (first_line_of s' i c)
    unfolding first_line_of
    first_line_back i c =
        tested_r len Any chain_end (eqb i line_part) _ _ _ _
        (weaken len Any chain_end _ _ (omega arith)
        (reads_b len Any chain_end (field s c.st.at 4 (gives (lined c))) (field s' c.st.at 4 (gives (lined c)))
        (field_back s s' f Any chain_end c.st.at 4 (gives (lined c)) (gives (lined c)) (omega arith) (lined_back c))))
        (given len Any chain_end c (omega arith) tt)
      where
        lined_back : (c : Chain) → BackA len (c.st.at + 4) Any chain_end (gives (lined c)) (gives (lined c))
        lined_back c a e = subst (λ y. (c.st.at + 4 ≤ chain_end y) × Unit {0} × (chain_end y ≤ len → gives (lined c) ≡ gives (lined c))) (the_same e) (omega arith, tt, λ k. refl)

    parts_from_back : (k i : ℕ) (c : Chain) → least ≤ c.st.at → ChainBack c.st.at (parts_from g s k i c) (parts_from g' s' k i c)
    unfolding parts_from
    parts_from_back zero i c l = given len Any chain_end c (omega arith) tt
    parts_from_back (suc k) i c l =
        then (first_line_of s i c) (first_line_of s' i c) _ _ (omega arith) (first_line_back i c)
        (λ d q. then (child (get_or rules i whatever) g d) (child (get_or rules i whatever) g' d) _ _ (omega arith) (child_back (get_or rules i whatever) g g' d (h d.st (omega arith)))
        (λ b r. parts_from_back k (i + 1) b (omega arith)))

  -- the five numbers of a code are there
  ended_back : (at : ℕ) (c : Chain) → at + 21 ≤ c.st.at → ChainBack c.st.at (ended s at c) (ended s' at c)
  unfolding ended
  ended_back at c l =
      left len Any chain_end (ended s at c) (ended s' at c) (ended s' at c)
      (λ k. rw (word s s' f (at + 1) (omega arith), word s s' f (at + 1 + 8) (omega arith), word s s' f (at + 1 + 16) (omega arith)) refl)
      (tested_r len Any chain_end (eqb (fault_of s' at c) accepted) _ _ _ _ (given len Any chain_end c (omega arith) tt) (none_given len Any chain_end _ (fault_of s' at c) at))

  body_back : (least : ℕ) (g g' : ℕ → Reader) → ((d : ℕ) → Agree least (g d) (g' d)) → (x x' depth at : ℕ) (ch : Children) (c : Chain)
      → least ≤ c.st.at → length s ≤ c.st.at + x → (ch ≡ parts → at + 21 ≤ c.st.at) → ChainBack c.st.at (body g s x depth at ch c) (body g' s' x' depth at ch c)
  unfolding body
  body_back least g g' h x x' depth at (items k) c l e w = kids_back least (g (depth + 1)) (g' (depth + 1)) (h (depth + 1)) k c l
  body_back least g g' h x x' depth at pairs c l e w = couples_back least (g (depth + 1)) (g' (depth + 1)) (h (depth + 1)) x' x c l e
  body_back least g g' h x x' depth at parts c l e w =
      then (parts_from (g (depth + 2)) s code_parts 0 c) (parts_from (g' (depth + 2)) s' code_parts 0 c) (ended s at) (ended s' at) (omega arith)
      (parts_from_back least (g (depth + 2)) (g' (depth + 2)) (h (depth + 2)) code_parts 0 c l) (λ d q. ended_back at d (omega (arith, w refl)))

  -- ---- a value
  deep-parts : (at end : ℕ) (ch : Children) → Deep (at + 1) end ch → ch ≡ parts → at + 21 ≤ end
  deep-parts at end (items n) d e = let z : ◌≡◌ {A = ℕ} 0 1 = cc in absurd (omega arith)
  deep-parts at end pairs d e = let z : ◌≡◌ {A = ℕ} 0 1 = cc in absurd (omega arith)
  deep-parts at end parts d e = omega arith

  after_back : (g g' : ℕ → Reader) (x x' depth : ℕ) (st : State) → ((d : ℕ) → Agree (st.at + 1) (g d) (g' d)) → length s ≤ st.at + 1 + x → (r : Front)
      → st.at + 1 ≤ front_end r → FrontDeep st.at r → Back len (front_end r) Any value_end (steps.after g s x depth st r) (steps.after g' s' x' depth st r)
  unfolding steps.after enter close
  after_back g g' x x' depth st h e (known v at) l d = given len Any value_end _ (omega arith) tt
  after_back g g' x x' depth st h e (opens lt fl k) l d =
      back_bind len Any chain_end Any value_end _ _ _ _
      (body_back (st.at + 1) g g' h x x' depth st.at k.children (fresh (enter st (k.place + k.size) fl)) (omega arith) (omega arith)
      (deep-parts st.at (after k) k.children d))
      (λ c q t. given len Any value_end _ (omega arith) tt)

  pub value_back : (fuel' fuel depth : ℕ) (st : State) → length s ≤ st.at + fuel → Back len (st.at + 1) Any value_end (value fuel s depth st) (value fuel' s' depth st)
  unfolding value one
  value_back zero fuel depth st e = empty (value fuel s depth st) level (depth + 1) st.at eof_object (length s')
  value_back (suc fuel') fuel depth st e =
      let u = value_unroll s fuel depth st e in
      left len Any value_end (value fuel s depth st) _ _ (λ k. u.turned)
      (back_bind len (FrontDeep st.at) front_end Any value_end (front s depth st.at (length st.nodes) (length st.slots) st.slots)
      (front s' depth st.at (length st.nodes) (length st.slots) st.slots) _ _
      (front_back depth st.at (length st.nodes) (length st.slots) st.slots)
      (λ r l d. after_back (value u.left s) (value fuel' s') u.left fuel' depth st (λ d' st' q. value_back fuel' u.left d' st' (omega (arith, u.enough))) u.enough r l d))
