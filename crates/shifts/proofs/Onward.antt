-- What a reading gives lies ahead, and so do the references that it met: `Ends P m`, P holds of what m gives. One law a definition of Steps.
-- Assumes nothing.
use mathlib.Core.Path.{◌≡◌, refl}
use Prim.Native.Nat.{ℕ, zero, suc, ◌+◌, ◌*◌, ◌≤◌, ◌<◌}
use native.Mathlib.Omega.{arith}
use mathlib.Core.Bool.{Bool, true, false, cond}
use mathlib.Core.List.{List, [], ◌∷◌}
use lib.ListN.{length, get_or}
use lib.Dec.{leb, ltb, eqb}
use borrow.Author.Tests.{eqb-true}
use Rattle.refusals.specs.Numbers.{accepted, data_too_short, bad_size, invalid_bytecode, invalid_utf8}
use Rattle.wtf8.specs.Forms.{well_formed}
use Rattle.grammar.specs.Reading.{Reading, done, refused, claim, bind, reads, Answer, gives, stops}
use Rattle.grammar.specs.Letters as letter
use Rattle.grammar.specs.Letters.{Form, Sort, Class, refers, keeps, contains, codes, refuses, letter_of, class_of, among, ends_dict}
use Rattle.grammar.specs.Fields.{Fields, Children, items, pairs, parts, le16, le32, not_negative, contents, field, size32, string, digit_count, digits, last_digit, pylong, numbers, code_numbers, fields, contained, code_fields}
use Rattle.grammar.specs.State.{State, referred}
use Rattle.grammar.specs.Steps.{Front, known, opens, stored, reference, reserving, opened, header, front, Chain, fresh, attach, Rule, whatever, suits, Reader, child, kids, passed, couples, code_parts, rules, line_part, lined, first_line_of, parts_from, fault_of, ended, body, enter, close, after, one, value}

abbrev pub Ends : {A : Type 0} → (A → Type 0) → Reading A → Type 0
Ends P (done a) = P a
Ends P (refused n p) = Unit
Ends P (claim k need p m) = Ends P m

abbrev pub EndsA : {A : Type 0} → (A → Type 0) → Answer A → Type 0
EndsA P (gives a) = P a
EndsA P (stops n p) = Unit

pub ends-bind : {A B : Type 0} (P : A → Type 0) (Q : B → Type 0) (m : Reading A) (f : A → Reading B) → Ends P m → ((a : A) → P a → Ends Q (f a)) → Ends Q (bind m f)
unfolding bind
ends-bind P Q (done a) f e g = g a e
ends-bind P Q (refused n p) f e g = tt
ends-bind P Q (claim k need p m) f e g = ends-bind P Q m f e g

ends-map : {A : Type 0} (P Q : A → Type 0) (m : Reading A) → Ends P m → ((a : A) → P a → Q a) → Ends Q m
ends-map P Q (done a) e g = g a e
ends-map P Q (refused n p) e g = tt
ends-map P Q (claim k need p m) e g = ends-map P Q m e g

pub ends-cond : {A : Type 0} (P : A → Type 0) (b : Bool) (m m' : Reading A) → Ends P m → Ends P m' → Ends P (cond b m m')
ends-cond P true m m' e d = e
ends-cond P false m m' e d = d

ends_cond_a : {A : Type 0} (P : A → Type 0) (b : Bool) (m m' : Answer A) → EndsA P m → EndsA P m' → EndsA P (cond b m m')
ends_cond_a P true m m' e d = e
ends_cond_a P false m m' e d = d

ends-reads : {A : Type 0} (P : A → Type 0) (r : Answer A) → EndsA P r → Ends P (reads r)
ends-reads P (gives a) e = e
ends-reads P (stops n p) e = e

-- Before the children.

module _ (s : List ℕ) where
  pub field-ends : {A : Type 0} (P : A → Type 0) (at n : ℕ) (r : Answer A) → EndsA P r → EndsA P (field s at n r)
  field-ends P at n r e = ends_cond_a P (leb (at + n) (length s)) r (stops data_too_short at) e tt

  pub size32-ends : {A : Type 0} (P : A → Type 0) (at : ℕ) (r : Answer A) → EndsA P r → EndsA P (size32 s at r)
  size32-ends P at r e = field-ends P at 4 _ (ends_cond_a P (not_negative (le32 s at)) r (stops bad_size at) e tt)

  pub string-ends : {A : Type 0} (P : A → Type 0) (at n : ℕ) (r : Answer A) → EndsA P r → EndsA P (string s at n r)
  string-ends P at n r e = field-ends P at n _ (ends_cond_a P (well_formed (contents s at n)) r (stops invalid_utf8 at) e tt)

  pub digits-ends : {A : Type 0} (P : A → Type 0) (n at : ℕ) (r : Answer A) → EndsA P r → EndsA P (digits s n at r)
  unfolding digits
  digits-ends P zero at r e = e
  digits-ends P (suc n) at r e = field-ends P at 2 _ (ends_cond_a P (ltb (le16 s at) 32768) _ (stops invalid_bytecode at) (digits-ends P n (at + 2) r e) tt)

  pub last_digit-ends : {A : Type 0} (P : A → Type 0) (n at : ℕ) (r : Answer A) → EndsA P r → EndsA P (last_digit s n at r)
  last_digit-ends P zero at r e = e
  last_digit-ends P (suc n) at r e = ends_cond_a P (eqb (le16 s (at + 2 * n)) 0) (stops invalid_bytecode (at + 2 * n)) r tt e

  pub numbers-ends : {A : Type 0} (P : A → Type 0) (n at : ℕ) (r : Answer A) → EndsA P r → EndsA P (numbers s n at r)
  unfolding numbers
  numbers-ends P zero at r e = e
  numbers-ends P (suc n) at r e = field-ends P at 4 _ (numbers-ends P n (at + 4) r e)

  -- fields lie ahead; a code's are its five numbers
  abbrev pub Coded : ℕ → ℕ → Children → Type 0
  Coded at end (items n) = Unit
  Coded at end pairs = Unit
  Coded at end parts = end ≡ at + code_numbers

  pub record Ahead (at : ℕ) (f : Fields) : Type 0 where
    pub place : at ≤ f.place
    pub code : Coded at (f.place + f.size) f.children

  fields-ends : (form : Form) (at : ℕ) → EndsA (Ahead at) (fields s form at)
  unfolding fields pylong
  fields-ends letter.single at = record { place = omega arith; code = tt }
  fields-ends (letter.fixed n) at = field-ends (Ahead at) at n _ (record { place = omega arith; code = tt })
  fields-ends letter.double at = field-ends (Ahead at) at 8 _ (field-ends (Ahead at) (at + 8) 8 _ (record { place = omega arith; code = tt }))
  fields-ends letter.long at = field-ends (Ahead at) at 4 _ (digits-ends (Ahead at) (digit_count (le32 s at)) (at + 4) _
      (last_digit-ends (Ahead at) (digit_count (le32 s at)) (at + 4) _ (record { place = omega arith; code = tt })))
  fields-ends letter.sequence at = size32-ends (Ahead at) at _ (record { place = omega arith; code = tt })
  fields-ends letter.few at = field-ends (Ahead at) at 1 _ (record { place = omega arith; code = tt })
  fields-ends letter.slice at = record { place = omega arith; code = tt }
  fields-ends letter.dict at = record { place = omega arith; code = tt }

  contained-ends : (sort : Sort) (at : ℕ) → EndsA (Ahead at) (contained s sort at)
  unfolding contained
  contained-ends letter.bytes at = size32-ends (Ahead at) at _ (field-ends (Ahead at) (at + 4) (le32 s at) _ (record { place = omega arith; code = tt }))
  contained-ends letter.text at = size32-ends (Ahead at) at _ (string-ends (Ahead at) (at + 4) (le32 s at) _ (record { place = omega arith; code = tt }))
  contained-ends letter.short at = field-ends (Ahead at) at 1 _ (string-ends (Ahead at) (at + 1) (get_or s at 0) _ (record { place = omega arith; code = tt }))

  code_fields-ends : (at : ℕ) → EndsA (Ahead at) (code_fields s at)
  unfolding code_fields
  code_fields-ends at = numbers-ends (Ahead at) 5 at _ (record { place = omega arith; code = refl })

  -- a reference takes five bytes, and fields lie behind the header
  abbrev pub FrontEnds : ℕ → Front → Type 0
  FrontEnds at (known v a) = a ≡ at + 5
  FrontEnds at (opens l g f) = Ahead (at + 1) f

  stored-ends : (at i : ℕ) → EndsA (FrontEnds at) (stored (at + 1) i)
  stored-ends at zero = tt
  stored-ends at (suc v) = omega arith

  opened-ends : (at l g : ℕ) (r : Answer Fields) → EndsA (Ahead (at + 1)) r → Ends (FrontEnds at) (opened l g r)
  opened-ends at l g (gives f) e = e
  opened-ends at l g (stops n p) e = tt

  pub reserving-ends : {A : Type 0} (P : A → Type 0) (g used at : ℕ) (m : Reading A) → Ends P m → Ends P (reserving g used at m)
  reserving-ends P zero used at m e = e
  reserving-ends P (suc g) used at m e = e

  header-ends : (depth at nodes used : ℕ) (slots : List ℕ) (l g : ℕ) (c : Class) → Ends (FrontEnds at) (header s depth at nodes used slots l g c)
  unfolding header reference
  header-ends depth at nodes used slots l g refers = ends-reads (FrontEnds at) (reference s slots (at + 1)) (field-ends (FrontEnds at) (at + 1) 4 _ (stored-ends at (get_or slots (le32 s (at + 1)) 0)))
  header-ends depth at nodes used slots l g (refuses n) = reserving-ends (FrontEnds at) g used at (refused n at) tt
  header-ends depth at nodes used slots l g (keeps form) = reserving-ends (FrontEnds at) g used at _ (opened-ends at l g (fields s form (at + 1)) (fields-ends form (at + 1)))
  header-ends depth at nodes used slots l g (contains sort) = reserving-ends (FrontEnds at) g used at _ (opened-ends at l g (contained s sort (at + 1)) (contained-ends sort (at + 1)))
  header-ends depth at nodes used slots l g codes = reserving-ends (FrontEnds at) g used at _ (opened-ends at l g (code_fields s (at + 1)) (code_fields-ends (at + 1)))

  pub front_ends : (depth at nodes used : ℕ) (slots : List ℕ) → Ends (FrontEnds at) (front s depth at nodes used slots)
  unfolding front
  front_ends depth at nodes used slots = ends-cond (FrontEnds at) (ltb at (length s)) _ _ (header-ends depth at nodes used slots _ _ (class_of (letter_of (get_or s at 0)))) tt

-- A state further on: what was met is met, and what is new stands between.
abbrev pub Met : ℕ → State → Type 0
Met r st = among r st.met ≡ true

pub data New (a b : State) (r : ℕ) : Type 0 where
  old : Met r a → New a b r
  new : a.at < r → r + 4 ≤ b.at → New a b r

-- the places met, the last first, with room for an index after each
abbrev pub Spaced : ℕ → List ℕ → Type 0
Spaced top [] = Unit
Spaced top (r ∷ rs) = (r + 4 ≤ top) × Spaced r rs

pub spaced_more : (a b : ℕ) (rs : List ℕ) → a ≤ b → Spaced a rs → Spaced b rs
spaced_more a b [] l h = tt
spaced_more a b (r ∷ rs) l h = (omega (arith, h.0), h.1)

pub record Onward (a b : State) : Type 0 where
  pub on : a.at ≤ b.at
  pub spaced : Spaced a.at a.met → Spaced b.at b.met
  pub still : (r : ℕ) → Met r a → Met r b
  pub fresh : (r : ℕ) → Met r b → New a b r

pub onward_trans : {a b c : State} → Onward a b → Onward b c → Onward a c
onward_trans {a} {b} {c} p q =
    record { on = omega (arith, p.on, q.on); spaced = λ z. q.spaced (p.spaced z); still = λ r m. q.still r (p.still r m); fresh = λ r m. go r (q.fresh r m) }
  where
    later : (r : ℕ) → New a b r → New a c r
    later r (old m) = old m
    later r (new l h) = new l (omega (arith, q.on))

    go : (r : ℕ) → New b c r → New a c r
    go r (old m) = later r (p.fresh r m)
    go r (new l h) = new (omega (arith, p.on)) h

-- the same references, further on
pub onward_same : (a b : State) → a.at ≤ b.at → b.met ≡ a.met → Onward a b
onward_same a b l e = record { on = l; spaced = λ z. rw e (spaced_more a.at b.at a.met l z); still = λ r m. rw e m; fresh = λ r m. old (rw e at m) }

pub onward-referred : (st : State) (at : ℕ) → at ≡ st.at + 5 → Onward st (referred at st)
onward-referred st at e = record {
  on = omega arith;
  spaced = λ z. (omega arith, spaced_more st.at (st.at + 1) st.met (omega arith) z);
  still = λ r m. still r m (eqb r (st.at + 1));
  fresh = λ r m. go r (eqb r (st.at + 1)) refl m;
}
  where
    still : (r : ℕ) → Met r st → (b : Bool) → cond b true (among r st.met) ≡ true
    still r m true = refl
    still r m false = m

    go : (r : ℕ) (b : Bool) → eqb r (st.at + 1) ≡ b → cond b true (among r st.met) ≡ true → New st (referred at st) r
    go r true q m = new (omega (arith, eqb-true r (st.at + 1) q)) (omega (arith, eqb-true r (st.at + 1) q))
    go r false q m = old m

abbrev pub OnValue : State → ℕ × State → Type 0
OnValue st r = (st.at < r.1.at) × Onward st r.1

abbrev pub OnChain : Chain → Chain → Type 0
OnChain c d = Onward c.st d.st

-- with at least one child more
abbrev pub OnChild : Chain → Chain → Type 0
OnChild c d = (c.st.at < d.st.at) × OnChain c d

abbrev pub Goes : Reader → Type 0
Goes f = (st : State) → Ends (OnValue st) (f st)

pub chain_refl : (c : Chain) → OnChain c c
chain_refl c = onward_same c.st c.st (omega arith) refl

pub child-ends : (rule : Rule) (f : Reader) → Goes f → (c : Chain) → Ends (OnChild c) (child rule f c)
unfolding child attach
child-ends rule f h c =
    ends-bind (OnValue c.st) (OnChild c) (f c.st) _ (h c.st)
    (λ r q. ends-cond (OnChild c) (suits rule r.1.nodes r.1.entries r.0) _ _ (q.0, onward_trans q.1 (onward_same r.1 (attach c r.0 r.1).st (omega arith) refl)) tt)

child_on : (rule : Rule) (f : Reader) → Goes f → (c : Chain) → Ends (OnChain c) (child rule f c)
child_on rule f h c = ends-map (OnChild c) (OnChain c) (child rule f c) (child-ends rule f h c) (λ d q. q.1)

chain-then : (c : Chain) (m : Reading Chain) (f : Chain → Reading Chain) → Ends (OnChain c) m → ((d : Chain) → Ends (OnChain d) (f d)) → Ends (OnChain c) (bind m f)
chain-then c m f e g = ends-bind (OnChain c) (OnChain c) m f e (λ d q. ends-map (OnChain d) (OnChain c) (f d) (g d) (λ d' q'. onward_trans q q'))

pub kids-ends : (f : Reader) → Goes f → (n : ℕ) (c : Chain) → Ends (OnChain c) (kids f n c)
unfolding kids
kids-ends f h zero c = chain_refl c
kids-ends f h (suc n) c = chain-then c (child whatever f c) (kids f n) (child_on whatever f h c) (λ d. kids-ends f h n d)

pub couples-ends : (f : Reader) (s : List ℕ) → Goes f → (fuel : ℕ) (c : Chain) → Ends (OnChain c) (couples f s fuel c)
unfolding couples
couples-ends f s h zero c = tt
couples-ends f s h (suc fuel) c =
    ends-cond (OnChain c) (ltb c.st.at (length s)) _ _
    (ends-cond (OnChain c) (ends_dict (get_or s c.st.at 0)) _ _ (onward_same c.st (passed 1 c).st (omega arith) refl)
    (chain-then c (child whatever f c) _ (child_on whatever f h c) (λ d. chain-then d (child whatever f d) (couples f s fuel) (child_on whatever f h d) (λ e. couples-ends f s h fuel e)))) tt

pub first_line-ends : (s : List ℕ) (i : ℕ) (c : Chain) → Ends (OnChain c) (first_line_of s i c)
unfolding first_line_of
first_line-ends s i c =
    ends-cond (OnChain c) (eqb i line_part) _ _
    (ends-reads (OnChain c) (field s c.st.at 4 (gives (lined c))) (field-ends s (OnChain c) c.st.at 4 (gives (lined c)) (onward_same c.st (lined c).st (omega arith) refl)))
    (chain_refl c)

pub parts_from-ends : (f : Reader) (s : List ℕ) → Goes f → (n i : ℕ) (c : Chain) → Ends (OnChain c) (parts_from f s n i c)
unfolding parts_from
parts_from-ends f s h zero i c = chain_refl c
parts_from-ends f s h (suc n) i c =
    chain-then c (first_line_of s i c) _ (first_line-ends s i c)
    (λ d. chain-then d (child (get_or rules i whatever) f d) (parts_from f s n (i + 1)) (child_on (get_or rules i whatever) f h d) (λ e. parts_from-ends f s h n (i + 1) e))

pub ended-ends : (s : List ℕ) (at : ℕ) (c : Chain) → Ends (OnChain c) (ended s at c)
unfolding ended
ended-ends s at c = ends-cond (OnChain c) (eqb (fault_of s at c) accepted) _ _ (chain_refl c) tt

pub body-ends : (g : ℕ → Reader) (s : List ℕ) → ((d : ℕ) → Goes (g d)) → (fuel depth at : ℕ) (ch : Children) (c : Chain) → Ends (OnChain c) (body g s fuel depth at ch c)
unfolding body
body-ends g s h fuel depth at (items n) c = kids-ends (g (depth + 1)) (h (depth + 1)) n c
body-ends g s h fuel depth at pairs c = couples-ends (g (depth + 1)) s (h (depth + 1)) fuel c
body-ends g s h fuel depth at parts c = chain-then c (parts_from (g (depth + 2)) s code_parts 0 c) (ended s at) (parts_from-ends (g (depth + 2)) s (h (depth + 2)) code_parts 0 c) (λ d. ended-ends s at d)

pub after-ends : (g : ℕ → Reader) (s : List ℕ) → ((d : ℕ) → Goes (g d)) → (fuel depth : ℕ) (st : State) (r : Front) → FrontEnds s st.at r → Ends (OnValue st) (after g s fuel depth st r)
unfolding after enter close
after-ends g s h fuel depth st (known v at) e = (omega arith, onward-referred st at e)
after-ends g s h fuel depth st (opens l fl f) e =
    ends-bind (OnChain (fresh (enter st (f.place + f.size) fl))) (OnValue st) (body g s fuel depth st.at f.children (fresh (enter st (f.place + f.size) fl))) _
    (body-ends g s h fuel depth st.at f.children (fresh (enter st (f.place + f.size) fl)))
    (λ c q. (
      omega (arith, q.on, e.place),
      record {
        on = omega (arith, q.on, e.place);
        spaced = λ z. q.spaced (spaced_more st.at (f.place + f.size) st.met (omega (arith, e.place)) z);
        still = q.still;
        fresh = λ x m. go c q.on x (q.fresh x m);
      },
    ))
  where
    go : (c : Chain) → f.place + f.size ≤ c.st.at → (x : ℕ) → New (enter st (f.place + f.size) fl) c.st x → New st (close st l fl f c) x
    go c on x (old m) = old m
    go c on x (new lt k) = new (omega (arith, e.place)) k

pub value-ends : (fuel : ℕ) (s : List ℕ) (depth : ℕ) → Goes (value fuel s depth)
unfolding value one
value-ends zero s depth st = tt
value-ends (suc fuel) s depth st =
    ends-bind (FrontEnds s st.at) (OnValue st) (front s depth st.at (length st.nodes) (length st.slots) st.slots) (after (value fuel s) s fuel depth st)
    (front_ends s depth st.at (length st.nodes) (length st.slots) st.slots) (λ r e. after-ends (value fuel s) s (λ d. value-ends fuel s d) fuel depth st r e)
