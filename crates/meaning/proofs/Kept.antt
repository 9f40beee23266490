-- What is kept of senses while a reading goes on, of nodes and of slots, and what its front knows before the children. Assumes nothing.
use mathlib.Core.Path.{◌≡◌, refl, sym, ap, ◌∙◌}
use Prim.Native.Nat.{ℕ, zero, suc, ◌+◌, ◌≤◌, ◌<◌}
use native.Mathlib.Omega.{arith}
use mathlib.Core.Bool.{Bool, true, false, cond}
use mathlib.Core.List.{List, [], ◌∷◌, ◌++◌}
use lib.ListN.{length, get_or, set}
use lib.Dec.{leb, ltb}
use Rattle.refusals.specs.Numbers.{eof_object}
use Rattle.grammar.specs.Reading.{level, slot, Reading, refused, Answer, gives, stops}
use Rattle.grammar.specs.Letters.{Class, refers, keeps, contains, codes, refuses, letter_of, flag_of, class_of}
use Rattle.grammar.specs.Fields.{Fields, parts, le32, numbers, fields, contained, code_fields}
use Rattle.grammar.specs.State.{State}
use Rattle.grammar.specs.Steps.{Front, known, opens, stored, reference, reserving, opened, header, front, whatever, rules, reserve, fill}
use Rattle.grammar.proofs.Following.{Need, raise, Follows, FollowsA, follows_cond, follows_reads}
use Rattle.meaning.specs.Value.{Value, Values, nil, more, count_of}
use Rattle.meaning.specs.Proper.{Suits, SuitFrom, Proper, ProperAll}
use Rattle.meaning.proofs.Means.{snoc, join, take_of, drop_of}
use Rattle.meaning.proofs.Standing.{InState, Onward, means_on}
use Rattle.meaning.proofs.Goes.{Anywhere}
use Rattle.meaning.proofs.Sense.{Sense}

abbrev pub Always : ℕ → ℕ → Type 0
Always n p = Unit

-- A node's sense is kept, and so is that of every slot.
pub sense_on : {s : List ℕ} {a b : State} {n : ℕ} → Onward s a b → Sense (InState s a) n → Sense (InState s b) n
sense_on {s} {a} {b} {n} o x = record { value = x.value; means = means_on o x.value n x.means; proper = x.proper }

abbrev pub SlotsMean : List ℕ → State → Type 0
SlotsMean s st = (k n : ℕ) → get_or st.slots k 0 ≡ suc n → Sense (InState s st) n

pub slots_on : {s : List ℕ} (a b : State) → Onward s a b → b.slots ≡ a.slots → SlotsMean s a → SlotsMean s b
slots_on a b o e h k n q = sense_on o (h k n (ap (λ x. get_or x k 0) (sym e) ∙ q))

-- every node from one on
abbrev pub EveryFrom : List ℕ → ℕ → State → Type 0
EveryFrom s from st = (i : ℕ) → from ≤ i → i < length st.nodes → Sense (InState s st) i

-- an open slot names nothing
snoc_zero : (ss : List ℕ) (k n : ℕ) → get_or (ss ++ 0 ∷ []) k 0 ≡ suc n → get_or ss k 0 ≡ suc n
snoc_zero [] zero n e = absurd (omega (arith, e))
snoc_zero [] (suc k) n e = absurd (omega (arith, e))
snoc_zero (x ∷ xs) zero n e = e
snoc_zero (x ∷ xs) (suc k) n e = snoc_zero xs k n e

pub reserve-slot : (g : ℕ) (ss : List ℕ) (k n : ℕ) → get_or (reserve g ss) k 0 ≡ suc n → get_or ss k 0 ≡ suc n
reserve-slot zero ss k n e = e
reserve-slot (suc g) ss k n e = snoc_zero ss k n e

-- a filled slot names the node, or what it named
set-slot : {X : Type 0} (ss : List ℕ) (i v k n : ℕ) → get_or (set ss i (v + 1)) k 0 ≡ suc n → (n ≡ v → X) → (get_or ss k 0 ≡ suc n → X) → X
set-slot [] i v k n e f g = g e
set-slot (x ∷ xs) zero v zero n e f g = f (omega (arith, e))
set-slot (x ∷ xs) zero v (suc k) n e f g = g e
set-slot (x ∷ xs) (suc i) v zero n e f g = g e
set-slot (x ∷ xs) (suc i) v (suc k) n e f g = set-slot xs i v k n e f g

pub fill-slot : {X : Type 0} (g i v : ℕ) (ss : List ℕ) (k n : ℕ) → get_or (fill g i v ss) k 0 ≡ suc n → (n ≡ v → X) → (get_or ss k 0 ≡ suc n → X) → X
fill-slot zero i v ss k n e f h = h e
fill-slot (suc g) i v ss k n e f h = set-slot ss i v k n e f h

pub proper-snoc : (us : Values) (v : Value) → ProperAll us → Proper v → ProperAll (snoc us v)
unfolding snoc Proper
proper-snoc nil v ps p = (p, tt)
proper-snoc (more u us) v ps p = (ps.0, proper-snoc us v ps.1 p)

pub count-snoc : (us : Values) (v : Value) → count_of (snoc us v) ≡ count_of us + 1
unfolding snoc count_of
count-snoc nil v = refl
count-snoc (more u us) v = omega (arith, count-snoc us v)

pub suit_snoc : (i : ℕ) (us : Values) (v : Value) → SuitFrom i us → Suits (get_or rules (i + count_of us) whatever) v → SuitFrom i (snoc us v)
unfolding snoc SuitFrom count_of
suit_snoc i nil v h f =
    let e : i + 0 ≡ i = omega arith in
    (rw e at f, tt)
suit_snoc i (more u us) v h f =
    let e : i + suc (count_of us) ≡ i + 1 + count_of us = omega arith in
    (h.0, suit_snoc (i + 1) us v h.1 (rw e at f))

pub join-cut : (k : ℕ) (us : Values) → join (take_of k us) (drop_of k us) ≡ us
unfolding join take_of drop_of
join-cut zero us = refl
join-cut (suc k) nil = refl
join-cut (suc k) (more u us) = ap (more u) (join-cut k us)

-- Before the children: a known node is a slot's, and a code's children are its parts.
abbrev pub FrontIs : State → Front → Type 0
FrontIs st (known v at) = (k : ℕ) × (get_or st.slots k 0 ≡ suc v)
FrontIs st (opens l g f) = class_of l ≡ codes → f ≡ record { place = st.at + 1; size = 20; children = parts }

module _ (s : List ℕ) (st : State) where
  abbrev F : Need → Front → Type 0
  F t r = FrontIs st r

  reserving_is : (t : Need) (g used at : ℕ) (m : Reading Front) → ((t : Need) → Follows Always Anywhere F t m) → Follows Always Anywhere F t (reserving g used at m)
  reserving_is t zero used at m h = h t
  reserving_is t (suc g) used at m h = (tt, h (raise slot (used + 1) t))

  opened_is : (t : Need) (l g : ℕ) (r : Answer Fields) → (class_of l ≡ codes → FollowsA Always (λ f. f ≡ record { place = st.at + 1; size = 20; children = parts }) r) → Follows Always Anywhere F t (opened l g r)
  opened_is t l g (gives f) h = h
  opened_is t l g (stops n p) h = tt

  stored_is : (i : ℕ) → FollowsA Always (FrontIs st) (stored (st.at + 1) (get_or st.slots i 0))
  stored_is i = go (get_or st.slots i 0) refl
    where
      go : (x : ℕ) → get_or st.slots i 0 ≡ x → FollowsA Always (FrontIs st) (stored (st.at + 1) x)
      go zero e = tt
      go (suc v) e = (i, e)

  cond_is : {A : Type 0} (P : A → Type 0) (b : Bool) (r : Answer A) (n p : ℕ) → FollowsA Always P r → FollowsA Always P (cond b r (stops n p))
  cond_is P true r n p h = h
  cond_is P false r n p h = tt

  numbers-is : {A : Type 0} (P : A → Type 0) (k at : ℕ) (r : Answer A) → FollowsA Always P r → FollowsA Always P (numbers s k at r)
  unfolding numbers
  numbers-is P zero at r h = h
  numbers-is P (suc k) at r h = cond_is P (leb (at + 4) (length s)) (numbers s k (at + 4) r) _ at (numbers-is P k (at + 4) r h)

  kept_not : {X : Type 0} (form : _) → keeps form ≡ codes → X
  kept_not form e = let z : ◌≡◌ {A = ℕ} 0 1 = cc in absurd (omega arith)

  contained_not : {X : Type 0} (sort : _) → contains sort ≡ codes → X
  contained_not sort e = let z : ◌≡◌ {A = ℕ} 0 1 = cc in absurd (omega arith)

  header_is : (t : Need) (depth l g : ℕ) (c : Class) → class_of l ≡ c → Follows Always Anywhere F t (header s depth st.at (length st.nodes) (length st.slots) st.slots l g c)
  unfolding header reference code_fields
  header_is t depth l g refers e =
      follows_reads Always Anywhere F t (reference s st.slots (st.at + 1)) (cond_is (FrontIs st) (leb (st.at + 1 + 4) (length s)) (stored (st.at + 1) (get_or st.slots (le32 s (st.at + 1)) 0)) _ (st.at + 1) (stored_is (le32 s (st.at + 1))))
  header_is t depth l g (refuses n) e = reserving_is t g (length st.slots) st.at (refused n st.at) (λ t. tt)
  header_is t depth l g (keeps form) e =
      reserving_is t g (length st.slots) st.at _ (λ t. (tt, opened_is _ l g (fields s form (st.at + 1)) (λ q. kept_not form (sym e ∙ q))))
  header_is t depth l g (contains sort) e =
      reserving_is t g (length st.slots) st.at _ (λ t. (tt, opened_is _ l g (contained s sort (st.at + 1)) (λ q. contained_not sort (sym e ∙ q))))
  header_is t depth l g codes e =
      reserving_is t g (length st.slots) st.at _ (λ t. (tt, (tt, opened_is _ l g (code_fields s (st.at + 1)) (λ q. numbers-is (λ f. f ≡ record { place = st.at + 1; size = 20; children = parts }) 5 (st.at + 1) _ refl))))

  pub front_is : (t : Need) (depth : ℕ) → Follows Always Anywhere F t (front s depth st.at (length st.nodes) (length st.slots) st.slots)
  unfolding front
  front_is t depth = (
    tt,
    follows_cond Always Anywhere F (raise level (depth + 1) t) (ltb st.at (length s)) _ (refused eof_object (length s))
        (λ e. header_is (raise level (depth + 1) t) depth (letter_of (get_or s st.at 0)) (flag_of (get_or s st.at 0)) (class_of (letter_of (get_or s st.at 0))) refl) (λ e. tt),
  )
