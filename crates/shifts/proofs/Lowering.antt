-- The law of lowered indices: where the whole reading of s, with slots in front, is accepted within t, it is the reading of t without those
-- slots, its slot claims raised. One law a definition of Steps. Assumes nothing of the bytes but Lowers.
use mathlib.Core.Path.{◌≡◌, refl, sym, ap, ◌∙◌}
use Prim.Native.Nat.{ℕ, zero, suc, ◌+◌, ◌≤◌, ◌<◌}
use native.Mathlib.Omega.{arith}
use mathlib.Core.Bool.{Bool, true, false, cond}
use mathlib.Core.List.{List, ◌++◌}
use lib.ListN.{length, get_or, length-append}
use lib.Seq.{get_or-append-add}
use lib.Dec.{leb, ltb, eqb}
use borrow.Author.Tests.{lt-ltb, le-leb, eq-eqb}
use Rattle.refusals.specs.Numbers.{accepted, data_too_short, bad_type}
use Rattle.grammar.specs.Reading.{level, node, entry, Reading, done, refused, claim, bind, reads, Answer, gives, stops}
use Rattle.grammar.specs.Letters.{Class, refers, keeps, contains, codes, refuses, letter_of, class_of, among, ends_dict}
use Rattle.grammar.specs.Fields.{Fields, Children, items, pairs, parts, le32, field, code_numbers, fields, contained, code_fields, sum_at}
use Rattle.grammar.specs.State.{State, referred}
use Rattle.grammar.specs.Steps.{Front, known, opens, stored, reference, reserving, opened, header, front, Chain, fresh, attach, Rule, whatever, suits, Reader, child, kids, passed, couples, code_parts, rules, line_part, lined, first_line_of, parts_from, fault_of, ended, body, enter, close, after, one, value}
use Rattle.shifts.proofs.Onward.{ends-cond, Ahead, FrontEnds, front_ends, Met, New, old, new, Onward, onward_same, onward-referred, OnValue, OnChain, OnChild, Goes, child-ends, kids-ends, couples-ends, first_line-ends, parts_from-ends, ended-ends, body-ends, value-ends}
use Rattle.shifts.specs.Lower.{fronted, fronted_value, fronted_chain, slotted, Apart, ahead, past, Lowers}
use Rattle.shifts.proofs.Agreeing.{Either, this, that, enter_up, close_up, Acc, AccA, acc_back, acc_first, less_bind, less_cond, fields_less, contained_less, code_fields_less, sum_less}

-- States on the way to the references met in the end.

module _ (X M s t : List ℕ) (from : ℕ) (low : Lowers (length X) from M s t) where
  abbrev B : ℕ
  B = length X

  abbrev up : State → State
  up = fronted X

  abbrev UV : ℕ × State → ℕ × State
  UV = fronted_value X

  abbrev UC : Chain → Chain
  UC = fronted_chain X

  -- it lies within t, and what will be met from here on lies ahead
  pub record Fin (st : State) : Type 0 where
    pub within : st.at ≤ length t
    pub still : (r : ℕ) → Met r st → among r M ≡ true
    pub rest : (r : ℕ) → among r M ≡ true → Either (Met r st) (st.at < r)

  -- what was met lies behind
  pub record Good (st : State) : Type 0 where
    pub begun : from ≤ st.at
    pub behind : (r : ℕ) → Met r st → r + 4 ≤ st.at

  fin_back : {a b : State} → Onward a b → Fin b → Fin a
  fin_back {a} {b} o f = record { within = omega (arith, o.on, f.within); still = λ r m. f.still r (o.still r m); rest = λ r m. go r (f.rest r m) }
    where
      fresh : (r : ℕ) → New a b r → Either (Met r a) (a.at < r)
      fresh r (old m) = this m
      fresh r (new l h) = that l

      go : (r : ℕ) → Either (Met r b) (b.at < r) → Either (Met r a) (a.at < r)
      go r (this m) = fresh r (o.fresh r m)
      go r (that l) = that (omega (arith, o.on))

  good_on : {a b : State} → Onward a b → Good a → Good b
  good_on {a} {b} o g = record { begun = omega (arith, o.on, g.begun); behind = λ r m. go r (o.fresh r m) }
    where
      go : (r : ℕ) → New a b r → r + 4 ≤ b.at
      go r (old m) = omega (arith, g.behind r m, o.on)
      go r (new l h) = h

  -- the byte at a state's place, and the bytes up to a later state with the same references
  here : {st : State} → Good st → Fin st → st.at < length t → get_or t st.at 0 ≡ get_or s st.at 0
  here {st} g f l = low.byte st.at g.begun l (λ r m. go r (f.rest r m))
    where
      go : (r : ℕ) → Either (Met r st) (st.at < r) → Apart r st.at
      go r (this m) = past (g.behind r m)
      go r (that h) = ahead h

  upto : {a b : State} → Good a → Fin b → b.met ≡ a.met → (i : ℕ) → a.at ≤ i → i < b.at → get_or t i 0 ≡ get_or s i 0
  upto {a} {b} g f e i l h = low.byte i (omega (arith, g.begun)) (omega (arith, f.within)) (λ r m. go r (f.rest r m))
    where
      go : (r : ℕ) → Either (Met r b) (b.at < r) → Apart r i
      go r (this m) = past (omega (arith, g.behind r (rw e at m)))
      go r (that q) = ahead (omega arith)

  abbrev FinV : ℕ × State → Type 0
  FinV r = Fin r.1

  abbrev FinC : Chain → Type 0
  FinC c = Fin c.st

  abbrev FinF : State → Front → Type 0
  FinF st (known v a) = Fin (referred a st)
  FinF st (opens l g f) = Fin (enter st (f.place + f.size) g)

  -- The front.

  abbrev I : Front → Front
  I r = r

  opened_less : (st : State) → Good st → (l g at : ℕ) → at ≡ st.at + 1 → (r r' : Answer Fields)
      → ((hi : ℕ) → hi ≤ length t → ((i : ℕ) → at ≤ i → i < hi → get_or t i 0 ≡ get_or s i 0) → AccA (λ f. f.place + f.size ≡ hi) r → r' ≡ r)
      → Acc (FinF st) (opened l g r) → opened l g r ≡ slotted B I (opened l g r')
  unfolding slotted enter
  opened_less st gd l g at e (stops n p) r' k acc = absurd acc
  opened_less st gd l g at e (gives f) r' k acc =
      let q = k (f.place + f.size) acc.within (λ i lo h. upto {a = st} {b = enter st (f.place + f.size) g} gd acc refl i (omega arith) h) refl in
      rw q refl

  reserving_less : (st : State) (g used used' at : ℕ) (m m' : Reading Front) → used' ≡ B + used → (Acc (FinF st) m' → m' ≡ slotted B I m)
      → Acc (FinF st) (reserving g used' at m') → reserving g used' at m' ≡ slotted B I (reserving g used at m)
  unfolding slotted
  reserving_less st zero used used' at m m' e k acc = k acc
  reserving_less st (suc g) used used' at m m' e k acc =
      let z : used' + 1 ≡ B + (used + 1) = omega arith in
      rw (z, k acc) refl

  met_self : (st : State) (a : ℕ) → Met (st.at + 1) (referred a st)
  met_self st a = rw (eq-eqb (st.at + 1) (st.at + 1) refl) refl

  reference_less : (st : State) → Good st → Acc (FinF st) (reads (reference s (X ++ st.slots) (st.at + 1)))
      → reads (reference s (X ++ st.slots) (st.at + 1)) ≡ slotted B I (reads (reference t st.slots (st.at + 1)))
  unfolding reference slotted
  reference_less st gd acc = fits (leb (st.at + 1 + 4) (length s)) refl acc
    where
      at : ℕ
      at = st.at + 1

      found : (x : ℕ) → get_or (X ++ st.slots) (le32 s (st.at + 1)) 0 ≡ x → Acc (FinF st) (reads (stored (st.at + 1) x))
          → reads (stored (st.at + 1) x) ≡ slotted B I (reads (field t (st.at + 1) 4 (stored (st.at + 1) (get_or st.slots (le32 t (st.at + 1)) 0))))
      found zero e acc = absurd acc
      found (suc v) e acc =
          let i = low.index (st.at + 1) (acc.still (st.at + 1) (met_self st (st.at + 1 + 4))) (omega (arith, gd.begun)) acc.within in
          let z : get_or st.slots (le32 t (st.at + 1)) 0 ≡ suc v = sym (get_or-append-add X st.slots (le32 t (st.at + 1)) 0) ∙ ap (λ j. get_or (X ++ st.slots) j 0) i ∙ e in
          rw (le-leb (st.at + 1 + 4) (length t) acc.within, z) refl

      fits : (c : Bool) → leb (st.at + 1 + 4) (length s) ≡ c → Acc (FinF st) (reads (cond c (stored (st.at + 1) (get_or (X ++ st.slots) (le32 s (st.at + 1)) 0)) (stops data_too_short (st.at + 1))))
          → reads (cond c (stored (st.at + 1) (get_or (X ++ st.slots) (le32 s (st.at + 1)) 0)) (stops data_too_short (st.at + 1)))
          ≡ slotted B I (reads (field t (st.at + 1) 4 (stored (st.at + 1) (get_or st.slots (le32 t (st.at + 1)) 0))))
      fits true q acc = found (get_or (X ++ st.slots) (le32 s (st.at + 1)) 0) refl acc
      fits false q acc = absurd acc

  header_less : (st : State) → Good st → (depth nodes used used' l g : ℕ) → used' ≡ B + used → (c : Class)
      → Acc (FinF st) (header s depth st.at nodes used' (X ++ st.slots) l g c)
      → header s depth st.at nodes used' (X ++ st.slots) l g c ≡ slotted B I (header t depth st.at nodes used st.slots l g c)
  unfolding header slotted
  header_less st gd depth nodes used used' l g e refers acc = reference_less st gd acc
  header_less st gd depth nodes used used' l g e (refuses n) acc = reserving_less st g used used' st.at (refused n st.at) (refused n st.at) e (λ a. refl) acc
  header_less st gd depth nodes used used' l g e (keeps form) acc =
      reserving_less st g used used' st.at _ _ e
      (λ a. ap (claim node (nodes + 1) st.at) (opened_less st gd l g (st.at + 1) refl (fields s form (st.at + 1)) (fields t form (st.at + 1))
      (λ hi h alike q. fields_less s t low.inside hi h form (st.at + 1) alike q) a)) acc
  header_less st gd depth nodes used used' l g e (contains sort) acc =
      reserving_less st g used used' st.at _ _ e
      (λ a. ap (claim node (nodes + 1) st.at) (opened_less st gd l g (st.at + 1) refl (contained s sort (st.at + 1)) (contained t sort (st.at + 1))
      (λ hi h alike q. contained_less s t low.inside hi h sort (st.at + 1) alike q) a)) acc
  header_less st gd depth nodes used used' l g e codes acc =
      reserving_less st g used used' st.at _ _ e
      (λ a. ap (λ m. claim node (nodes + 1) st.at (claim level (depth + 2) (st.at + 1) m))
      (opened_less st gd l g (st.at + 1) refl (code_fields s (st.at + 1)) (code_fields t (st.at + 1)) (λ hi h alike q. code_fields_less s t low.inside hi h (st.at + 1) q) a)) acc

  front_fin : (st : State) (r : Front) → FrontEnds s st.at r → FinF st r → (st.at < length t) × Fin st
  unfolding enter
  front_fin st (known v a) e f = (omega (arith, f.within), fin_back {a = st} {b = referred a st} (onward-referred st a e) f)
  front_fin st (opens l g k) e f =
      (omega (arith, f.within, e.place), fin_back {a = st} {b = enter st (k.place + k.size) g} (onward_same st (enter st (k.place + k.size) g) (omega (arith, e.place)) refl) f)

  front_go : (st : State) → Good st → (depth nodes used used' : ℕ) → used' ≡ B + used → st.at < length t → Fin st → Acc (FinF st) (front s depth st.at nodes used' (X ++ st.slots))
      → front s depth st.at nodes used' (X ++ st.slots) ≡ slotted B I (front t depth st.at nodes used st.slots)
  unfolding front slotted
  front_go st gd depth nodes used used' e l fin acc =
      ap (claim level (depth + 1) st.at)
      (less_cond B (FinF st) I (ltb st.at (length t)) (ltb st.at (length s)) _ _ _ _ acc
      (λ q a. (lt-ltb st.at (length t) l, rw (here {st = st} gd fin l) (header_less st gd depth nodes used used' _ _ e (class_of (letter_of (get_or s st.at 0))) a)))
      (λ q a. absurd a))

  front_less : (st : State) → Good st → (depth nodes used used' : ℕ) → used' ≡ B + used → Acc (FinF st) (front s depth st.at nodes used' (X ++ st.slots))
      → front s depth st.at nodes used' (X ++ st.slots) ≡ slotted B I (front t depth st.at nodes used st.slots)
  front_less st gd depth nodes used used' e acc =
      let q = acc_back (FrontEnds s st.at) (FinF st) (front s depth st.at nodes used' (X ++ st.slots)) (front_ends s depth st.at nodes used' (X ++ st.slots)) acc
      (λ r ends fin. front_fin st r ends fin) in
      front_go st gd depth nodes used used' e q.0 q.1 acc

  -- The children.

  abbrev Less : Reader → Reader → Type 0
  Less f f' = (st : State) → Good st → Acc FinV (f (up st)) → f (up st) ≡ slotted B UV (f' st)

  -- a child that was read, tested and attached
  abbrev tested : Rule → Chain → ℕ × State → Reading Chain
  tested rule c r =
      cond (suits rule r.1.nodes r.1.entries r.0) (claim entry (length r.1.entries + 1) c.st.at (done (attach c r.0 r.1))) (refused bad_type c.st.at)

  child_less : (rule : Rule) (f f' : Reader) → Goes f → Less f f' → (c : Chain) → Good c.st → Acc FinC (child rule f (UC c)) → child rule f (UC c) ≡ slotted B UC (child rule f' c)
  unfolding child slotted attach
  child_less rule f f' goes less c gd acc =
      less_bind B (OnValue (up c.st)) FinV FinC UV UC (f (up c.st)) (f' c.st) _ _ (goes (up c.st))
      (λ r on a. acc_back (λ d. Onward r.1 d.st) FinC (tested rule (UC c) r)
      (ends-cond (λ d. Onward r.1 d.st) (suits rule r.1.nodes r.1.entries r.0) (claim entry (length r.1.entries + 1) c.st.at (done (attach (UC c) r.0 r.1)))
      (refused bad_type c.st.at)
      (onward_same r.1 (attach (UC c) r.0 r.1).st (omega arith) refl) tt) a
      (λ d o fin. fin_back {a = r.1} {b = d.st} o fin))
      (less c.st gd)
      (λ r on a. less_cond B FinC UC (suits rule r.1.nodes r.1.entries r.0) (suits rule r.1.nodes r.1.entries r.0) _ _ _ _ a (λ q z. (q, refl)) (λ q z. absurd z))
      acc

  good_chain : (c d : Chain) → Good c.st → OnChain (UC c) (UC d) → Good d.st
  good_chain c d g o =
      let q = good_on {a = up c.st} {b = up d.st} o (record { begun = g.begun; behind = g.behind }) in
      record { begun = q.begun; behind = q.behind }

  kids_less : (f f' : Reader) → Goes f → Less f f' → (n : ℕ) (c : Chain) → Good c.st → Acc FinC (kids f n (UC c)) → kids f n (UC c) ≡ slotted B UC (kids f' n c)
  unfolding kids slotted
  kids_less f f' goes less zero c gd acc = refl
  kids_less f f' goes less (suc n) c gd acc =
      less_bind B (OnChild (UC c)) FinC FinC UC UC (child whatever f (UC c)) (child whatever f' c) (kids f n) (kids f' n) (child-ends whatever f goes (UC c))
      (λ d on a. acc_back (OnChain d) FinC (kids f n d) (kids-ends f goes n d) a (λ e o fin. fin_back {a = d.st} {b = e.st} o fin))
      (child_less whatever f f' goes less c gd)
      (λ d on a. kids_less f f' goes less n d (good_chain c d gd on.1) a)
      acc

  couples_less : (f f' : Reader) → Goes f → Less f f' → (fuel : ℕ) (c : Chain) → Good c.st → Acc FinC (couples f s fuel (UC c)) → couples f s fuel (UC c) ≡ slotted B UC (couples f' t fuel c)
  unfolding couples slotted
  couples_less f f' goes less zero c gd acc = absurd acc
  couples_less f f' goes less (suc fuel) c gd acc =
      less_cond B FinC UC (ltb c.st.at (length t)) (ltb c.st.at (length s)) _ _ _ _ acc
      (λ q a. inner (λ e g y. couples_less f f' goes less fuel e g y) (ends_dict (get_or s c.st.at 0)) refl a) (λ q a. absurd a)
    where
      Again : Type 0
      Again = (e : Chain) → Good e.st → Acc FinC (couples f s fuel (UC e)) → couples f s fuel (UC e) ≡ slotted B UC (couples f' t fuel e)

      more : Reading Chain
      more = bind (child whatever f (UC c)) (λ d. bind (child whatever f d) (couples f s fuel))

      more' : Reading Chain
      more' = bind (child whatever f' c) (λ d. bind (child whatever f' d) (couples f' t fuel))

      pair_fin : (d : Chain) → Acc FinC (bind (child whatever f d) (couples f s fuel)) → FinC d
      pair_fin d a =
          acc_back (OnChild d) FinC (child whatever f d) (child-ends whatever f goes d)
          (acc_first (OnChild d) FinC FinC (child whatever f d) (couples f s fuel) (child-ends whatever f goes d)
          (λ e on z. acc_back (OnChain e) FinC (couples f s fuel e) (couples-ends f s goes fuel e) z (λ g o fin. fin_back {a = e.st} {b = g.st} o fin)) a)
          (λ e on fin. fin_back {a = d.st} {b = e.st} on.1 fin)

      start_fin : Acc FinC more → (c.st.at < length t) × Fin c.st
      start_fin a =
          acc_back (OnChild (UC c)) FinC (child whatever f (UC c)) (child-ends whatever f goes (UC c))
          (acc_first (OnChild (UC c)) FinC FinC (child whatever f (UC c)) _ (child-ends whatever f goes (UC c)) (λ d on z. pair_fin d z) a)
          (λ d on fin. (omega (arith, on.0, fin.within), same_fin (fin_back {a = up c.st} {b = d.st} on.1 fin)))
        where
          same_fin : Fin (up c.st) → Fin c.st
          same_fin f = record { within = f.within; still = f.still; rest = f.rest }

      pairs_less : Again → Acc FinC more → more ≡ slotted B UC more'
      pairs_less again a =
          less_bind B (OnChild (UC c)) FinC FinC UC UC (child whatever f (UC c)) (child whatever f' c) _ _ (child-ends whatever f goes (UC c)) (λ d on z. pair_fin d z)
          (child_less whatever f f' goes less c gd)
          (λ d on z. less_bind B (OnChild (UC d)) FinC FinC UC UC (child whatever f (UC d)) (child whatever f' d) (couples f s fuel) (couples f' t fuel) (child-ends whatever f goes (UC d))
          (λ e on' y. acc_back (OnChain e) FinC (couples f s fuel e) (couples-ends f s goes fuel e) y (λ g o fin. fin_back {a = e.st} {b = g.st} o fin))
          (child_less whatever f f' goes less d (good_chain c d gd on.1))
          (λ e on' y. again e (good_chain d e (good_chain c d gd on.1) on'.1) y)
          z)
          a

      inner : Again → (e : Bool) → ends_dict (get_or s c.st.at 0) ≡ e → Acc FinC (cond e (done (passed 1 (UC c))) more)
          → (ltb c.st.at (length t) ≡ true) × (cond e (done (passed 1 (UC c))) more ≡ slotted B UC (cond (ends_dict (get_or t c.st.at 0)) (done (passed 1 c)) more'))
      inner again true q a =
          let l : c.st.at < length t = omega (arith, a.within) in
          let fin : Fin c.st = fin_back {a = c.st} {b = (passed 1 (UC c)).st} (onward_same c.st (passed 1 (UC c)).st (omega arith) refl) a in
          (lt-ltb c.st.at (length t) l, rw (here {st = c.st} gd fin l, q) refl)
      inner again false q a =
          let z = start_fin a in
          (lt-ltb c.st.at (length t) z.0, rw (here {st = c.st} gd z.1 z.0, q) (pairs_less again a))

  first_line_less : (i : ℕ) (c : Chain) → Acc FinC (first_line_of s i (UC c)) → first_line_of s i (UC c) ≡ slotted B UC (first_line_of t i c)
  unfolding first_line_of slotted
  first_line_less i c acc =
      less_cond B FinC UC (eqb i line_part) (eqb i line_part) _ _ _ _ acc (λ q a. (q, inner (leb (c.st.at + 4) (length s)) a)) (λ q a. (q, refl))
    where
      inner : (e : Bool) → Acc FinC (reads (cond e (gives (lined (UC c))) (stops data_too_short c.st.at)))
          → reads (cond e (gives (lined (UC c))) (stops data_too_short c.st.at)) ≡ slotted B UC (reads (field t c.st.at 4 (gives (lined c))))
      inner true a = rw (le-leb (c.st.at + 4) (length t) a.within) refl
      inner false a = absurd a

  parts_from_less : (f f' : Reader) → Goes f → Less f f' → (n i : ℕ) (c : Chain) → Good c.st → Acc FinC (parts_from f s n i (UC c)) → parts_from f s n i (UC c) ≡ slotted B UC (parts_from f' t n i c)
  unfolding parts_from slotted
  parts_from_less f f' goes less zero i c gd acc = refl
  parts_from_less f f' goes less (suc n) i c gd acc =
      less_bind B (OnChain (UC c)) FinC FinC UC UC (first_line_of s i (UC c)) (first_line_of t i c) _ _ (first_line-ends s i (UC c)) (λ d on z. part_fin d z) (first_line_less i c)
      (λ d on z. less_bind B (OnChild (UC d)) FinC FinC UC UC (child (get_or rules i whatever) f (UC d)) (child (get_or rules i whatever) f' d) (parts_from f s n (i + 1)) (parts_from f' t n (i + 1))
      (child-ends (get_or rules i whatever) f goes (UC d))
      (λ e on' y. acc_back (OnChain e) FinC (parts_from f s n (i + 1) e) (parts_from-ends f s goes n (i + 1) e) y (λ g o fin. fin_back {a = e.st} {b = g.st} o fin))
      (child_less (get_or rules i whatever) f f' goes less d (good_chain c d gd on))
      (λ e on' y. parts_from_less f f' goes less n (i + 1) e (good_chain d e (good_chain c d gd on) on'.1) y)
      z)
      acc
    where
      part_fin : (d : Chain) → Acc FinC (bind (child (get_or rules i whatever) f d) (parts_from f s n (i + 1))) → FinC d
      part_fin d a =
          acc_back (OnChild d) FinC (child (get_or rules i whatever) f d) (child-ends (get_or rules i whatever) f goes d)
          (acc_first (OnChild d) FinC FinC (child (get_or rules i whatever) f d) (parts_from f s n (i + 1)) (child-ends (get_or rules i whatever) f goes d)
          (λ e on z. acc_back (OnChain e) FinC (parts_from f s n (i + 1) e) (parts_from-ends f s goes n (i + 1) e) z (λ g o fin. fin_back {a = e.st} {b = g.st} o fin)) a)
          (λ e on fin. fin_back {a = d.st} {b = e.st} on.1 fin)

  ended_less : (at : ℕ) (c : Chain) → sum_at t (at + 1) ≡ sum_at s (at + 1) → Acc FinC (ended s at (UC c)) → ended s at (UC c) ≡ slotted B UC (ended t at c)
  unfolding ended slotted
  ended_less at c e acc = rw e (less_cond B FinC UC (eqb (fault_of s at c) accepted) (eqb (fault_of s at c) accepted) _ _ _ _ acc (λ q z. (q, refl)) (λ q z. absurd z))

  -- A value, whole.

  abbrev SumSame : ℕ → Children → Type 0
  SumSame at (items n) = Unit
  SumSame at pairs = Unit
  SumSame at parts = sum_at t (at + 1) ≡ sum_at s (at + 1)

  body_less : (g g' : ℕ → Reader) → ((d : ℕ) → Goes (g d)) → ((d : ℕ) → Less (g d) (g' d)) → (fuel depth at : ℕ) (ch : Children) → SumSame at ch → (c : Chain) → Good c.st
      → Acc FinC (body g s fuel depth at ch (UC c)) → body g s fuel depth at ch (UC c) ≡ slotted B UC (body g' t fuel depth at ch c)
  unfolding body
  body_less g g' goes less fuel depth at (items n) e c gd acc = kids_less (g (depth + 1)) (g' (depth + 1)) (goes (depth + 1)) (less (depth + 1)) n c gd acc
  body_less g g' goes less fuel depth at pairs e c gd acc = couples_less (g (depth + 1)) (g' (depth + 1)) (goes (depth + 1)) (less (depth + 1)) fuel c gd acc
  body_less g g' goes less fuel depth at parts e c gd acc =
      less_bind B (OnChain (UC c)) FinC FinC UC UC (parts_from (g (depth + 2)) s code_parts 0 (UC c)) (parts_from (g' (depth + 2)) t code_parts 0 c) (ended s at) (ended t at)
      (parts_from-ends (g (depth + 2)) s (goes (depth + 2)) code_parts 0 (UC c))
      (λ d on a. acc_back (OnChain d) FinC (ended s at d) (ended-ends s at d) a (λ e' o fin. fin_back {a = d.st} {b = e'.st} o fin))
      (parts_from_less (g (depth + 2)) (g' (depth + 2)) (goes (depth + 2)) (less (depth + 2)) code_parts 0 c gd)
      (λ d on a. ended_less at d e a)
      acc

  module _ (g g' : ℕ → Reader) (goes : (d : ℕ) → Goes (g d)) (less : (d : ℕ) → Less (g d) (g' d)) (fuel depth : ℕ) (st : State) (gd : Good st) where
    -- the state in which the children begin
    entered_fin : (l fl : ℕ) (f : Fields) → Acc FinV (after g s fuel depth (up st) (opens l fl f)) → Fin (enter st (f.place + f.size) fl)
    unfolding after enter close
    entered_fin l fl f acc =
        let c = fresh (enter (up st) (f.place + f.size) fl) in
        acc_back (OnChain c) FinC (body g s fuel depth st.at f.children c) (body-ends g s goes fuel depth st.at f.children c)
        (acc_first (OnChain c) FinC FinV (body g s fuel depth st.at f.children c) (λ d. done (length st.nodes, close (up st) l fl f d))
        (body-ends g s goes fuel depth st.at f.children c)
        (λ d on a. fin_back {a = d.st} {b = close (up st) l fl f d} (onward_same d.st (close (up st) l fl f d) (omega arith) refl) a) acc)
        (λ d on fin. fin_back {a = enter st (f.place + f.size) fl} {b = c.st} (onward_same (enter st (f.place + f.size) fl) c.st (omega arith) refl) (fin_back {a = c.st} {b = d.st} on fin))

    front_back : (r : Front) → Acc FinV (after g s fuel depth (up st) r) → FinF st r
    unfolding after
    front_back (known v a) acc = fin_back {a = referred a st} {b = referred a (up st)} (onward_same (referred a st) (referred a (up st)) (omega arith) refl) acc
    front_back (opens l fl f) acc = entered_fin l fl f acc

    sum_same : (l fl : ℕ) (f : Fields) → Ahead s (st.at + 1) f → Fin (enter st (f.place + f.size) fl) → (ch : Children) → f.children ≡ ch → SumSame st.at ch
    unfolding enter
    sum_same l fl f e fin (items n) q = tt
    sum_same l fl f e fin pairs q = tt
    sum_same l fl f e fin parts q =
        let z : f.place + f.size ≡ st.at + 1 + code_numbers = rw q at e.code in
        sum_less s t low.inside (f.place + f.size) fin.within (st.at + 1) (λ i lo h. upto {a = st} {b = enter st (f.place + f.size) fl} gd fin refl i (omega arith) h) (omega arith)

    closed_fin : (d : Chain) (l fl : ℕ) (f : Fields) → Fin (close (up st) l fl f d) → Fin d.st
    unfolding close
    closed_fin d l fl f a = fin_back {a = d.st} {b = close (up st) l fl f d} (onward_same d.st (close (up st) l fl f d) (omega arith) refl) a

    entering : (fl : ℕ) (f : Fields) → Ahead s (st.at + 1) f → Good (enter st (f.place + f.size) fl)
    unfolding enter
    entering fl f e = good_on {a = st} {b = enter st (f.place + f.size) fl} (onward_same st (enter st (f.place + f.size) fl) (omega (arith, e.place)) refl) gd

    after_less : (r : Front) → FrontEnds s st.at r → Acc FinV (after g s fuel depth (up st) r) → after g s fuel depth (up st) r ≡ slotted B UV (after g' t fuel depth st r)
    unfolding after slotted
    after_less (known v a) e acc = refl
    after_less (opens l fl f) e acc =
        let fin = entered_fin l fl f acc in
        let q = enter_up X st (f.place + f.size) fl in
        let c = fresh (enter st (f.place + f.size) fl) in
        rw q
        (less_bind B (OnChain (UC c)) FinC FinV UC UV (body g s fuel depth st.at f.children (UC c)) (body g' t fuel depth st.at f.children c) _ _
        (body-ends g s goes fuel depth st.at f.children (UC c))
        (λ d on a. closed_fin d l fl f a)
        (body_less g g' goes less fuel depth st.at f.children (sum_same l fl f e fin f.children refl) c (entering fl f e))
        (λ d on a. ap (λ z. done (length st.nodes, z)) (close_up X st l fl f d))
        (rw q at acc))

  pub value_less : (fuel depth : ℕ) → Less (value fuel s depth) (value fuel t depth)
  unfolding value one
  value_less zero depth st gd acc = absurd acc
  value_less (suc fuel) depth st gd acc =
      less_bind B (FrontEnds s st.at) (FinF st) FinV I UV (front s depth st.at (length st.nodes) (length (X ++ st.slots)) (X ++ st.slots))
      (front t depth st.at (length st.nodes) (length st.slots) st.slots)
      (after (value fuel s) s fuel depth (up st)) (after (value fuel t) t fuel depth st)
      (front_ends s depth st.at (length st.nodes) (length (X ++ st.slots)) (X ++ st.slots))
      (λ r e a. front_back (value fuel s) (value fuel t) (λ d. value-ends fuel s d) (λ d. value_less fuel d) fuel depth st gd r a)
      (front_less st gd depth (length st.nodes) (length st.slots) (length (X ++ st.slots)) (length-append X st.slots))
      (λ r e a. after_less (value fuel s) (value fuel t) (λ d. value-ends fuel s d) (λ d. value_less fuel d) fuel depth st gd r e a)
      acc
