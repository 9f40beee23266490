-- Every step of the reading keeps what Standing says of a state, claims and refuses at places of the input only, and refuses for the input's
-- own sake only. One law a definition of Steps. Assumes an input of 16 MiB at most.
use mathlib.Core.Path.{◌≡◌, refl}
use Prim.Native.Nat.{ℕ, zero, suc, ◌+◌, ◌%◌, ◌≤◌, ◌<◌}
use native.Mathlib.Omega.{arith}
use mathlib.Core.Bool.{Bool, true, false, cond}
use mathlib.Core.List.{List, [], ◌∷◌}
use lib.ListN.{length, get_or, length-append}
use lib.Dec.{ltb, eqb}
use borrow.Author.Tests.{ltb-true, ltb-false, eqb-false}
use Rattle.refusals.specs.Numbers.{accepted, eof_object, invalid_bytecode, number_range}
use Rattle.refusals.specs.Limits.{most_bytes}
use Rattle.grammar.specs.Reading.{level, node, slot, Reading, done, refused, Answer, gives, stops}
use Rattle.grammar.specs.Letters.{Class, refers, keeps, contains, codes, refuses, letter_of, class_of, ends_dict, among}
use Rattle.grammar.specs.Fields.{Fields, Children, items, pairs, parts, field, le32, code_numbers, sum_at, fields, contained, code_fields, code_fault}
use Rattle.grammar.specs.State.{State, start, blank, moved_to}
use Rattle.grammar.specs.Steps.{Front, known, opens, stored, reference, reserving, opened, header, front, Chain, fresh, attach, Rule, whatever, suits, Reader, child, kids, passed, couples, code_parts, rules, code_part, locals_part, kinds_part, line_part, lined, first_line_of, parts_from, fault_of, ended, body, enter, after, one, value}
use Rattle.grammar.proofs.Following.{Need, raise, Follows, FollowsA, follows_bind, follows_cond, follows_reads}
use Rattle.grammar.proofs.Standing.{Holds, Valued, Chained, attached, Claimed, entered, started, closed}
use Rattle.grammar.proofs.Fielding.{of_input, Own, NotParts, Said, field_in, fields_in, code_fields_in, contained_in, Filled, closing_sound, said-ahead, said-within, own_class, class_own}

-- A node is known, or its letter, flag and fields are, and its node and slot are claimed.
pub record Opens (s : List ℕ) (st : State) (t : Need) (l g : ℕ) (f : Fields) : Type 0 where
  pub class : Class
  pub is : class_of l ≡ class
  pub said : Said s class (st.at + 1) f
  pub claimed : Claimed t g st

pub record Known (s : List ℕ) (st : State) (t : Need) (v at : ℕ) : Type 0 where
  pub past : st.at < at
  pub within : at ≤ length s
  pub named : v < length st.nodes
  pub holds : Holds s t st

abbrev pub Fronted : List ℕ → State → Need → Front → Type 0
Fronted s st t (known v at) = Known s st t v at
Fronted s st t (opens l g f) = Opens s st t l g f

-- a level is claimed: nodes, entries and slots are as before
deeper : {s : List ℕ} {t : Need} {st : State} (n : ℕ) → Holds s t st → Holds s (raise level n t) st
deeper n h =
    record {
      within = h.within;
      few-nodes = h.few-nodes;
      few-entries = h.few-entries;
      few-slots = h.few-slots;
      claimed_nodes = h.claimed_nodes;
      claimed_entries = h.claimed_entries;
      claimed_slots = h.claimed_slots;
      entries_in_lem = h.entries_in_lem;
      slots_in = h.slots_in;
    }

abbrev reserved : ℕ → ℕ → Need → Need
reserved zero used t = t
reserved (suc g) used t = raise slot (used + 1) t

claims-both : {s : List ℕ} {t : Need} {st : State} (g : ℕ) → Holds s t st → Claimed (raise node (length st.nodes + 1) (reserved g (length st.slots) t)) g st
claims-both zero h =
    record { nodes = omega (arith, h.claimed_nodes); entries = h.claimed_entries; slots = omega (arith, h.claimed_slots) }
claims-both (suc g) h =
    record { nodes = omega (arith, h.claimed_nodes); entries = h.claimed_entries; slots = omega (arith, h.claimed_slots) }

module _ (s : List ℕ) (small : length s ≤ most_bytes) where
  abbrev pub Q : ℕ → ℕ → Type 0
  Q n p = Own s n p

  abbrev pub C : ℕ → Type 0
  C p = p ≤ length s

  -- Before the children.

  reserving-keeps : {A : Type 0} (P : Need → A → Type 0) (t : Need) (g used at : ℕ) (m : Reading A) → at ≤ length s → Follows Q C P (reserved g used t) m → Follows Q C P t (reserving g used at m)
  reserving-keeps P t zero used at m l e = e
  reserving-keeps P t (suc g) used at m l e = (l, e)

  opened-keeps : (st : State) (t : Need) (l g : ℕ) (c : Class) (r : Answer Fields) → class_of l ≡ c → Claimed t g st → FollowsA Q (Said s c (st.at + 1)) r → Follows Q C (Fronted s st) t (opened l g r)
  opened-keeps st t l g c (gives f) e k h = record { class = c; is = e; said = h; claimed = k }
  opened-keeps st t l g c (stops n p) e k h = h

  stored-keeps : (st : State) (t : Need) (i : ℕ) → Holds s t st → st.at + 1 + 4 ≤ length s → i ≤ length st.nodes → FollowsA Q (Fronted s st t) (stored (st.at + 1) i)
  stored-keeps st t zero h l n = (refl, omega arith)
  stored-keeps st t (suc v) h l n = record { past = omega arith; within = l; named = omega arith; holds = h }

  header-keeps : (st : State) (t : Need) (depth l g : ℕ) (c : Class) → Holds s t st → st.at < length s → class_of l ≡ c
      → Follows Q C (Fronted s st) t (header s depth st.at (length st.nodes) (length st.slots) st.slots l g c)
  unfolding header reference
  header-keeps st t depth l g refers h here e =
      follows_reads Q C (Fronted s st) t (reference s st.slots (st.at + 1))
      (field_in s (Fronted s st t) (st.at + 1) 4 _ (omega arith) (λ q. stored-keeps st t _ h q (h.slots_in (le32 s (st.at + 1)))))
  header-keeps st t depth l g (refuses n) h here e =
      reserving-keeps (Fronted s st) t g (length st.slots) st.at (refused n st.at) h.within (own (class_own l), h.within)
    where
      own : own_class (class_of l) ≡ true → among n of_input ≡ true
      own q = rw e at q
  header-keeps st t depth l g (keeps form) h here e =
      reserving-keeps (Fronted s st) t g (length st.slots) st.at _ h.within
      (h.within, opened-keeps st _ l g (keeps form) (fields s form (st.at + 1)) e (claims-both g h) (fields_in s form (st.at + 1) (omega arith)))
  header-keeps st t depth l g (contains sort) h here e =
      reserving-keeps (Fronted s st) t g (length st.slots) st.at _ h.within
      (h.within, opened-keeps st _ l g (contains sort) (contained s sort (st.at + 1)) e (claims-both g h) (contained_in s sort (st.at + 1) (omega arith)))
  header-keeps st t depth l g codes h here e =
      reserving-keeps (Fronted s st) t g (length st.slots) st.at _ h.within
      (h.within, (omega arith, opened-keeps st _ l g codes (code_fields s (st.at + 1)) e (deeper_claimed (claims-both g h)) (code_fields_in s (st.at + 1) (omega arith))))
    where
      deeper_claimed : {t : Need} → Claimed t g st → Claimed (raise level (depth + 2) t) g st
      deeper_claimed k = record { nodes = k.nodes; entries = k.entries; slots = k.slots }

  pub front-keeps : (st : State) (t : Need) (depth : ℕ) → Holds s t st → Follows Q C (Fronted s st) t (front s depth st.at (length st.nodes) (length st.slots) st.slots)
  unfolding front
  front-keeps st t depth h = (
    h.within,
    follows_cond Q C (Fronted s st) (raise level (depth + 1) t) (ltb st.at (length s)) _ (refused eof_object (length s))
        (λ e. header-keeps st (raise level (depth + 1) t) depth _ _ (class_of (letter_of (get_or s st.at 0))) (deeper (depth + 1) h) (ltb-true st.at (length s) e) refl)
        (λ e. (refl, omega arith)),
  )

  -- The children.

  abbrev pub Keeps : Reader → Type 0
  Keeps f = (t : Need) (st : State) → Holds s t st → Follows Q C (Valued s st) t (f st)

  -- one child more
  pub record Childed (b : State) (c : Chain) (t : Need) (d : Chain) : Type 0 where
    pub chained : Chained s b t d
    pub past : c.st.at < d.st.at
    pub one_more : length d.kids ≡ length c.kids + 1
    pub line : d.line ≡ c.line

  pub child-keeps : (rule : Rule) (f : Reader) → Keeps f → (b : State) (t : Need) (c : Chain) → Chained s b t c → Follows Q C (Childed b c) t (child rule f c)
  unfolding child attach
  child-keeps rule f ok b t c k =
      follows_bind Q C (Valued s c.st) (Childed b c) t (f c.st) _ (ok t c.st k.holds)
      (λ t' r v. follows_cond Q C (Childed b c) t' (suits rule r.1.nodes r.1.entries r.0) _ _
      (λ e. (k.holds.within, record { chained = attached small k v; past = v.past; one_more = length-append c.kids (r.0 ∷ []); line = refl }))
      (λ e. (refl, k.holds.within)))

  abbrev pub Counting : State → ℕ → Need → Chain → Type 0
  Counting b n t c = Chained s b t c × (length c.kids ≡ n)

  pub kids-keeps : (f : Reader) → Keeps f → (b : State) (k n : ℕ) (t : Need) (c : Chain) → Chained s b t c → length c.kids + k ≡ n → Follows Q C (Counting b n) t (kids f k c)
  unfolding kids
  kids-keeps f ok b zero n t c h e = (h, omega arith)
  kids-keeps f ok b (suc k) n t c h e =
      follows_bind Q C (Childed b c) (Counting b n) t (child whatever f c) (kids f k) (child-keeps whatever f ok b t c h)
      (λ t' d q. kids-keeps f ok b k n t' d q.chained (omega (arith, q.one_more)))

  -- bytes are passed between children
  pub moved : {b : State} {t : Need} {c : Chain} (size : ℕ) (line : ℕ) → c.st.at + size ≤ length s → Chained s b t c
      → Chained s b t (record { kids = c.kids; first = c.first; last = c.last; line = line; st = moved_to (c.st.at + size) c.st })
  moved {b} {t} {c} size line l k =
      let h = k.holds in
      record {
        holds =
            record {
              within = l;
              few-nodes = omega (arith, h.few-nodes);
              few-entries = omega (arith, h.few-entries);
              few-slots = omega (arith, h.few-slots);
              claimed_nodes = h.claimed_nodes;
              claimed_entries = h.claimed_entries;
              claimed_slots = h.claimed_slots;
              entries_in_lem = h.entries_in_lem;
              slots_in = h.slots_in;
            };
        since = record { on = omega (arith, k.since.on); more_nodes = k.since.more_nodes; same_nodes = k.since.same_nodes; entries = k.since.entries };
        spent = omega (arith, k.spent);
        built = k.built;
        finished = k.finished;
      }

  abbrev pub Even : State → Need → Chain → Type 0
  Even b t c = Chained s b t c × (length c.kids % 2 ≡ 0)

  pub couples-keeps : (f : Reader) → Keeps f → (b : State) (fuel : ℕ) (t : Need) (c : Chain) → Chained s b t c → length c.kids % 2 ≡ 0 → Follows Q C (Even b) t (couples f s fuel c)
  unfolding couples
  couples-keeps f ok b zero t c h e = (refl, omega arith)
  couples-keeps f ok b (suc fuel) t c h e =
      follows_cond Q C (Even b) t (ltb c.st.at (length s)) _ (refused eof_object (length s))
      (λ q. follows_cond Q C (Even b) t (ends_dict (get_or s c.st.at 0)) (done (passed 1 c)) _
      (λ p. (moved 1 c.line (omega (arith, ltb-true c.st.at (length s) q)) h, e))
      (λ p. follows_bind Q C (Childed b c) (Even b) t (child whatever f c) _ (child-keeps whatever f ok b t c h)
      (λ t' d k. follows_bind Q C (Childed b d) (Even b) t' (child whatever f d) (couples f s fuel) (child-keeps whatever f ok b t' d k.chained)
      (λ t'' d' k'. couples-keeps f ok b fuel t'' d' k'.chained (omega (arith, k.one_more, k'.one_more))))))
      (λ q. (refl, omega arith))

  -- The first line stands behind the five numbers, and is read before the ninth part.
  pub record Lined (b : State) (i : ℕ) (c : Chain) : Type 0 where
    pub line : line_part < i → b.at ≤ c.line
    pub behind : line_part < i → c.line + 4 ≤ c.st.at

  pub record Parts (b : State) (i : ℕ) (t : Need) (c : Chain) : Type 0 where
    pub chained : Chained s b t c
    pub count : length c.kids ≡ i
    pub lined : Lined b i c

  pub record Ready (b : State) (i : ℕ) (t : Need) (c : Chain) : Type 0 where
    pub chained : Chained s b t c
    pub count : length c.kids ≡ i
    pub lined : Lined b (i + 1) c

  pub first_line-keeps : (b : State) (i : ℕ) (t : Need) (c : Chain) → Parts b i t c → Follows Q C (Ready b i) t (first_line_of s i c)
  unfolding first_line_of
  first_line-keeps b i t c p =
      follows_cond Q C (Ready b i) t (eqb i line_part) _ (done c)
      (λ e. follows_reads Q C (Ready b i) t (field s c.st.at 4 (gives (lined c)))
      (field_in s (Ready b i t) c.st.at 4 (gives (lined c)) p.chained.holds.within
      (λ q. record { chained = moved 4 c.st.at q p.chained; count = p.count; lined = record { line = λ z. p.chained.since.on; behind = λ z. omega arith } })))
      (λ e. record { chained = p.chained; count = p.count; lined = record { line = λ z. p.lined.line (later i (eqb-false i line_part e) z); behind = λ z. p.lined.behind (later i (eqb-false i line_part e) z) } })
    where
      later : (i : ℕ) → (i ≡ line_part → ⊥) → line_part < i + 1 → line_part < i
      later i q z = go (ltb line_part i) refl
        where
          go : (b : Bool) → ltb line_part i ≡ b → line_part < i
          go true e = ltb-true line_part i e
          go false e = absurd (q (omega (arith, ltb-false line_part i e)))

  pub parts_from-keeps : (f : Reader) → Keeps f → (b : State) (k i n : ℕ) (t : Need) (c : Chain) → i + k ≡ n → Parts b i t c → Follows Q C (Parts b n) t (parts_from f s k i c)
  unfolding parts_from
  parts_from-keeps f ok b zero i n t c e p =
      let z : i ≡ n = omega arith in
      rw (← z) p
  parts_from-keeps f ok b (suc k) i n t c e p =
      follows_bind Q C (Ready b i) (Parts b n) t (first_line_of s i c) _ (first_line-keeps b i t c p)
      (λ t' d r. follows_bind Q C (Childed b d) (Parts b n) t' (child (get_or rules i whatever) f d) (parts_from f s k (i + 1)) (child-keeps (get_or rules i whatever) f ok b t' d r.chained)
      (λ t'' d' q. parts_from-keeps f ok b k (i + 1) n t'' d' (omega arith)
      (record { chained = q.chained; count = omega (arith, q.one_more, r.count); lined = record { line = λ z. omega (arith, q.line, r.lined.line z); behind = λ z. omega (arith, q.line, q.past, r.lined.behind z) } })))

  -- the checks at the end of a code: a fault is 8 or 18, and without one the sum fits
  fault_own : (sum code_bytes local_names kinds : ℕ) → eqb (code_fault sum code_bytes local_names kinds) accepted ≡ false → among (code_fault sum code_bytes local_names kinds) of_input ≡ true
  fault_own sum code_bytes local_names kinds e = go (eqb local_names kinds) (ltb sum 4294967296) (eqb (code_bytes % 2) 0) e
    where
      go : (x y z : Bool) → eqb (cond x (cond y (cond z accepted invalid_bytecode) number_range) invalid_bytecode) accepted ≡ false
          → among (cond x (cond y (cond z accepted invalid_bytecode) number_range) invalid_bytecode) of_input ≡ true
      go true true true e = let w : ◌≡◌ {A = ℕ} 0 1 = cc in absurd (omega arith)
      go true true false e = refl
      go true false z e = refl
      go false y z e = refl

  no_fault : (sum code_bytes local_names kinds : ℕ) → eqb (code_fault sum code_bytes local_names kinds) accepted ≡ true → sum < 4294967296
  no_fault sum code_bytes local_names kinds e = ltb-true sum 4294967296 (go (eqb local_names kinds) (ltb sum 4294967296) (eqb (code_bytes % 2) 0) e)
    where
      go : (x y z : Bool) → eqb (cond x (cond y (cond z accepted invalid_bytecode) number_range) invalid_bytecode) accepted ≡ true → y ≡ true
      go true true z e = refl
      go true false z e = let w : ◌≡◌ {A = ℕ} 0 1 = cc in absurd (omega arith)
      go false y z e = let w : ◌≡◌ {A = ℕ} 0 1 = cc in absurd (omega arith)

  abbrev pub Filling : State → ℕ → Children → Need → Chain → Type 0
  Filling b at ch t c = Chained s b t c × Filled s (at + 1) ch c

  pub ended-keeps : (b : State) (at : ℕ) (t : Need) (c : Chain) → at ≤ length s → at + 1 + code_numbers ≤ b.at → Parts b code_parts t c → Follows Q C (Filling b at parts) t (ended s at c)
  unfolding ended
  ended-keeps b at t c l start p =
      follows_cond Q C (Filling b at parts) t (eqb (fault_of s at c) accepted) (done c) (refused (fault_of s at c) at)
      (λ e. (
        p.chained,
        record {
          count = p.count;
          line = omega (arith, p.lined.line (omega arith));
          within = omega (arith, p.lined.behind (omega arith), p.chained.holds.within);
          sum = no_fault (sum_at s (at + 1)) (size code_part) (count locals_part) (size kinds_part) e;
        },
      ))
      (λ e. (fault_own (sum_at s (at + 1)) (size code_part) (count locals_part) (size kinds_part) e, l))
    where
      size : ℕ → ℕ
      size k = (get_or c.st.nodes (get_or c.kids k 0) blank).size

      count : ℕ → ℕ
      count k = (get_or c.st.nodes (get_or c.kids k 0) blank).count

  -- a code's children begin behind its numbers
  abbrev pub Behind : ℕ → ℕ → Children → Type 0
  Behind at from (items k) = Unit
  Behind at from pairs = Unit
  Behind at from parts = at + 1 + code_numbers ≤ from

  pub body-keeps : (g : ℕ → Reader) → ((d : ℕ) → Keeps (g d)) → (b : State) (fuel depth at : ℕ) (ch : Children) (t : Need) → at ≤ length s → Behind at b.at ch → Chained s b t (fresh b)
      → Follows Q C (Filling b at ch) t (body g s fuel depth at ch (fresh b))
  unfolding body
  body-keeps g ok b fuel depth at (items k) t l h c = kids-keeps (g (depth + 1)) (ok (depth + 1)) b k k t (fresh b) c (omega arith)
  body-keeps g ok b fuel depth at pairs t l h c = couples-keeps (g (depth + 1)) (ok (depth + 1)) b fuel t (fresh b) c refl
  body-keeps g ok b fuel depth at parts t l h c =
      follows_bind Q C (Parts b code_parts) (Filling b at parts) t (parts_from (g (depth + 2)) s code_parts 0 (fresh b)) (ended s at)
      (parts_from-keeps (g (depth + 2)) (ok (depth + 2)) b code_parts 0 code_parts t (fresh b) refl
      (record { chained = c; count = refl; lined = record { line = λ z. absurd (omega arith); behind = λ z. absurd (omega arith) } }))
      (λ t' d p. ended-keeps b at t' d l h p)

  -- A value, whole.

  pub said-behind : (c : Class) (at : ℕ) (f : Fields) → Said s c (at + 1) f → Behind at (f.place + f.size) f.children
  said-behind refers at f h = absurd h
  said-behind (refuses n) at f h = absurd h
  said-behind (keeps form) at f h = plain f.children h.children
    where
      plain : (ch : Children) → NotParts ch → Behind at (f.place + f.size) ch
      plain (items k) q = tt
      plain pairs q = tt
      plain parts q = absurd q
  said-behind (contains sort) at f h = rw h.children tt
  said-behind codes at f h = rw h.is (omega arith)

  after-keeps : (g : ℕ → Reader) → ((d : ℕ) → Keeps (g d)) → (fuel depth : ℕ) (t₀ t : Need) (st : State) → Holds s t₀ st → (r : Front) → Fronted s st t r
      → Follows Q C (Valued s st) t (after g s fuel depth st r)
  unfolding after enter
  after-keeps g ok fuel depth t₀ t st h (known v at) k =
      let q = k.holds in
      record {
        holds =
            record {
              within = k.within;
              few-nodes = omega (arith, q.few-nodes, k.past);
              few-entries = omega (arith, q.few-entries, k.past);
              few-slots = omega (arith, q.few-slots, k.past);
              claimed_nodes = q.claimed_nodes;
              claimed_entries = q.claimed_entries;
              claimed_slots = q.claimed_slots;
              entries_in_lem = q.entries_in_lem;
              slots_in = q.slots_in;
            };
        since = record { on = omega (arith, k.past); more_nodes = omega arith; same_nodes = λ i q. refl; entries = record { longer = omega arith; entry = λ i q. refl } };
        past = k.past;
        spent = omega (arith, k.past);
        named = k.named;
        finished = λ i l u. absurd (omega arith);
      }
  after-keeps g ok fuel depth t₀ t st h (opens l fl f) o =
      let ahead = said-ahead s o.class (st.at + 1) f o.said in
      let inside = said-within s o.class (st.at + 1) f o.said in
      let b = entered fl (f.place + f.size) h o.claimed (omega arith) inside in
      follows_bind Q C (Filling (enter st (f.place + f.size) fl) st.at f.children) (Valued s st) t
      (body g s fuel depth st.at f.children (fresh (enter st (f.place + f.size) fl))) _
      (body-keeps g ok (enter st (f.place + f.size) fl) fuel depth st.at f.children t h.within (said-behind o.class st.at f o.said) (started b))
      (λ t' c k. closed l fl (f.place + f.size) f h (omega arith) k.0 (closing_sound s l (st.at + 1) f c (rw o.is o.said) k.1))

  pub value_keeps : (fuel depth : ℕ) → Keeps (value fuel s depth)
  unfolding value one
  value_keeps zero depth t st h = (h.within, (refl, omega arith))
  value_keeps (suc fuel) depth t st h =
      follows_bind Q C (Fronted s st) (Valued s st) t (front s depth st.at (length st.nodes) (length st.slots) st.slots) (after (value fuel s) s fuel depth st)
      (front-keeps st t depth h) (λ t' r k. after-keeps (value fuel s) (λ d. value_keeps fuel d) fuel depth t t' st h r k)
