-- Every step of an accepted reading leaves nodes that mean proper values: the value that was read, its children, and every slot that is
-- filled. One law a definition of the reading's steps. Assumes that the input is bytes, 16 MiB at most.
use mathlib.Core.Path.{◌≡◌, refl, sym, ap, subst, ◌∙◌}
use Prim.Native.Nat.{ℕ, zero, suc, ◌+◌, ◌≤◌, ◌<◌}
use native.Mathlib.Omega.{arith}
use mathlib.Core.Bool.{Bool, true, false, cond}
use mathlib.Core.List.{List, [], ◌∷◌}
use lib.ListN.{length, get_or, length-append, length-set}
use lib.Dec.{leb, ltb, eqb}
use borrow.Author.Tests.{ltb-true, ltb-false, eqb-true, leb-true}
use Rattle.refusals.specs.Numbers.{accepted, eof_object, data_too_short}
use Rattle.refusals.specs.Limits.{most_bytes}
use Rattle.grammar.specs.Reading.{done, refused, gives, stops}
use Rattle.grammar.specs.Letters.{codes, class_of, ends_dict}
use Rattle.grammar.specs.Fields.{Fields, Children, items, pairs, parts, field}
use Rattle.grammar.specs.State.{State, blank, moved_to}
use Rattle.grammar.specs.Steps.{Front, known, opens, front, Chain, fresh, attach, Rule, whatever, suits, Reader, child, kids, couples, passed, code_parts, rules, line_part, lined, first_line_of, parts_from, fault_of, ended, body, enter, close, after, one, value}
use Rattle.grammar.specs.Record.{sound}
use Rattle.grammar.proofs.Following.{Need, Follows, FollowsA, follows_bind, follows_map, follows_cond, follows_reads}
use Rattle.grammar.specs.Input.{Bytes}
use Rattle.grammar.proofs.Links.{built-linked}
use Rattle.grammar.proofs.Standing.{Holds, Valued, Chained, attached, entered, started, closing}
use Rattle.grammar.proofs.Fielding.{Own, said-ahead, said-within}
use Rattle.grammar.proofs.Keeping.{Fronted, front-keeps, value_keeps}
use Rattle.meaning.specs.Value.{Value, Values, nil, count_of}
use Rattle.meaning.specs.Proper.{Suits, SuitFrom, Proper, ProperAll}
use Rattle.meaning.proofs.Means.{Sees, Means, MeanAll, snoc, join, take_of, drop_of}
use Rattle.meaning.proofs.Standing.{InState, Onward, mean_all_on, since_on, attach_on, attach-means, enter_on, close_on, closed-node, inside}
use Rattle.meaning.proofs.Inversion.{node-suits}
use Rattle.meaning.proofs.Parts.{looked_at}
use Rattle.meaning.proofs.Goes.{follows_both, Anywhere}
use Rattle.meaning.proofs.Loops.{moved}
use Rattle.meaning.proofs.Sense.{CodeGood, Sense, sound_sense, suit_take, count-take}
use Rattle.meaning.proofs.Kept.{Always, sense_on, SlotsMean, slots_on, EveryFrom, reserve-slot, fill-slot, proper-snoc, count-snoc, suit_snoc, join-cut, FrontIs, front_is}

module _ (s : List ℕ) (small : length s ≤ most_bytes) (bytes : Bytes s) where
  -- A value that was read, and every slot, mean something.
  pub record Told (st : State) (t : Need) (r : ℕ × State) : Type 0 where
    pub valued : Valued s st t r
    pub slots : SlotsMean s r.1
    pub sense : Sense (InState s r.1) r.0
    pub every : EveryFrom s (length st.nodes) r.1

  abbrev pub Tells : Reader → Type 0
  Tells f = (t : Need) (st : State) → Holds s t st → SlotsMean s st → Follows Always Anywhere (Told st) t (f st)

  -- The children so far mean us.
  pub record ToldKids (b : State) (us : Values) (t : Need) (c : Chain) : Type 0 where
    pub chained : Chained s b t c
    pub slots : SlotsMean s c.st
    pub means : MeanAll (InState s c.st) c.kids us
    pub proper : ProperAll us
    pub every : EveryFrom s (length b.nodes) c.st

  pub record ToldChild (rule : Rule) (b : State) (us : Values) (t : Need) (c : Chain) : Type 0 where
    pub last : Value
    pub suit : Suits rule last
    pub kids : ToldKids b (snoc us last) t c

  -- those before a value is read, and its own
  both_every : (from : ℕ) (a b : State) → Onward s a b → EveryFrom s from a → EveryFrom s (length a.nodes) b → (i : ℕ) → from ≤ i → i < length b.nodes → (x : Bool) → ltb i (length a.nodes) ≡ x → Sense (InState s b) i
  both_every from a b o p q i l u true e = sense_on o (p i l (ltb-true i (length a.nodes) e))
  both_every from a b o p q i l u false e = q i (ltb-false i (length a.nodes) e) u

  child-told : (rule : Rule) (f : Reader) → Tells f → (b : State) (us : Values) (t : Need) (c : Chain) → ToldKids b us t c → Follows Always Anywhere (ToldChild rule b us) t (child rule f c)
  unfolding child attach
  child-told rule f ok b us t c k =
      follows_bind Always Anywhere (Told c.st) (ToldChild rule b us) t (f c.st) _ (ok t c.st k.chained.holds k.slots)
      (λ t' r v.
      follows_cond Always Anywhere (ToldChild rule b us) t' (suits rule r.1.nodes r.1.entries r.0) _ _
      (λ e. (
        tt,
        record {
          last = v.sense.value;
          suit = node-suits s r.1 rule r.0 v.sense.value e v.sense.means;
          kids =
              record {
                chained = attached small k.chained v.valued;
                slots = slots_on r.1 (attach c r.0 r.1).st (attach_on small k.chained v.valued) refl v.slots;
                means = attach-means small k.chained v.valued us v.sense.value k.means v.sense.means;
                proper = proper-snoc us v.sense.value k.proper v.sense.proper;
                every = λ i l u. sense_on (attach_on small k.chained v.valued) (both_every (length b.nodes) c.st r.1 (since_on small k.chained.holds v.valued.since) k.every v.every i l u (ltb i (length c.st.nodes)) refl);
              };
        },
      ))
      (λ e. tt))

  abbrev Some : State → Need → Chain → Type 0
  Some b t c = (us : Values) × ToldKids b us t c

  kids-told : (f : Reader) → Tells f → (b : State) (n : ℕ) (us : Values) (t : Need) (c : Chain) → ToldKids b us t c → Follows Always Anywhere (Some b) t (kids f n c)
  unfolding kids
  kids-told f ok b zero us t c k = (us, k)
  kids-told f ok b (suc n) us t c k =
      follows_bind Always Anywhere (ToldChild whatever b us) (Some b) t (child whatever f c) (kids f n) (child-told whatever f ok b us t c k)
      (λ t' d q. kids-told f ok b n (snoc us q.last) t' d q.kids)

  moved_told : {b : State} {us : Values} {t : Need} {c : Chain} (size line : ℕ) → c.st.at + size ≤ length s → ToldKids b us t c
      → ToldKids b us t (record { kids = c.kids; first = c.first; last = c.last; line = line; st = moved_to (c.st.at + size) c.st })
  moved_told size line l k = record { chained = moved size line l k.chained; slots = k.slots; means = k.means; proper = k.proper; every = k.every }

  couples-told : (f : Reader) → Tells f → (b : State) (fuel : ℕ) (us : Values) (t : Need) (c : Chain) → ToldKids b us t c → Follows Always Anywhere (Some b) t (couples f s fuel c)
  unfolding couples
  couples-told f ok b zero us t c k = tt
  couples-told f ok b (suc fuel) us t c k =
      follows_cond Always Anywhere (Some b) t (ltb c.st.at (length s)) _ (refused eof_object (length s))
      (λ q. follows_cond Always Anywhere (Some b) t (ends_dict (get_or s c.st.at 0)) (done (passed 1 c)) _
      (λ p. (us, moved_told 1 c.line (omega (arith, ltb-true c.st.at (length s) q)) k))
      (λ p. follows_bind Always Anywhere (ToldChild whatever b us) (Some b) t (child whatever f c) _ (child-told whatever f ok b us t c k)
      (λ t' d x. follows_bind Always Anywhere (ToldChild whatever b (snoc us x.last)) (Some b) t' (child whatever f d) (couples f s fuel) (child-told whatever f ok b (snoc us x.last) t' d x.kids)
      (λ t'' d' y. couples-told f ok b fuel (snoc (snoc us x.last) y.last) t'' d' y.kids))))
      (λ q. tt)

  -- the first i parts of a code
  pub record ToldParts (b : State) (i : ℕ) (us : Values) (t : Need) (c : Chain) : Type 0 where
    pub kids : ToldKids b us t c
    pub suit : SuitFrom 0 us
    pub many : count_of us ≡ i

  line_told_lem : (b : State) (i : ℕ) (us : Values) (t : Need) (c : Chain) → ToldParts b i us t c → Follows Always Anywhere (ToldParts b i us) t (first_line_of s i c)
  unfolding first_line_of
  line_told_lem b i us t c k =
      follows_cond Always Anywhere (ToldParts b i us) t (eqb i line_part) _ (done c)
      (λ e. follows_reads Always Anywhere (ToldParts b i us) t (field s c.st.at 4 (gives (lined c))) (go (leb (c.st.at + 4) (length s)) refl))
      (λ e. k)
    where
      go : (x : Bool) → leb (c.st.at + 4) (length s) ≡ x → FollowsA Always (ToldParts b i us t) (cond x (gives (lined c)) (stops data_too_short c.st.at))
      go true q = record { kids = moved_told 4 c.st.at (leb-true (c.st.at + 4) (length s) q) k.kids; suit = k.suit; many = k.many }
      go false q = tt

  abbrev AllParts : State → ℕ → Need → Chain → Type 0
  AllParts b n t c = (us : Values) × ToldParts b n us t c

  parts-told : (f : Reader) → Tells f → (b : State) (k i n : ℕ) (us : Values) (t : Need) (c : Chain) → i + k ≡ n → ToldParts b i us t c → Follows Always Anywhere (AllParts b n) t (parts_from f s k i c)
  unfolding parts_from
  parts-told f ok b zero i n us t c e p =
      let z : i ≡ n = omega (arith, e) in
      subst (λ m. AllParts b m t c) z (us, p)
  parts-told f ok b (suc k) i n us t c e p =
      follows_bind Always Anywhere (ToldParts b i us) (AllParts b n) t (first_line_of s i c) _ (line_told_lem b i us t c p)
      (λ t' d q. follows_bind Always Anywhere (ToldChild (get_or rules i whatever) b us) (AllParts b n) t' (child (get_or rules i whatever) f d) (parts_from f s k (i + 1)) (child-told (get_or rules i whatever) f ok b us t' d q.kids)
      (λ t'' d' x.
      let w : 0 + count_of us ≡ i = omega (arith, q.many) in
      parts-told f ok b k (i + 1) n (snoc us x.last) t'' d' (omega (arith, e))
      (record { kids = x.kids; suit = suit_snoc 0 us x.last q.suit (subst (λ m. Suits (get_or rules m whatever) x.last) (sym w) x.suit); many = count-snoc us x.last ∙ ap (λ m. m + 1) q.many })))

  -- What a node holds; of a code, that its parts are good.
  abbrev pub ToldBody : State → ℕ → Children → Need → Chain → Type 0
  ToldBody b at ch t c = (us : Values) × ToldKids b us t c × (ch ≡ parts → CodeGood s (at + 1) us)

  code_good : (b : State) (at : ℕ) (us : Values) (t : Need) (c : Chain) → ToldParts b code_parts us t c → fault_of s at c ≡ accepted → CodeGood s (at + 1) us
  code_good b at us t c p e =
      let m : MeanAll (InState s c.st) c.kids (join (take_of line_part us) (drop_of line_part us)) = rw (join-cut line_part us) p.kids.means in
      let l = looked_at s c.st c.kids (take_of line_part us) (drop_of line_part us) m (count-take line_part us (omega (arith, p.many))) (suit_take line_part 0 us p.suit) in
      record { suit = p.suit; no_fault = rw (← l.code-size, ← l.names-count, ← l.kinds-size) e }

  body-told : (g : ℕ → Reader) → ((d : ℕ) → Tells (g d)) → (b : State) (fuel depth at : ℕ) (ch : Children) (t : Need) → ToldKids b nil t (fresh b) → Follows Always Anywhere (ToldBody b at ch) t (body g s fuel depth at ch (fresh b))
  unfolding body ended SuitFrom count_of
  body-told g ok b fuel depth at (items k) t c =
      follows_map Always Anywhere (Some b) (ToldBody b at (items k)) t (kids (g (depth + 1)) k (fresh b)) (kids-told (g (depth + 1)) (ok (depth + 1)) b k nil t (fresh b) c) (λ t d x. (x.0, x.1, λ e. not_items k e))
    where
      not_items : {X : Type 0} (k : ℕ) → items k ≡ parts → X
      not_items k e = let z : ◌≡◌ {A = ℕ} 0 1 = cc in absurd (omega arith)
  body-told g ok b fuel depth at pairs t c =
      follows_map Always Anywhere (Some b) (ToldBody b at pairs) t (couples (g (depth + 1)) s fuel (fresh b)) (couples-told (g (depth + 1)) (ok (depth + 1)) b fuel nil t (fresh b) c) (λ t d x. (x.0, x.1, λ e. not_pairs e))
    where
      not_pairs : {X : Type 0} → pairs ≡ parts → X
      not_pairs e = let z : ◌≡◌ {A = ℕ} 0 1 = cc in absurd (omega arith)
  body-told g ok b fuel depth at parts t c =
      follows_bind Always Anywhere (AllParts b code_parts) (ToldBody b at parts) t (parts_from (g (depth + 2)) s code_parts 0 (fresh b)) (ended s at)
      (parts-told (g (depth + 2)) (ok (depth + 2)) b code_parts 0 code_parts nil t (fresh b) refl (record { kids = c; suit = tt; many = refl }))
      (λ t' d x.
      follows_cond Always Anywhere (ToldBody b at parts) t' (eqb (fault_of s at d) accepted) (done d) _
      (λ e. (x.0, x.1.kids, λ q. code_good b at x.0 t' d x.1 (eqb-true (fault_of s at d) accepted e)))
      (λ e. tt))

  enter-slots : (st : State) (at g : ℕ) (t : Need) → Holds s t st → SlotsMean s st → SlotsMean s (enter st at g)
  unfolding enter
  enter-slots st at g t h sl k n q = sense_on (enter_on at g small h) (sl k n (reserve-slot g st.slots k n q))

  no_kids : (P : Sees) → MeanAll P [] nil
  unfolding Means
  no_kids P = refl

  none_proper : ProperAll nil
  unfolding Proper
  none_proper = tt

  -- A value, but that its own record is sound.
  pub data NearlyTold (st : State) (r : ℕ × State) : Type 0 where
    already : SlotsMean s r.1 → Sense (InState s r.1) r.0 → EveryFrom s (length st.nodes) r.1 → NearlyTold st r
    anew : r.0 ≡ length st.nodes → (sound s (get_or r.1.nodes r.0 blank) ≡ true → SlotsMean s r.1 × Sense (InState s r.1) r.0 × EveryFrom s (length st.nodes) r.1) → NearlyTold st r

  abbrev N : State → Need → ℕ × State → Type 0
  N st t r = NearlyTold st r

  -- the node is closed, sound, and its slot filled
  module _ (st : State) (l g : ℕ) (f : Fields) (t : Need) (c : Chain) (at : ℕ) (us : Values) (k : ToldKids (enter st at g) us t c)
      (good : class_of l ≡ codes → CodeGood s f.place us) (own : sound s (get_or (close st l g f c).nodes (length st.nodes) blank) ≡ true) where
    abbrev closed : State
    closed = close st l g f c

    on : Onward s c.st closed
    on = close_on st g at k.chained l f small

    closed_sense : Sense (InState s closed) (length st.nodes)
    unfolding close
    closed_sense =
        let i = length st.nodes in
        let e = closed-node st g at k.chained l f in
        sound_sense s bytes small (InState s closed) i (closing l f c) c.kids us (mean_all_on on us c.kids k.means) k.proper refl (ap (sound s) (sym e) ∙ own) good
        (record {
          within = omega (arith, length-set c.st.nodes i (closing l f c), inside st g at k.chained);
          linked = rw e (built-linked k.chained.built);
          counted = ap (λ z. z.count) e;
          own = own;
          is = rw e refl;
        })

    closed-slots : SlotsMean s closed
    unfolding close
    closed-slots j n q =
        fill-slot g (length st.slots) (length st.nodes) c.st.slots j n q (λ e. subst (Sense (InState s closed)) (sym e) closed_sense) (λ e. sense_on on (k.slots j n e))

    closed_every : EveryFrom s (length st.nodes) closed
    unfolding close enter
    closed_every i p u = go (ltb (length st.nodes) i) refl
      where
        go : (x : Bool) → ltb (length st.nodes) i ≡ x → Sense (InState s closed) i
        go true e = sense_on on (k.every i (omega (arith, ltb-true (length st.nodes) i e, length-append st.nodes (blank ∷ []))) (omega (arith, length-set c.st.nodes (length st.nodes) (closing l f c))))
        go false e =
            let z : length st.nodes ≡ i = omega (arith, ltb-false (length st.nodes) i e) in
            subst (Sense (InState s closed)) z closed_sense

  after-told : (g : ℕ → Reader) → ((d : ℕ) → Tells (g d)) → (fuel depth : ℕ) (t₀ t : Need) (st : State) → Holds s t₀ st → SlotsMean s st → (r : Front) → Fronted s st t r → FrontIs st r
      → Follows Always Anywhere (N st) t (after g s fuel depth st r)
  unfolding after
  after-told g ok fuel depth t₀ t st h sl (known v at) o i = already (λ k n q. sl k n q) (sl i.0 v i.1) (λ j l u. absurd (omega arith))
  after-told g ok fuel depth t₀ t st h sl (opens l fl f) o i =
      let ahead = said-ahead s o.class (st.at + 1) f o.said in
      let within = said-within s o.class (st.at + 1) f o.said in
      let b = enter st (f.place + f.size) fl in
      let hb = entered fl (f.place + f.size) h o.claimed (omega arith) within in
      follows_bind Always Anywhere (ToldBody b st.at f.children) (N st) t (body g s fuel depth st.at f.children (fresh b)) _
      (body-told g ok b fuel depth st.at f.children t
      (record { chained = started hb; slots = enter-slots st (f.place + f.size) fl t₀ h sl; means = no_kids (InState s b); proper = none_proper; every = λ j p q. absurd (omega arith) }))
      (λ t' c x. anew refl (λ own.
      let good : class_of l ≡ codes → CodeGood s f.place x.0 = λ q. subst (λ y. CodeGood s y x.0) (sym (ap (λ z. z.place) (i q))) (x.2 (ap (λ z. z.children) (i q))) in
      (closed-slots st l fl f t' c (f.place + f.size) x.0 x.1 good own, closed_sense st l fl f t' c (f.place + f.size) x.0 x.1 good own, closed_every st l fl f t' c (f.place + f.size) x.0 x.1 good own)))

  pub value_tells : (fuel depth : ℕ) → Tells (value fuel s depth)
  unfolding value one
  value_tells zero depth t st h sl = (tt, tt)
  value_tells (suc fuel) depth t st h sl =
      let F₂ : Need → Front → Type 0 = λ t r. Fronted s st t r × FrontIs st r in
      let m = value (suc fuel) s depth st in
      follows_map Always Anywhere (λ t r. Valued s st t r × NearlyTold st r) (Told st) t m
      (follows_both (Own s) Always (λ p. p ≤ length s) Anywhere (Valued s st) (N st) t m (value_keeps s small (suc fuel) depth t st h)
      (follows_bind Always Anywhere F₂ (N st) t (front s depth st.at (length st.nodes) (length st.slots) st.slots) (after (value fuel s) s fuel depth st)
      (follows_both (Own s) Always (λ p. p ≤ length s) Anywhere (Fronted s st) (λ t r. FrontIs st r) t (front s depth st.at (length st.nodes) (length st.slots) st.slots) (front-keeps s small st t depth h) (front_is s st t depth))
      (λ t' r k. after-told (value fuel s) (λ d. value_tells fuel d) fuel depth t t' st h sl r k.0 k.1)))
      (λ t' r p. whole t' r p.0 p.1)
    where
      whole : (t' : Need) (r : ℕ × State) → Valued s st t' r → NearlyTold st r → Told st t' r
      whole t' r v (already a b c) = record { valued = v; slots = a; sense = b; every = c }
      whole t' r v (anew e f) =
          let x = f ((v.finished r.0 (omega (arith, e)) v.named).own bytes) in
          record { valued = v; slots = x.0; sense = x.1; every = x.2 }
