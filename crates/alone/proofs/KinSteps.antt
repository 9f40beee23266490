-- What a reading made, step by step: a reference, a value after what was read, its entry, and a node closed over its children. Assumes nothing
-- but what it names.
use mathlib.Core.Path.{◌≡◌, refl, ap, subst, ◌∙◌}
use Prim.Native.Nat.{ℕ, suc, ◌+◌, ◌≤◌, ◌<◌}
use native.Mathlib.Omega.{arith}
use mathlib.Core.Bool.{Bool, true, false, cond}
use mathlib.Core.List.{List, [], ◌∷◌, ◌++◌}
use lib.ListN.{length, get_or}
use lib.Dec.{ltb, eqb}
use borrow.Author.Tests.{ltb-true, ltb-false, eqb-true, eq-eqb}
use Rattle.refusals.specs.Limits.{nothing}
use Rattle.grammar.specs.Letters.{among}
use Rattle.grammar.specs.Fields.{le32}
use Rattle.grammar.specs.State.{Node, Entry, State, blank, referred}
use Rattle.grammar.proofs.Tests.{never}
use Rattle.grammar.proofs.Links.{Linked, Grows, stays}
use Rattle.nodespan.specs.Header.{header_of}
use Rattle.shifts.proofs.Onward.{Met, New, old, new, Onward, Spaced}
use Rattle.shifts.proofs.Lowered.{spaced_behind}
use Rattle.alone.proofs.Totals.{total, total-one, total_none, total_split}
use Rattle.alone.proofs.Kin.{header_at, flag, counted, Child, fresh, shared, Parent, Given, yet, of, Headed, Kin, Grown, Earlier, child_on, parent_on, of_on, given_on, header_on, totals_on}

-- Members of lists.
pub among_self : (w : ℕ) (ws : List ℕ) → among w (w ∷ ws) ≡ true
among_self w ws = rw (eq-eqb w w refl) refl

pub among_later : (w v : ℕ) (ws : List ℕ) → among w ws ≡ true → among w (v ∷ ws) ≡ true
among_later w v ws m = go (eqb w v)
  where
    go : (b : Bool) → cond b true (among w ws) ≡ true
    go true = refl
    go false = m

pub among_one : (w v : ℕ) → among w (v ∷ []) ≡ true → w ≡ v
among_one w v m = go (eqb w v) refl m
  where
    go : (b : Bool) → eqb w v ≡ b → cond b true false ≡ true → w ≡ v
    go true e q = eqb-true w v e
    go false e q = never q

among_left : (w v : ℕ) (ws : List ℕ) → among w ws ≡ true → among w (ws ++ v ∷ []) ≡ true
among_left w v [] m = never m
among_left w v (x ∷ xs) m = go (eqb w x) m (λ q. among_left w v xs q)
  where
    go : (b : Bool) → cond b true (among w xs) ≡ true → (among w xs ≡ true → among w (xs ++ v ∷ []) ≡ true) → cond b true (among w (xs ++ v ∷ [])) ≡ true
    go true q k = refl
    go false q k = k q

among_right : (w : ℕ) (ws : List ℕ) → among w (ws ++ w ∷ []) ≡ true
among_right w [] = among_self w []
among_right w (x ∷ xs) = among_later w x (xs ++ w ∷ []) (among_right w xs)

among_end : (w v : ℕ) (ws : List ℕ) → among w (v ∷ []) ≡ true → among w (ws ++ v ∷ []) ≡ true
among_end w v ws m = rw (among_one w v m) (among_right v ws)

data Member (w v : ℕ) (ws : List ℕ) : Type 0 where
  before : among w ws ≡ true → Member w v ws
  last : w ≡ v → Member w v ws

member : (w v : ℕ) (ws : List ℕ) → among w (ws ++ v ∷ []) ≡ true → Member w v ws
member w v [] m = last (among_one w v m)
member w v (x ∷ xs) m = go (eqb w x) refl m (λ q. member w v xs q)
  where
    more : Member w v xs → Member w v (x ∷ xs)
    more (before q) = before (among_later w x xs q)
    more (last q) = last q

    go : (b : Bool) → eqb w x ≡ b → cond b true (among w (xs ++ v ∷ [])) ≡ true → (among w (xs ++ v ∷ []) ≡ true → Member w v xs) → Member w v (x ∷ xs)
    go true e q k = before (subst (λ y. among w (y ∷ xs) ≡ true) (eqb-true w x e) (among_self w xs))
    go false e q k = more (k q)

module _ (s : List ℕ) where
  pub grown_same : (d : State) → length d.entries ≤ nothing → Grown s 0 d d
  grown_same d few =
      record {
        on = omega arith;
        longer = omega arith;
        same = λ i lo hi. refl;
        links = record { longer = omega arith; child = λ i l. refl; link = λ i l. stays refl };
        few = few;
        still = λ x m. m;
        slots = λ i w e. e;
      }

  pub earlier_same : (a : State) → Earlier s a a
  earlier_same a = record { on = omega arith; nodes = omega arith }

  -- A reference.
  pub kin_known : (st : State) (v at : ℕ) → Spaced st.at st.met → st.at < at → get_or st.slots (le32 s (st.at + 1)) 0 ≡ suc v → Kin s st (referred at st) (v ∷ []) 0
  kin_known st v at sp l e =
      record {
        few = omega arith;
        headed = λ u lo hi. absurd (omega arith);
        each = λ w m. rw (among_one w v m) (shared (record { place = st.at + 1; met = among_self (st.at + 1) st.met; ahead = omega arith; names = e }));
        parents = λ u lo hi. absurd (omega arith);
        given = λ x m q. go x q (eqb x (st.at + 1)) refl m;
        made = 0;
        many = omega arith;
        flags = omega (arith, total_none (flag s) st.nodes (length st.nodes));
        entries = omega (arith, total_none counted st.nodes (length st.nodes));
      }
    where
      go : (x : ℕ) → st.at < x → (b : Bool) → eqb x (st.at + 1) ≡ b → cond b true (among x st.met) ≡ true → Given s st (referred at st) (v ∷ []) x
      go x q true z m = yet v (among_self v []) (rw (eqb-true x (st.at + 1) z) e)
      go x q false z m = absurd (omega (arith, spaced_behind st.at st.met sp x m))

  -- A value after what was read.
  module _ {a b d : State} {loose : List ℕ} {extra v : ℕ} (k : Kin s a b loose extra) (w : Kin s b d (v ∷ []) 0) (g : Grown s 0 b d) (on : Onward b d) (e : Earlier s a b)
      (few-entries : length d.entries ≤ nothing) where
    then-headed : (u : ℕ) → length a.nodes ≤ u → u < length d.nodes → (t : Bool) → ltb u (length b.nodes) ≡ t → Headed s a d u
    then-headed u lo hi true q =
        let l = ltb-true u (length b.nodes) q in
        let h = k.headed u lo l in
        let z = header_on s g u (omega arith) l in
        record { from = omega (arith, h.from); to = omega (arith, h.to, g.on) }
    then-headed u lo hi false q =
        let h = w.headed u (ltb-false u (length b.nodes) q) hi in
        record { from = omega (arith, h.from, k.few); to = h.to }

    then_parent : (u : ℕ) → length a.nodes ≤ u → u < length d.nodes → (t : Bool) → ltb u (length b.nodes) ≡ t → Parent s a d u
    then_parent u lo hi true q =
        let l = ltb-true u (length b.nodes) q in
        parent_on s g (earlier_same a) (omega arith) l (k.parents u lo l)
    then_parent u lo hi false q = parent_on s (grown_same d few-entries) e (omega arith) hi (w.parents u (ltb-false u (length b.nodes) q) hi)

    then-each : (u : ℕ) → Member u v loose → Child s a d u
    then-each u (before m) = child_on s g (earlier_same a) (k.each u m)
    then-each u (last m) = child_on s (grown_same d few-entries) e (w.each u (rw m (among_self v [])))

    then-given : (x : ℕ) → Met x d → a.at < x → New b d x → Given s a d (loose ++ v ∷ []) x
    then-given x m l (old q) = given_on s g (earlier_same a) (omega arith) (λ u z. among_left u v loose z) (k.given x q l)
    then-given x m l (new lo hi) =
        given_on s (grown_same d few-entries) e (omega arith) (λ u z. among_end u v loose z) (w.given x m lo)

    then_total : (f : Node → ℕ) → total f d.nodes (k.made + w.made) (length a.nodes)
        ≡ total f b.nodes k.made (length a.nodes) + total f d.nodes w.made (length b.nodes)
    then_total f =
        total_split f d.nodes k.made w.made (k.made + w.made) (length a.nodes) (length b.nodes) refl k.many
        ∙ ap (λ z. z + total f d.nodes w.made (length b.nodes)) (totals_on s f g k.made (length a.nodes) (omega arith) (omega (arith, k.many)))

    pub kin_then : Kin s a d (loose ++ v ∷ []) extra
    kin_then =
        record {
          few = omega (arith, k.few, w.few);
          headed = λ u lo hi. then-headed u lo hi (ltb u (length b.nodes)) refl;
          each = λ u m. then-each u (member u v loose m);
          parents = λ u lo hi. then_parent u lo hi (ltb u (length b.nodes)) refl;
          given = λ x m l. then-given x m l (on.fresh x m);
          made = k.made + w.made;
          many = omega (arith, k.many, w.many);
          flags = omega (arith, k.flags, w.flags, then_total (flag s));
          entries = omega (arith, k.entries, w.entries, then_total counted);
        }

  -- An entry more: nodes, slots, references and bytes are the same.
  pub kin_entry : {a d : State} {loose : List ℕ} {extra more : ℕ} (es : List Entry) → more ≡ extra + 1 → length es ≡ length d.entries + 1 → Grows d.entries es → length d.entries ≤ nothing
      → Kin s a d loose extra → Kin s a (record { at = d.at; nodes = d.nodes; entries = es; slots = d.slots; met = d.met }) loose more
  kin_entry {a} {d} {loose} {extra} {more} es z l gr few k =
      record {
        few = k.few;
        headed = λ v lo hi. record { from = (k.headed v lo hi).from; to = (k.headed v lo hi).to };
        each = λ w m. child_on s g (earlier_same a) (k.each w m);
        parents = λ v lo hi. parent_on s g (earlier_same a) (omega arith) hi (k.parents v lo hi);
        given = λ x m q. given_on s g (earlier_same a) (omega arith) (λ w y. y) (k.given x m q);
        made = k.made;
        many = k.many;
        flags = k.flags;
        entries = omega (arith, k.entries);
      }
    where
      g : Grown s 0 d (record { at = d.at; nodes = d.nodes; entries = es; slots = d.slots; met = d.met })
      g = record { on = omega arith; longer = omega arith; same = λ i lo hi. refl; links = gr; few = few; still = λ x m. m; slots = λ i w e. e }

  -- A node closed: e is the state in which its children began, b that after the last of them.
  pub record Closing (a e b d : State) (nd : Node) (kids : List ℕ) : Type 0 where
    pub past : a.at < e.at
    pub begun : length e.nodes ≡ length a.nodes + 1
    pub no_entry_lem : length e.entries ≡ length a.entries
    pub slot : length e.slots ≡ length a.slots + flag s nd
    pub onward : Onward e b
    pub grown : Grown s (length a.nodes + 1) b d
    pub nodes : length d.nodes ≡ length b.nodes
    pub place : d.at ≡ b.at
    pub entries : length d.entries ≡ length b.entries
    pub slots : length d.slots ≡ length b.slots
    pub met : (x : ℕ) → Met x d → Met x b
    pub behind : (x : ℕ) → Met x e → x + 4 ≤ a.at
    pub own : get_or d.nodes (length a.nodes) blank ≡ nd
    pub header : header_of nd ≡ a.at
    pub linked : Linked d.entries nd.first kids
    pub count : nd.count ≡ length kids

  module _ {a e b d : State} {nd : Node} {kids : List ℕ} (c : Closing a e b d nd kids) (k : Kin s e b kids (length kids)) where
    abbrev n : ℕ
    n = length a.nodes

    earlier : Earlier s a e
    earlier = record { on = omega (arith, c.past); nodes = omega (arith, c.begun) }

    there : n < length d.nodes
    there = omega (arith, c.nodes, k.many, c.begun)

    above : (u : ℕ) → n < u → u < length d.nodes → (length e.nodes ≤ u) × (u < length b.nodes)
    above u lo hi = (omega (arith, c.begun), omega (arith, c.nodes))

    own_header : header_at d n ≡ a.at
    own_header = ap header_of c.own ∙ c.header

    closed-headed : (u : ℕ) → n ≤ u → u < length d.nodes → (t : Bool) → ltb n u ≡ t → Headed s a d u
    closed-headed u lo hi true q =
        let l = above u (ltb-true n u q) hi in
        let h = k.headed u l.0 l.1 in
        let z = header_on s c.grown u (omega (arith, c.begun, l.0)) l.1 in
        record { from = omega (arith, h.from, c.begun, c.past); to = omega (arith, h.to, c.place) }
    closed-headed u lo hi false q =
        let z : u ≡ n = omega (arith, ltb-false n u q) in
        rw z (record { from = omega (arith, own_header); to = omega (arith, own_header, c.past, c.onward.on, c.place) })

    closed_parent : (u : ℕ) → n ≤ u → u < length d.nodes → (t : Bool) → ltb n u ≡ t → Parent s a d u
    closed_parent u lo hi true q =
        let l = above u (ltb-true n u q) hi in
        parent_on s c.grown earlier (omega (arith, c.begun, l.0)) l.1 (k.parents u l.0 l.1)
    closed_parent u lo hi false q =
        let z : u ≡ n = omega (arith, ltb-false n u q) in
        rw z (record {
          kids = kids;
          linked = rw c.own c.linked;
          count = ap (λ x. x.count) c.own ∙ c.count;
          each = λ w m. child_on s c.grown earlier (k.each w m);
        })

    closed-given : (x : ℕ) → a.at < x → New e b x → Given s e b kids x → Given s a d (n ∷ []) x
    closed-given x l (old m) q = absurd (omega (arith, c.behind x m))
    closed-given x l (new lo hi) (yet w m z) =
        of (record {
          node = n;
          child = w;
          from = omega arith;
          to = there;
          kids = kids;
          linked = rw c.own c.linked;
          count = ap (λ y. y.count) c.own ∙ c.count;
          in_kids = m;
          names = c.grown.slots (le32 s x) w z;
        })
    closed-given x l (new lo hi) (of o) = of (of_on s c.grown earlier (omega (arith, c.begun)) o)

    closed-given_at : (x : ℕ) → a.at < x → Met x b → New e b x → Given s a d (n ∷ []) x
    closed-given_at x l m (old q) = absurd (omega (arith, c.behind x q))
    closed-given_at x l m (new lo hi) = closed-given x l (new lo hi) (k.given x m lo)

    closed-total : (f : Node → ℕ) → total f d.nodes (suc k.made) n ≡ f nd + total f b.nodes k.made (length e.nodes)
    closed-total f =
        let z : length e.nodes ≡ n + 1 = c.begun in
        total-one f d.nodes k.made n
        ∙ (rw (c.own, ← z) (ap (λ y. f nd + y) (totals_on s f c.grown k.made (length e.nodes) (omega (arith, c.begun)) (omega (arith, k.many)))))

    pub kin_closed : Kin s a d (n ∷ []) 0
    kin_closed =
        record {
          few = omega (arith, k.few, c.nodes, c.begun, c.past, c.place);
          headed = λ u lo hi. closed-headed u lo hi (ltb n u) refl;
          each = λ w m. rw (among_one w n m) (fresh (omega arith) there);
          parents = λ u lo hi. closed_parent u lo hi (ltb n u) refl;
          given = λ x m l. closed-given_at x l (c.met x m) (c.onward.fresh x (c.met x m));
          made = suc k.made;
          many = omega (arith, k.many, c.nodes, c.begun);
          flags = omega (arith, k.flags, c.slots, c.slot, closed-total (flag s));
          entries = omega (arith, k.entries, c.entries, c.no_entry_lem, c.count, closed-total counted);
        }
