-- Every node that a reading in some room made has a reading of its own in it, from its header to its end, and what that made still stands. The records that say so,
-- and the laws of one child more and of bytes passed. Assumes that the input is 16 MiB at most.
use mathlib.Core.Path.{◌≡◌, refl, sym, ap, ◌∙◌}
use Prim.Native.Nat.{ℕ, suc, ◌+◌, ◌≤◌, ◌<◌}
use native.Mathlib.Omega.{arith}
use mathlib.Core.Bool.{Bool, true, false}
use mathlib.Core.Option.{Option, none, some}
use mathlib.Core.List.{List, [], ◌∷◌, ◌++◌}
use lib.ListN.{length, get_or, length-append, length-set, get_or-append, get_or-eq_default}
use lib.Seq.{get_or-set_other}
use lib.Dec.{ltb, eqb}
use borrow.Author.Tests.{ltb-true, ltb-false}
use Rattle.refusals.specs.Limits.{most_bytes, nothing}
use Rattle.grammar.specs.Reading.{gives}
use Rattle.grammar.specs.Room.{Rooms, run}
use Rattle.grammar.specs.Letters.{letter_of, codes, class_of}
use Rattle.grammar.specs.State.{Node, Entry, State, blank, unlinked}
use Rattle.grammar.specs.Steps.{Chain, follow, attach, Reader, value}
use Rattle.grammar.proofs.Following.{Need}
use Rattle.grammar.proofs.Links.{Built, no_child, children, Grows, KeptLink, was_open, stays, kept_grows, next_of}
use Rattle.grammar.proofs.Standing.{Holds, Valued, Chained, few}
use Rattle.nodespan.specs.Header.{lead, header_of}
use Rattle.shifts.proofs.Onward.{Met, Onward, onward_same, onward_trans, OnValue, Spaced}
use Rattle.shifts.proofs.Agreeing.{Either}
use Rattle.alone.proofs.Leading.{fields_end}
use Rattle.alone.proofs.Totals.{total}
use Rattle.alone.proofs.Kin.{header_at, flag, Kin, Grown}

-- What stood in the slots stays.
pub record SlotsKept (a b : State) : Type 0 where
  pub more : length a.slots ≤ length b.slots
  pub kept : (i : ℕ) → i < length a.slots → get_or b.slots i 0 ≡ get_or a.slots i 0

-- a slot that holds a node is there
pub slot-there : (ss : List ℕ) (i w : ℕ) → get_or ss i 0 ≡ suc w → i < length ss
slot-there ss i w e = go (ltb i (length ss)) refl
  where
    go : (b : Bool) → ltb i (length ss) ≡ b → i < length ss
    go true q = ltb-true i (length ss) q
    go false q = absurd (omega (arith, get_or-eq_default ss 0 {n = i} (ltb-false i (length ss) q)))

-- every slot from b on is filled, with a node from n on
abbrev pub FilledFrom : ℕ → ℕ → List ℕ → Type 0
FilledFrom n b ss = (j : ℕ) → b ≤ j → j < length ss → n < get_or ss j 0

-- What was made between a and b stands in c, and what c has besides was made later.
pub record Stands (a b c : State) : Type 0 where
  pub more_nodes : length b.nodes ≤ length c.nodes
  pub nodes : (i : ℕ) → length a.nodes ≤ i → i < length b.nodes → get_or c.nodes i blank ≡ get_or b.nodes i blank
  pub more_entries : length b.entries ≤ length c.entries
  pub entries : (i : ℕ) → length a.entries ≤ i → i < length b.entries → get_or c.entries i unlinked ≡ get_or b.entries i unlinked
  pub more_slots : length b.slots ≤ length c.slots
  pub slots : (i : ℕ) → length a.slots ≤ i → i < length b.slots → get_or c.slots i 0 ≡ get_or b.slots i 0
  pub onward : Onward b c
  pub later : (v : ℕ) → length b.nodes ≤ v → v < length c.nodes → b.at ≤ header_at c v
  pub filled : FilledFrom (length b.nodes) (length b.slots) c.slots
  pub links : Grows b.entries c.entries

pub grows_same : (es : List Entry) → Grows es es
grows_same es = record { longer = omega arith; child = λ i l. refl; link = λ i l. stays refl }

pub grows_trans : {es fs gs : List Entry} → Grows es fs → Grows fs gs → Grows es gs
grows_trans {es} {fs} {gs} p q =
    record {
      longer = omega (arith, p.longer, q.longer);
      child = λ i l. q.child i (omega (arith, p.longer)) ∙ p.child i l;
      link = λ i l. both i (p.link i l) (q.link i (omega (arith, p.longer)));
    }
  where
    both : (i : ℕ) → KeptLink (next_of es i) (next_of fs i) → KeptLink (next_of fs i) (next_of gs i) → KeptLink (next_of es i) (next_of gs i)
    both i (was_open o) k = was_open o
    both i (stays z) (was_open o) = was_open (sym z ∙ o)
    both i (stays z) (stays y) = stays (y ∙ z)

pub stands_itself : (a b : State) → Stands a b b
stands_itself a b =
    record {
      more_nodes = omega arith;
      nodes = λ i l h. refl;
      more_entries = omega arith;
      entries = λ i l h. refl;
      more_slots = omega arith;
      slots = λ i l h. refl;
      onward = onward_same b b (omega arith) refl;
      later = λ v l h. absurd (omega arith);
      filled = λ j l h. absurd (omega arith);
      links = grows_same b.entries;
    }

-- The first b slots are of nodes before n, or open; the others are of n or later nodes.
pub record Order (n b : ℕ) (ss : List ℕ) : Type 0 where
  pub earlier : (j : ℕ) → j < b → get_or ss j 0 ≤ n
  pub later : FilledFrom n b ss

-- A node's own bytes, and a code's first line, hold no index that was met.
pub record Clears (st end : State) (nd : Node) : Type 0 where
  pub kept : eqb nd.letter 0 ≡ false
  pub inside : fields_end nd ≤ end.at
  pub own : (r : ℕ) → Met r end → Either (r + 4 ≤ st.at) (fields_end nd ≤ r)
  pub line-inside : class_of nd.letter ≡ codes → nd.place + nd.size + 4 ≤ end.at
  pub line : class_of nd.letter ≡ codes → (r : ℕ) → Met r end → Either (r + 4 ≤ nd.place + nd.size) (nd.place + nd.size + 4 ≤ r)

abbrev pub LineClear : (line : ℕ) → State → Type 0
LineClear line st = 0 < line → (r : ℕ) → Met r st → Either (r + 4 ≤ line) (line + 4 ≤ r)

module _ (s : List ℕ) where
  -- so many nodes were made between a base and the header of n, and the flagged ones reserved the slots
  pub record Flagged (base : State) (n : ℕ) (fin : State) (slots : ℕ) : Type 0 where
    pub nodes : ℕ
    pub many : n ≡ length base.nodes + nodes
    pub flags : slots ≡ length base.slots + total (flag s) fin.nodes nodes (length base.nodes)

module _ (s : List ℕ) (R : Rooms) where
  -- The reading of node n, and that what it made stands in `fin`; it begins behind `base`.
  pub record Inside (base : State) (n : ℕ) (fin : State) : Type 0 where
    pub fuel : ℕ
    pub depth : ℕ
    pub need : Need
    pub st : State
    pub end : State
    pub holds : Holds s need st
    pub spaced : Spaced st.at st.met
    pub enough : length s ≤ st.at + fuel
    pub first : length st.nodes ≡ n
    pub gave : run R (value fuel s depth st) ≡ gives (n, end)
    pub named : n < length end.nodes
    pub ended : (get_or end.nodes n blank).end ≡ end.at
    pub clears : Clears st end (get_or end.nodes n blank)
    pub header : header_at end n ≡ st.at
    pub led : (get_or end.nodes n blank).place ≡ st.at + lead (class_of (get_or end.nodes n blank).letter)
    pub lettered : (get_or end.nodes n blank).letter ≡ letter_of (get_or s st.at 0)
    pub stands : Stands st end fin
    pub from_entries : length base.entries ≤ length st.entries
    pub from-slots : length base.slots ≤ length st.slots
    pub grew : length st.slots ≤ length end.slots
    pub order : Order n (length st.slots) fin.slots
    pub flagged : Flagged s base n fin (length st.slots)

  abbrev pub rebased : {x y : State} (b : State) {n : ℕ} (z : State) (i : Inside x n y) → length b.entries ≤ length x.entries → length b.slots ≤ length x.slots
      → Stands i.st i.end z → Order n (length i.st.slots) z.slots → Flagged s b n z (length i.st.slots) → Inside b n z
  rebased b z i e l w o k =
      record {
        fuel = i.fuel;
        depth = i.depth;
        need = i.need;
        st = i.st;
        end = i.end;
        holds = i.holds;
        spaced = i.spaced;
        enough = i.enough;
        first = i.first;
        gave = i.gave;
        named = i.named;
        ended = i.ended;
        clears = i.clears;
        header = i.header;
        led = i.led;
        lettered = i.lettered;
        stands = w;
        from_entries = omega (arith, i.from_entries);
        from-slots = omega (arith, i.from-slots);
        grew = i.grew;
        order = o;
        flagged = k;
      }

  pub record Made (st : State) (r : ℕ × State) : Type 0 where
    pub need : Need
    pub valued : Valued s st need r
    pub on : OnValue st r
    pub slots : SlotsKept st r.1
    pub filled : FilledFrom (length st.nodes) (length st.slots) r.1.slots
    pub kin : Kin s st r.1 (r.0 ∷ []) 0
    pub inside : (n : ℕ) → length st.nodes ≤ n → n < length r.1.nodes → Inside st n r.1

  abbrev pub Makes : Reader → ℕ → Type 0
  Makes f least = (t : Need) (st : State) (r : ℕ × State) → Holds s t st → Spaced st.at st.met → least ≤ st.at → run R (f st) ≡ gives r → Made st r

  -- a node of a chain's children: its entries come before the chain's last
  pub record Placed (base : State) (c : Chain) (n : ℕ) : Type 0 where
    pub inside : Inside base n c.st
    pub before : (l : ℕ) → c.last ≡ some l → length inside.end.entries ≤ l

  pub record Run (base : State) (c : Chain) : Type 0 where
    pub need : Need
    pub chained : Chained s base need c
    pub on : Onward base c.st
    pub slots : SlotsKept base c.st
    pub filled : FilledFrom (length base.nodes) (length base.slots) c.st.slots
    pub line-behind : 0 < c.line → c.line + 4 ≤ c.st.at
    pub line_clear : LineClear c.line c.st
    pub kin : Kin s base c.st c.kids (length c.kids)
    pub placed : (n : ℕ) → length base.nodes ≤ n → n < length c.st.nodes → Placed base c n

-- One child more.

follow-other : (last : Option ℕ) (e : ℕ) (es : List Entry) (x : Entry) (i : ℕ) → i < length es → (last ≡ some i → ⊥) → get_or (follow last e (es ++ x ∷ [])) i unlinked ≡ get_or es i unlinked
follow-other none e es x i l q = get_or-append es (x ∷ []) unlinked i l
follow-other (some k) e es x i l q = get_or-set_other (es ++ x ∷ []) k i _ unlinked (λ z. q (ap some (sym z))) ∙ get_or-append es (x ∷ []) unlinked i l

pub follow-length : (last : Option ℕ) (e : ℕ) (es : List Entry) (x : Entry) → length (follow last e (es ++ x ∷ [])) ≡ length es + 1
follow-length none e es x = length-append es (x ∷ [])
follow-length (some k) e es x = length-set (es ++ x ∷ []) k _ ∙ length-append es (x ∷ [])

pub last-in : {base : ℕ} {es : List Entry} {ks : List ℕ} {first : ℕ} {last : Option ℕ} → Built base es ks first last → (l : ℕ) → last ≡ some l → l < length es
last-in no_child l e = let z : ◌≡◌ {A = ℕ} 0 1 = cc in absurd (omega arith)
last-in (children v vs e last be q c w lb ll o) l z =
    let y : last ≡ l = cc in
    omega arith

module _ (s : List ℕ) (R : Rooms) (small : length s ≤ most_bytes) where
  pub attach-stands : (c : Chain) (v : ℕ) (a b st : State) → Stands a b st → Grows st.entries (attach c v st).st.entries
      → ((i : ℕ) → length a.entries ≤ i → i < length b.entries → c.last ≡ some i → ⊥) → Stands a b (attach c v st).st
  unfolding attach
  attach-stands c v a b st w g q =
      let z = follow-length c.last (length st.entries) st.entries (record { child = v; next = nothing }) in
      record {
        more_nodes = w.more_nodes;
        nodes = w.nodes;
        more_entries = omega (arith, w.more_entries);
        entries = λ i l h.
            follow-other c.last (length st.entries) st.entries (record { child = v; next = nothing }) i (omega (arith, w.more_entries)) (q i l h) ∙ w.entries i l h;
        more_slots = w.more_slots;
        slots = w.slots;
        onward = onward_trans w.onward (onward_same st (attach c v st).st (omega arith) refl);
        later = w.later;
        filled = w.filled;
        links = grows_trans w.links g;
      }

  -- slots that were filled stay, and those of the next value are of later nodes
  pub filled_on : {x : State} {r : ℕ × State} → Made s R x r → (n : ℕ) → n ≤ length x.nodes → (j : ℕ) → j < length r.1.slots → (j < length x.slots → n < get_or x.slots j 0)
      → (b : Bool) → ltb j (length x.slots) ≡ b → n < get_or r.1.slots j 0
  filled_on {x} {r} m n le j hi f true e = rw (m.slots.kept j (ltb-true j (length x.slots) e)) (f (ltb-true j (length x.slots) e))
  filled_on {x} {r} m n le j hi f false e = omega (arith, m.filled j (ltb-false j (length x.slots) e) hi)

  later_on : {x : State} {r : ℕ × State} → Made s R x r → (at n : ℕ) → at ≤ x.at → (v : ℕ) → n ≤ v → v < length r.1.nodes → ((v : ℕ) → n ≤ v → v < length x.nodes → at ≤ header_at x v)
      → (b : Bool) → ltb v (length x.nodes) ≡ b → at ≤ header_at r.1 v
  later_on {x} {r} m at n le v lo hi f true e =
      let l = ltb-true v (length x.nodes) e in
      omega (arith, f v lo l, ap header_of (m.valued.since.same_nodes v l))
  later_on {x} {r} m at n le v lo hi f false e =
      let l = ltb-false v (length x.nodes) e in
      omega (arith, (m.kin.headed v l hi).from)

  -- what stood before a value was read stands after it
  pub value-stands : (a b x : State) (r : ℕ × State) → Stands a b x → Made s R x r → Stands a b r.1
  value-stands a b x r w m =
      let q = m.valued.since in
      record {
        more_nodes = omega (arith, w.more_nodes, q.more_nodes);
        nodes = λ i l h. q.same_nodes i (omega (arith, w.more_nodes)) ∙ w.nodes i l h;
        more_entries = omega (arith, w.more_entries, q.entries.longer);
        entries = λ i l h. q.entries.entry i (omega (arith, w.more_entries)) ∙ w.entries i l h;
        more_slots = omega (arith, w.more_slots, m.slots.more);
        slots = λ i l h. m.slots.kept i (omega (arith, w.more_slots)) ∙ w.slots i l h;
        onward = onward_trans w.onward m.on.1;
        later = λ v lo hi. later_on m b.at (length b.nodes) w.onward.on v lo hi w.later (ltb v (length x.nodes)) refl;
        filled = λ j lo hi. filled_on m (length b.nodes) w.more_nodes j hi (λ h. w.filled j lo h) (ltb j (length x.slots)) refl;
        links = grows_trans w.links (kept_grows x.entries r.1.entries q.entries);
      }

  pub value-grown : {x : State} {r : ℕ × State} → length x.entries ≤ nothing → Made s R x r → Grown s 0 x r.1
  value-grown {x} {r} few m =
      let q = m.valued.since in
      record {
        on = q.on;
        longer = q.more_nodes;
        same = λ i lo hi. q.same_nodes i hi;
        links = kept_grows x.entries r.1.entries q.entries;
        few = few;
        still = m.on.1.still;
        slots = λ i w e. m.slots.kept i (slot-there x.slots i w e) ∙ e;
      }
