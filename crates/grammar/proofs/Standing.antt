-- What holds of a state while a value is read, and how each change of the state keeps it: the numbers are bounded by the bytes read, every
-- entry names nodes and entries that there are, and every finished node passes the record test with its children linked. Assumes nothing.
use mathlib.Core.Path.{◌≡◌, refl, sym, ap, ap₂, ◌∙◌}
use Prim.Native.Nat.{ℕ, zero, suc, ◌+◌, ◌≤◌, ◌<◌}
use native.Mathlib.Omega.{arith}
use mathlib.Core.Bool.{Bool, true, false}
use mathlib.Core.Option.{Option, none, some}
use mathlib.Core.List.{List, [], ◌∷◌, ◌++◌}
use lib.ListN.{length, get_or, set, length-append, length-set, get_or-append}
use lib.Seq.{get_or-set_same, get_or-set_other}
use lib.Dec.{ltb, eqb}
use borrow.Author.Tests.{ltb-true, ltb-false, eqb-true, eqb-false}
use Rattle.refusals.specs.Limits.{most_bytes, nothing}
use Rattle.grammar.specs.Input.{Bytes}
use Rattle.grammar.specs.Reading.{entry}
use Rattle.grammar.specs.Fields.{Fields}
use Rattle.grammar.specs.State.{Node, Entry, State, blank, unlinked, moved_to}
use Rattle.grammar.specs.Steps.{Chain, fresh, follow, attach, reserve, fill, enter, size_of, close}
use Rattle.grammar.specs.Record.{sound}
use Rattle.grammar.proofs.Following.{Need, raise}
use Rattle.grammar.proofs.Links.{next_of, UsedOrNone, is_used, is_none, Linked, Grows, grows_linked, Kept, kept_grows, Built, no_child, children, built-linked, built-kept, Added, added_first, added_next, built-added, added_grows}

-- an entry of so many, over so many nodes
pub record EntryIn (nodes entries : ℕ) (e : Entry) : Type 0 where
  pub child : e.child < nodes
  pub next : UsedOrNone entries e.next

-- The numbers are bounded by the bytes read, the most that was claimed is what there is, and what is named is there.
pub record Holds (s : List ℕ) (t : Need) (st : State) : Type 0 where
  pub within : st.at ≤ length s
  pub few-nodes : length st.nodes ≤ st.at
  pub few-entries : length st.entries ≤ st.at
  pub few-slots : length st.slots ≤ st.at
  pub claimed_nodes : t.nodes ≡ length st.nodes
  pub claimed_entries : t.entries ≡ length st.entries
  pub claimed_slots : t.slots ≡ length st.slots
  pub entries_in_lem : (e : ℕ) → e < length st.entries → EntryIn (length st.nodes) (length st.entries) (get_or st.entries e unlinked)
  pub slots_in : (k : ℕ) → get_or st.slots k 0 ≤ length st.nodes

-- a finished node: its children are linked from its first entry on and are as many as it says; and its record is sound, if the input is bytes;
-- a reading by itself numbers its input 0
pub record Finished (s : List ℕ) (es : List Entry) (n : Node) : Type 0 where
  pub kids : List ℕ
  pub linked : Linked es n.first kids
  pub counted : n.count ≡ length kids
  pub own : Bytes s → sound s n ≡ true
  pub input : n.input ≡ 0

abbrev pub FinishedFrom : List ℕ → ℕ → State → Type 0
FinishedFrom s from st = (i : ℕ) → from ≤ i → i < length st.nodes → Finished s st.entries (get_or st.nodes i blank)

-- What stood stays.
pub record Since (a b : State) : Type 0 where
  pub on : a.at ≤ b.at
  pub more_nodes : length a.nodes ≤ length b.nodes
  pub same_nodes : (i : ℕ) → i < length a.nodes → get_or b.nodes i blank ≡ get_or a.nodes i blank
  pub entries : Kept a.entries b.entries

-- A value read from a state.
pub record Valued (s : List ℕ) (st : State) (t : Need) (r : ℕ × State) : Type 0 where
  pub holds : Holds s t r.1
  pub since : Since st r.1
  pub past : st.at < r.1.at
  pub spent : length r.1.entries + st.at + 1 ≤ length st.entries + r.1.at
  pub named : r.0 < length r.1.nodes
  pub finished : FinishedFrom s (length st.nodes) r.1

-- A chain of children read from a state.
pub record Chained (s : List ℕ) (b : State) (t : Need) (c : Chain) : Type 0 where
  pub holds : Holds s t c.st
  pub since : Since b c.st
  pub spent : length c.st.entries + b.at ≤ length b.entries + c.st.at
  pub built : Built (length b.entries) c.st.entries c.kids c.first c.last
  pub finished : FinishedFrom s (length b.nodes) c.st

pub kept_trans : (a b c : List Entry) → Kept a b → Kept b c → Kept a c
kept_trans a b c p q =
    record { longer = omega (arith, p.longer, q.longer); entry = λ i h. q.entry i (omega (arith, p.longer)) ∙ p.entry i h }

pub since_trans : {a b c : State} → Since a b → Since b c → Since a c
since_trans {a} {b} {c} p q =
    record {
      on = omega arith;
      more_nodes = omega arith;
      same_nodes = λ i h. q.same_nodes i (omega arith) ∙ p.same_nodes i h;
      entries = kept_trans a.entries b.entries c.entries p.entries q.entries;
    }

pub since_refl : (st : State) (at : ℕ) → st.at ≤ at → Since st (moved_to at st)
since_refl st at h = record { on = h; more_nodes = omega arith; same_nodes = λ i q. refl; entries = record { longer = omega arith; entry = λ i q. refl } }

-- the entries stay few enough that none has the number that stands for none
pub few : {s : List ℕ} {t : Need} {st : State} → length s ≤ most_bytes → Holds s t st → length st.entries ≤ nothing
few small h = omega (arith, h.within, h.few-entries)

pub finished_grows : {s : List ℕ} {es es' : List Entry} {n n' : Node} → Grows es es' → length es ≤ nothing → n' ≡ n → Finished s es n → Finished s es' n'
finished_grows {s} {es} {es'} {n} {n'} g l e f =
    record {
      kids = f.kids;
      linked = rw e (grows_linked es es' g l n.first f.kids f.linked);
      counted = ap (λ z. z.count) e ∙ f.counted;
      own = λ bytes. ap (sound s) e ∙ f.own bytes;
      input = ap (λ z. z.input) e ∙ f.input;
    }

-- A child is attached.

entry_ext : (x y : Entry) → x.child ≡ y.child → x.next ≡ y.next → x ≡ y
entry_ext x y p q = ap₂ (λ a b. record { child = a; next = b }) p q

used_more : {n m e : ℕ} → n ≤ m → UsedOrNone n e → UsedOrNone m e
used_more h (is_used l) = is_used (omega arith)
used_more h (is_none q) = is_none q

-- the entries of the chain, with the child's
added : {base : ℕ} (es : List Entry) (v : ℕ) {kids : List ℕ} {first : ℕ} {last : Option ℕ} → Built base es kids first last
    → Added es (follow last (length es) (es ++ record { child = v; next = nothing } ∷ [])) last v
added es v no_child = added_first es v
added es v (children x xs e last be l c w lb ll o) = added_next es v last ll

-- entries before the chain's own are not touched
added-kept : {base : ℕ} {es es' : List Entry} {v : ℕ} {kids : List ℕ} {first : ℕ} {last : Option ℕ} → Added es es' last v → Built base es kids first last
    → (i : ℕ) → i < base → i < length es → get_or es' i unlinked ≡ get_or es i unlinked
added-kept a no_child i b h = entry_ext _ _ (a.child i h) (a.link i h (λ q. let z : ◌≡◌ {A = ℕ} 0 1 = cc in absurd (omega arith)))
added-kept a (children x xs e last be l c w lb ll o) i b h =
    entry_ext _ _ (a.child i h) (a.link i h (λ q. let z : last ≡ i = cc in omega arith))

new_entries_in : {nodes : ℕ} {es es' : List Entry} {v : ℕ} {last : Option ℕ} → Added es es' last v → v < nodes
    → ((e : ℕ) → e < length es → EntryIn nodes (length es) (get_or es e unlinked)) → (e : ℕ) → e < length es' → EntryIn nodes (length es') (get_or es' e unlinked)
new_entries_in {nodes} {es} {es'} {v} {last} a named h e l = go (ltb e (length es)) refl
  where
    same : (i : ℕ) → i < length es → (k : ℕ) → some k ≡ last → (b : Bool) → eqb i k ≡ b → UsedOrNone (length es') (next_of es' i)
    same i li k q true z =
        let y : i ≡ k = eqb-true i k z in
        rw (a.linked i (sym q ∙ ap some (sym y)) li) (is_used (omega (arith, a.longer)))
    same i li k q false z =
        rw (a.link i li (λ w. let y : k ≡ i = cc in eqb-false i k z (sym y))) (used_more (omega (arith, a.longer)) (h i li).next)

    link : (o : Option ℕ) → o ≡ last → (i : ℕ) → i < length es → UsedOrNone (length es') (next_of es' i)
    link none q i li = rw (a.link i li (λ z. let y : ◌≡◌ {A = ℕ} 0 1 = cc in absurd (omega arith))) (used_more (omega (arith, a.longer)) (h i li).next)
    link (some k) q i li = same i li k q (eqb i k) refl

    go : (b : Bool) → ltb e (length es) ≡ b → EntryIn nodes (length es') (get_or es' e unlinked)
    go true q =
        let li : e < length es = ltb-true e (length es) q in
        record { child = rw (a.child e li) (h e li).child; next = link last refl e li }
    go false q =
        let z : e ≡ length es = omega (arith, ltb-false e (length es) q, a.longer) in
        rw z (record { child = rw a.new_child named; next = is_none a.new_link })

pub attached : {s : List ℕ} {b : State} {t t' : Need} {c : Chain} {v : ℕ} {st : State} → length s ≤ most_bytes → Chained s b t c → Valued s c.st t' (v, st)
    → Chained s b (raise entry (length st.entries + 1) t') (attach c v st)
unfolding attach
attached {s} {b} {t} {t'} {c} {v} {st} small k r =
    let bt = built-kept r.since.entries k.built in
    let a = added st.entries v bt in
    let sn = since_trans k.since r.since in
    let h = r.holds in
    record {
      holds =
          record {
            within = h.within;
            few-nodes = h.few-nodes;
            few-entries = omega (arith, a.longer, r.spent, k.holds.few-entries);
            few-slots = h.few-slots;
            claimed_nodes = h.claimed_nodes;
            claimed_entries = omega (arith, a.longer, h.claimed_entries);
            claimed_slots = h.claimed_slots;
            entries_in_lem = new_entries_in a r.named h.entries_in_lem;
            slots_in = h.slots_in;
          };
      since =
          record {
            on = omega (arith, sn.on);
            more_nodes = sn.more_nodes;
            same_nodes = sn.same_nodes;
            entries =
                record {
                  longer = omega (arith, a.longer, sn.entries.longer);
                  entry = λ i l. added-kept a bt i l (omega (arith, sn.entries.longer)) ∙ sn.entries.entry i l;
                };
          };
      spent = omega (arith, a.longer, r.spent, k.spent);
      built = built-added (omega (arith, sn.entries.longer)) a bt;
      finished = λ i l u. grown i l u (ltb i (length c.st.nodes)) refl;
    }
  where
    at_child : (i : ℕ) → length b.nodes ≤ i → i < length st.nodes → (d : Bool) → ltb i (length c.st.nodes) ≡ d → Finished s st.entries (get_or st.nodes i blank)
    at_child i l u true q =
        finished_grows (kept_grows c.st.entries st.entries r.since.entries) (few small k.holds) (r.since.same_nodes i (ltb-true i (length c.st.nodes) q))
        (k.finished i l (ltb-true i (length c.st.nodes) q))
    at_child i l u false q = r.finished i (ltb-false i (length c.st.nodes) q) u

    grown : (i : ℕ) → length b.nodes ≤ i → i < length st.nodes → (d : Bool) → ltb i (length c.st.nodes) ≡ d
        → Finished s (follow c.last (length st.entries) (st.entries ++ record { child = v; next = nothing } ∷ [])) (get_or st.nodes i blank)
    grown i l u d q =
        finished_grows (added_grows (added st.entries v (built-kept r.since.entries k.built)) (built-kept r.since.entries k.built)) (few small r.holds) refl (at_child i l u d q)

-- A node is entered and closed.

abbrev pub bit : ℕ → ℕ
bit zero = 0
bit (suc g) = 1

-- its node and, if it is flagged, its slot are claimed
pub record Claimed (t : Need) (g : ℕ) (st : State) : Type 0 where
  pub nodes : t.nodes ≡ length st.nodes + 1
  pub entries : t.entries ≡ length st.entries
  pub slots : t.slots ≡ length st.slots + bit g

length-reserve : (g : ℕ) (ss : List ℕ) → length (reserve g ss) ≡ length ss + bit g
length-reserve zero ss = omega arith
length-reserve (suc g) ss = length-append ss (0 ∷ [])

get_d_snoc_zero : (n : ℕ) (ss : List ℕ) → ((k : ℕ) → get_or ss k 0 ≤ n) → (k : ℕ) → get_or (ss ++ 0 ∷ []) k 0 ≤ n
get_d_snoc_zero n [] h zero = omega arith
get_d_snoc_zero n [] h (suc k) = omega arith
get_d_snoc_zero n (x ∷ xs) h zero = h 0
get_d_snoc_zero n (x ∷ xs) h (suc k) = get_d_snoc_zero n xs (λ k. h (suc k)) k

reserve_in : (n g : ℕ) (ss : List ℕ) → ((k : ℕ) → get_or ss k 0 ≤ n) → (k : ℕ) → get_or (reserve g ss) k 0 ≤ n
reserve_in n zero ss h k = h k
reserve_in n (suc g) ss h k = get_d_snoc_zero n ss h k

get_d_set_le : (n : ℕ) (ss : List ℕ) (i x : ℕ) → x ≤ n → ((k : ℕ) → get_or ss k 0 ≤ n) → (k : ℕ) → get_or (set ss i x) k 0 ≤ n
get_d_set_le n [] i x l h k = h k
get_d_set_le n (y ∷ ys) zero x l h zero = l
get_d_set_le n (y ∷ ys) zero x l h (suc k) = h (suc k)
get_d_set_le n (y ∷ ys) (suc i) x l h zero = h 0
get_d_set_le n (y ∷ ys) (suc i) x l h (suc k) = get_d_set_le n ys i x l (λ k. h (suc k)) k

fill_in : (n g i v : ℕ) (ss : List ℕ) → v + 1 ≤ n → ((k : ℕ) → get_or ss k 0 ≤ n) → (k : ℕ) → get_or (fill g i v ss) k 0 ≤ n
fill_in n zero i v ss l h k = h k
fill_in n (suc g) i v ss l h k = get_d_set_le n ss i (v + 1) l h k

length-fill : (g i v : ℕ) (ss : List ℕ) → length (fill g i v ss) ≡ length ss
length-fill zero i v ss = refl
length-fill (suc g) i v ss = length-set ss i (v + 1)

pub entered : {s : List ℕ} {t₀ t : Need} {st : State} (g at : ℕ) → Holds s t₀ st → Claimed t g st → st.at < at → at ≤ length s → Holds s t (enter st at g)
unfolding enter
entered {s} {t₀} {t} {st} g at h k l w =
    let ln = length-append st.nodes (blank ∷ []) in
    record {
      within = w;
      few-nodes = omega (arith, ln, h.few-nodes);
      few-entries = omega (arith, h.few-entries);
      few-slots = omega (arith, length-reserve g st.slots, h.few-slots, bit_one g);
      claimed_nodes = k.nodes ∙ sym ln;
      claimed_entries = k.entries;
      claimed_slots = k.slots ∙ sym (length-reserve g st.slots);
      entries_in_lem = λ e l. record { child = omega (arith, (h.entries_in_lem e l).child, ln); next = (h.entries_in_lem e l).next };
      slots_in = reserve_in _ g st.slots (λ i. omega (arith, h.slots_in i, ln));
    }
  where
    bit_one : (g : ℕ) → bit g ≤ 1
    bit_one zero = omega arith
    bit_one (suc g) = omega arith

pub started : {s : List ℕ} {t : Need} {b : State} → Holds s t b → Chained s b t (fresh b)
started {s} {t} {b} h =
    record {
      holds = h;
      since = record { on = omega arith; more_nodes = omega arith; same_nodes = λ i q. refl; entries = record { longer = omega arith; entry = λ i q. refl } };
      spent = omega arith;
      built = no_child;
      finished = λ i l u. absurd (omega arith);
    }

-- the node's own record, when its last child is read
abbrev pub closing : (letter : ℕ) → Fields → Chain → Node
closing l f c = record { letter = l; place = f.place; size = size_of f.children f.place f.size c.line; first = c.first; count = length c.kids; end = c.st.at; input = 0 }

pub closed : {s : List ℕ} {t₀ t : Need} {st : State} {c : Chain} (l g at : ℕ) (f : Fields) → Holds s t₀ st → st.at < at → Chained s (enter st at g) t c
    → (Bytes s → sound s (closing l f c) ≡ true) → Valued s st t (length st.nodes, close st l g f c)
unfolding enter close
closed {s} {t₀} {t} {st} {c} l g at f h past k own =
    let ln = length-append st.nodes (blank ∷ []) in
    let set-length = length-set c.st.nodes (length st.nodes) (closing l f c) in
    let filled = length-fill g (length st.slots) (length st.nodes) c.st.slots in
    let kh = k.holds in
    let kn = k.since.more_nodes in
    record {
      holds =
          record {
            within = kh.within;
            few-nodes = omega (arith, set-length, kh.few-nodes);
            few-entries = kh.few-entries;
            few-slots = omega (arith, filled, kh.few-slots);
            claimed_nodes = kh.claimed_nodes ∙ sym set-length;
            claimed_entries = kh.claimed_entries;
            claimed_slots = kh.claimed_slots ∙ sym filled;
            entries_in_lem = λ e q. record { child = omega (arith, (kh.entries_in_lem e q).child, set-length); next = (kh.entries_in_lem e q).next };
            slots_in = fill_in _ g (length st.slots) (length st.nodes) c.st.slots (omega (arith, set-length, ln, kn)) (λ i. omega (arith, kh.slots_in i, set-length));
          };
      since =
          record {
            on = omega (arith, k.since.on);
            more_nodes = omega (arith, set-length, ln, kn);
            same_nodes = λ i q. before i q;
            entries = k.since.entries;
          };
      past = omega (arith, k.since.on);
      spent = omega (arith, k.spent);
      named = omega (arith, set-length, ln, kn);
      finished = λ i q u. at_node i q (omega (arith, set-length)) (eqb i (length st.nodes)) refl;
    }
  where
    before : (i : ℕ) → i < length st.nodes → get_or (set c.st.nodes (length st.nodes) (closing l f c)) i blank ≡ get_or st.nodes i blank
    before i q =
        get_or-set_other c.st.nodes (length st.nodes) i (closing l f c) blank (λ e. omega arith)
        ∙ k.since.same_nodes i (omega (arith, length-append st.nodes (blank ∷ []))) ∙ get_or-append st.nodes (blank ∷ []) blank i q

    at_node : (i : ℕ) → length st.nodes ≤ i → i < length c.st.nodes → (b : Bool) → eqb i (length st.nodes) ≡ b
        → Finished s c.st.entries (get_or (set c.st.nodes (length st.nodes) (closing l f c)) i blank)
    at_node i q u true e =
        let z : i ≡ length st.nodes = eqb-true i (length st.nodes) e in
        rw (z, get_or-set_same c.st.nodes (length st.nodes) (closing l f c) blank (omega arith))
        (record { kids = c.kids; linked = built-linked k.built; counted = refl; own = own; input = refl })
    at_node i q u false e =
        let z = eqb-false i (length st.nodes) e in
        rw (get_or-set_other c.st.nodes (length st.nodes) i (closing l f c) blank z)
        (k.finished i (apart i q z) u)
      where
        apart : (i : ℕ) → length st.nodes ≤ i → (i ≡ length st.nodes → ⊥) → length (st.nodes ++ blank ∷ []) ≤ i
        apart i q z = strictly (ltb (length st.nodes) i) refl
          where
            strictly : (b : Bool) → ltb (length st.nodes) i ≡ b → length (st.nodes ++ blank ∷ []) ≤ i
            strictly true e = omega (arith, ltb-true (length st.nodes) i e, length-append st.nodes (blank ∷ []))
            strictly false e = absurd (z (omega (arith, ltb-false (length st.nodes) i e)))
