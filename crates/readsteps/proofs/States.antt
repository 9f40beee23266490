-- What the walk, the line and the stores hold, step by step: a value that is known, a node entered and closed, a child attached.
-- The laws of records in padded stores carry it. Assumes nothing.
use mathlib.Core.Path.{◌≡◌, refl, sym, ap, ap₂, subst, ◌∙◌}
use Prim.Native.Nat.{ℕ, zero, suc, ◌+◌, ◌*◌, ◌≤◌, ◌<◌}
use native.Mathlib.Omega.{arith}
use mathlib.Core.Bool.{Bool, true, false, cond, ◌&&◌}
use mathlib.Core.Option.{Option, none, some}
use mathlib.Core.List.{List, [], ◌∷◌, ◌++◌}
use lib.ListN.{length, get_or, length-append, length-set}
use lib.Dec.{eqb, ltb}
use borrow.Author.Tests.{eq-eqb, ne_eqb, eqb-true, eqb-false}
use Rattle.refusals.specs.Limits.{most_records, nothing}
use Rattle.refusals.specs.Numbers.{eof_object}
use Rattle.grammar.specs.Reading.{level, refused, claim, reads}
use Rattle.grammar.specs.Fields.{Fields, field, le32, sum_at, code_fault}
use Rattle.grammar.specs.Letters.{Class, refers, keeps, contains, codes, refuses, flag_of, letter_of, class_of, is_bytes, is_tuple, is_string}
use Rattle.grammar.specs.State.{Node, Entry, State, blank, unlinked, referred, node_width, entry_width, node_cells, entry_cells, node_at, entry_at}
use Rattle.grammar.specs.Steps.{Chain, Rule, whatever, as_bytes, as_tuple, as_names, as_string, letter_in, strings, suits, stored, reference, header, front, attach, passed, lined, enter, close, size_of, fill, code_part, locals_part, kinds_part, fault_of}
use Rattle.stores.specs.Written.{Keeps, node_written, entry_written}
use Rattle.stores.proofs.Records.{node_claimed, node_written_lem, entry_written_lem, entry_linked_lem, slot-reserved, slot_filled, length-reserve, length-fill}
use Rattle.stores.proofs.Lookups.{cell_kept, node_kept, entry_kept}
use Rattle.readsteps.specs.declared.Walk.{Walk}
use Rattle.readsteps.specs.declared.Line.{Line}
use Rattle.readsteps.specs.Held.{Holds, HoldsChain, LastIn, or_nothing}
use Rattle.readsteps.specs.Linking.{kept, line_next, entries_next, line_on, line_lined, strings_in, suits_in, fault_in}

-- The slots are only looked up.
reference-slots : (s ss slots : List ℕ) (at : ℕ) → Keeps ss slots → reference s ss at ≡ reference s slots at
unfolding reference
reference-slots s ss slots at k = ap (λ v. field s at 4 (stored at v)) (cell_kept {store = ss} slots (le32 s at) k)

header-slots : (s : List ℕ) (depth at nodes used : ℕ) (ss slots : List ℕ) (letter flag : ℕ) (class : Class) → Keeps ss slots
    → header s depth at nodes used ss letter flag class ≡ header s depth at nodes used slots letter flag class
unfolding header
header-slots s depth at nodes used ss slots letter flag refers k = ap reads (reference-slots s ss slots (at + 1) k)
header-slots s depth at nodes used ss slots letter flag (keeps form) k = refl
header-slots s depth at nodes used ss slots letter flag (contains sort) k = refl
header-slots s depth at nodes used ss slots letter flag codes k = refl
header-slots s depth at nodes used ss slots letter flag (refuses number) k = refl

pub front-slots : (s : List ℕ) (depth at nodes used : ℕ) (ss slots : List ℕ) → Keeps ss slots
    → front s depth at nodes used ss ≡ front s depth at nodes used slots
unfolding front
front-slots s depth at nodes used ss slots k =
    ap (λ m. claim level (depth + 1) at (cond (ltb at (length s)) m (refused eof_object (length s))))
    (header-slots s depth at nodes used ss slots (letter_of (get_or s at 0)) (flag_of (get_or s at 0)) (class_of (letter_of (get_or s at 0))) k)

module _ (w : Walk) (ns es ss : List ℕ) (st : State) (h : Holds w ns es ss st) where
  pub holds-known : (at : ℕ) → Holds (record { at = at; nodes = w.nodes; entries = w.entries; slots = w.slots }) ns es ss (referred at st)
  holds-known at =
      record {
        at = refl;
        nodes = h.nodes;
        entries = h.entries;
        slots = h.slots;
        node_store = h.node_store;
        entry_store = h.entry_store;
        slot_store = h.slot_store;
      }

  -- the node is claimed and its slot reserved: nothing is written
  pub holds-enter : (at flag : ℕ) → w.nodes * node_width + node_width ≤ length ns → w.slots + flag ≤ length ss → flag ≤ 1
      → Holds (record { at = at; nodes = w.nodes + 1; entries = w.entries; slots = w.slots + flag }) ns es ss (enter st at flag)
  unfolding enter
  holds-enter at flag room slots one =
      record {
        at = refl;
        nodes = ap (λ n. n + 1) h.nodes ∙ sym (length-append st.nodes (blank ∷ []));
        entries = h.entries;
        slots = ap (λ n. n + flag) h.slots ∙ sym (length-reserve flag st.slots one);
        node_store = node_claimed st.nodes h.node_store (omega (arith, h.nodes));
        entry_store = h.entry_store;
        slot_store = slot-reserved st.slots flag h.slot_store (omega (arith, h.slots));
      }

-- The node is written and its slot filled. `st` is the state before the node.
pub holds-close : {a : Walk} {ns es ss : List ℕ} {l : Line} {c : Chain} → l.walk ≡ a → HoldsChain l ns es ss c
    → (st : State) (node slot letter flag : ℕ) (f : Fields) (size : ℕ) → node ≡ length st.nodes → slot ≡ length st.slots
    → size ≡ size_of f.children f.place f.size l.line → node < a.nodes → slot + flag ≤ a.slots
    → Holds a (node_written ns node (record { letter = letter; place = f.place; size = size; first = l.first; count = l.count; end = a.at; input = 0 })) es
    (fill flag slot node ss) (close st letter flag f c)
unfolding close
holds-close {a} {ns} {es} {ss} {l} {c} wa hc st node slot letter flag f size en es' ez nl sl =
    let h : Holds a ns es ss c.st = subst (λ w. Holds w ns es ss c.st) wa hc.walk in
    let r : Node = record { letter = letter; place = f.place; size = size; first = l.first; count = l.count; end = a.at; input = 0 } in
    let q : size ≡ size_of f.children f.place f.size c.line = ez ∙ ap (size_of f.children f.place f.size) hc.line in
    let e : r ≡ record { letter = letter; place = f.place; size = size_of f.children f.place f.size c.line; first = c.first; count = length c.kids; end = c.st.at; input = 0 } =
    λ i. record { letter = letter; place = f.place; size = q i; first = hc.first i; count = hc.count i; end = h.at i; input = 0 } in
    record {
      at = h.at;
      nodes = h.nodes ∙ sym (length-set c.st.nodes (length st.nodes) _);
      entries = h.entries;
      slots = h.slots ∙ sym (length-fill flag (length st.slots) (length st.nodes) c.st.slots);
      node_store = rw (← e, ← en) (node_written_lem c.st.nodes node r h.node_store (omega (arith, h.nodes)));
      entry_store = h.entry_store;
      slot_store = rw (← en, ← es') (slot_filled c.st.slots flag slot node h.slot_store (omega (arith, h.slots)));
    }

-- A child more among the children.
kept_next : (part : ℕ) (vs : List ℕ) (v : ℕ) → cond (eqb (length vs) part) v (get_or vs part 0) ≡ get_or (vs ++ v ∷ []) part 0
kept_next zero [] v = refl
kept_next (suc part) [] v = rw (ne_eqb 0 (suc part) (λ q. omega arith)) refl
kept_next zero (x ∷ vs) v = rw (ne_eqb (suc (length vs)) 0 (λ q. omega arith)) refl
kept_next (suc part) (x ∷ vs) v = same (length vs) part ∙ kept_next part vs v
  where
    same : (n m : ℕ) → cond (eqb (suc n) (suc m)) v (get_or vs part 0) ≡ cond (eqb n m) v (get_or vs part 0)
    same n m = go (eqb n m) refl
      where
        go : (b : Bool) → eqb n m ≡ b → cond (eqb (suc n) (suc m)) v (get_or vs part 0) ≡ cond (eqb n m) v (get_or vs part 0)
        go true e = rw (e, eq-eqb (suc n) (suc m) (ap suc (eqb-true n m e))) refl
        go false e = rw (e, ne_eqb (suc n) (suc m) (λ q. eqb-false n m e (omega arith))) refl

kept_on : (part : ℕ) {count before : ℕ} (vs : List ℕ) (v : ℕ) → count ≡ length vs → before ≡ get_or vs part 0 → kept part count v before ≡ get_or (vs ++ v ∷ []) part 0
kept_on part vs v ec eb = rw (ec, eb) (kept_next part vs v)

module _ (l : Line) (c : Chain) (v : ℕ) (a : Walk) (ns es ss : List ℕ) (st : State) (h : Holds a ns es ss st) {ns₀ es₀ ss₀ : List ℕ} (hc : HoldsChain l ns₀ es₀ ss₀ c) (store : a.entries * entry_width + entry_width ≤ length es) (room : a.entries < most_records) where
  abbrev new : Entry
  new = record { child = v; next = nothing }

  written : Keeps (entry_written es a.entries new) (entry_cells (st.entries ++ new ∷ []))
  written = rw h.entries (entry_written_lem st.entries v h.entry_store (omega (arith, h.entries)))

  one_more : length (st.entries ++ new ∷ []) ≡ a.entries + 1
  one_more = length-append st.entries (new ∷ []) ∙ ap (λ n. n + 1) (sym h.entries)

  counted : l.count + 1 ≡ length (c.kids ++ v ∷ [])
  counted = ap (λ n. n + 1) hc.count ∙ sym (length-append c.kids (v ∷ []))

  pub chain_next : (x : Option ℕ) → c.last ≡ x → l.last ≡ or_nothing x → LastIn x a.entries
      → HoldsChain (line_next l v a) ns (entries_next es l v a) ss (attach c v st)
  unfolding attach
  chain_next none cl ll lin =
      rw (eq-eqb l.last nothing ll, cl)
      (record {
        walk = record {
          at = h.at;
          nodes = h.nodes;
          entries = sym one_more;
          slots = h.slots;
          node_store = h.node_store;
          entry_store = written;
          slot_store = h.slot_store;
        };
        first = h.entries;
        last = h.entries;
        last_in = omega (arith, h.entries);
        count = counted;
        line = hc.line;
        code = kept_on code_part c.kids v hc.count hc.code;
        locals = kept_on locals_part c.kids v hc.count hc.locals;
        kinds = kept_on kinds_part c.kids v hc.count hc.kinds;
      })
  chain_next (some p) cl ll lin =
      rw (ne_eqb l.last nothing (λ q. omega arith), cl)
      (record {
        walk = record {
          at = h.at;
          nodes = h.nodes;
          entries = sym (length-set (st.entries ++ new ∷ []) p _ ∙ one_more);
          slots = h.slots;
          node_store = h.node_store;
          entry_store = rw (ll, h.entries) (entry_linked_lem (st.entries ++ new ∷ []) p (length st.entries) (rw h.entries at written) (omega (arith, one_more, h.entries)));
          slot_store = h.slot_store;
        };
        first = hc.first;
        last = h.entries;
        last_in = omega (arith, h.entries);
        count = counted;
        line = hc.line;
        code = kept_on code_part c.kids v hc.count hc.code;
        locals = kept_on locals_part c.kids v hc.count hc.locals;
        kinds = kept_on kinds_part c.kids v hc.count hc.kinds;
      })

-- Bytes passed, and the first line.
pub holds-passed : (size : ℕ) {l : Line} {ns es ss : List ℕ} {c : Chain} → HoldsChain l ns es ss c → HoldsChain (line_on size l) ns es ss (passed size c)
holds-passed size h =
    record {
      walk = record {
        at = ap (λ n. n + size) h.walk.at;
        nodes = h.walk.nodes;
        entries = h.walk.entries;
        slots = h.walk.slots;
        node_store = h.walk.node_store;
        entry_store = h.walk.entry_store;
        slot_store = h.walk.slot_store;
      };
      first = h.first;
      last = h.last;
      last_in = h.last_in;
      count = h.count;
      line = h.line;
      code = h.code;
      locals = h.locals;
      kinds = h.kinds;
    }

pub holds-lined : {l : Line} {ns es ss : List ℕ} {c : Chain} → HoldsChain l ns es ss c → HoldsChain (line_lined l) ns es ss (lined c)
holds-lined h =
    record {
      walk = record {
        at = ap (λ n. n + 4) h.walk.at;
        nodes = h.walk.nodes;
        entries = h.walk.entries;
        slots = h.walk.slots;
        node_store = h.walk.node_store;
        entry_store = h.walk.entry_store;
        slot_store = h.walk.slot_store;
      };
      first = h.first;
      last = h.last;
      last_in = h.last_in;
      count = h.count;
      line = h.walk.at;
      code = h.code;
      locals = h.locals;
      kinds = h.kinds;
    }

-- The lookups of a part's rule and of a code's end.
module _ {ns es : List ℕ} (xs : List Node) (ys : List Entry) (kn : Keeps ns (node_cells xs)) (ke : Keeps es (entry_cells ys)) where
  strings_held : (more e : ℕ) → strings_in ns es more e ≡ strings xs ys more e
  unfolding strings_in strings
  strings_held zero e = refl
  strings_held (suc more) e =
      let at : entry_at es e ≡ get_or ys e unlinked = entry_kept ys e ke in
      ap₂ ◌&&◌
      (ap (λ n. is_string n.letter) (ap (λ x. node_at ns x.child) at ∙ node_kept xs (get_or ys e unlinked).child kn))
      (ap (λ x. strings_in ns es more x.next) at ∙ strings_held more (get_or ys e unlinked).next)

  pub suits_held : (rule : Rule) (v : ℕ) → suits_in rule ns es v ≡ suits rule xs ys v
  unfolding suits
  suits_held whatever v = refl
  suits_held as_bytes v = ap (λ n. is_bytes n.letter) (node_kept xs v kn)
  suits_held as_tuple v = ap (λ n. is_tuple n.letter) (node_kept xs v kn)
  suits_held as_names v =
      ap (λ n. is_tuple n.letter && strings_in ns es n.count n.first) (node_kept xs v kn)
      ∙ ap (λ b. is_tuple (letter_in xs v) && b) (strings_held (get_or xs v blank).count (get_or xs v blank).first)
  suits_held as_string v = ap (λ n. is_string n.letter) (node_kept xs v kn)

pub fault_held : {l : Line} {ns es ss : List ℕ} {c : Chain} (s : List ℕ) (at : ℕ) → HoldsChain l ns es ss c → fault_in s ns (at + 1) l ≡ fault_of s at c
fault_held {l} {ns} {es} {ss} {c} s at h =
    let code = ap (λ v. (node_at ns v).size) h.code ∙ ap (λ n. n.size) (node_kept c.st.nodes (get_or c.kids code_part 0) h.walk.node_store) in
    let locals = ap (λ v. (node_at ns v).count) h.locals ∙ ap (λ n. n.count) (node_kept c.st.nodes (get_or c.kids locals_part 0) h.walk.node_store) in
    let kinds = ap (λ v. (node_at ns v).size) h.kinds ∙ ap (λ n. n.size) (node_kept c.st.nodes (get_or c.kids kinds_part 0) h.walk.node_store) in
    λ i. code_fault (sum_at s (at + 1)) (code i) (locals i) (kinds i)
