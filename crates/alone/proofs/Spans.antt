-- The span of any node of an accepted input, read alone where no reference in it names an earlier slot: its stores are the node's part of the
-- stores, lowered, and the bytes of its nodes are the same. Assumes that the input is bytes, 16 MiB of them at most.
use mathlib.Core.Path.{◌≡◌, refl, sym, ap, ◌∙◌}
use Prim.Native.Nat.{ℕ, ◌+◌, ◌-◌, ◌≤◌, ◌<◌}
use native.Mathlib.Omega.{arith}
use mathlib.Core.Bool.{cond}
use mathlib.Core.List.{List, ◌++◌, map}
use lib.ListN.{length, get_or, take, drop, length-drop, get_or-map}
use lib.Seq.{get_or-append-add, get_or-drop, get_or-take}
use lib.Dec.{leb}
use borrow.Author.Tests.{leb-true, le-leb}
use Rattle.refusals.specs.Limits.{most_bytes}
use Rattle.grammar.specs.Reading.{Kind, level, node, entry, slot, Reading, done, refused, claim, gives, stops}
use Rattle.grammar.specs.Room.{Rooms, room_for, number_of, run}
use Rattle.grammar.specs.Letters.{codes, class_of}
use Rattle.grammar.specs.State.{Node, State, start, blank, unlinked}
use Rattle.grammar.specs.Steps.{value}
use Rattle.grammar.specs.Answer.{plain}
use Rattle.grammar.specs.Input.{Bytes}
use Rattle.shifts.specs.Shift.{Shift, raised_need, raised_node, raised_entry, raised_slot, raised, raised_value, lifted}
use Rattle.shifts.proofs.Raising.{node_at, entry_at_lem, behind-length}
use Rattle.shifts.proofs.Onward.{Met, New, old, new, OnValue, Spaced, value-ends}
use Rattle.shifts.specs.Lower.{fronted, fronted_value, more_need, slotted, lowered, between, alone_of, Own, Apart, ahead, past, Clear}
use Rattle.nodespan.specs.Header.{header_of}
use Rattle.alone.proofs.Leading.{fields_end}
use Rattle.shifts.proofs.Agreeing.{Either, this, that}
use Rattle.shifts.proofs.Lowered.{between_in, in_between, between_spaced, spaced_same, lowered-byte, length-low, low-bytes}
use Rattle.shifts.proofs.Span.{shift_of, span_alone_lem, plainly-ends}
use Rattle.alone.proofs.Made.{Inside, Clears}
use Rattle.alone.proofs.Runs.{stops-gives, fits, run-plainly}
use Rattle.alone.proofs.Inside.{node-inside}

-- what a raised reading gives in some room, the other gives in it too: it needs no more
module _ (R : Rooms) where
  pub record Gave {A B : Type 0} (m : Reading A) (g : A → B) (b : B) : Type 0 where
    pub value : A
    pub gave : run R m ≡ gives value
    pub is : g value ≡ b

  room_for_lem : {A B : Type 0} (g : A → B) (b : B) (kind : Kind) (need more p p' : ℕ) (m : Reading A) (m' : Reading B) → need ≤ more → run R (claim kind more p' m') ≡ gives b
      → (run R m' ≡ gives b → Gave m g b) → Gave (claim kind need p m) g b
  unfolding run
  room_for_lem g b kind need more p p' m m' l e k =
      let z = fits (leb more (room_for R kind)) (run R m') (number_of kind) p' b e in
      let q = k z.1 in
      let y = le-leb need (room_for R kind) (omega (arith, leb-true more (room_for R kind) z.0)) in
      record { value = q.value; gave = ap (λ t. cond t (run R m) (stops (number_of kind) p)) y ∙ q.gave; is = q.is }

  need-raised : (k : Shift) (kind : Kind) (need : ℕ) → need ≤ raised_need k kind need
  need-raised k level need = omega arith
  need-raised k node need = omega arith
  need-raised k entry need = omega arith
  need-raised k slot need = omega arith

  need_more : (n : ℕ) (kind : Kind) (need : ℕ) → need ≤ more_need n kind need
  need_more n level need = omega arith
  need_more n node need = omega arith
  need_more n entry need = omega arith
  need_more n slot need = omega arith

  lifted-gives : {A B : Type 0} (k : Shift) (g : A → B) (m : Reading A) (b : B) → run R (lifted k g m) ≡ gives b → Gave m g b
  unfolding lifted run
  lifted-gives k g (done a) b e = record { value = a; gave = refl; is = cc }
  lifted-gives k g (refused n p) b e = stops-gives e
  lifted-gives k g (claim kind need p m) b e =
      room_for_lem g b kind need (raised_need k kind need) p (k.places + p) m (lifted k g m) (need-raised k kind need) e (lifted-gives k g m b)

  slotted-gives : {A B : Type 0} (n : ℕ) (g : A → B) (m : Reading A) (b : B) → run R (slotted n g m) ≡ gives b → Gave m g b
  unfolding slotted run
  slotted-gives n g (done a) b e = record { value = a; gave = refl; is = cc }
  slotted-gives n g (refused k p) b e = stops-gives e
  slotted-gives n g (claim kind need p m) b e =
      room_for_lem g b kind need (more_need n kind need) p p m (slotted n g m) (need_more n kind need) e (slotted-gives n g m b)

-- The part of the stores from node n on, so many nodes, entries and slots, is another state, raised.
pub record PartOf (k : Shift) (b n : ℕ) (alone fin : State) : Type 0 where
  pub nodes : (i : ℕ) → i < length alone.nodes → get_or fin.nodes (n + i) blank ≡ raised_node k (get_or alone.nodes i blank)
  pub entries : (i : ℕ) → i < length alone.entries → get_or fin.entries (length k.entries + i) unlinked ≡ raised_entry k (get_or alone.entries i unlinked)
  pub slots : (i : ℕ) → i < length alone.slots → get_or fin.slots (b + i) 0 ≡ raised_slot k (get_or alone.slots i 0)

pub record SpanRead (s : List ℕ) (R : Rooms) (b at end n top : ℕ) (k : Shift) (fin : State) : Type 0 where
  pub state : State
  pub gave : run R (plain (alone_of s b at end fin.met)) ≡ gives (0, state)
  pub consumed : at + state.at ≡ end
  pub made : n + length state.nodes ≡ top
  pub used : n + length state.nodes ≤ length fin.nodes
  pub used_entries_lem : length k.entries + length state.entries ≤ length fin.entries
  pub part : PartOf k b n state fin

module _ (s : List ℕ) (R : Rooms) (small : length s ≤ most_bytes) (bytes : Bytes s) (v : ℕ) (fin : State) (read : run R (plain s) ≡ gives (v, fin)) (n : ℕ) (used : n < length fin.nodes) where
  -- the node's own reading: its header stands at `.st .at`, its end at `.end .at`, and `.st .slots` were reserved before it
  abbrev pub own : Inside s R start n fin
  own = node-inside s R small bytes v fin read n used

  all_spaced : Spaced fin.at fin.met
  unfolding plain
  all_spaced = (plainly-ends (OnValue start) (plain s) (v, fin) (run-plainly R (plain s) (v, fin) read) (value-ends (length s) s 0 start)).1.spaced tt

  end_spaced : Spaced own.end.at own.end.met
  end_spaced = (plainly-ends (OnValue own.st) (value own.fuel s own.depth own.st) (n, own.end) (run-plainly R _ _ own.gave)
      (value-ends own.fuel s own.depth own.st)).1.spaced own.spaced

  -- the references met in the span are those of the whole reading that stand there
  same_met : between own.st.at own.end.at fin.met ≡ between own.st.at own.end.at own.end.met
  same_met =
      spaced_same fin.at own.end.at _ _ (between_spaced a e fin.at fin.met all_spaced) (between_spaced a e own.end.at own.end.met end_spaced)
      (λ r m. let q = between_in a e fin.met r m in in_between a e own.end.met r (back r q.2 (own.stands.onward.fresh r q.0)) q.1 q.2)
      (λ r m. let q = between_in a e own.end.met r m in in_between a e fin.met r (own.stands.onward.still r q.0) q.1 q.2)
    where
      a : ℕ
      a = own.st.at

      e : ℕ
      e = own.end.at

      back : (r : ℕ) → r < own.end.at → New own.end fin r → Met r own.end
      back r l (old m) = m
      back r l (new h z) = absurd (omega arith)

  module _ (r : ℕ × State) (is : fronted_value own.st.slots (raised_value (shift_of own.depth own.st) r) ≡ (n, own.end)) where
    abbrev k : Shift
    k = shift_of own.depth own.st

    the_end : fronted own.st.slots (raised k r.1) ≡ own.end
    the_end = ap (λ x. x.1) is

    nodes_are : own.end.nodes ≡ own.st.nodes ++ map (raised_node k) r.1.nodes
    unfolding raised
    nodes_are = sym (ap (λ x. x.nodes) the_end)

    entries_are : own.end.entries ≡ own.st.entries ++ map (raised_entry k) r.1.entries
    unfolding raised
    entries_are = sym (ap (λ x. x.entries) the_end)

    slots_are : own.end.slots ≡ own.st.slots ++ map (raised_slot k) r.1.slots
    unfolding raised
    slots_are = sym (ap (λ x. x.slots) the_end)

    ends_at : own.st.at + r.1.at ≡ own.end.at
    unfolding raised
    ends_at = ap (λ x. x.at) the_end

    root_is : r.0 ≡ 0
    root_is = let z : length own.st.nodes + r.0 ≡ n = ap (λ x. x.0) is in omega (arith, own.first)

    part_is : PartOf k (length own.st.slots) n r.1 fin
    part_is =
        record {
          nodes = λ i l.
              let z : n + i ≡ length own.st.nodes + i = omega (arith, own.first) in
              let m = ap length nodes_are ∙ behind-length (raised_node k) own.st.nodes r.1.nodes in
              rw z (own.stands.nodes (length own.st.nodes + i) (omega arith) (omega arith) ∙ ap (λ x. get_or x (length own.st.nodes + i) blank) nodes_are ∙ node_at k r.1.nodes i);
          entries = λ i l.
              let m = ap length entries_are ∙ behind-length (raised_entry k) own.st.entries r.1.entries in
              own.stands.entries (length own.st.entries + i) (omega arith) (omega arith) ∙ ap (λ x. get_or x (length own.st.entries + i) unlinked) entries_are ∙ entry_at_lem k r.1.entries i l;
          slots = λ i l.
              let m = ap length slots_are ∙ behind-length (raised_slot k) own.st.slots r.1.slots in
              own.stands.slots (length own.st.slots + i) (omega arith) (omega arith) ∙ ap (λ x. get_or x (length own.st.slots + i) 0) slots_are
              ∙ get_or-append-add own.st.slots (map (raised_slot k) r.1.slots) i 0 ∙ get_or-map (raised_slot k) r.1.slots i 0;
        }

    whole : run R (plain (alone_of s (length own.st.slots) own.st.at own.end.at fin.met)) ≡ gives r
        → SpanRead s R (length own.st.slots) own.st.at own.end.at n (length own.end.nodes) k fin
    whole e =
        let many = ap length nodes_are ∙ behind-length (raised_node k) own.st.nodes r.1.nodes in
        let linked = ap length entries_are ∙ behind-length (raised_entry k) own.st.entries r.1.entries in
        record {
          state = r.1;
          gave = e ∙ ap (λ x. gives (x, r.1)) root_is;
          consumed = ends_at;
          made = omega (arith, own.first, many);
          used = omega (arith, own.stands.more_nodes, own.first, many);
          used_entries_lem = omega (arith, own.stands.more_entries, linked);
          part = part_is;
        }

  pub node-alone : Own s (length own.st.slots) own.st.at own.end.at fin.met
      → SpanRead s R (length own.st.slots) own.st.at own.end.at n (length own.end.nodes) (shift_of own.depth own.st) fin
  node-alone asked =
      let k = shift_of own.depth own.st in
      let b = length own.st.slots in
      let law = span_alone_lem s small bytes own.fuel own.depth own.need own.st own.holds own.spaced own.enough n own.end (run-plainly R _ _ own.gave)
      (λ r m l h. asked r (own.stands.onward.still r m) l h) in
      let g₂ = slotted-gives R b (fronted_value own.st.slots) _ (n, own.end) (ap (run R) (sym law) ∙ own.gave) in
      let g₁ = lifted-gives R k (raised_value k) _ g₂.value g₂.gave in
      let same = ap (λ z. run R (plain (drop own.st.at (take own.end.at (lowered (length own.st.slots) z s))))) same_met in
      whole g₁.value (ap (fronted_value own.st.slots) g₁.is ∙ g₂.is) (same ∙ g₁.gave)

-- The bytes that a node's value is read from: its own, and a code's first line. Each is the same in the span read alone as in the whole.
clear_of : {s : List ℕ} {R : Rooms} {base fin : State} {n : ℕ} (i : Inside s R base n fin) (lo hi q : ℕ) → lo ≤ q → q < hi → hi ≤ i.end.at
    → ((r : ℕ) → Met r i.end → Either (r + 4 ≤ lo) (hi ≤ r)) → Clear fin.met q
clear_of {fin = fin} i lo hi q l h e f r m = go r (i.stands.onward.fresh r m)
  where
    met : (r : ℕ) → Either (r + 4 ≤ lo) (hi ≤ r) → Apart r q
    met r (this z) = past (omega arith)
    met r (that z) = ahead (omega arith)

    go : (r : ℕ) → New i.end fin r → Apart r q
    go r (old m) = met r (f r m)
    go r (new a z) = ahead (omega arith)

module _ (s : List ℕ) (R : Rooms) (small : length s ≤ most_bytes) (bytes : Bytes s) (v : ℕ) (fin : State) (read : run R (plain s) ≡ gives (v, fin))
    (n b at end top : ℕ) (k : Shift) (a : SpanRead s R b at end n top k fin) (places : k.places ≡ at) (long : end ≤ length s) where
  abbrev pub bit : List ℕ
  bit = alone_of s b at end fin.met

  pub bit-long : length bit ≡ end - at
  bit-long = length-drop at _ ∙ ap (λ z. z - at) (length-low s b at end fin.met long)

  pub bit-small : length bit ≤ most_bytes
  bit-small = omega (arith, bit-long)

  -- a byte of the span that is no index's
  same_byte : (q : ℕ) → at + q < end → Clear fin.met (at + q) → get_or bit q 0 ≡ get_or s (at + q) 0
  same_byte q l c =
      get_or-drop at (take end (lowered b (between at end fin.met) s)) q 0 ∙ get_or-take end (lowered b (between at end fin.met) s) (at + q) 0 l
      ∙ lowered-byte b (between at end fin.met) s (at + q) (λ r m. c r (between_in at end fin.met r m).0)

  module _ (i : ℕ) (l : i < length a.state.nodes) where
    abbrev nd : Node
    nd = get_or a.state.nodes i blank

    -- the same node read alone, and in the whole
    abbrev inner : Inside bit R start i a.state
    inner = node-inside bit R bit-small (low-bytes s bytes b at end fin.met) 0 a.state a.gave i l

    abbrev outer : Inside s R start (n + i) fin
    outer = node-inside s R small bytes v fin read (n + i) (omega (arith, a.used))

    inner_is : nd ≡ get_or inner.end.nodes i blank
    inner_is = inner.stands.nodes i (omega (arith, inner.first)) inner.named

    outer_is : get_or outer.end.nodes (n + i) blank ≡ raised_node k nd
    outer_is = sym (outer.stands.nodes (n + i) (omega (arith, outer.first)) outer.named) ∙ a.part.nodes i l

    pub inner_clears : Clears inner.st inner.end nd
    inner_clears = rw inner_is inner.clears

    pub raised_is : raised_node k nd ≡ record { letter = nd.letter; place = at + nd.place; size = nd.size; first = (raised_node k nd).first; count = nd.count; end = at + nd.end; input = nd.input }
    raised_is = rw (inner_clears.kept, places) refl

    outer_clears : Clears outer.st outer.end (raised_node k nd)
    outer_clears = rw (← outer_is) outer.clears

    within : inner.end.at ≤ a.state.at
    within = inner.stands.onward.on

    raised_end : fields_end (raised_node k nd) ≡ at + fields_end nd
    unfolding fields_end
    raised_end = rw raised_is (omega arith)

    raised_line_lem : (raised_node k nd).place + (raised_node k nd).size ≡ at + (nd.place + nd.size)
    raised_line_lem = rw raised_is (omega arith)

    raised-letter : class_of nd.letter ≡ codes → class_of (raised_node k nd).letter ≡ codes
    raised-letter e = rw raised_is e

    begins : outer.st.at ≤ at + nd.place
    unfolding header_of
    begins =
        let h : header_of (raised_node k nd) ≡ outer.st.at = rw outer_is at outer.header in
        let p : (raised_node k nd).place ≡ at + nd.place = ap (λ z. z.place) raised_is in
        omega arith

    pub own_bytes : (q : ℕ) → nd.place ≤ q → q < fields_end nd → get_or bit q 0 ≡ get_or s (at + q) 0
    own_bytes q lo hi =
        same_byte q (omega (arith, inner_clears.inside, within, a.consumed))
        (clear_of outer outer.st.at (fields_end (raised_node k nd)) (at + q) (omega (arith, begins)) (omega (arith, raised_end)) outer_clears.inside outer_clears.own)

    pub line-bytes : class_of nd.letter ≡ codes → (q : ℕ) → nd.place + nd.size ≤ q → q < nd.place + nd.size + 4 → get_or bit q 0 ≡ get_or s (at + q) 0
    line-bytes c q lo hi =
        same_byte q (omega (arith, inner_clears.line-inside c, within, a.consumed))
        (clear_of outer ((raised_node k nd).place + (raised_node k nd).size) ((raised_node k nd).place + (raised_node k nd).size + 4) (at + q) (omega (arith, raised_line_lem)) (omega (arith, raised_line_lem))
        (outer_clears.line-inside (raised-letter c)) (outer_clears.line (raised-letter c)))
