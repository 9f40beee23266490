-- 02, K11: what is read behind kept nodes means what it means when it is read alone. Assumes bytes, 16 MiB of them at most, and an accepted input.
use mathlib.Core.Path.{◌≡◌, refl, sym, ap, ◌∙◌}
use Prim.Native.Nat.{ℕ, ◌+◌, ◌≤◌, ◌<◌}
use native.Mathlib.Omega.{arith}
use mathlib.Core.Bool.{Bool, true, false}
use mathlib.Core.List.{List, map, ◌++◌}
use lib.ListN.{length, get_or, length-map}
use lib.Dec.{leb, eqb}
use borrow.Author.Tests.{leb-true, eqb-true}
use Rattle.refusals.specs.Limits.{most_bytes}
use Rattle.grammar.specs.Reading.{Answer, gives, stops}
use Rattle.grammar.specs.Room.{plainly}
use Rattle.grammar.specs.Letters as letter
use Rattle.grammar.specs.Letters.{Class, refers, keeps, contains, codes, refuses, letters, found, class_of}
use Rattle.grammar.specs.Fields.{Fields, fields, le32}
use Rattle.grammar.specs.State.{Node, Entry, State, blank}
use Rattle.grammar.specs.Answer.{plain}
use Rattle.grammar.specs.Record.{reads_as, ruled, sound}
use Rattle.grammar.proofs.Tests.{both_true, never}
use Rattle.grammar.specs.Input.{Bytes}
use Rattle.grammar.proofs.Bounded.{accepted}
use Rattle.shifts.specs.Shift.{Shift, raised_link, raised_number, raised_node, raised_entry, raised}
use Rattle.shifts.proofs.Raising.{node_at, entry_at_lem, behind-length}
use Rattle.alone.proofs.Leading.{fields_end}
use Rattle.shifts.proofs.Kept.{kept_shift}
use Rattle.writing.specs.Shape.{classed}
use Rattle.meaning.specs.Value.{Value}
use Rattle.meaning.proofs.Means.{Means}
use Rattle.meaning.proofs.Standing.{InState}
use Rattle.alone.proofs.Lone.{renamed, Renames, means_renamed, linked-raised, classed_same}

-- The record test does not look at the first entry.
abbrev linked_to : ℕ → Node → Node
linked_to x n = record { letter = n.letter; place = n.place; size = n.size; first = x; count = n.count; end = n.end; input = n.input }

ruled-linked : (s : List ℕ) (n : Node) (x : ℕ) (c : Class) → ruled s (linked_to x n) c ≡ ruled s n c
ruled-linked s n x refers = refl
ruled-linked s n x (refuses number) = refl
ruled-linked s n x (keeps form) = go (fields s form n.place)
  where
    go : (r : Answer Fields) → reads_as r (linked_to x n) ≡ reads_as r n
    go (gives f) = refl
    go (stops number place) = refl
ruled-linked s n x (contains letter.bytes) = refl
ruled-linked s n x (contains letter.text) = refl
ruled-linked s n x (contains letter.short) = refl
ruled-linked s n x codes = refl

-- a node with no letter is not sound
sound-letter : (s : List ℕ) (n : Node) → sound s n ≡ true → eqb n.letter 0 ≡ false
unfolding sound class_of letters found
sound-letter s n e = go (eqb n.letter 0) refl (both_true (leb (n.place + n.size) (length s)) (ruled s n (class_of n.letter)) e).1
  where
    go : (b : Bool) → eqb n.letter 0 ≡ b → ruled s n (class_of n.letter) ≡ true → b ≡ false
    go false q h = refl
    go true q h =
        let z : n.letter ≡ 0 = eqb-true n.letter 0 q in
        never (sym (ap (ruled s n) (ap class_of z)) ∙ h)

module _ (s : List ℕ) (small : length s ≤ most_bytes) (bs : Bytes s) (v : ℕ) (st : State) (read : plainly (plain s) ≡ gives (v, st)) (ns : List Node) (es : List Entry) where
  abbrev k : Shift
  k = kept_shift ns es

  abbrev f : ℕ → ℕ
  f = raised_number k

  abbrev fin : State
  fin = raised k st

  module _ (i : ℕ) (l : i < length st.nodes) where
    abbrev nd : Node
    nd = get_or st.nodes i blank

    abbrev nd' : Node
    nd' = get_or fin.nodes (f i) blank

    kept : eqb nd.letter 0 ≡ false
    kept =
        sound-letter s nd (((accepted s small (v, st) read).finished i l).own bs)

    is_raised : nd' ≡ record { letter = nd.letter; place = 0 + nd.place; size = nd.size; first = raised_link k nd.first; count = nd.count; end = 0 + nd.end; input = nd.input }
    unfolding raised
    is_raised = node_at k st.nodes i ∙ rw kept refl

    sound-raised : sound s nd ≡ true → sound s nd' ≡ true
    unfolding sound
    sound-raised e =
        let z : 0 + nd.place ≡ nd.place = omega arith in
        let y : 0 + nd.end ≡ nd.end = omega arith in
        rw (is_raised, z, y, ruled-linked s nd (raised_link k nd.first) (class_of nd.letter)) e

    shape_raised : (kids : List ℕ) → sound s nd ≡ true → renamed f (classed s nd kids (class_of nd.letter)) ≡ classed s nd' (map f kids) (class_of nd'.letter)
    unfolding sound fields_end
    shape_raised kids e =
        let p = both_true (leb (nd.place + nd.size) (length s)) (ruled s nd (class_of nd.letter)) e in
        let w = leb-true (nd.place + nd.size) (length s) p.0 in
        let letters : nd'.letter ≡ nd.letter = ap (λ z. z.letter) is_raised in
        classed_same s s 0 nd nd' letters (ap (λ z. z.place) is_raised) (ap (λ z. z.size) is_raised) (fields_end nd) (λ q q' d lo hi. ap (λ z. get_or s z 0) (same q q' d)) f kids
        (class_of nd.letter) refl refl w (omega arith) p.1
        (λ c. ap (le32 s) (line))
        ∙ ap (λ z. classed s nd' (map f kids) (class_of z)) (sym letters)
      where
        same : (q q' : ℕ) → q' ≡ 0 + q → q ≡ q'
        same q q' d = omega arith

        line : nd.place + nd.size ≡ 0 + nd.place + nd.size
        line = omega arith

  stands_further : Renames f (InState s st) (InState s fin)
  unfolding raised
  stands_further i kids sh h =
      let l = h.within in
      let acc = accepted s small (v, st) read in
      record {
        within = omega (arith, behind-length (raised_node k) ns st.nodes);
        linked =
            rw (ap (λ z. z.first) (is_raised i l))
            (linked-raised k st.entries (es ++ map (raised_entry k) st.entries) (omega (arith, acc.few-entries, acc.consumed))
            (omega (arith, behind-length (raised_entry k) es st.entries)) (λ j q. entry_at_lem k st.entries j q) (nd i l).first kids h.linked);
        counted = ap (λ z. z.count) (is_raised i l) ∙ h.counted ∙ sym (length-map kids f);
        own = sound-raised i l h.own;
        is = sym (shape_raised i l kids h.own) ∙ ap (renamed f) h.is;
      }

  pub kept_same_value : (w : Value) (i : ℕ) → Means (InState s st) i w → Means (InState s (raised (kept_shift ns es) st)) (length ns + i) w
  kept_same_value w i m = means_renamed f (InState s st) (InState s fin) stands_further w i m
