-- What the viewer is told of a node that was read: its bytes are sound, the slots reserved before it are the flagged headers before its own,
-- and the question's answer is that of the plain reading. Assumes that the input is bytes, 16 MiB of them at most.
use mathlib.Core.Path.{◌≡◌, refl, sym, ap, ap₂, ◌∙◌}
use Prim.Native.Nat.{ℕ, zero, suc, ◌+◌, ◌≤◌, ◌<◌}
use native.Mathlib.Omega.{arith}
use mathlib.Core.Bool.{Bool, true, false, cond, ◌&&◌}
use mathlib.Core.List.{List}
use lib.ListN.{length, get_or}
use lib.Dec.{ltb}
use borrow.Author.Tests.{ltb-true, ltb-false, lt-ltb, le-ltb, le-leb, eq-eqb}
use Rattle.refusals.specs.Limits.{most_bytes}
use Rattle.grammar.specs.Input.{Bytes}
use Rattle.grammar.specs.Reading.{gives}
use Rattle.grammar.specs.Letters.{Class, refers, keeps, contains, codes, refuses, letter_of, flag_of, class_of}
use Rattle.grammar.specs.Room.{Rooms, run}
use Rattle.grammar.specs.State.{Node, State, start, blank}
use Rattle.grammar.specs.Answer.{plain}
use Rattle.grammar.specs.Record.{Tables, nodes_in, entries_in, sound_at, node_of}
use Rattle.nodespan.specs.Header.{lead, header_of, own_size, spanned}
use Rattle.nodespan.specs.Span.{reserved, flagged_before, closed_from, span_of}
use Rattle.alone.specs.Question.{start_of, end_of, slots_before, names_own}
use Rattle.alone.proofs.Leading.{fields_end}
use Rattle.alone.proofs.Totals.{total, total-one, total_none}
use Rattle.alone.proofs.Kin.{flag}
use Rattle.alone.proofs.Made.{Inside}
use Rattle.alone.proofs.Nested.{own, own_made, starts, ascends, ascends_or_same, slots_before_start}
use Rattle.alone.proofs.Asked.{Held, header_held, input_held, closed_held}

-- an answer from its parts
told_by : (t : Tables) (n source start end : ℕ) (closed : Bool) (before : ℕ) → length t.input ≤ most_bytes → sound_at t.input t.nodes t.used_nodes n ≡ true
    → spanned t.input (node_of t n) ≡ true → (node_of t n).input ≡ source → header_of (node_of t n) ≡ start → (node_of t n).end ≡ end
    → closed_from t source start end (nodes_in t.nodes t.used_nodes) 0 (entries_in t.entries t.used_entries) ≡ gives closed
    → flagged_before t source start (nodes_in t.nodes t.used_nodes) 0 ≡ before
    → span_of t n ≡ gives (record { start = start; end = end; closed = closed; slots_before = before })
unfolding span_of
told_by t n source start end closed before small sound spans i h e c b = rw (le-ltb most_bytes (length t.input) small, sound, spans, h, i, e, c, b) refl

module _ (s : List ℕ) (R : Rooms) (small : length s ≤ most_bytes) (bytes : Bytes s) (v : ℕ) (fin : State) (read : run R (plain s) ≡ gives (v, fin)) (t : Tables) (held : Held s fin t)
    (n : ℕ) (used : n < length fin.nodes) where
  abbrev mine : Inside s R start n fin
  mine = own s R small bytes v fin read n used

  abbrev nd : Node
  nd = get_or fin.nodes n blank

  is_own : nd ≡ get_or mine.end.nodes n blank
  is_own = mine.stands.nodes n (omega (arith, mine.first)) mine.named

  -- One slot for each flagged header before the node's.
  reserved_is : (m : ℕ) → m < length fin.nodes → reserved t 0 (start_of fin n) m ≡ cond (ltb (start_of fin m) (start_of fin n)) (flag s (get_or fin.nodes m blank)) 0
  unfolding start_of
  reserved_is m l =
      ap (λ b. cond (b && ltb (header_of (node_of t m)) (start_of fin n)) (flag_of (get_or t.input (header_of (node_of t m)) 0)) 0)
      (eq-eqb (node_of t m).input 0 (input_held s R small bytes v fin read t held m l))
      ∙ rw (held.input, held.node m l) refl

  flagged_is : (more m k : ℕ) → m + more ≤ length fin.nodes → k ≤ more → (m < n → m + k ≡ n) → (n ≤ m → k ≡ 0)
      → flagged_before t 0 (start_of fin n) more m ≡ total (flag s) fin.nodes k m
  unfolding flagged_before
  flagged_is zero m k l h lo hi =
      let z : k ≡ 0 = omega arith in
      rw z (sym (total_none (flag s) fin.nodes m))
  flagged_is (suc more) m zero l h lo hi =
      let q = ascends_or_same s R small bytes v fin read n m (past (ltb m n) refl) there in
      rw (reserved_is m there, le-ltb (start_of fin m) (start_of fin n) q)
      (flagged_none (flagged_is more (m + 1) zero (omega arith) (omega arith) (λ z. absurd (omega (arith, past (ltb m n) refl))) (λ z. refl)))
    where
      there : m < length fin.nodes
      there = omega arith

      past : (b : Bool) → ltb m n ≡ b → n ≤ m
      past true e = absurd (omega (arith, lo (ltb-true m n e), ltb-true m n e))
      past false e = ltb-false m n e

      flagged_none : flagged_before t 0 (start_of fin n) more (m + 1) ≡ total (flag s) fin.nodes 0 (m + 1) → 0 + flagged_before t 0 (start_of fin n) more (m + 1) ≡ total (flag s) fin.nodes 0 m
      flagged_none e = omega (arith, total_none (flag s) fin.nodes m, total_none (flag s) fin.nodes (m + 1))
  flagged_is (suc more) m (suc k) l h lo hi =
      let q = ascends s R small bytes v fin read m n (before (ltb m n) refl) used in
      rw (reserved_is m there, lt-ltb (start_of fin m) (start_of fin n) q)
      (omega (
        arith,
        total-one (flag s) fin.nodes k m,
        flagged_is more (m + 1) k (omega arith) (omega arith) (λ z. omega (arith, lo (before (ltb m n) refl)))
            (λ z. omega (arith, lo (before (ltb m n) refl))),
      ))
    where
      there : m < length fin.nodes
      there = omega arith

      before : (b : Bool) → ltb m n ≡ b → m < n
      before true e = ltb-true m n e
      before false e = absurd (omega (arith, hi (ltb-false m n e)))

  before_held : flagged_before t 0 (start_of fin n) (nodes_in t.nodes t.used_nodes) 0 ≡ slots_before fin (start_of fin n)
  before_held =
      let f = mine.flagged in
      rw (held.many, slots_before_start s R small bytes v fin read n used)
      (flagged_is (length fin.nodes) 0 f.nodes (omega arith) (omega (arith, f.many)) (λ z. omega (arith, f.many)) (λ z. omega (arith, f.many)) ∙ sym
      (f.flags ∙ none_before (total (flag s) fin.nodes f.nodes 0)))
    where
      none_before : (x : ℕ) → 0 + x ≡ x
      none_before x = omega arith

  -- The header does not stand before the input, nor the end before the contents' end or beyond the input.
  lead_held : lead (class_of nd.letter) ≤ nd.place
  lead_held = rw is_own (omega (arith, mine.led))

  own_held : (c : Class) → class_of (get_or mine.end.nodes n blank).letter ≡ c → (get_or mine.end.nodes n blank).place + own_size c (get_or mine.end.nodes n blank).size ≤ mine.end.at
  unfolding fields_end
  own_held refers e = let h = mine.clears.inside in rw e at h
  own_held (keeps form) e = let h = mine.clears.inside in rw e at h
  own_held (contains sort) e = let h = mine.clears.inside in rw e at h
  own_held codes e = omega (arith, mine.clears.line-inside e)
  own_held (refuses number) e = let h = mine.clears.inside in rw e at h

  size_held : nd.place + own_size (class_of nd.letter) nd.size ≤ nd.end
  size_held = rw is_own (omega (arith, mine.ended, own_held (class_of (get_or mine.end.nodes n blank).letter) refl))

  end_held : nd.end ≤ length s
  end_held = rw is_own (omega (arith, mine.ended, (own_made s R small bytes v fin read n used).valued.holds.within))

  spanned_held : spanned s nd ≡ true
  unfolding spanned
  spanned_held =
      rw (le-leb (lead (class_of nd.letter)) nd.place lead_held, le-leb (nd.place + own_size (class_of nd.letter) nd.size) nd.end size_held, le-leb nd.end (length s) end_held) refl

  pub header-letter : letter_of (get_or s (start_of fin n) 0) ≡ nd.letter
  header-letter = ap (λ z. letter_of (get_or s z 0)) (starts s R small bytes v fin read n used) ∙ sym (ap (λ z. z.letter) is_own ∙ mine.lettered)

  -- The whole answer.
  pub span-told : sound_at t.input t.nodes t.used_nodes n ≡ true
      → span_of t n ≡ gives (record { start = start_of fin n; end = end_of fin n; closed = names_own s fin n; slots_before = slots_before fin (start_of fin n) })
  unfolding end_of
  span-told sound =
      told_by t n 0 (start_of fin n) (end_of fin n) (names_own s fin n) (slots_before fin (start_of fin n)) (omega (arith, ap length held.input)) sound
      (ap₂ spanned held.input (held.node n used) ∙ spanned_held) (input_held s R small bytes v fin read t held n used) (header_held s R small bytes v fin read t held n used) (ap (λ z. z.end) (held.node n used))
      (closed_held s R small bytes v fin read t held n used) before_held
