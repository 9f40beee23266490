-- What the loops come to is the definition's answer: along a chain, of the question, and of the span.
-- Assumes nothing.
use mathlib.Core.Path.{◌≡◌, refl, sym, ap, ◌∙◌}
use Prim.Native.Nat.{ℕ, zero, suc, ◌+◌, ◌-◌}
use native.Mathlib.Omega.{arith}
use mathlib.Core.Bool.{Bool, true, false, cond, ◌&&◌}
use mathlib.Core.Option.{Option, none, some}
use mathlib.Core.List.{List, [], ◌∷◌}
use lib.ListN.{length}
use lib.Dec.{ltb}
use Rattle.std.specs.Prelude.{Option as Maybe, Some, None, Result, Ok, Err}
use Rattle.refusals.specs.Numbers.{input_too_long, bad_table}
use Rattle.refusals.specs.Faults.{refused}
use Rattle.refusals.specs.declared.Fault.{Fault}
use Rattle.refusals.specs.declared.Refusal.TheVariants.{BadTable}
use Rattle.refusals.specs.Limits.{most_bytes}
use Rattle.grammar.specs.Reading.{Answer, gives, stops}
use Rattle.grammar.specs.Numbered.{numbered}
use Rattle.grammar.specs.State.{Node, node_at, entry_at}
use Rattle.grammar.specs.Record.{Tables, tables_of, nodes_in, entries_in, sound_at, node_of, chain, put}
use Rattle.nodespan.specs.Span.{Span, inside, all_inside, all_used, of_chain, children_at, and_then, onward, closed_from, flagged_before, reserved, told, span_of}
use Rattle.nodespan.specs.Header.{header_of, spanned}
use Rattle.nodespan.specs.Walk.{Within, among, joined, along, told_of, also, after, asks, answered_of, bounded, spanned_by, span_at}
use Rattle.nodespan.specs.declared.Bounds.{Bounds}
use Rattle.nodespan.specs.declared.Found.{Found}

and_then_lem : (b : Bool) (x : Result Bool Fault) → and_then b (numbered x) ≡ numbered (also b x)
and_then_lem b (Ok c) = refl
and_then_lem b (Err f) = refl

also_true : (a : Result Bool Fault) → a ≡ also true a
also_true (Ok c) = refl
also_true (Err f) = refl

module _ (t : Tables) (source start end : ℕ) where
  abbrev within : Within
  within =
      record {
        nodes = t.nodes;
        entries = t.entries;
        many = nodes_in t.nodes t.used_nodes;
        room = entries_in t.entries t.used_entries;
        source = source;
        start = start;
        end = end;
      }

  -- what is kept of a chain
  abbrev kept : Option (List ℕ) → Maybe Bool
  kept none = None
  kept (some vs) = cond (all_used t vs) (Some (all_inside t source start end vs)) None

  kept_put : (v : ℕ) (o : Option (List ℕ)) → cond (ltb v (nodes_in t.nodes t.used_nodes)) (joined (inside t source start end v) (kept o)) None ≡ kept (put v o)
  unfolding all_used all_inside
  kept_put v none = go (ltb v (nodes_in t.nodes t.used_nodes))
    where
      go : (b : Bool) → cond b (joined (inside t source start end v) None) None ≡ None
      go true = refl
      go false = refl
  kept_put v (some vs) = go (ltb v (nodes_in t.nodes t.used_nodes)) (all_used t vs)
    where
      go : (a b : Bool) → cond a (joined (inside t source start end v) (cond b (Some (all_inside t source start end vs)) None)) None
          ≡ cond (a && b) (Some (inside t source start end v && all_inside t source start end vs)) None
      go true true = refl
      go true false = refl
      go false b = refl

  along_is : (count e : ℕ) → along within count e ≡ kept (chain t count e)
  unfolding along chain all_used all_inside
  along_is zero e = refl
  along_is (suc more) e =
      let v = (entry_at t.entries e).child in
      let next = (entry_at t.entries e).next in
      ap (λ o. cond (ltb e (entries_in t.entries t.used_entries)) (cond (ltb v (nodes_in t.nodes t.used_nodes)) (joined (inside t source start end v) o) None) None)
      (along_is more next)
      ∙ ap (λ o. cond (ltb e (entries_in t.entries t.used_entries)) o None) (kept_put v (chain t more next))
      ∙ go (ltb e (entries_in t.entries t.used_entries)) (put v (chain t more next))
    where
      go : (b : Bool) (o : Option (List ℕ)) → cond b (kept o) None ≡ kept (cond b o none)
      go true o = refl
      go false o = refl

  -- a chain has as many children as it is long
  chain-long : (count e : ℕ) (vs : List ℕ) → chain t count e ≡ some vs → length vs ≡ count
  unfolding chain
  chain-long zero e vs h = ap length (sym (ap or_none h))
    where
      or_none : Option (List ℕ) → List ℕ
      or_none none = []
      or_none (some vs) = vs
  chain-long (suc more) e vs h =
      go (ltb e (entries_in t.entries t.used_entries)) (chain t more (entry_at t.entries e).next) (chain-long more (entry_at t.entries e).next) refl h
    where
      go : (b : Bool) (o : Option (List ℕ)) → ((ws : List ℕ) → chain t more (entry_at t.entries e).next ≡ some ws → length ws ≡ more)
          → chain t more (entry_at t.entries e).next ≡ o → cond b (put (entry_at t.entries e).child o) none ≡ some vs → length vs ≡ suc more
      go true (some ws) later q h =
          let z : vs ≡ (entry_at t.entries e).child ∷ ws = cc in
          ap length z ∙ ap suc (later ws q)
      go true none later q h = let z : ◌≡◌ {A = ℕ} 0 1 = cc in absurd (omega arith)
      go false o later q h = let z : ◌≡◌ {A = ℕ} 0 1 = cc in absurd (omega arith)

  -- one node inside, whose chain is this
  onward_is : (m count : ℕ) (o : Option (List ℕ)) (rest : ℕ → Answer Bool) (rest' : ℕ → Result Bool Fault) → ((vs : List ℕ) → o ≡ some vs → length vs ≡ count)
      → rest count ≡ numbered (rest' count) → onward t source start end (of_chain t m o) rest ≡ numbered (after m (told_of count (kept o)) rest')
  onward_is m count none rest rest' long same = refl
  onward_is m count (some vs) rest rest' long same = go (all_used t vs)
    where
      go : (b : Bool) → onward t source start end (cond b (gives vs) (stops bad_table m)) rest
          ≡ numbered (after m (told_of count (cond b (Some (all_inside t source start end vs)) None)) rest')
      go true =
          ap (λ k. and_then (all_inside t source start end vs) (rest k)) (long vs refl) ∙ ap (and_then (all_inside t source start end vs)) same
          ∙ and_then_lem (all_inside t source start end vs) (rest' count)
      go false = refl

  pub asks_is : (more m steps : ℕ) → closed_from t source start end more m steps ≡ numbered (asks within more m steps)
  unfolding closed_from asks children_at
  asks_is zero m steps = refl
  asks_is (suc more) m steps = go (inside t source start end m) (ltb steps count) (asks_is more (m + 1) (steps - count)) (asks_is more (m + 1) (steps - 0))
    where
      count : ℕ
      count = (node_at t.nodes m).count

      linked : Option (List ℕ)
      linked = chain t count (node_at t.nodes m).first

      later : ℕ → Answer Bool
      later taken = closed_from t source start end more (m + 1) (steps - taken)

      later' : ℕ → Result Bool Fault
      later' taken = asks within more (m + 1) (steps - taken)

      go : (b c : Bool) → later count ≡ numbered (later' count) → later 0 ≡ numbered (later' 0)
          → cond b (onward t source start end (cond c (stops bad_table m) (of_chain t m linked)) later) (closed_from t source start end more (m + 1) steps)
          ≡ numbered (after m (cond b (cond c None (told_of count (along within count (node_at t.nodes m).first))) (Some (record { took = 0; all = true }))) later')
      go true true same none' = refl
      go true false same none' =
          onward_is m count linked later later' (λ vs h. chain-long count (node_at t.nodes m).first vs h) same
          ∙ ap (λ o. numbered (after m (told_of count o) later')) (sym (along_is count (node_at t.nodes m).first))
      go false c same none' =
          let z : steps ≡ steps - 0 = omega arith in
          ap (λ k. closed_from t source start end more (m + 1) k) z ∙ none' ∙ ap numbered (also_true (later' 0))

-- the slots reserved before a place are told by nodes and input alone
flagged_same : (t : Tables) (source start more m : ℕ) → flagged_before (among t.input t.nodes) source start more m ≡ flagged_before t source start more m
unfolding flagged_before
flagged_same t source start zero m = refl
flagged_same t source start (suc more) m = ap (λ k. reserved t source start m + k) (flagged_same t source start more (m + 1))

-- the span of a sound node
pub span-told : (s nodes entries : List ℕ) (un ue : ℕ) (b : Bounds)
    → b.many ≡ nodes_in nodes un → b.room ≡ entries_in entries ue
    → numbered (span_at s nodes entries b)
    ≡ answered_of (told (tables_of s nodes entries un ue) b.source b.start b.end
    (closed_from (tables_of s nodes entries un ue) b.source b.start b.end (nodes_in nodes un) 0 (entries_in entries ue)))
span-told s nodes entries un ue b many room =
    ap (λ k. numbered (spanned_by (among s nodes) (cut k b.room) (asks (bounded nodes entries (cut k b.room)) k 0 b.room))) many
    ∙ ap (λ k. numbered (spanned_by (among s nodes) (cut (nodes_in nodes un) k) (asks (bounded nodes entries (cut (nodes_in nodes un) k)) (nodes_in nodes un) 0 k))) room
    ∙ go (asks (within t b.source b.start b.end) (nodes_in nodes un) 0 (entries_in entries ue))
    ∙ ap (λ a. answered_of (told t b.source b.start b.end a)) (sym (asks_is t b.source b.start b.end (nodes_in nodes un) 0 (entries_in entries ue)))
  where
    t : Tables
    t = tables_of s nodes entries un ue

    cut : ℕ → ℕ → Bounds
    cut m r = record { many = m; room = r; source = b.source; start = b.start; end = b.end }

    go : (a : Result Bool Fault) → numbered (spanned_by (among s nodes) (cut (nodes_in nodes un) (entries_in entries ue)) a) ≡ answered_of (told t b.source b.start b.end (numbered a))
    go (Ok c) =
        ap (λ k. gives (record { start = b.start; end = b.end; closed = c; slots_before = k })) (flagged_same t b.source b.start (nodes_in nodes un) 0)
    go (Err f) = refl

pub span_yes : (t : Tables) (b : Bounds) {c : Bool} {slots : ℕ} {a : Result Bool Fault} → slots ≡ flagged_before t b.source b.start b.many 0 → Ok c ≡ a
    → Ok (record { start = b.start; end = b.end; closed = c; slots_before = slots }) ≡ spanned_by t b a
span_yes t b {c} {slots} {a} e is =
    ap (λ k. Ok (record { start = b.start; end = b.end; closed = c; slots_before = k })) e ∙ ap (spanned_by t b) is

-- the tests before it
module _ (t : Tables) (n : ℕ) (short : ltb most_bytes (length t.input) ≡ false) where
  abbrev span_from : Bool → Answer Span
  span_from good =
      cond good
      (told t (node_of t n).input (header_of (node_of t n)) (node_of t n).end
      (closed_from t (node_of t n).input (header_of (node_of t n)) (node_of t n).end (nodes_in t.nodes t.used_nodes) 0 (entries_in t.entries t.used_entries)))
      (stops bad_table n)

  judged : (good : Bool) → good ≡ (sound_at t.input t.nodes t.used_nodes n && spanned t.input (node_of t n)) → span_from good ≡ span_of t n
  unfolding span_of
  judged good e =
      ap span_from e
      ∙ ap (λ x. cond x (stops input_too_long 0) (span_from (sound_at t.input t.nodes t.used_nodes n && spanned t.input (node_of t n)))) (sym short)

  pub span_unsound : sound_at t.input t.nodes t.used_nodes n ≡ false → numbered (refused BadTable n) ≡ answered_of (span_of t n)
  span_unsound e = ap answered_of (judged false (ap (λ x. x && spanned t.input (node_of t n)) (sym e)))

  module _ (sound : sound_at t.input t.nodes t.used_nodes n ≡ true) {b : Bool} {N : Node} (is : N ≡ node_of t n) (e : b ≡ spanned t.input N) where
    tested : b ≡ (sound_at t.input t.nodes t.used_nodes n && spanned t.input (node_of t n))
    tested = e ∙ ap (spanned t.input) is ∙ ap (λ x. x && spanned t.input (node_of t n)) (sym sound)

    pub span_outside : b ≡ false → numbered (refused BadTable n) ≡ answered_of (span_of t n)
    span_outside f = ap answered_of (judged false (sym f ∙ tested))

    pub span-sound : (w : Bounds) → b ≡ true → w.many ≡ nodes_in t.nodes t.used_nodes → w.room ≡ entries_in t.entries t.used_entries
        → w.source ≡ (node_of t n).input → w.start ≡ header_of (node_of t n) → w.end ≡ (node_of t n).end → {r : Result Found Fault} → r ≡ span_at t.input t.nodes t.entries w
        → numbered r ≡ answered_of (span_of t n)
    span-sound w f many room source start end {r} q =
        ap numbered q ∙ span-told t.input t.nodes t.entries t.used_nodes t.used_entries w many room
        ∙ ap (λ x. answered_of (told t x w.start w.end (closed_from t x w.start w.end all 0 steps))) source
        ∙ ap (λ x. answered_of (told t of x w.end (closed_from t of x w.end all 0 steps))) start
        ∙ ap (λ x. answered_of (told t of (header_of (node_of t n)) x (closed_from t of (header_of (node_of t n)) x all 0 steps))) end
        ∙ ap answered_of (judged true (sym f ∙ tested))
      where
        of : ℕ
        of = (node_of t n).input

        all : ℕ
        all = nodes_in t.nodes t.used_nodes

        steps : ℕ
        steps = entries_in t.entries t.used_entries
