-- Theorem B: reading the canonical bytes of a proper value, with anything after them, where depth, nodes and entries fit, consumes exactly
-- those bytes and leaves stores whose root means that value. By induction on the value. Assumes that the input is bytes, 16 MiB at most.
use mathlib.Core.Path.{◌≡◌, refl, sym, ap, subst, ◌∙◌}
use Prim.Native.Nat.{ℕ, zero, suc, ◌+◌, ◌≤◌, max, min}
use native.Mathlib.Omega.{arith}
use mathlib.Core.List.{List, [], ◌∷◌, ◌++◌, append-nil}
use lib.ListN.{length, get_or}
use borrow.Author.Tests.{le-ltb}
use Rattle.refusals.specs.Limits.{most_bytes, most_nesting}
use Rattle.grammar.specs.Reading.{Kind, level, node, entry, slot, Reading, done, refused, claim, gives}
use Rattle.grammar.specs.Room.{room_for, plainly, claims, most}
use Rattle.grammar.specs.State.{State, start, node_capacity, entry_capacity}
use Rattle.grammar.specs.Answer.{plain, rooms_of, reading}
use Rattle.grammar.specs.Steps.{Rule, whatever, as_bytes, as_tuple, as_names, as_string, rules}
use Rattle.grammar.specs.Input.{Bytes}
use Rattle.grammar.proofs.Fitting.{exact_where_all_fit, all_fit}
use Rattle.grammar.proofs.Following.{Need, raise, need_of, follows_gives}
use Rattle.grammar.proofs.Standing.{Holds}
use Rattle.grammar.proofs.Root.{root_is_node_0}
use Rattle.writing.specs.Canonical.{bytes32, words, code_string}
use Rattle.writing.specs.Steps as writer
use Rattle.writing.specs.Steps.{Manner, as_value, as_locals, manners}
use Rattle.meaning.specs.Value.{Value, Values, nil, more, single, integer, float, complex, bytes as byte_string, text, sequence, slice, dict, code, count_of, contents_of, members_of}
use Rattle.meaning.specs.Canonical.{code_strings, names_bytes, part_bytes, canonical, canonical_all, canonical_parts}
use Rattle.meaning.specs.Proper.{Below, AllTexts, Suits, SuitFrom, ProperCode, Proper, ProperAll}
use Rattle.meaning.specs.Extent.{depth_of, nodes_of, entries_of}
use Rattle.meaning.proofs.Means.{Means}
use Rattle.meaning.proofs.Standing.{InState}
use Rattle.meaning.proofs.Goes.{Goes, Never, Anywhere, Wrote, Reads, AllRead}
use Rattle.meaning.proofs.Loops.{PartsRead}
use Rattle.meaning.proofs.Leaves.{single_reads, float-reads, complex-reads, bytes-reads, text-reads, code_string-reads}
use Rattle.meaning.proofs.Back.{integer-reads, sequence-reads, slice-reads, dict-reads}
use Rattle.meaning.proofs.Coded.{code_reads}
use Rattle.meaning.proofs.Inversion.{suits-node}

-- a part is written in a manner that its rule allows
abbrev pub Allows : Manner → Rule → Type 0
Allows as_value rule = Unit
Allows writer.as_names as_names = Unit
Allows as_locals as_names = Unit
Allows writer.as_string as_string = Unit
Allows writer.as_names whatever = ⊥
Allows writer.as_names as_bytes = ⊥
Allows writer.as_names as_tuple = ⊥
Allows writer.as_names as_string = ⊥
Allows as_locals whatever = ⊥
Allows as_locals as_bytes = ⊥
Allows as_locals as_tuple = ⊥
Allows as_locals as_string = ⊥
Allows writer.as_string whatever = ⊥
Allows writer.as_string as_bytes = ⊥
Allows writer.as_string as_tuple = ⊥
Allows writer.as_string as_names = ⊥

pub manner_allows : (i : ℕ) → Allows (get_or manners i as_value) (get_or rules i whatever)
unfolding manners rules
manner_allows zero = tt
manner_allows (suc zero) = tt
manner_allows (suc (suc zero)) = tt
manner_allows (suc (suc (suc zero))) = tt
manner_allows (suc (suc (suc (suc zero)))) = tt
manner_allows (suc (suc (suc (suc (suc zero))))) = tt
manner_allows (suc (suc (suc (suc (suc (suc zero)))))) = tt
manner_allows (suc (suc (suc (suc (suc (suc (suc zero))))))) = tt
manner_allows (suc (suc (suc (suc (suc (suc (suc (suc zero)))))))) = tt
manner_allows (suc (suc (suc (suc (suc (suc (suc (suc (suc zero))))))))) = tt
manner_allows (suc (suc (suc (suc (suc (suc (suc (suc (suc (suc i)))))))))) = tt

module _ (s : List ℕ) (small : length s ≤ most_bytes) (bytes : Bytes s) where
  texts_read : (vs : Values) → AllTexts vs → ProperAll vs → AllRead s small bytes (code_strings vs) vs
  unfolding code_strings contents_of Proper
  texts_read nil ts p = refl
  texts_read (more v vs) ts p =
      let q : Proper (text ts.0) = rw ts.1 at p.0 in
      rw ts.1 (code_string ts.0, code_strings vs, refl, code_string-reads s small bytes ts.0 q.0.0 q.1, texts_read vs ts.2 p.1)

  names-read : (v : Value) → Suits as_names v → Proper v → Reads s small bytes (names_bytes (members_of v)) v
  unfolding members_of Proper
  names-read v f p =
      let q : Proper (sequence 0x28 f.0) = rw f.1 at p in
      rw f.1 (sequence-reads s small bytes 0x28 f.0 (code_strings f.0) refl q.1 (texts_read f.0 f.2 q.2))

  part-reads : (m : Manner) (rule : Rule) (v : Value) → Allows m rule → Suits rule v → Proper v → Reads s small bytes (canonical v) v → Reads s small bytes (part_bytes m (canonical v) v) v
  unfolding contents_of Proper
  part-reads as_value rule v al f p rd = rd
  part-reads writer.as_names as_names v al f p rd = names-read v f p
  part-reads as_locals as_names v al f p rd = names-read v f p
  part-reads writer.as_string as_string v al f p rd =
      let q : Proper (text f.0) = rw f.1 at p in
      rw f.1 (code_string-reads s small bytes f.0 q.0.0 q.1)
  part-reads writer.as_names whatever v al f p rd = absurd al
  part-reads writer.as_names as_bytes v al f p rd = absurd al
  part-reads writer.as_names as_tuple v al f p rd = absurd al
  part-reads writer.as_names as_string v al f p rd = absurd al
  part-reads as_locals whatever v al f p rd = absurd al
  part-reads as_locals as_bytes v al f p rd = absurd al
  part-reads as_locals as_tuple v al f p rd = absurd al
  part-reads as_locals as_string v al f p rd = absurd al
  part-reads writer.as_string whatever v al f p rd = absurd al
  part-reads writer.as_string as_bytes v al f p rd = absurd al
  part-reads writer.as_string as_tuple v al f p rd = absurd al
  part-reads writer.as_string as_names v al f p rd = absurd al

  -- a code, its numbers and its tables taken apart
  code_apart : (ns : List ℕ) (ps : Values) (line : ℕ) (ts : Values) → ProperCode ns ps line ts → PartsRead s small bytes 0 (canonical_parts 0 ps) ps → AllRead s small bytes (canonical_all ts) ts
      → Reads s small bytes (canonical (code ns ps line ts)) (code ns ps line ts)
  unfolding canonical words count_of Below SuitFrom
  code_apart (a ∷ b ∷ c ∷ d ∷ e ∷ []) ps line (more x (more y nil)) p pr al =
      let n = p.numbers_fit in
      let f = p.tables_suit in
      let al' = al.4 in
      let hx = al.0 in
      let hy = al'.0 in
      let tb : canonical_all (more x (more y nil)) ≡ hx ++ hy = al.2 ∙ ap (λ z. hx ++ z) (al'.2 ∙ ap (λ z. hy ++ z) al'.4 ∙ append-nil hy) in
      subst (λ z. Reads s small bytes (0x63 ∷ words (a ∷ b ∷ c ∷ d ∷ e ∷ []) ++ (canonical_parts 0 ps ++ bytes32 line ++ z)) (code (a ∷ b ∷ c ∷ d ∷ e ∷ []) ps line (more x (more y nil)))) (sym tb)
      (code_reads s small bytes a b c d e n.0 n.1.0 n.1.1.0 n.1.1.1.0 n.1.1.1.1.0 ps (canonical_parts 0 ps) pr p.eight p.parts_suit p.no_fault line p.line-fits x y hx hy
      al.3 (λ st k m. suits-node s st (get_or rules 8 whatever) k x f.0 m) al'.3 (λ st k m. suits-node s st (get_or rules 9 whatever) k y f.1.0 m))
  code_apart [] ps line ts p pr al = absurd (omega (arith, p.five))
  code_apart (a ∷ []) ps line ts p pr al = absurd (omega (arith, p.five))
  code_apart (a ∷ b ∷ []) ps line ts p pr al = absurd (omega (arith, p.five))
  code_apart (a ∷ b ∷ c ∷ []) ps line ts p pr al = absurd (omega (arith, p.five))
  code_apart (a ∷ b ∷ c ∷ d ∷ []) ps line ts p pr al = absurd (omega (arith, p.five))
  code_apart (a ∷ b ∷ c ∷ d ∷ e ∷ f ∷ ns) ps line ts p pr al = absurd (omega (arith, p.five))
  code_apart (a ∷ b ∷ c ∷ d ∷ e ∷ []) ps line nil p pr al = absurd (omega (arith, p.two))
  code_apart (a ∷ b ∷ c ∷ d ∷ e ∷ []) ps line (more x nil) p pr al = absurd (omega (arith, p.two))
  code_apart (a ∷ b ∷ c ∷ d ∷ e ∷ []) ps line (more x (more y (more z ts))) p pr al = absurd (omega (arith, p.two))

  mutual
    unfolding canonical Proper SuitFrom

    pub reads-value : (v : Value) → Proper v → Reads s small bytes (canonical v) v
    reads-value (single letter) p = single_reads s small bytes letter p
    reads-value (integer z) p = integer-reads s small bytes z p.0 p.1
    reads-value (float bits) p = float-reads s small bytes bits p
    reads-value (complex real imaginary) p = complex-reads s small bytes real imaginary p.0 p.1
    reads-value (byte_string contents) p = bytes-reads s small bytes contents p.0
    reads-value (text contents) p = text-reads s small bytes contents p.0.0 p.1
    reads-value (sequence letter vs) p = sequence-reads s small bytes letter vs (canonical_all vs) p.0 p.1 (reads_values vs p.2)
    reads-value (slice vs) p = slice-reads s small bytes vs (canonical_all vs) p.0 (reads_values vs p.1)
    reads-value (dict vs) p = dict-reads s small bytes vs (canonical_all vs) p.0 (reads_values vs p.1)
    reads-value (code numbers parts line tables) p = code_apart numbers parts line tables p.0 (reads-parts parts 0 p.1 p.0.parts_suit) (reads_values tables p.2)

    pub reads_values : (vs : Values) → ProperAll vs → AllRead s small bytes (canonical_all vs) vs
    reads_values nil p = refl
    reads_values (more v vs) p = (canonical v, canonical_all vs, refl, reads-value v p.0, reads_values vs p.1)

    reads-parts : (vs : Values) (i : ℕ) → ProperAll vs → SuitFrom i vs → PartsRead s small bytes i (canonical_parts i vs) vs
    reads-parts nil i p f = refl
    reads-parts (more v vs) i p f = (
      part_bytes (get_or manners i as_value) (canonical v) v,
      canonical_parts (i + 1) vs,
      refl,
      part-reads (get_or manners i as_value) (get_or rules i whatever) v (manner_allows i) f.0 p.0 (reads-value v p.0),
      (λ st k m. suits-node s st (get_or rules i whatever) k v f.0 m),
      reads-parts vs (i + 1) p.1 f.1,
    )

-- The whole reading.

pub goes_somewhere : {A : Type 0} (P : Need → A → Type 0) (t : Need) (m : Reading A) → Goes P t m → (a : A) × (plainly m ≡ gives a)
unfolding plainly
goes_somewhere P t (done a) g = (a, refl)
goes_somewhere P t (refused n p) g = absurd g
goes_somewhere P t (claim k need p m) g = goes_somewhere P (raise k need t) m g.1

abbrev pub none_claimed : Need
none_claimed = record { levels = 0; nodes = 0; entries = 0; slots = 0 }

pub at_start : (s : List ℕ) → Holds s none_claimed start
at_start s =
    record {
      within = omega arith;
      few-nodes = omega arith;
      few-entries = omega arith;
      few-slots = omega arith;
      claimed_nodes = refl;
      claimed_entries = refl;
      claimed_slots = refl;
      entries_in_lem = λ e l. absurd (omega arith);
      slots_in = λ k. omega arith;
    }

-- What a reading of the value's bytes leaves.
pub record Leaves (s : List ℕ) (v : Value) (nodes entries slots nesting : ℕ) : Type 0 where
  pub state : State
  pub answer : reading s nodes entries slots nesting ≡ gives (0, state)
  pub consumed : state.at ≡ length (canonical v)
  pub nodes-used : length state.nodes ≡ nodes_of v
  pub entries-used : length state.entries ≡ entries_of v
  pub slots-used : length state.slots ≡ 0
  pub means : Means (InState s state) 0 v

-- as much as a value takes
abbrev Enough : Value → Need → Type 0
Enough v t = (t.levels ≤ depth_of v) × (t.nodes ≡ nodes_of v) × (t.entries ≡ entries_of v) × (t.slots ≡ 0)

pub read_back : (v : Value) (rest : List ℕ) → Proper v → Bytes (canonical v ++ rest) → length (canonical v ++ rest) ≤ most_bytes → (nodes entries slots nesting : ℕ)
    → depth_of v ≤ min nesting most_nesting → nodes_of v ≤ node_capacity nodes → entries_of v ≤ entry_capacity entries → Leaves (canonical v ++ rest) v nodes entries slots nesting
unfolding reading plain
read_back v rest p bytes small nodes entries slots nesting hd hn he =
    let s = canonical v ++ rest in
    let P = Wrote s v (length (canonical v)) 0 start none_claimed in
    let g = (reads-value s small bytes v p).goes (length s) 0 start none_claimed rest (omega arith) (at_start s) refl in
    let a = goes_somewhere P none_claimed (plain s) g in
    let w = follows_gives Never Anywhere P none_claimed (plain s) a.0 g a.1 in
    let h = w.holds in
    let z : a.0.0 ≡ 0 = root_is_node_0 s a.0 a.1 in
    let fit : (k : Kind) → most k (claims (plain s)) ≤ room_for (rooms_of nodes entries slots nesting) k = λ k. fits k w.need (w.exact k) (room_for_lem w.need a.0.1 h) in
    record {
      state = a.0.1;
      answer = rw (le-ltb most_bytes (length s) small) (exact_where_all_fit (rooms_of nodes entries slots nesting) (plain s) (all_fit (rooms_of nodes entries slots nesting) (claims (plain s)) fit) ∙ a.1 ∙ ap (λ n. gives (n, a.0.1)) z);
      consumed = h.at ∙ omega arith;
      nodes-used = h.nodes ∙ omega arith;
      entries-used = h.entries ∙ omega arith;
      slots-used = h.slots;
      means = subst (λ n. Means (InState s a.0.1) n v) z h.means;
    }
  where
    room_for_lem : (t : Need) (st : State) {n : ℕ} → Wrote (canonical v ++ rest) v (length (canonical v)) 0 start none_claimed t (n, st) → Enough v t
    room_for_lem t st h =
        (omega (arith, h.levels), omega (arith, h.valued.holds.claimed_nodes, h.nodes), omega (arith, h.valued.holds.claimed_entries, h.entries), omega (arith, h.valued.holds.claimed_slots, h.slots))

    fits : (k : Kind) (t : Need) → need_of t k ≡ max (need_of none_claimed k) (most k (claims (plain (canonical v ++ rest)))) → Enough v t
        → most k (claims (plain (canonical v ++ rest))) ≤ room_for (rooms_of nodes entries slots nesting) k
    fits level t e q = omega (arith, e, q.0)
    fits node t e q = omega (arith, e, q.1)
    fits entry t e q = omega (arith, e, q.2)
    fits slot t e q = omega (arith, e, q.3)
