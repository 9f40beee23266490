-- The append's answer and contents from what its parts leave: turned away, refused while it is read, or read and raised. Assumes nothing.
use mathlib.Core.Path.{◌≡◌, refl, sym, ap, ap₂, ◌∙◌}
use Prim.Native.Nat.{ℕ, ◌+◌, ◌-◌, ◌*◌, ◌≤◌, ◌<◌}
use native.Mathlib.Omega.{arith}
use mathlib.Core.Bool.{Bool, true, false, cond}
use mathlib.Core.List.{List, map}
use lib.ListN.{length}
use lib.Dec.{ltb}
use borrow.Author.Tests.{ltb-false, le-ltb, lt-ltb}
use borrow.Rule.Slice.PartMut.{mid_of, put_mid}
use Rattle.refusals.specs.Numbers.{accepted, no_node, no_entry, input_too_long}
use Rattle.refusals.specs.Limits.{most_bytes}
use Rattle.refusals.specs.Faults.{number_of, fault}
use Rattle.refusals.specs.declared.Refusal.{Refusal}
use Rattle.refusals.specs.declared.Fault.{Fault}
use Rattle.refusals.proofs.Faults.{number_in_table}
use Rattle.std.specs.Prelude.{Result, Ok, Err}
use Rattle.clearing.specs.Lent.{padded}
use Rattle.clearing.proofs.Laws.{length-padded}
use Rattle.grammar.specs.Reading.{Answer, gives, stops}
use Rattle.grammar.specs.Room.{Rooms, run}
use Rattle.grammar.specs.State.{State, node_width, entry_width, node_cells, entry_cells, node_capacity, entry_capacity}
use Rattle.grammar.specs.Answer as whole
use Rattle.grammar.specs.Answer.{plain, rooms_of, reading, Counts, counts_of, answered, nodes_held, entries_held, slots_held, read_of}
use Rattle.grammar.proofs.Exactness.{within-room}
use Rattle.grammar.proofs.Contents.{Fits, records_fit, length-node_cells, length-entry_cells}
use Rattle.reader.specs.declared.Read.{Read}
use Rattle.reader.specs.Delivered.{answer_of, Delivers}
use Rattle.readmore.specs.More.{Kept, keeping, room_left, appending, behind, kept_part, appended_to, more_of}
use Rattle.readmore.specs.Parts.{turned_away, Fitting, Refused, nodes_behind, entries_behind, laid_behind, unraised, counting, Room, Raised}
use Rattle.raising.specs.Appended.{appended_slot}
use Rattle.readmore.proofs.Laying.{length-behind, length-lent, laid-written, laid_zero}
use Rattle.readmore.proofs.Bounds.{Bounded, bounded}

-- The tests before reading.

module _ (bytes nodes entries : ℕ) (k : Kept) where
  pub away_long : most_bytes < bytes → input_too_long ≡ turned_away bytes nodes entries k
  away_long l = rw (lt-ltb most_bytes bytes l) refl

  pub away_nodes : {n : ℕ} → bytes ≤ most_bytes → n ≡ nodes → n < k.nodes → no_node ≡ turned_away bytes nodes entries k
  away_nodes l e o = rw (le-ltb most_bytes bytes l, lt-ltb nodes k.nodes (omega arith)) refl

  pub away_entries : {n m : ℕ} → bytes ≤ most_bytes → n ≡ nodes → k.nodes ≤ n → m ≡ entries → m < k.entries → no_entry ≡ turned_away bytes nodes entries k
  away_entries l e o f p = rw (le-ltb most_bytes bytes l, le-ltb nodes k.nodes (omega arith), lt-ltb entries k.entries (omega arith)) refl

  pub away_none : {n m : ℕ} → bytes ≤ most_bytes → n ≡ nodes → k.nodes ≤ n → m ≡ entries → k.entries ≤ m → accepted ≡ turned_away bytes nodes entries k
  away_none l e o f p = rw (le-ltb most_bytes bytes l, le-ltb nodes k.nodes (omega arith), le-ltb entries k.entries (omega arith)) refl

pub turned : (s : List ℕ) (R : Rooms) (k : Kept) {n : ℕ} → n ≡ turned_away (length s) R.nodes R.entries k → (n ≡ accepted → ⊥) → appending s R k ≡ stops n 0
unfolding appending
turned s R k {n} e some = go (ltb most_bytes (length s)) (ltb R.nodes k.nodes) (ltb R.entries k.entries) e
  where
    go : (a b c : Bool) → n ≡ cond a input_too_long (cond b no_node (cond c no_entry accepted))
        → cond a (stops input_too_long 0) (cond b (stops no_node 0) (cond c (stops no_entry 0) (run (room_left R k) (plain s)))) ≡ stops n 0
    go true b c q = ap (λ m. stops m 0) (sym q)
    go false true c q = ap (λ m. stops m 0) (sym q)
    go false false true q = ap (λ m. stops m 0) (sym q)
    go false false false q = absurd (some q)

pub let_in : (s : List ℕ) (nodes entries : ℕ) (k : Kept) {n : ℕ} → n ≡ turned_away (length s) (node_capacity nodes) (entry_capacity entries) k → n ≡ accepted → Fitting (length s) nodes entries k
let_in s nodes entries k {n} e none =
    go (ltb most_bytes (length s)) (ltb (node_capacity nodes) k.nodes) (ltb (entry_capacity entries) k.entries) refl refl refl (sym e ∙ none)
  where
    go : (a b c : Bool) → ltb most_bytes (length s) ≡ a → ltb (node_capacity nodes) k.nodes ≡ b → ltb (entry_capacity entries) k.entries ≡ c
        → cond a input_too_long (cond b no_node (cond c no_entry accepted)) ≡ accepted → Fitting (length s) nodes entries k
    go true b c p q r z = absurd (omega arith)
    go false true c p q r z = absurd (omega arith)
    go false false true p q r z = absurd (omega arith)
    go false false false p q r z =
        record {
          small = ltb-false most_bytes (length s) p;
          in_nodes = ltb-false (node_capacity nodes) k.nodes q;
          in_entries = ltb-false (entry_capacity entries) k.entries r;
        }

pub reads_on : (s : List ℕ) (nodes entries slots nesting : ℕ) (k : Kept) → Fitting (length s) nodes entries k
    → appending s (rooms_of nodes entries slots nesting) k ≡ run (room_left (rooms_of nodes entries slots nesting) k) (plain s)
unfolding appending
reads_on s nodes entries slots nesting k f =
    rw (le-ltb most_bytes (length s) f.small, le-ltb (node_capacity nodes) k.nodes f.in_nodes, le-ltb (entry_capacity entries) k.entries f.in_entries) refl

-- The plain reading of the lent parts.

-- a part has the room that is left
abbrev pub left_nodes : (cells : ℕ) → Kept → ℕ
left_nodes cells k = node_capacity cells * node_width - k.nodes * node_width

abbrev pub left_entries : (cells : ℕ) → Kept → ℕ
left_entries cells k = entry_capacity cells * entry_width - k.entries * entry_width

room_of_parts : (nodes entries slots nesting : ℕ) (k : Kept) → rooms_of (left_nodes nodes k) (left_entries entries k) slots nesting ≡ room_left (rooms_of nodes entries slots nesting) k
room_of_parts nodes entries slots nesting k =
    let n : node_capacity (left_nodes nodes k) ≡ node_capacity nodes - k.nodes = omega arith in
    let e : entry_capacity (left_entries entries k) ≡ entry_capacity entries - k.entries = omega arith in
    (λ i. record { levels = (rooms_of nodes entries slots nesting).levels; nodes = n i; entries = e i; slots = (rooms_of nodes entries slots nesting).slots })

module _ (s nodes entries : List ℕ) (slots nesting : ℕ) (k : Kept) (f : Fitting (length s) (length nodes) (length entries) k) where
  abbrev R : Rooms
  R = room_left (rooms_of (length nodes) (length entries) slots nesting) k

  abbrev n' : ℕ
  n' = left_nodes (length nodes) k

  abbrev e' : ℕ
  e' = left_entries (length entries) k

  parts-read : reading s n' e' slots nesting ≡ run R (plain s)
  parts-read = within-room s n' e' slots nesting f.small ∙ ap (λ Q. run Q (plain s)) (room_of_parts (length nodes) (length entries) slots nesting k)

  -- what the reader delivers in the parts is the plain reading behind what is kept
  pub read-parts : {r : Result Read Fault} {ns es ss : List ℕ} → Delivers (read_of s n' e' slots nesting) r ns es ss
      → Delivers (unraised s nodes entries slots nesting k) r
      (put_mid (k.nodes * node_width) n' (kept_part (node_capacity (length nodes) * node_width) nodes) ns)
      (put_mid (k.entries * entry_width) e' (kept_part (entry_capacity (length entries) * entry_width) entries) es)
      ss
  unfolding read_of unraised
  read-parts {r} {ns} {es} {ss} d = go (run R (plain s)) parts-read d.answer d.nodes d.entries d.slots (λ q e. records_fit s n' e' slots nesting q e)
    where
      go : (a : Answer (ℕ × State)) → reading s n' e' slots nesting ≡ a → answer_of r ≡ answered (reading s n' e' slots nesting)
          → ns ≡ nodes_held n' (reading s n' e' slots nesting) → es ≡ entries_held e' (reading s n' e' slots nesting) → ss ≡ slots_held slots (reading s n' e' slots nesting)
          → ((q : ℕ × State) → reading s n' e' slots nesting ≡ gives q → Fits n' e' slots q.1)
          → Delivers (laid_behind k nodes entries slots a) r
          (put_mid (k.nodes * node_width) n' (kept_part (node_capacity (length nodes) * node_width) nodes) ns)
          (put_mid (k.entries * entry_width) e' (kept_part (entry_capacity (length entries) * entry_width) entries) es)
          ss
      go (gives q) e an nn ee sl fits =
          record {
            answer = an ∙ ap answered e;
            nodes = laid-written nodes (k.nodes * node_width) (node_capacity (length nodes) * node_width) (omega (arith, f.in_nodes)) (omega arith) (node_cells q.1.nodes) (fits q e).in_nodes (nn ∙ ap (nodes_held n') e);
            entries = laid-written entries (k.entries * entry_width) (entry_capacity (length entries) * entry_width) (omega (arith, f.in_entries)) (omega arith) (entry_cells q.1.entries) (fits q e).in_entries (ee ∙ ap (entries_held e') e);
            slots = sl ∙ ap (slots_held slots) e;
          }
      go (stops number place) e an nn ee sl fits =
          record {
            answer = an ∙ ap answered e;
            nodes = laid_zero nodes (k.nodes * node_width) (node_capacity (length nodes) * node_width) (omega (arith, f.in_nodes)) (omega arith) (nn ∙ ap (nodes_held n') e);
            entries = laid_zero entries (k.entries * entry_width) (entry_capacity (length entries) * entry_width) (omega (arith, f.in_entries)) (omega arith) (ee ∙ ap (entries_held e') e);
            slots = sl ∙ ap (slots_held slots) e;
          }

  -- as the code has it: both stores cleared from their capacity on, and the parts lent
  pub read-lent : {to last : ℕ} {n₁ e₁ ns es ss : List ℕ} {r : Result Read Fault} → to ≡ node_capacity (length nodes) → last ≡ entry_capacity (length entries)
      → n₁ ≡ kept_part (to * node_width) nodes → e₁ ≡ kept_part (last * entry_width) entries
      → Delivers
      (read_of s (length (mid_of (k.nodes * node_width) (to * node_width - k.nodes * node_width) n₁)) (length (mid_of (k.entries * entry_width) (last * entry_width - k.entries * entry_width) e₁))
      slots nesting)
      r ns es ss
      → Delivers (unraised s nodes entries slots nesting k) r (put_mid (k.nodes * node_width) (to * node_width - k.nodes * node_width) n₁ ns)
      (put_mid (k.entries * entry_width) (last * entry_width - k.entries * entry_width) e₁ es)
      ss
  read-lent {to} {last} {n₁} {e₁} {ns} {es} {ss} {r} t l cn ce d =
      let n₂ : n₁ ≡ kept_part (node_capacity (length nodes) * node_width) nodes = cn ∙ ap (λ m. kept_part (m * node_width) nodes) t in
      let e₂ : e₁ ≡ kept_part (entry_capacity (length entries) * entry_width) entries = ce ∙ ap (λ m. kept_part (m * entry_width) entries) l in
      let ln : length (mid_of (k.nodes * node_width) (to * node_width - k.nodes * node_width) n₁) ≡ n'
      = ap₂ (λ m x. length (mid_of (k.nodes * node_width) (m * node_width - k.nodes * node_width) x)) t n₂
      ∙ length-lent nodes (k.nodes * node_width) (node_capacity (length nodes) * node_width) (omega (arith, f.in_nodes)) (omega arith) in
      let le : length (mid_of (k.entries * entry_width) (last * entry_width - k.entries * entry_width) e₁) ≡ e'
      = ap₂ (λ m x. length (mid_of (k.entries * entry_width) (m * entry_width - k.entries * entry_width) x)) l e₂
      ∙ length-lent entries (k.entries * entry_width) (entry_capacity (length entries) * entry_width) (omega (arith, f.in_entries)) (omega arith) in
      let same = ap₂ (λ a b. read_of s a b slots nesting) ln le in
      let o = read-parts {r = r} {ns = ns} {es = es} {ss = ss} (record {
        answer = d.answer ∙ ap (λ x. x.answer) same;
        nodes = d.nodes ∙ ap (λ x. x.nodes) same;
        entries = d.entries ∙ ap (λ x. x.entries) same;
        slots = d.slots ∙ ap (λ x. x.slots) same;
      }) in
      record {
        answer = o.answer;
        nodes = ap₂ (λ m x. put_mid (k.nodes * node_width) (m * node_width - k.nodes * node_width) x ns) t n₂ ∙ o.nodes;
        entries = ap₂ (λ m x. put_mid (k.entries * entry_width) (m * entry_width - k.entries * entry_width) x es) l e₂ ∙ o.entries;
        slots = o.slots;
      }

-- The whole append.

-- the number names no room, so that the reading does not depend on it
module _ (s nodes entries slots : List ℕ) (nesting kept_nodes kept_entries number : ℕ) where
  abbrev k₀ : Kept
  k₀ = keeping kept_nodes kept_entries 0

  abbrev kₙ : Kept
  kₙ = keeping kept_nodes kept_entries number

  abbrev lent : Rooms
  lent = rooms_of (length nodes) (length entries) (length slots) nesting

  abbrev more : whole.Outcome
  more = more_of s nodes entries (length slots) nesting kept_nodes kept_entries number

  -- an answer that is known
  answered_by : {r : Result Read Fault} {ns es ss : List ℕ} (a : Answer (ℕ × State)) → appending s lent kₙ ≡ a → Delivers (appended_to kₙ nodes entries (length slots) a) r ns es ss → Delivers more r ns es ss
  unfolding more_of
  answered_by a e d =
      let same = ap (appended_to kₙ nodes entries (length slots)) (sym e) in
      record {
        answer = d.answer ∙ ap (λ x. x.answer) same;
        nodes = d.nodes ∙ ap (λ x. x.nodes) same;
        entries = d.entries ∙ ap (λ x. x.entries) same;
        slots = d.slots ∙ ap (λ x. x.slots) same;
      }

  pub turned_away_lem : {why : Refusal} {failed : Fault} {ns es ss : List ℕ} → number_of why ≡ turned_away (length s) lent.nodes lent.entries k₀ → failed ≡ fault why 0
      → Refused nodes entries slots k₀ ns es ss → Delivers more (Err failed) ns es ss
  turned_away_lem {why} e told d =
      rw told
      (answered_by (stops (number_of why) 0) (turned s lent kₙ e (λ none. omega (arith, none, (number_in_table why).0)))
      (record { answer = refl; nodes = d.kept-nodes; entries = d.kept-entries; slots = d.no_slots }))

  module _ (f : Fitting (length s) (length nodes) (length entries) k₀) {r : Result Read Fault} {ns es ss : List ℕ} (d : Delivers (unraised s nodes entries (length slots) nesting k₀) r ns es ss) where
    goes_on : appending s lent kₙ ≡ run (room_left lent k₀) (plain s)
    goes_on = reads_on s (length nodes) (length entries) (length slots) nesting kₙ (record { small = f.small; in_nodes = f.in_nodes; in_entries = f.in_entries })

    pub refused-reading : {failed : Fault} → r ≡ Err failed → Delivers more (Err failed) ns es ss
    unfolding unraised
    refused-reading {failed} is = go (run (room_left lent k₀) (plain s)) goes_on (sym (ap answer_of is) ∙ d.answer) d.nodes d.entries d.slots
      where
        go : (a : Answer (ℕ × State)) → appending s lent kₙ ≡ a → stops (number_of failed.refusal) failed.place ≡ answered a → ns ≡ nodes_behind k₀ nodes a → es ≡ entries_behind k₀ entries a → ss ≡ slots_held (length slots) a
            → Delivers more (Err failed) ns es ss
        go (gives q) e an nn ee sl = let z : ◌≡◌ {A = ℕ} 0 1 = cc in absurd (omega arith)
        go (stops m p) e an nn ee sl = answered_by (stops m p) e (record { answer = an; nodes = nn; entries = ee; slots = sl })

    -- what was read, its counts as the reader told them
    pub record Reads (at n e l : ℕ) : Type 0 where
      pub value : ℕ × State
      pub is : appending s lent kₙ ≡ gives value
      pub bounds : Bounded kₙ (length nodes) (length entries) (length slots) value
      pub consumed : value.1.at ≡ at
      pub as_nodes : length value.1.nodes ≡ n
      pub as_entries : length value.1.entries ≡ e
      pub as_slots : length value.1.slots ≡ l
      pub has-nodes : ns ≡ behind (kept_nodes * node_width) nodes (node_cells value.1.nodes)
      pub has-entries : es ≡ behind (kept_entries * entry_width) entries (entry_cells value.1.entries)
      pub has-slots : ss ≡ padded (length slots) value.1.slots

    pub reads-value : {given : Read} → r ≡ Ok given → Reads given.consumed given.nodes given.entries given.slots
    unfolding unraised
    reads-value {given} is = go (run (room_left lent k₀) (plain s)) refl (sym (ap answer_of is) ∙ d.answer) d.nodes d.entries d.slots
      where
        go : (a : Answer (ℕ × State)) → run (room_left lent k₀) (plain s) ≡ a → gives (record { consumed = given.consumed; nodes = given.nodes; entries = given.entries; slots = given.slots }) ≡ answered a
            → ns ≡ nodes_behind k₀ nodes a → es ≡ entries_behind k₀ entries a → ss ≡ slots_held (length slots) a → Reads given.consumed given.nodes given.entries given.slots
        go (stops m p) x an nn ee sl = let z : ◌≡◌ {A = ℕ} 0 1 = cc in absurd (omega arith)
        go (gives q) x an nn ee sl =
            let c : counts_of q.1 ≡ record { consumed = given.consumed; nodes = given.nodes; entries = given.entries; slots = given.slots } = cc in
            record {
              value = q;
              is = goes_on ∙ x;
              bounds = bounded s (length nodes) (length entries) (length slots) nesting kₙ (record { small = f.small; in_nodes = f.in_nodes; in_entries = f.in_entries }) q x;
              consumed = ap (λ z. z.consumed) c;
              as_nodes = ap (λ z. z.nodes) c;
              as_entries = ap (λ z. z.entries) c;
              as_slots = ap (λ z. z.slots) c;
              has-nodes = nn;
              has-entries = ee;
              has-slots = sl;
            }

    module _ {at n e l : ℕ} (read : Reads at n e l) where
      pub room_for_lem : Room ns es ss kₙ (counting n e l)
      room_for_lem =
          let b = read.bounds in
          record {
            for_nodes = rw read.has-nodes (omega (arith, b.nodes_fit, read.as_nodes, length-behind (kept_nodes * node_width) nodes (node_cells read.value.1.nodes) (omega (arith, b.nodes_fit, length-node_cells read.value.1.nodes))));
            for_entries = rw read.has-entries (omega (arith, b.entries_fit, read.as_entries, length-behind (kept_entries * entry_width) entries (entry_cells read.value.1.entries) (omega (arith, b.entries_fit, length-entry_cells read.value.1.entries))));
            for_slots = rw read.has-slots (omega (arith, b.slots_fit, read.as_slots, length-padded (length slots) read.value.1.slots b.slots_fit));
          }

      pub read-raised : {ns' es' ss' : List ℕ} → Raised ns es ss kₙ (counting n e l) ns' es' ss' → Delivers more (Ok (record { consumed = at; nodes = kept_nodes + n; entries = kept_entries + e; slots = l })) ns' es' ss'
      read-raised x =
          let b = read.bounds in
          let q = read.value.1 in
          let long : length ss ≡ length slots = ap length read.has-slots ∙ length-padded (length slots) q.slots b.slots_fit in
          answered_by (gives read.value) read.is
          (record {
            answer = counted read.consumed read.as_nodes read.as_entries read.as_slots;
            nodes = x.exact-nodes nodes q.nodes b.nodes_fit read.has-nodes read.as_nodes b.nodes_raise;
            entries = x.exact-entries entries q.entries b.entries_fit read.has-entries read.as_entries b.entries_raise;
            slots = x.exact-slots q.slots (read.has-slots ∙ ap (λ m. padded m q.slots) (sym long)) read.as_slots b.slots_raise ∙ ap (λ m. padded m (map (appended_slot kept_nodes) q.slots)) long;
          })
        where
          counted : {a b c z : ℕ} → a ≡ at → b ≡ n → c ≡ e → z ≡ l
              → ◌≡◌ {A = Answer Counts} (gives (record { consumed = at; nodes = kept_nodes + n; entries = kept_entries + e; slots = l })) (gives (record { consumed = a; nodes = kept_nodes + b; entries = kept_entries + c; slots = z }))
          counted p q u v = λ i. gives (record { consumed = sym p i; nodes = kept_nodes + sym q i; entries = kept_entries + sym u i; slots = sym v i })
