-- The end of a reading that stands after u gives what 01's walk over u gives: the answer, and the records. By how the row of u ends.
use mathlib.Core.Path.{◌≡◌, refl, sym, ap, subst, ◌∙◌}
use mathlib.Core.Bool.{Bool, false}
use mathlib.Core.List.{List, [], ◌++◌, append-nil, append_assoc}
use Prim.Native.Nat.{ℕ, ◌+◌, ◌-◌, ◌*◌, ◌/◌, ◌≤◌, ◌<◌, min}
use native.Mathlib.Omega.{arith}
use lib.ListN.{length, replicate, get_or, drop, length-append, length-replicate, drop_of_length-le}
use lib.Seq.{sets}
use lib.Dec.{eqb}
use Rattle.refusals.specs.declared.Refusal.{Refusal}
use Rattle.std.specs.Prelude.{Err}
use Rattle.refusals.specs.Faults.{number_of, fault}
use Rattle.refusals.specs.declared.Refusal.TheVariants.{NumberRange}
use Rattle.grammar.specs.Input.{Bytes}
use Rattle.clearing.specs.Lent.{zeros}
use Rattle.clearing.proofs.Laws.{sets-padded}
use Rattle.lineentry.specs.declared.Location.{Location}
use Rattle.lineentry.specs.declared.Span.{Span}
use Rattle.lineentry.specs.declared.Entry.{Entry}
use Rattle.lineentry.specs.declared.Entry.TheVariants.{Covers, Stop, OutOfRange}
use Rattle.lineentry.specs.Entry.{at_line, entry_at}
use Rattle.lineentry.proofs.Entries.{entry_past}
use Rattle.linetable.specs.Walk.{Reading, done, refused, joined}
use Rattle.linetable.specs.Answer.{numbers, records_of}
use Rattle.linetable.proofs.Stores.{length-numbers, stored-after}
use Rattle.rows.specs.Row.{Ending, placed_all, table_end, stop_byte, cut_short, out_of_range, past_count, Row, row, Ends, total, locations, line_after, place_after, ending_reads, row_reads}
use Rattle.rows.proofs.Chains.{rowed, chain-upto}
use Rattle.piecestate.specs.declared.Kept.{Kept}
use Rattle.piecestate.specs.declared.Gate.TheVariants.{Open, Shut}
use Rattle.piecestate.specs.State.{kept_at}
use Rattle.piecestate.specs.Answers.{Left, shut, stuck}
use Rattle.pieces.specs.Facts.{Entered}
use Rattle.pieces.specs.Piece.{overrun, shown_of}
use Rattle.pieces.proofs.Fronts.{length-locations}
use Rattle.pieces.proofs.Short.{Goes}
use Rattle.pieces.proofs.Shown.{held_out}
use Rattle.pieces.specs.Calls.{finished, by_held, end_by, end}
use Rattle.cuttings.specs.Promised.{said, as_call}
use Rattle.pieces.proofs.Gates.{by_gate}
use Rattle.pieces.proofs.Closes.{end_over, end_placed, end_held_by}
use Rattle.cuttings.proofs.Sound.{held_covers, bytes_drop}
use Rattle.cuttings.proofs.Standing.{GoingAs, OverAs, GoneAs, Stopped, Way, all, on, stopped, gone, Stands}
use Rattle.cuttings.proofs.Steps.{going_enters, over_enters, gate_open, gate-shut, held_is}

-- a call's answer and records are those of a reading
pub record Reaches (n : ℕ) (x : Reading) (y : Left) : Type 0 where
  pub answers : said y.answer ≡ as_call x
  pub fills : y.records ≡ records_of n x

module _ (n : ℕ) (s rs : List ℕ) where
  -- locations ls are there, and the end places ms behind them
  ends-done : (x : Reading) (ls ms : List Location) (placed k : ℕ) (w : Bool) → x ≡ done (ls ++ ms) k w → rs ≡ sets (zeros n) 0 (numbers ls) → length ls ≡ placed → 4 * length (ls ++ ms) ≤ n
      → Reaches n x (finished s rs placed k w ms)
  unfolding records_of
  ends-done x ls ms placed k w e f l h =
      record {
        answers = sym (ap as_call e);
        fills =
            ap (λ y. sets y (4 * placed) (numbers ms)) f ∙ stored-after (zeros n) ls ms placed l
            ∙ sets-padded n (numbers (ls ++ ms)) (omega (arith, length-numbers (ls ++ ms))) ∙ sym (ap (records_of n) e);
      }

  ends-refused : (x : Reading) (why : Refusal) (place at : ℕ) → x ≡ refused (number_of why) place → at ≡ place → length rs ≡ n → Reaches n x (stuck s rs (fault why at))
  unfolding records_of
  ends-refused x why place at e q w =
      record { answers = ap (λ i. said (Err (fault why i))) q ∙ sym (ap as_call e); fills = ap zeros w ∙ sym (ap (records_of n) e) }

module _ (first count n : ℕ) (u : List ℕ) (x : Left) (g : Stands first count n u x) (room : count ≤ n / 4) (b : Bytes u) where
  abbrev s : List ℕ
  s = x.state

  abbrev rs : List ℕ
  rs = x.records

  abbrev r : Row
  r = row u first 0 count

  abbrev es : List Span
  es = r.entries

  abbrev p : ℕ
  p = place_after 0 es

  abbrev m : ℕ
  m = count - total es

  -- what 01 reads of the row
  abbrev reading : Reading
  reading = row_reads u (at_line first) 0 count r

  reads_by : (y : Ending) → r.ending ≡ y → reading ≡ joined (locations es) (total es) false (ending_reads u (at_line first) p m y)
  reads_by y e = ap (λ z. joined (locations es) (total es) false (ending_reads u (at_line first) p m z)) e

  within : total es ≤ count
  within = (rowed u first 0 count).within

  end_is : Entered (kept_at s) s rs → end s rs ≡ end_by s rs (kept_at s)
  unfolding end
  end_is e = by_gate s rs g.long (end_by s rs (kept_at s)) Open (gate_open first count n u x g room e)

  fits : (ls : List Location) (k : ℕ) → length ls ≡ k → k ≤ count → 4 * length ls ≤ n
  fits ls k e h = omega arith

  final_all : r.ending ≡ placed_all → GoingAs first count n u es [] x → Reaches n reading (end s rs)
  final_all e a =
      let st : get_or s 6 0 ≡ 1 = ap (λ k. k.status) a.keeps in
      let co : get_or s 1 0 ≡ count = ap (λ k. k.count) a.keeps in
      let pl : get_or s 3 0 ≡ total es = ap (λ k. k.placed) a.keeps in
      let z : m ≡ 0 = subst (Ends u (line_after first es) p m) e (rowed u first 0 count).ends in
      let w = within in
      let en = going_enters first count n u x g room es [] a in
      let is = end_is en ∙ end_placed s rs (kept_at s) (λ y. absurd (omega arith)) (omega arith) in
      let j : total es + 0 ≡ get_or s 3 0 = omega arith in
      let t : eqb p (length u) ≡ eqb (get_or s 4 0) (get_or s 5 0) = sym (ap (λ (k : Kept). eqb k.start k.bytes) a.keeps) in
      let l = length-locations es in
      subst (Reaches n reading) (sym is)
      (ends-done n s rs reading (locations es) [] (get_or s 3 0) (get_or s 3 0) (eqb (get_or s 4 0) (get_or s 5 0))
      (reads_by placed_all e ∙ ap (λ k. done (locations es ++ []) k (eqb p (length u))) j ∙ ap (λ y. done (locations es ++ []) (get_or s 3 0) y) t)
      a.fills (omega arith) (fits (locations es ++ []) (total es) (length-append (locations es) [] ∙ omega arith) w))

  module _ (a : GoingAs first count n u es (drop p u) x) (left : 0 < m) where
    keeps_line : get_or s 2 0 ≡ line_after first es
    keeps_line = ap (λ k. k.line) a.keeps

    keeps_first : get_or s 0 0 ≡ first
    keeps_first = ap (λ k. k.first) a.keeps

    keeps_placed : get_or s 3 0 ≡ total es
    keeps_placed = ap (λ k. k.placed) a.keeps

    keeps_left : get_or s 1 0 - get_or s 3 0 ≡ m
    keeps_left = ap (λ (k : Kept). k.count - k.placed) a.keeps

    on_is : (y : Entry) → entry_at (drop p u) (line_after first es) 0 ≡ y → end s rs ≡ by_held s rs (kept_at s) (get_or s 1 0 - get_or s 3 0) y
    on_is y e =
        let st : get_or s 6 0 ≡ 1 = ap (λ k. k.status) a.keeps in
        let co : get_or s 1 0 ≡ count = ap (λ k. k.count) a.keeps in
        let pl = keeps_placed in
        let en = going_enters first count n u x g room es (drop p u) a in
        end_is en ∙ end_held_by s rs (kept_at s) (λ i. absurd (omega arith)) (λ i. absurd (omega arith))
        ∙ ap (by_held s rs (kept_at s) (get_or s 1 0 - get_or s 3 0))
        (ap (λ h. entry_at h (get_or s 2 0) 0) (held_is first count n u x g room es (drop p u) a (bytes_drop u p b)) ∙ ap (λ i. entry_at (drop p u) i 0) keeps_line ∙ e)

    length_now : length (locations es) ≡ get_or s 3 0
    length_now = length-locations es ∙ sym keeps_placed

    final_nothing : r.ending ≡ table_end → length u ≤ p → Reaches n reading (end s rs)
    final_nothing e h =
        let d : drop p u ≡ [] = drop_of_length-le u {i = p} h in
        let is = on_is Stop (ap (λ t. entry_at t (line_after first es) 0) d ∙ entry_past [] (line_after first es) 0 (omega arith)) in
        let k : get_or s 1 0 - get_or s 3 0 ≡ m = keeps_left in
        let c = within in
        let l = length-locations es in
        let w = length-replicate {A = Location} m (at_line first) in
        let pl = keeps_placed in
        let z : total es + 0 ≡ get_or s 3 0 = omega arith in
        subst (Reaches n reading)
        (sym (is ∙ ap (λ i. finished s rs (get_or s 3 0) (get_or s 3 0) false (replicate i (at_line (get_or s 0 0)))) k ∙ ap (λ i. finished s rs (get_or s 3 0) (get_or s 3 0) false (replicate m (at_line i))) keeps_first))
        (ends-done n s rs reading (locations es) (replicate m (at_line first)) (get_or s 3 0) (get_or s 3 0) false
        (reads_by table_end e ∙ ap (λ i. done (locations es ++ replicate m (at_line first)) i false) z) a.fills length_now
        (fits (locations es ++ replicate m (at_line first)) count (length-append (locations es) (replicate m (at_line first)) ∙ omega arith) (omega arith)))

    final_cut : (e : Span) → r.ending ≡ cut_short e → entry_at u (line_after first es) p ≡ Covers e → Reaches n reading (end s rs)
    final_cut e q c =
        let d = rowed u first 0 count in
        let h = held_covers u (line_after first es) p e (chain-upto u first 0 es (omega arith) d.chain) c in
        let y = h.span in
        let is = on_is (Covers y) h.covers in
        let k : get_or s 1 0 - get_or s 3 0 ≡ m = keeps_left in
        let ni : y.instructions ≡ e.instructions = ap (λ o. o.instructions) h.same in
        let lo : y.location ≡ e.location = ap (λ o. o.location) h.same in
        let ms = replicate (min e.instructions m) e.location ++ replicate (m - e.instructions) (at_line first) in
        let w = d.within in
        let l₁ = length-replicate {A = Location} (min e.instructions m) e.location in
        let l₂ = length-replicate {A = Location} (m - e.instructions) (at_line first) in
        let l₃ = length-append (replicate (min e.instructions m) e.location) (replicate (m - e.instructions) (at_line first)) in
        let l₄ = length-append (locations es) ms in
        let l₅ = length-locations es in
        subst (Reaches n reading)
        (sym (is
        ∙ ap (λ i. finished s rs (get_or s 3 0) (get_or s 3 0 + min y.instructions i) false (replicate (min y.instructions i) y.location ++ replicate (i - y.instructions) (at_line (get_or s 0 0)))) k
        ∙ ap (λ i. finished s rs (get_or s 3 0) (get_or s 3 0 + min i m) false (replicate (min i m) y.location ++ replicate (m - i) (at_line (get_or s 0 0)))) ni
        ∙ ap (λ i. finished s rs (get_or s 3 0) (get_or s 3 0 + min e.instructions m) false (replicate (min e.instructions m) i ++ replicate (m - e.instructions) (at_line (get_or s 0 0)))) lo
        ∙ ap (λ i. finished s rs (get_or s 3 0) (get_or s 3 0 + min e.instructions m) false (replicate (min e.instructions m) e.location ++ replicate (m - e.instructions) (at_line i))) keeps_first))
        (ends-done n s rs reading (locations es) ms (get_or s 3 0) (get_or s 3 0 + min e.instructions m) false
        (reads_by (cut_short e) q ∙ ap (λ i. done (locations es ++ ms) (i + min e.instructions m) false) (sym keeps_placed)) a.fills length_now
        (fits (locations es ++ ms) (length (locations es ++ ms)) refl (omega arith)))

    final_out : r.ending ≡ out_of_range → Reaches n reading (end s rs)
    final_out e =
        let d = rowed u first 0 count in
        let o = held_out u (line_after first es) p m r.ending (chain-upto u first 0 es (omega arith) d.chain) d.ends e in
        subst (Reaches n reading) (sym (on_is OutOfRange o.1))
        (ends-refused n s rs reading NumberRange p (get_or s 4 0) (reads_by out_of_range e) (ap (λ k. k.start) a.keeps) g.wide)

  final_on : (y : Ending) → r.ending ≡ y → Goes u (line_after first es) p y → Ends u (line_after first es) p m y → GoingAs first count n u es (drop p u) x → Reaches n reading (end s rs)
  final_on placed_all e k d a = elim k [ ]
  final_on stop_byte e k d a = elim k [ ]
  final_on (past_count _) e k d a = elim k [ ]
  final_on table_end e k d a = final_nothing a d.0 e d.1
  final_on (cut_short y) e k d a = final_cut a d.0 y e d.1
  final_on out_of_range e k d a = final_out a d.0 e

  over-is : OverAs first count n u r x
      → end s rs ≡ finished s rs (length (shown_of count r)) (length (shown_of count r)) false (replicate (count - length (shown_of count r)) (at_line first))
  over-is a =
      let k = length (shown_of count r) in
      end_is (over_enters first count n u x g room a) ∙ end_over s rs (kept_at s) a.keeps-over
      ∙ ap (λ i. finished s rs i i false (replicate (get_or s 1 0 - i) (at_line (get_or s 0 0)))) a.keeps_placed
      ∙ ap (λ i. finished s rs k k false (replicate (i - k) (at_line (get_or s 0 0)))) a.keeps-count
      ∙ ap (λ i. finished s rs k k false (replicate (count - k) (at_line i))) a.keeps_first

  shows-byte : r.ending ≡ stop_byte → shown_of count r ≡ locations es
  unfolding shown_of
  shows-byte e = ap (λ y. locations es ++ overrun m y) e ∙ append-nil (locations es)

  shows-past : (e : Span) → r.ending ≡ past_count e → shown_of count r ≡ locations es ++ replicate m e.location
  unfolding shown_of
  shows-past e q = ap (λ y. locations es ++ overrun m y) q

  final_stop : r.ending ≡ stop_byte → OverAs first count n u r x → Reaches n reading (end s rs)
  final_stop e a =
      let f = shows-byte e in
      let l = length-locations es in
      let k = length (shown_of count r) in
      let c = within in
      let kl : k ≡ total es = ap length f ∙ l in
      let w = length-replicate {A = Location} (count - k) (at_line first) in
      let z : total es + 0 ≡ k = omega arith in
      let q : m ≡ count - k = omega arith in
      subst (Reaches n reading) (sym (over-is a))
      (ends-done n s rs reading (shown_of count r) (replicate (count - k) (at_line first)) k k false
      (reads_by stop_byte e ∙ ap (λ i. done (locations es ++ replicate m (at_line first)) i false) z ∙ ap (λ i. done (locations es ++ replicate i (at_line first)) k false) q
      ∙ ap (λ i. done (i ++ replicate (count - k) (at_line first)) k false) (sym f))
      a.fills refl (fits (shown_of count r ++ replicate (count - k) (at_line first)) count (length-append (shown_of count r) (replicate (count - k) (at_line first)) ∙ omega arith) (omega arith)))

  final_past : (e : Span) → r.ending ≡ past_count e → m < e.instructions → OverAs first count n u r x → Reaches n reading (end s rs)
  final_past e q h a =
      let f = shows-past e q in
      let l = length-locations es in
      let k = length (shown_of count r) in
      let c = within in
      let lr = length-replicate {A = Location} m e.location in
      let kl : k ≡ count = ap length f ∙ length-append (locations es) (replicate m e.location) ∙ omega arith in
      let i : min e.instructions m ≡ m = omega arith in
      let j : m - e.instructions ≡ 0 = omega arith in
      let o : count - k ≡ 0 = omega arith in
      let z : total es + m ≡ k = omega arith in
      subst (Reaches n reading) (sym (over-is a ∙ ap (λ t. finished s rs k k false (replicate t (at_line first))) o))
      (ends-done n s rs reading (shown_of count r) [] k k false
      (reads_by (past_count e) q ∙ ap (λ t. done (locations es ++ (replicate t e.location ++ replicate (m - e.instructions) (at_line first))) (total es + t) false) i
      ∙ ap (λ t. done (locations es ++ (replicate m e.location ++ replicate t (at_line first))) (total es + m) false) j
      ∙ ap (λ t. done t (total es + m) false) (sym (append_assoc (locations es) (replicate m e.location) []))
      ∙ ap (λ t. done (t ++ []) (total es + m) false) (sym f) ∙ ap (λ t. done (shown_of count r ++ []) t false) z)
      a.fills refl (fits (shown_of count r ++ []) count (length-append (shown_of count r) [] ∙ omega arith) (omega arith)))

  final_over : (y : Ending) → r.ending ≡ y → Stopped y → Ends u (line_after first es) p m y → OverAs first count n u r x → Reaches n reading (end s rs)
  final_over placed_all e k d a = elim k [ ]
  final_over table_end e k d a = elim k [ ]
  final_over (cut_short _) e k d a = elim k [ ]
  final_over out_of_range e k d a = elim k [ ]
  final_over stop_byte e k d a = final_stop e a
  final_over (past_count y) e k d a = final_past y e d.3 a

  final_gone : r.ending ≡ out_of_range → GoneAs n p x → Reaches n reading (end s rs)
  unfolding end records_of
  final_gone e a =
      let is : end s rs ≡ shut s rs (fault NumberRange p) = by_gate s rs g.long (end_by s rs (kept_at s)) (Shut (fault NumberRange p)) (gate-shut first count n u x g room p a) in
      let q = reads_by out_of_range e in
      subst (Reaches n reading) (sym is) (record { answers = sym (ap as_call q); fills = ap zeros g.wide ∙ sym (ap (records_of n) q) })

  pub final : Reaches n reading (end s rs)
  final = by g.way where
    by : Way first count n u r x → Reaches n reading (end s rs)
    by (all e a) = final_all e a
    by (on k a) = final_on r.ending refl k (rowed u first 0 count).ends a
    by (stopped k a) = final_over r.ending refl k (rowed u first 0 count).ends a
    by (gone e l a) = final_gone e a
