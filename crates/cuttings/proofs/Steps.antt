-- A piece leads from where a reading stands after u to where it stands after u ++ v.
use mathlib.Core.Path.{◌≡◌, refl, sym, ap, subst, ◌∙◌}
use mathlib.Core.Bool.{true, false}
use mathlib.Core.List.{List, [], ◌∷◌, ◌++◌, map, append_assoc}
use Prim.Native.Nat.{ℕ, ◌+◌, ◌-◌, ◌*◌, ◌/◌, ◌≤◌, ◌<◌}
use native.Mathlib.Omega.{arith}
use lib.ListN.{length, get_or, drop, length-append, length-replicate}
use lib.Seq.{sets, length-sets, drop-append-le}
use Rattle.refusals.specs.Faults.{fault}
use Rattle.refusals.specs.declared.Refusal.TheVariants.{NumberRange}
use Rattle.refusals.specs.Limits.{most_bytes}
use Rattle.grammar.specs.Input.{Bytes}
use Rattle.clearing.specs.Lent.{zeros}
use Rattle.lineentry.specs.declared.Span.{Span}
use Rattle.lineentry.specs.declared.Entry.TheVariants.{OutOfRange}
use Rattle.lineentry.specs.Entry.{entry_at}
use Rattle.linetable.specs.Answer.{numbers}
use Rattle.rows.specs.Row.{Ending, placed_all, stop_byte, out_of_range, past_count, Row, row, Ends, total, locations, line_after, place_after, cut_short, table_end}
use Rattle.rows.proofs.Chains.{rowed, chain-upto, row_ends}
use Rattle.lostentry.specs.Lost.{Lost, lost}
use Rattle.lostentry.proofs.Losing.{lost-refuses}
use Rattle.lostentry.proofs.Heals.{refuses-lost}
use Rattle.piecestate.specs.declared.Kept.{Kept}
use Rattle.piecestate.specs.declared.Gate.TheVariants.{Open, Shut}
use Rattle.piecestate.specs.State.{kept_at, low, held_in, held_at, kept_why}
use Rattle.piecestate.specs.Answers.{Left, left, told, shut, gate}
use Rattle.pieces.specs.Facts.{Entered}
use Rattle.pieces.specs.Piece.{walked, piece_by}
use Rattle.pieces.proofs.Enters.{all_counts, piece-over, piece_on}
use Rattle.pieces.proofs.Fronts.{walked_feed}
use Rattle.pieces.proofs.Others.{alike}
use Rattle.pieces.proofs.Settled.{Settled, stop as stop_settled, past as past_settled, gone as gone_settled, row_settled}
use Rattle.pieces.proofs.Shown.{chain-line}
use Rattle.pieces.specs.Calls.{piece}
use Rattle.pieces.proofs.Gates.{open_gate, refused-gate, by_gate}
use Rattle.cuttings.proofs.Spelled.{counted_is, same_bytes}
use Rattle.cuttings.proofs.Sound.{bytes_drop, bytes-front, counted-sound}
use Rattle.cuttings.proofs.Standing.{GoingAs, OverAs, GoneAs, Stopped, Way, all, on, stopped, gone, Stands, walked-stands}

stopped_settled : (u : List ℕ) (line p : ℕ) (x : Ending) → Stopped x → Settled u line p x
stopped_settled u line p placed_all g = elim g [ ]
stopped_settled u line p table_end g = elim g [ ]
stopped_settled u line p (cut_short _) g = elim g [ ]
stopped_settled u line p out_of_range g = elim g [ ]
stopped_settled u line p stop_byte g = stop_settled
stopped_settled u line p (past_count e) g = past_settled

module _ (first count n : ℕ) (u : List ℕ) (x : Left) (g : Stands first count n u x) (room : count ≤ n / 4) where
  abbrev s : List ℕ
  s = x.state

  abbrev rs : List ℕ
  rs = x.records

  abbrev r : Row
  r = row u first 0 count

  -- ---- the gate is open
  pub going_enters : (es : List Span) (held : List ℕ) → GoingAs first count n u es held x → Entered (kept_at s) s rs
  going_enters es held a =
      let e : get_or s 6 0 ≡ 1 = ap (λ k. k.status) a.keeps in
      let c : get_or s 1 0 ≡ count = ap (λ k. k.count) a.keeps in
      record { numbers = g.long; keeps = refl; sounds = g.sounds; stands = λ y. absurd (omega arith); lasts = λ y. absurd (omega arith); room = omega (arith, g.wide) }

  pub over_enters : OverAs first count n u r x → Entered (kept_at s) s rs
  over_enters a =
      let e : get_or s 6 0 ≡ 2 = a.keeps-over in
      let c : get_or s 1 0 ≡ count = a.keeps-count in
      record { numbers = g.long; keeps = refl; sounds = g.sounds; stands = λ y. absurd (omega arith); lasts = λ y. absurd (omega arith); room = omega (arith, g.wide) }

  pub gate_open : Entered (kept_at s) s rs → gate s (kept_at s) (length rs / 4) ≡ Open
  gate_open e = open_gate s (kept_at s) (length rs / 4) e.sounds e.stands e.lasts (omega (arith, e.room))

  pub gate-shut : (place : ℕ) → GoneAs n place x → gate s (kept_at s) (length rs / 4) ≡ Shut (fault NumberRange place)
  gate-shut place a =
      refused-gate s (kept_at s) (length rs / 4) g.sounds a.keeps-refused ∙ ap (λ i. Shut (fault (kept_why i) (get_or s 8 0))) a.keeps-number ∙ ap (λ i. Shut (fault NumberRange i)) a.keeps-place

  pub held_is : (es : List Span) (held : List ℕ) → GoingAs first count n u es held x → Bytes held → held_at s ≡ held
  unfolding held_at
  held_is es held a b = ap (held_in s) (ap (λ k. k.size) a.keeps) ∙ ap (map low) a.raw ∙ same_bytes held b

  -- ---- a piece
  pub piece_is : (v : List ℕ) → Entered (kept_at s) s rs → piece v s rs ≡ piece_by v s rs (kept_at s)
  unfolding piece
  piece_is v e = by_gate s rs g.long (piece_by v s rs (kept_at s)) Open (gate_open e)

  pub going-piece : (v : List ℕ) → length (u ++ v) ≤ most_bytes → (es : List Span) (held : List ℕ) → GoingAs first count n u es held x → Bytes held
      → piece v s rs ≡ walked (held ++ v) (place_after 0 es) (length (u ++ v)) (line_after first es) (total es) count s (sets (zeros n) 0 (numbers (locations es)))
  going-piece v small es held a c =
      let e = going_enters es held a in
      let st : get_or s 6 0 ≡ 1 = ap (λ k. k.status) a.keeps in
      let by : get_or s 5 0 ≡ length u = ap (λ k. k.bytes) a.keeps in
      piece_is v e ∙ piece_on (kept_at s) s rs e v (omega (arith, length-append u v)) (λ y. absurd (omega arith))
      ∙ ap (λ h. walked (h ++ v) (get_or s 4 0) (get_or s 5 0 + length v) (get_or s 2 0) (get_or s 3 0) (get_or s 1 0) s rs) (held_is es held a c)
      ∙ ap (λ (k : Kept). walked (held ++ v) k.start (k.bytes + length v) k.line k.placed k.count s rs) a.keeps
      ∙ ap (λ i. walked (held ++ v) (place_after 0 es) i (line_after first es) (total es) count s rs) (sym (length-append u v))
      ∙ ap (λ ys. walked (held ++ v) (place_after 0 es) (length (u ++ v)) (line_after first es) (total es) count s ys) a.fills

  pub over-piece : (v : List ℕ) → length (u ++ v) ≤ most_bytes → OverAs first count n u r x → piece v s rs ≡ left (told (get_or s 3 0) false) (sets s 5 ((get_or s 5 0 + length v) ∷ [])) rs
  over-piece v small a =
      let e = over_enters a in
      let by : get_or s 5 0 ≡ length u = a.keeps-bytes in
      piece_is v e ∙ piece-over (kept_at s) s rs e v (omega (arith, length-append u v)) a.keeps-over

  pub gone_piece : (v : List ℕ) (place : ℕ) → GoneAs n place x → piece v s rs ≡ shut s rs (fault NumberRange place)
  unfolding piece
  gone_piece v place a = by_gate s rs g.long (piece_by v s rs (kept_at s)) (Shut (fault NumberRange place)) (gate-shut place a)

  module _ (v : List ℕ) (b : Bytes (u ++ v)) (small : length (u ++ v) ≤ most_bytes) where
    -- the bytes behind the complete entries come to what all come to
    fed : walked (drop (place_after 0 r.entries) u ++ v) (place_after 0 r.entries) (length (u ++ v)) (line_after first r.entries) (total r.entries) count s (sets (zeros n) 0 (numbers (locations r.entries)))
        ≡ walked (u ++ v) 0 (length (u ++ v)) first 0 count s (zeros n)
    fed =
        let es = r.entries in
        let d = rowed u first 0 count in
        let t = drop (place_after 0 es) u ++ v in
        let i : 0 + place_after 0 es ≡ place_after 0 es = omega arith in
        let j : 0 + total es ≡ total es = omega arith in
        let k : 4 * 0 ≡ 0 = omega arith in
        sym (walked_feed u v 0 (length (u ++ v)) first 0 count s (zeros n) es d.chain (omega (arith, d.within))
        ∙ ap (λ z. walked t z (length (u ++ v)) (line_after first es) (0 + total es) count s (sets (zeros n) (4 * 0) (numbers (locations es)))) i
        ∙ ap (λ z. walked t (place_after 0 es) (length (u ++ v)) (line_after first es) z count s (sets (zeros n) (4 * 0) (numbers (locations es)))) j
        ∙ ap (λ z. walked t (place_after 0 es) (length (u ++ v)) (line_after first es) (total es) count s (sets (zeros n) z (numbers (locations es)))) k)

    walks : (held : List ℕ) → GoingAs first count n u r.entries held x → piece v s rs ≡ walked (u ++ v) 0 (length (u ++ v)) first 0 count s (zeros n) → Stands first count n (u ++ v) (piece v s rs)
    walks held a e =
        subst (Stands first count n (u ++ v)) (sym e)
        (walked-stands first count n (u ++ v) s g.long (ap (λ k. k.first) a.keeps) (ap (λ k. k.count) a.keeps) b small)

    step_on : GoingAs first count n u r.entries (drop (place_after 0 r.entries) u) x → Stands first count n (u ++ v) (piece v s rs)
    step_on a =
        let p = place_after 0 r.entries in
        walks (drop p u) a (going-piece v small r.entries (drop p u) a (bytes_drop u p (bytes-front u v b)) ∙ fed)

    step_all : r.ending ≡ placed_all → GoingAs first count n u r.entries [] x → Stands first count n (u ++ v) (piece v s rs)
    step_all e a =
        let es = r.entries in
        let z : count - total es ≡ 0 = subst (Ends u (line_after first es) (place_after 0 es) (count - total es)) e (rowed u first 0 count).ends in
        let t = drop (place_after 0 es) u ++ v in
        let q = alike v t (place_after 0 es) (length (u ++ v)) (line_after first es) (total es) count s (sets (zeros n) 0 (numbers (locations es))) placed_all
        (row_ends v (line_after first es) 0 (count - total es) placed_all z) (row_ends t (line_after first es) 0 (count - total es) placed_all z) (λ m ys. refl) in
        walks [] a (going-piece v small es [] a (λ i. omega arith) ∙ sym q ∙ fed)

    step_over : Stopped r.ending → OverAs first count n u r x → Stands first count n (u ++ v) (piece v s rs)
    step_over k a =
        let e = over_enters a in
        let by : get_or s 5 0 ≡ length u = a.keeps-bytes in
        let m : get_or s 5 0 + length v ≡ length (u ++ v) = omega (arith, length-append u v) in
        let is = over-piece v small a in
        let z = counted_is s g.long (get_or s 5 0 + length v) in
        let same : row (u ++ v) first 0 count ≡ r = row_settled u v first count (stopped_settled u (line_after first r.entries) (place_after 0 r.entries) r.ending k) in
        subst (Stands first count n (u ++ v)) (sym is)
        (record {
          long = omega (arith, length-sets s 5 ((get_or s 5 0 + length v) ∷ []), g.long);
          sounds = counted-sound s g.long (get_or s 5 0 + length v) a.keeps-over (all_counts (kept_at s) s rs e).few (omega arith);
          wide = g.wide;
          way =
              subst (λ y. Way first count n (u ++ v) y (left (told (get_or s 3 0) false) (sets s 5 ((get_or s 5 0 + length v) ∷ [])) rs)) (sym same)
              (stopped k
              (record {
                answers = ap (λ i. told i false) a.keeps_placed;
                keeps_first = ap (λ y. get_or y 0 0) z ∙ a.keeps_first;
                keeps-count = ap (λ y. get_or y 1 0) z ∙ a.keeps-count;
                keeps_placed = ap (λ y. get_or y 3 0) z ∙ a.keeps_placed;
                keeps-bytes = ap (λ y. get_or y 5 0) z ∙ m;
                keeps-over = ap (λ y. get_or y 6 0) z ∙ a.keeps-over;
                fills = a.fills;
              }));
        })

    step_gone : first < 4294967296 → r.ending ≡ out_of_range → lost (drop (place_after 0 r.entries) u) (line_after first r.entries) ≡ true → GoneAs n (place_after 0 r.entries) x
        → Stands first count n (u ++ v) (piece v s rs)
    step_gone bound e l a =
        let es = r.entries in
        let p = place_after 0 es in
        let line = line_after first es in
        let d = rowed u first 0 count in
        let h : Lost (drop p u) line = lost-refuses (drop p u) line (chain-line u first 0 es bound d.chain) l in
        let same : row (u ++ v) first 0 count ≡ r = row_settled u v first count (subst (Settled u line p) (sym e) (gone_settled h)) in
        let far : drop p (u ++ v) ≡ drop p u ++ v = drop-append-le p u v (chain-upto u first 0 es (omega arith) d.chain) in
        let l' : lost (drop p u ++ v) line ≡ true = refuses-lost (drop p u ++ v) line (λ w. subst (λ t. entry_at t line 0 ≡ OutOfRange) (sym (append_assoc (drop p u) v w)) (h (v ++ w))) in
        let is = gone_piece v p a in
        subst (Stands first count n (u ++ v)) (sym is)
        (record {
          long = g.long;
          sounds = g.sounds;
          wide = length-replicate {A = ℕ} (length rs) 0 ∙ g.wide;
          way =
              subst (λ y. Way first count n (u ++ v) y (shut s rs (fault NumberRange p))) (sym same)
              (gone e (ap (λ t. lost t line) far ∙ l')
              (record { answers = refl; keeps-refused = a.keeps-refused; keeps-number = a.keeps-number; keeps-place = a.keeps-place; fills = ap zeros g.wide }));
        })

    pub step : first < 4294967296 → Stands first count n (u ++ v) (piece v s rs)
    step bound = by g.way where
      by : Way first count n u r x → Stands first count n (u ++ v) (piece v s rs)
      by (all e a) = step_all e a
      by (on k a) = step_on a
      by (stopped k a) = step_over k a
      by (gone e l a) = step_gone bound e l a
