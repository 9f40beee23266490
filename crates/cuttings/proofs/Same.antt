-- "a piece without bytes before the final call changes nothing": the answer, the state and the records stay.
use mathlib.Core.Path.{◌≡◌, refl, sym, ap, subst, ◌∙◌}
use mathlib.Core.Bool.{false, cond}
use mathlib.Core.List.{List, [], ◌∷◌, ◌++◌, append-nil}
use Prim.Native.Nat.{ℕ, ◌+◌, ◌-◌, ◌*◌, ◌/◌, ◌≤◌}
use native.Mathlib.Omega.{arith}
use lib.ListN.{length, get_or, take, drop, length-drop, take-append-drop, drop_of_length-le}
use lib.Seq.{sets, sets-eq, set-get_or}
use Rattle.std.specs.Prelude.{Err}
use Rattle.refusals.specs.Faults.{fault}
use Rattle.refusals.specs.declared.Refusal.TheVariants.{NumberRange}
use Rattle.refusals.specs.Limits.{most_bytes}
use Rattle.grammar.specs.Input.{Bytes}
use Rattle.clearing.specs.Lent.{zeros}
use Rattle.lineentry.specs.declared.Span.{Span}
use Rattle.linetable.specs.Answer.{numbers}
use Rattle.rows.specs.Row.{Ending, placed_all, table_end, cut_short, out_of_range, Row, alone, row, Ends, total, locations, line_after, place_after, past_count, stop_byte}
use Rattle.rows.proofs.Chains.{rowed, chain-upto, row_ends}
use Rattle.lostentry.specs.Lost.{lost}
use Rattle.piecestate.specs.declared.Kept.{Kept}
use Rattle.piecestate.specs.State.{going, kept_at, advanced}
use Rattle.piecestate.specs.Answers.{Left, left, told, stuck}
use Rattle.pieces.specs.Piece.{onward, shown_of, after, walked}
use Rattle.pieces.proofs.Enters.{goes}
use Rattle.pieces.proofs.Short.{Goes, unsure}
use Rattle.pieces.proofs.Shown.{held_out}
use Rattle.pieces.specs.Calls.{piece}
use Rattle.cuttings.proofs.Spelled.{front, spelled, advanced_is}
use Rattle.cuttings.proofs.Sound.{held_covers, bytes_drop}
use Rattle.cuttings.proofs.Standing.{GoingAs, OverAs, GoneAs, Way, all, on, stopped, gone, Stands}
use Rattle.cuttings.proofs.Steps.{going_enters, going-piece, over-piece, gone_piece}

-- ---- a walk over held bytes alone
data Quiet (held : List ℕ) (line : ℕ) : Ending → Type 0 where
  placed : held ≡ [] → Quiet held line placed_all
  none : held ≡ [] → Quiet held line table_end
  cut : {e : Span} → Quiet held line (cut_short e)
  unsure_yet : lost held line ≡ false → Quiet held line out_of_range

module _ (held : List ℕ) (start bytes line placed_now count : ℕ) (s rs : List ℕ) (few : placed_now ≤ count) where
  abbrev n : ℕ
  n = count - placed_now

  goes_same : (h : List ℕ) → h ≡ held → onward s rs line (count - (n - 0)) (start + 0) bytes going h ≡ onward s rs line placed_now start bytes going held
  goes_same h e =
      let a : count - (n - 0) ≡ placed_now = omega arith in
      let b : start + 0 ≡ start = omega arith in
      ap (λ i. onward s rs line i (start + 0) bytes going h) a ∙ ap (λ i. onward s rs line placed_now i bytes going h) b ∙ ap (onward s rs line placed_now start bytes going) e

  quiet_by : (y : Ending) → Quiet held line y → after held start bytes count line n s (sets rs (4 * placed_now) (numbers (shown_of n (alone y)))) (alone y) ≡ onward s rs line placed_now start bytes going held
  unfolding after shown_of
  quiet_by stop_byte q = elim q [ ]
  quiet_by (past_count _) q = elim q [ ]
  quiet_by placed_all (placed e) = goes_same [] (sym e)
  quiet_by table_end (none e) = goes_same [] (sym e)
  quiet_by (cut_short x) cut = goes_same held refl
  quiet_by out_of_range (unsure_yet l) =
      ap (λ c. cond c (stuck s rs (fault NumberRange (start + 0))) (onward s rs line (count - (n - 0)) (start + 0) bytes going held)) l ∙ goes_same held refl

  quiet : (y : Ending) → Quiet held line y → row held line 0 n ≡ alone y → walked held start bytes line placed_now count s rs ≡ onward s rs line placed_now start bytes going held
  unfolding walked
  quiet y q e = ap (λ r. after held start bytes count line n s (sets rs (4 * placed_now) (numbers (shown_of n r))) r) e ∙ quiet_by y q

-- numbers that stand there already are stored over themselves
over_itself : (l xs : List ℕ) → length xs ≤ length l → take (length xs) l ≡ xs → sets l 0 xs ≡ l
over_itself l xs h e =
    let z : 0 + length xs ≡ length xs = omega arith in
    sets-eq xs l 0 (omega arith) ∙ ap (λ k. xs ++ drop k l) z ∙ ap (λ t. t ++ drop (length xs) l) (sym e) ∙ take-append-drop (length xs) l

module _ (first count n : ℕ) (u : List ℕ) (x : Left) (g : Stands first count n u x) (room : count ≤ n / 4) (b : Bytes u) (small : length u ≤ most_bytes) where
  abbrev s : List ℕ
  s = x.state

  abbrev rs : List ℕ
  rs = x.records

  abbrev r : Row
  r = row u first 0 count

  abbrev p : ℕ
  p = place_after 0 r.entries

  small_yet : length (u ++ []) ≤ most_bytes
  small_yet = subst (λ t. length t ≤ most_bytes) (sym (append-nil u)) small

  module _ (held : List ℕ) (a : GoingAs first count n u r.entries held x) where
    short : length held ≤ 25
    short =
        let e = going_enters first count n u x g room r.entries held a in
        let st : get_or s 6 0 ≡ 1 = ap (λ k. k.status) a.keeps in
        let z : get_or s 9 0 ≡ length held = ap (λ k. k.size) a.keeps in
        let k = (goes (kept_at s) s rs e (λ y. absurd (omega arith))).short in
        omega arith

    state_same : advanced s (line_after first r.entries) (total r.entries) p (length u) going held ≡ s
    state_same =
        let t = over_itself (drop 10 s) held (let k = short in omega (arith, length-drop 10 s, g.long)) a.raw in
        advanced_is s g.long (line_after first r.entries) (total r.entries) p (length u) going held
        ∙ ap (λ y. front (get_or s 0 0) (get_or s 1 0) (line_after first r.entries) (total r.entries) p (length u) going (get_or s 7 0) (get_or s 8 0) (length held) y) t
        ∙ ap (λ (k : Kept). front (get_or s 0 0) (get_or s 1 0) k.line k.placed k.start k.bytes k.status (get_or s 7 0) (get_or s 8 0) k.size (drop 10 s)) (sym a.keeps)
        ∙ sym (spelled s g.long)

    going_same : Bytes held → (y : Ending) → Quiet held (line_after first r.entries) y → row held (line_after first r.entries) 0 (count - total r.entries) ≡ alone y → piece [] s rs ≡ x
    going_same c y q e =
        let es = r.entries in
        let ys = sets (zeros n) 0 (numbers (locations es)) in
        going-piece first count n u x g room [] small_yet es held a c
        ∙ ap (λ t. walked t p (length (u ++ [])) (line_after first es) (total es) count s ys) (append-nil held)
        ∙ ap (λ t. walked held p (length t) (line_after first es) (total es) count s ys) (append-nil u)
        ∙ quiet held p (length u) (line_after first es) (total es) count s ys (rowed u first 0 count).within y q e
        ∙ ap (λ t. left (told (total es) false) t ys) state_same
        ∙ ap (λ t. left (told (total es) false) s t) (sym a.fills)
        ∙ ap (λ t. left t s rs) (sym a.answers)

  same_on : (y : Ending) → Goes u (line_after first r.entries) p y → Ends u (line_after first r.entries) p (count - total r.entries) y → GoingAs first count n u r.entries (drop p u) x → piece [] s rs ≡ x
  same_on placed_all k d a = elim k [ ]
  same_on stop_byte k d a = elim k [ ]
  same_on (past_count _) k d a = elim k [ ]
  same_on table_end k d a =
      let e : drop p u ≡ [] = drop_of_length-le u {i = p} d.1 in
      going_same (drop p u) a (bytes_drop u p b) table_end (none e) (row_ends (drop p u) (line_after first r.entries) 0 (count - total r.entries) table_end (d.0, omega (arith, ap length e)))
  same_on (cut_short y) k d a =
      let h = held_covers u (line_after first r.entries) p y (chain-upto u first 0 r.entries (omega arith) (rowed u first 0 count).chain) d.1 in
      going_same (drop p u) a (bytes_drop u p b) (cut_short h.span) cut
      (row_ends (drop p u) (line_after first r.entries) 0 (count - total r.entries) (cut_short h.span) (d.0, h.covers, ap (λ o. o.missing) h.same ∙ d.2))
  same_on out_of_range (unsure l) d a =
      let o = held_out u (line_after first r.entries) p (count - total r.entries) out_of_range (chain-upto u first 0 r.entries (omega arith) (rowed u first 0 count).chain) d refl in
      going_same (drop p u) a (bytes_drop u p b) out_of_range (unsure_yet l) (row_ends (drop p u) (line_after first r.entries) 0 (count - total r.entries) out_of_range (d.0, o.1))

  same_over : OverAs first count n u r x → piece [] s rs ≡ x
  same_over a =
      let z : get_or s 5 0 + 0 ≡ get_or s 5 0 = omega arith in
      over-piece first count n u x g room [] small_yet a
      ∙ ap (λ i. left (told (get_or s 3 0) false) (sets s 5 (i ∷ [])) rs) z
      ∙ ap (λ t. left (told (get_or s 3 0) false) t rs) (set-get_or s 5 0)
      ∙ ap (λ i. left (told i false) s rs) a.keeps_placed
      ∙ ap (λ t. left t s rs) (sym a.answers)

  same_gone : GoneAs n p x → piece [] s rs ≡ x
  same_gone a =
      gone_piece first count n u x g room [] p a
      ∙ ap (λ t. left (Err (fault NumberRange p)) s t) (ap zeros g.wide ∙ sym a.fills)
      ∙ ap (λ t. left t s rs) (sym a.answers)

  pub nothing_new : piece [] s rs ≡ x
  nothing_new = by g.way where
    by : Way first count n u r x → piece [] s rs ≡ x
    by (all e a) =
        let z : count - total r.entries ≡ 0 = subst (Ends u (line_after first r.entries) p (count - total r.entries)) e (rowed u first 0 count).ends in
        going_same [] a (λ i. omega arith) placed_all (placed refl) (row_ends [] (line_after first r.entries) 0 (count - total r.entries) placed_all z)
    by (on k a) = same_on r.ending k (rowed u first 0 count).ends a
    by (stopped k a) = same_over a
    by (gone e l a) = same_gone a
