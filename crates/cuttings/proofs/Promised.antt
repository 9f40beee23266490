-- THEOREM of 02's K6: a table that comes by piece is read as the joined table is, whatever the cutting; an 18 comes in the first call after which
-- every table that goes on is refused; and the states that calls leave are those that calls take. By induction over the pieces.
use mathlib.Core.Path.{◌≡◌, refl, sym, ap, subst, ◌∙◌}
use mathlib.Core.Bool.{Bool, true, false, ◌&&◌}
use mathlib.Core.List.{List, [], ◌∷◌, ◌++◌, append_assoc, append-nil}
use Prim.Native.Nat.{ℕ, ◌+◌, ◌/◌, ◌≤◌, ◌<◌}
use native.Mathlib.Omega.{arith}
use lib.ListN.{length, get_or, drop, length-append, length-replicate}
use lib.Seq.{length-sets}
use lib.Dec.{ltb, eqb}
use borrow.Author.Tests.{ltb-true, ltb-false, eqb-true, eqb-false}
use Rattle.refusals.specs.Numbers.{accepted, number_range}
use Rattle.refusals.specs.Faults.{fault}
use Rattle.refusals.specs.declared.Refusal.TheVariants.{InputTooLong, NoRoom}
use Rattle.refusals.specs.Limits.{most_bytes}
use Rattle.grammar.specs.Input.{Bytes}
use Rattle.clearing.specs.Lent.{zeros}
use Rattle.lineentry.specs.declared.Span.{Span}
use Rattle.lineentry.specs.Entry.{at_line}
use Rattle.linetable.specs.Answer.{located, records_of}
use Rattle.linetable.proofs.Outcomes.{located-short, located_walks}
use Rattle.rows.specs.Row.{Ending, placed_all, table_end, stop_byte, cut_short, out_of_range, past_count, Row, row, line_after, place_after, row_reads}
use Rattle.rows.proofs.Chains.{row_ends}
use Rattle.rows.proofs.Local.{never}
use Rattle.rows.proofs.Walks.{walk-row}
use Rattle.lostentry.specs.Lost.{lost}
use Rattle.piecestate.specs.State.{going, kept_at}
use Rattle.piecestate.specs.Answers.{Left, left, told, stuck}
use Rattle.pieces.proofs.Enters.{piece-long}
use Rattle.pieces.proofs.Short.{Goes, nothing, unsure}
use Rattle.pieces.proofs.Shown.{is_out, shown, shown-refuses, refuses-shown}
use Rattle.pieces.specs.Calls.{piece, fresh, begin}
use Rattle.cuttings.specs.Promised.{joined, calls, end_after, said, as_call, EveryRefused, Taken, Promised}
use Rattle.pieces.proofs.Begins.{begin-few, begin_on}
use Rattle.cuttings.proofs.Spelled.{fresh-is}
use Rattle.cuttings.proofs.Sound.{bytes-front, fresh-sound}
use Rattle.cuttings.proofs.Standing.{kept_of, GoingAs, Stopped, Way, all, on, stopped, gone, Stands}
use Rattle.cuttings.proofs.Steps.{going_enters, over_enters, piece_is, step}
use Rattle.cuttings.proofs.Final.{final}
use Rattle.cuttings.proofs.Same.{nothing_new}
use Rattle.cuttings.proofs.Repeats.{states-kept, stuck_stays, stuck-ends, stuck-calls}

-- ---- the start
module _ (first count : ℕ) (s rs : List ℕ) (long : 40 ≤ length s) where
  fresh-going : GoingAs first count (length rs) [] [] [] (left (told 0 false) (fresh first count s) (zeros (length rs)))
  fresh-going =
      let z = fresh-is s long first count in
      record {
        answers = refl;
        keeps =
            ap kept_at z ∙ ap (λ a. kept_of first count first 0 0 0 going a 0 0) (sym (ap (λ y. get_or y 7 0) z))
            ∙ ap (λ a. kept_of first count first 0 0 0 going (get_or (fresh first count s) 7 0) a 0) (sym (ap (λ y. get_or y 8 0) z));
        raw = refl;
        fills = refl;
      }

  fresh_way : (t : Bool) → eqb count 0 ≡ t → Way first count (length rs) [] (row [] first 0 count) (left (told 0 false) (fresh first count s) (zeros (length rs)))
  fresh_way true e =
      subst (λ r. Way first count (length rs) [] r (left (told 0 false) (fresh first count s) (zeros (length rs)))) (sym (row_ends [] first 0 count placed_all (eqb-true count 0 e))) (all refl fresh-going)
  fresh_way false e =
      let k = eqb-false count 0 e in
      subst (λ r. Way first count (length rs) [] r (left (told 0 false) (fresh first count s) (zeros (length rs)))) (sym (row_ends [] first 0 count table_end (omega (arith, k), omega arith))) (on nothing fresh-going)

  begins : count ≤ length rs / 4 → Stands first count (length rs) [] (begin first count s rs)
  begins h =
      subst (Stands first count (length rs) []) (sym (begin_on first count s rs long h))
      (record {
        long = omega (arith, length-sets s 0 (first ∷ count ∷ first ∷ 0 ∷ 0 ∷ 0 ∷ going ∷ 0 ∷ 0 ∷ 0 ∷ []));
        sounds = fresh-sound s long first count;
        wide = length-replicate {A = ℕ} (length rs) 0;
        way = fresh_way (eqb count 0) refl;
      })

-- ---- the pieces
stands_on : (first count n : ℕ) → first < 4294967296 → count ≤ n / 4 → (vs : List (List ℕ)) (u : List ℕ) (x : Left) → Stands first count n u x → Bytes (u ++ joined vs) → length (u ++ joined vs) ≤ most_bytes
    → Stands first count n (u ++ joined vs) (calls x vs)
stands_on first count n bound room [] u x g b h = subst (λ t. Stands first count n t x) (sym (append-nil u)) g
stands_on first count n bound room (v ∷ vs) u x g b h =
    let a : (u ++ v) ++ joined vs ≡ u ++ (v ++ joined vs) = append_assoc u v (joined vs) in
    let b' : Bytes ((u ++ v) ++ joined vs) = subst Bytes (sym a) b in
    let h' : length ((u ++ v) ++ joined vs) ≤ most_bytes = subst (λ t. length t ≤ most_bytes) (sym a) h in
    let q = step first count n u x g room v (bytes-front (u ++ v) (joined vs) b') (omega (arith, length-append (u ++ v) (joined vs))) bound in
    subst (λ t. Stands first count n t (calls (piece v x.state x.records) vs)) a (stands_on first count n bound room vs (u ++ v) (piece v x.state x.records) q b' h')

module _ (first count : ℕ) (s rs : List ℕ) (vs : List (List ℕ)) (g : Taken first s vs) where
  abbrev last : Left
  last = calls (begin first count s rs) vs

  stand : count ≤ length rs / 4 → Stands first count (length rs) (joined vs) last
  stand h = stands_on first count (length rs) g.line h vs [] (begin first count s rs) (begins first count s rs g.numbers h) g.bytes g.small

  -- too few records
  few : length rs / 4 < count → last ≡ stuck (fresh first count s) rs (fault NoRoom (length rs / 4))
  few h =
      ap (λ x. calls x vs) (begin-few first count s rs g.numbers h)
      ∙ stuck-calls (fresh first count s) rs (fault NoRoom (length rs / 4)) (omega (arith, length-sets s 0 (first ∷ count ∷ first ∷ 0 ∷ 0 ∷ 0 ∷ going ∷ 0 ∷ 0 ∷ 0 ∷ []), g.numbers)) refl vs

  whole-few : length rs / 4 < count → (said (end_after last).answer ≡ as_call (located (joined vs) first count (length rs / 4))) × ((end_after last).records ≡ records_of (length rs) (located (joined vs) first count (length rs / 4)))
  unfolding records_of
  whole-few h =
      let l = located-short (joined vs) first count (length rs / 4) (length rs / 4) g.small refl h in
      let e = ap end_after (few h) ∙ stuck-ends (fresh first count s) rs (fault NoRoom (length rs / 4)) (omega (arith, length-sets s 0 (first ∷ count ∷ first ∷ 0 ∷ 0 ∷ 0 ∷ going ∷ 0 ∷ 0 ∷ 0 ∷ []), g.numbers)) refl in
      (ap (λ y. said y.answer) e ∙ sym (ap as_call l), ap (λ y. y.records) e ∙ sym (ap (records_of (length rs)) l))

  whole_on : count ≤ length rs / 4 → (said (end_after last).answer ≡ as_call (located (joined vs) first count (length rs / 4))) × ((end_after last).records ≡ records_of (length rs) (located (joined vs) first count (length rs / 4)))
  whole_on h =
      let f = final first count (length rs) (joined vs) last (stand h) h g.bytes in
      let l : located (joined vs) first count (length rs / 4) ≡ row_reads (joined vs) (at_line first) 0 count (row (joined vs) first 0 count) =
      located_walks (joined vs) first count (length rs / 4) g.small h ∙ walk-row (joined vs) (at_line first) first 0 count in
      (f.answers ∙ sym (ap as_call l), f.fills ∙ sym (ap (records_of (length rs)) l))

  whole : (said (end_after last).answer ≡ as_call (located (joined vs) first count (length rs / 4))) × ((end_after last).records ≡ records_of (length rs) (located (joined vs) first count (length rs / 4)))
  whole = by (ltb (length rs / 4) count) refl where
    by : (t : Bool) → ltb (length rs / 4) count ≡ t → (said (end_after last).answer ≡ as_call (located (joined vs) first count (length rs / 4))) × ((end_after last).records ≡ records_of (length rs) (located (joined vs) first count (length rs / 4)))
    by true e = whole-few (ltb-true (length rs / 4) count e)
    by false e = whole_on (ltb-false (length rs / 4) count e)

  empty : piece [] last.state last.records ≡ last
  empty = by (ltb (length rs / 4) count) refl where
    by : (t : Bool) → ltb (length rs / 4) count ≡ t → piece [] last.state last.records ≡ last
    by true e =
        let q = few (ltb-true (length rs / 4) count e) in
        ap (λ (x : Left). piece [] x.state x.records) q
        ∙ stuck_stays (fresh first count s) rs (fault NoRoom (length rs / 4)) (omega (arith, length-sets s 0 (first ∷ count ∷ first ∷ 0 ∷ 0 ∷ 0 ∷ going ∷ 0 ∷ 0 ∷ 0 ∷ []), g.numbers)) refl [] ∙ sym q
    by false e = let h = ltb-false (length rs / 4) count e in nothing_new first count (length rs) (joined vs) last (stand h) h g.bytes g.small

-- ---- 18
data Shows (first count : ℕ) (u : List ℕ) (x : Left) : Type 0 where
  now : (said x.answer).refusal ≡ number_range → shown u first count ≡ true → Shows first count u x
  not_yet : (said x.answer).refusal ≡ accepted → shown u first count ≡ false → Shows first count u x

module _ (first count n : ℕ) (u : List ℕ) (x : Left) where
  abbrev r : Row
  r = row u first 0 count

  abbrev held : List ℕ
  held = drop (place_after 0 r.entries) u

  abbrev line : ℕ
  line = line_after first r.entries

  -- what goes on or has stopped shows no 18
  open_shows : (y : Ending) → Goes u line (place_after 0 r.entries) y → (is_out y && lost held line) ≡ false
  open_shows placed_all k = elim k [ ]
  open_shows stop_byte k = elim k [ ]
  open_shows (past_count _) k = elim k [ ]
  open_shows table_end k = refl
  open_shows (cut_short e) k = refl
  open_shows out_of_range (unsure l) = l

  stop-shows : (y : Ending) → Stopped y → (is_out y && lost held line) ≡ false
  stop-shows placed_all k = elim k [ ]
  stop-shows table_end k = elim k [ ]
  stop-shows (cut_short _) k = elim k [ ]
  stop-shows out_of_range k = elim k [ ]
  stop-shows stop_byte k = refl
  stop-shows (past_count e) k = refl

  shows_by : Way first count n u r x → Shows first count u x
  shows_by (all e a) = not_yet (ap (λ y. (said y).refusal) a.answers) (ap (λ y. is_out y && lost held line) e)
  shows_by (on k a) = not_yet (ap (λ y. (said y).refusal) a.answers) (open_shows r.ending k)
  shows_by (stopped k a) = not_yet (ap (λ y. (said y).refusal) a.answers) (stop-shows r.ending k)
  shows_by (gone e l a) = now (ap (λ y. (said y).refusal) a.answers) (ap (λ y. is_out y && lost held line) e ∙ l)

  pub shows-eighteen : first < 4294967296 → Way first count n u r x → ((said x.answer).refusal ≡ number_range → EveryRefused u first count) × (EveryRefused u first count → (said x.answer).refusal ≡ number_range)
  shows-eighteen bound w = by (shows_by w) where
    by : Shows first count u x → ((said x.answer).refusal ≡ number_range → EveryRefused u first count) × (EveryRefused u first count → (said x.answer).refusal ≡ number_range)
    by (now a l) = (λ h v. (number_range, place_after 0 r.entries, shown-refuses u v (at_line first) first count bound l), λ f. a)
    by (not_yet a l) = (λ h. let z : ◌≡◌ {A = ℕ} 0 18 = sym a ∙ h in absurd (omega arith), λ f. never (sym (refuses-shown u (at_line first) first count f) ∙ l))

  -- ---- more than 16 MiB
  pub passes : (g : Stands first count n u x) → count ≤ n / 4 → (v : List ℕ) → most_bytes < length u + length v → (said x.answer).refusal ≡ accepted
      → piece v x.state x.records ≡ stuck x.state x.records (fault InputTooLong 0)
  passes g room v h o = by g.way where
    going_on : (es : List Span) (held : List ℕ) → GoingAs first count n u es held x → piece v x.state x.records ≡ stuck x.state x.records (fault InputTooLong 0)
    going_on es held a =
        let e = going_enters first count n u x g room es held a in
        let z : get_or x.state 5 0 ≡ length u = ap (λ k. k.bytes) a.keeps in
        piece_is first count n u x g room v e ∙ piece-long (kept_at x.state) x.state x.records e v (omega arith)

    by : Way first count n u r x → piece v x.state x.records ≡ stuck x.state x.records (fault InputTooLong 0)
    by (all e a) = going_on r.entries [] a
    by (on k a) = going_on r.entries held a
    by (stopped k a) =
        let e = over_enters first count n u x g room a in
        let z : get_or x.state 5 0 ≡ length u = a.keeps-bytes in
        piece_is first count n u x g room v e ∙ piece-long (kept_at x.state) x.state x.records e v (omega arith)
    by (gone e l a) = let z : ◌≡◌ {A = ℕ} 18 0 = sym (ap (λ y. (said y).refusal) a.answers) ∙ o in absurd (omega arith)

too_long_by : (first count : ℕ) (s rs : List ℕ) (vs : List (List ℕ)) (v : List ℕ) (g : Taken first s vs) → most_bytes < length (joined vs) + length v → (t : Bool) → ltb (length rs / 4) count ≡ t
    → (said (calls (begin first count s rs) vs).answer).refusal ≡ accepted
    → piece v (calls (begin first count s rs) vs).state (calls (begin first count s rs) vs).records ≡ stuck (calls (begin first count s rs) vs).state (calls (begin first count s rs) vs).records (fault InputTooLong 0)
too_long_by first count s rs vs v g h true e o =
    let q = few first count s rs vs g (ltb-true (length rs / 4) count e) in
    let z : ◌≡◌ {A = ℕ} 17 0 = sym (ap (λ (x : Left). (said x.answer).refusal) q) ∙ o in
    absurd (omega arith)
too_long_by first count s rs vs v g h false e o =
    let k = ltb-false (length rs / 4) count e in
    passes first count (length rs) (joined vs) (calls (begin first count s rs) vs) (stand first count s rs vs g k) k v h o

-- THEOREM: 02's K6.
pub pieces_keep_their_promises : Promised
pieces_keep_their_promises =
    record {
      whole_table = whole;
      no_bytes = empty;
      eighteen = λ first count s rs vs g h. shows-eighteen first count (length rs) (joined vs) (calls (begin first count s rs) vs) g.line (stand first count s rs vs g h).way;
      too_long = λ first count s rs vs v g h. too_long_by first count s rs vs v g h (ltb (length rs / 4) count) refl;
      states = states-kept;
    }
