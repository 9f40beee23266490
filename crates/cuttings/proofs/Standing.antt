-- Where a reading by piece stands after bytes u: what the state keeps and what the records hold are functions of the row of u, however u was cut.
-- A piece leads from u to u ++ v, since the row of a table that goes on begins with the complete entries of its first bytes.
use mathlib.Core.Path.{◌≡◌, refl, sym, ap, subst, ◌∙◌}
use mathlib.Core.Bool.{Bool, true, false, cond}
use mathlib.Core.List.{List, [], ◌∷◌, ◌++◌, append-nil}
use Prim.Native.Nat.{ℕ, ◌+◌, ◌-◌, ◌≤◌}
use native.Mathlib.Omega.{arith}
use lib.ListN.{length, replicate, get_or, take, drop, length-append, length-replicate, drop_of_length-le}
use lib.Seq.{sets, length-sets}
use Rattle.std.specs.Prelude.{Err}
use Rattle.refusals.specs.Faults.{fault}
use Rattle.refusals.specs.declared.Refusal.TheVariants.{NumberRange}
use Rattle.refusals.specs.Numbers.{number_range}
use Rattle.refusals.specs.Limits.{most_bytes}
use Rattle.grammar.specs.Input.{Bytes}
use Rattle.clearing.specs.Lent.{zeros}
use Rattle.lineentry.specs.declared.Location.{Location}
use Rattle.lineentry.specs.declared.Span.{Span}
use Rattle.linetable.specs.Answer.{numbers}
use Rattle.rows.specs.Row.{Ending, placed_all, table_end, stop_byte, cut_short, out_of_range, past_count, Row, row, Ends, total, locations, line_after, place_after}
use Rattle.rows.proofs.Chains.{rowed}
use Rattle.lostentry.specs.Lost.{lost}
use Rattle.piecestate.specs.declared.Kept.{Kept}
use Rattle.piecestate.specs.State.{going, over, refusing, kept_at, sound, advanced}
use Rattle.piecestate.specs.Answers.{Left, told, stuck}
use Rattle.pieces.specs.Piece.{onward, overrun, shown_of, by_ending, after, walked}
use Rattle.pieces.proofs.Fronts.{length-locations}
use Rattle.pieces.proofs.Short.{Goes, nothing, incomplete, unsure, held_short}
use Rattle.cuttings.proofs.Spelled.{advanced_is, refused_is, stored_held}
use Rattle.cuttings.proofs.Sound.{walked-sound}

abbrev pub kept_of : ℕ → ℕ → ℕ → ℕ → ℕ → ℕ → ℕ → ℕ → ℕ → ℕ → Kept
kept_of a b c d e f g h i j = record { first = a; count = b; line = c; placed = d; start = e; bytes = f; status = g; refusal = h; place = i; size = j }

-- it goes on: complete entries are placed, and bytes are held
pub record GoingAs (first count n : ℕ) (u : List ℕ) (es : List Span) (held : List ℕ) (x : Left) : Type 0 where
  pub answers : x.answer ≡ told (total es) false
  pub keeps : kept_at x.state ≡ kept_of first count (line_after first es) (total es) (place_after 0 es) (length u) going (get_or x.state 7 0) (get_or x.state 8 0) (length held)
  pub raw : take (length held) (drop 10 x.state) ≡ held
  pub fills : x.records ≡ sets (zeros n) 0 (numbers (locations es))

-- nothing more is read
pub record OverAs (first count n : ℕ) (u : List ℕ) (r : Row) (x : Left) : Type 0 where
  pub answers : x.answer ≡ told (length (shown_of count r)) false
  pub keeps_first : get_or x.state 0 0 ≡ first
  pub keeps-count : get_or x.state 1 0 ≡ count
  pub keeps_placed : get_or x.state 3 0 ≡ length (shown_of count r)
  pub keeps-bytes : get_or x.state 5 0 ≡ length u
  pub keeps-over : get_or x.state 6 0 ≡ over
  pub fills : x.records ≡ sets (zeros n) 0 (numbers (shown_of count r))

-- it was refused 18
pub record GoneAs (n place : ℕ) (x : Left) : Type 0 where
  pub answers : x.answer ≡ Err (fault NumberRange place)
  pub keeps-refused : get_or x.state 6 0 ≡ refusing
  pub keeps-number : get_or x.state 7 0 ≡ number_range
  pub keeps-place : get_or x.state 8 0 ≡ place
  pub fills : x.records ≡ zeros n

-- a byte that stops, and an entry that runs past the count, end the reading
pub data Stopped : Ending → Type 0 where
  byte : Stopped stop_byte
  past : {e : Span} → Stopped (past_count e)

pub data Way (first count n : ℕ) (u : List ℕ) (r : Row) (x : Left) : Type 0 where
  all : r.ending ≡ placed_all → GoingAs first count n u r.entries [] x → Way first count n u r x
  on : Goes u (line_after first r.entries) (place_after 0 r.entries) r.ending → GoingAs first count n u r.entries (drop (place_after 0 r.entries) u) x → Way first count n u r x
  stopped : Stopped r.ending → OverAs first count n u r x → Way first count n u r x
  gone : r.ending ≡ out_of_range → lost (drop (place_after 0 r.entries) u) (line_after first r.entries) ≡ true → GoneAs n (place_after 0 r.entries) x → Way first count n u r x

pub record Stands (first count n : ℕ) (u : List ℕ) (x : Left) : Type 0 where
  pub long : 40 ≤ length x.state
  pub sounds : sound x.state ≡ true
  pub wide : length x.records ≡ n
  pub way : Way first count n u (row u first 0 count) x

-- ---- after a walk from the start
module _ (first count n : ℕ) (t s : List ℕ) (long : 40 ≤ length s) (is_first : get_or s 0 0 ≡ first) (is_count : get_or s 1 0 ≡ count) where
  going_as : (es : List Span) (held ys : List ℕ) (placed start : ℕ) → placed ≡ total es → start ≡ place_after 0 es → length held ≤ 25 → ys ≡ sets (zeros n) 0 (numbers (locations es))
      → GoingAs first count n t es held (onward s ys (line_after first es) placed start (length t) going held)
  going_as es held ys placed start p q short f =
      let z = advanced_is s long (line_after first es) placed start (length t) going held in
      record {
        answers = ap (λ i. told i false) p;
        keeps =
            ap kept_at z
            ∙ ap (λ a. kept_of a (get_or s 1 0) (line_after first es) placed start (length t) going (get_or s 7 0) (get_or s 8 0) (length held)) is_first
            ∙ ap (λ a. kept_of first a (line_after first es) placed start (length t) going (get_or s 7 0) (get_or s 8 0) (length held)) is_count
            ∙ ap (λ a. kept_of first count (line_after first es) a start (length t) going (get_or s 7 0) (get_or s 8 0) (length held)) p
            ∙ ap (λ a. kept_of first count (line_after first es) (total es) a (length t) going (get_or s 7 0) (get_or s 8 0) (length held)) q
            ∙ ap (λ a. kept_of first count (line_after first es) (total es) (place_after 0 es) (length t) going a (get_or s 8 0) (length held)) (sym (ap (λ y. get_or y 7 0) z))
            ∙ ap (λ a. kept_of first count (line_after first es) (total es) (place_after 0 es) (length t) going (get_or (advanced s (line_after first es) placed start (length t) going held) 7 0) a (length held)) (sym (ap (λ y. get_or y 8 0) z));
        raw = ap (λ y. take (length held) (drop 10 y)) z ∙ stored_held s long held short;
        fills = f;
      }

  over_as : (r : Row) (line placed start : ℕ) → placed ≡ length (shown_of count r) → OverAs first count n t r (onward s (sets (zeros n) 0 (numbers (shown_of count r))) line placed start (length t) over [])
  over_as r line placed start p =
      let z = advanced_is s long line placed start (length t) over [] in
      record {
        answers = ap (λ i. told i false) p;
        keeps_first = ap (λ y. get_or y 0 0) z ∙ is_first;
        keeps-count = ap (λ y. get_or y 1 0) z ∙ is_count;
        keeps_placed = ap (λ y. get_or y 3 0) z ∙ p;
        keeps-bytes = ap (λ y. get_or y 5 0) z;
        keeps-over = ap (λ y. get_or y 6 0) z;
        fills = refl;
      }

  gone_as : (ys : List ℕ) (place : ℕ) → length ys ≡ n → GoneAs n place (stuck s ys (fault NumberRange place))
  gone_as ys place e =
      let z = refused_is s long number_range place in
      record {
        answers = refl;
        keeps-refused = ap (λ y. get_or y 6 0) z;
        keeps-number = ap (λ y. get_or y 7 0) z;
        keeps-place = ap (λ y. get_or y 8 0) z;
        fills = ap zeros e;
      }

  -- what a row shows, by its ending
  shows_none : (r : Row) (x : Ending) → r.ending ≡ x → ((m : ℕ) → overrun m x ≡ []) → shown_of count r ≡ locations r.entries
  unfolding shown_of
  shows_none r x e h = ap (λ y. locations r.entries ++ overrun (count - total r.entries) y) e ∙ ap (λ y. locations r.entries ++ y) (h (count - total r.entries)) ∙ append-nil (locations r.entries)

  shows-past : (r : Row) (e : Span) → r.ending ≡ past_count e → total r.entries ≤ count → length (shown_of count r) ≡ count
  unfolding shown_of
  shows-past r e q h =
      let m = count - total r.entries in
      let a = length-locations r.entries in
      let b = length-replicate {A = Location} m e.location in
      ap (λ y. length (locations r.entries ++ overrun m y)) q ∙ length-append (locations r.entries) (replicate m e.location) ∙ omega arith

  by_way : (r : Row) (x : Ending) → r.ending ≡ x → total r.entries ≤ count → Ends t (line_after first r.entries) (place_after 0 r.entries) (count - total r.entries) x
      → (Goes t (line_after first r.entries) (place_after 0 r.entries) x → length (drop (place_after 0 r.entries) t) ≤ 25)
      → Way first count n t r (by_ending t 0 (length t) count s (sets (zeros n) 0 (numbers (shown_of count r))) (line_after first r.entries) (place_after 0 r.entries) (count - total r.entries) x)
  by_way r placed_all e h d short =
      all e (going_as r.entries [] _ (count - (count - total r.entries)) (0 + place_after 0 r.entries) (omega arith) (omega arith) (omega arith) (ap (λ y. sets (zeros n) 0 (numbers y)) (shows_none r placed_all e (λ m. refl))))
  by_way r table_end e h d short =
      let p = place_after 0 r.entries in
      let g : GoingAs first count n t r.entries [] (onward s (sets (zeros n) 0 (numbers (shown_of count r))) (line_after first r.entries) (count - (count - total r.entries)) (0 + p) (length t) going []) =
      going_as r.entries [] _ (count - (count - total r.entries)) (0 + p) (omega arith) (omega arith) (omega arith) (ap (λ y. sets (zeros n) 0 (numbers y)) (shows_none r table_end e (λ m. refl))) in
      let k : drop p t ≡ [] = drop_of_length-le t {i = p} d.1 in
      on (subst (Goes t (line_after first r.entries) p) (sym e) nothing)
      (subst (λ y. GoingAs first count n t r.entries y (onward s (sets (zeros n) 0 (numbers (shown_of count r))) (line_after first r.entries) (count - (count - total r.entries)) (0 + p) (length t) going [])) (sym k) g)
  by_way r stop_byte e h d short =
      stopped (subst Stopped (sym e) byte)
      (over_as r (line_after first r.entries) (count - (count - total r.entries)) (0 + place_after 0 r.entries) (omega (arith, ap length (shows_none r stop_byte e (λ m. refl)), length-locations r.entries)))
  by_way r (past_count x) e h d short = stopped (subst Stopped (sym e) past) (over_as r (line_after first r.entries) count (0 + place_after 0 r.entries) (sym (shows-past r x e h)))
  by_way r (cut_short x) e h d short =
      on (subst (Goes t (line_after first r.entries) (place_after 0 r.entries)) (sym e) incomplete)
      (going_as r.entries (drop (place_after 0 r.entries) t) _ (count - (count - total r.entries)) (0 + place_after 0 r.entries) (omega arith) (omega arith) (short incomplete) (ap (λ y. sets (zeros n) 0 (numbers y)) (shows_none r (cut_short x) e (λ m. refl))))
  by_way r out_of_range e h d short = which (lost (drop (place_after 0 r.entries) t) (line_after first r.entries)) refl where
    ys : List ℕ
    ys = sets (zeros n) 0 (numbers (shown_of count r))

    which : (c : Bool) → lost (drop (place_after 0 r.entries) t) (line_after first r.entries) ≡ c
        → Way first count n t r (cond c (stuck s ys (fault NumberRange (0 + place_after 0 r.entries))) (onward s ys (line_after first r.entries) (count - (count - total r.entries)) (0 + place_after 0 r.entries) (length t) going (drop (place_after 0 r.entries) t)))
    which true l =
        let z : 0 + place_after 0 r.entries ≡ place_after 0 r.entries = omega arith in
        gone e l (subst (λ p. GoneAs n p (stuck s ys (fault NumberRange (0 + place_after 0 r.entries)))) z (gone_as ys (0 + place_after 0 r.entries) (length-sets (zeros n) 0 (numbers (shown_of count r)) ∙ length-replicate {A = ℕ} n 0)))
    which false l =
        on (subst (Goes t (line_after first r.entries) (place_after 0 r.entries)) (sym e) (unsure l))
        (going_as r.entries (drop (place_after 0 r.entries) t) ys (count - (count - total r.entries)) (0 + place_after 0 r.entries) (omega arith) (omega arith) (short (unsure l)) (ap (λ y. sets (zeros n) 0 (numbers y)) (shows_none r out_of_range e (λ m. refl))))

  -- the stores of a walk keep their lengths
  by_long : (t s ys : List ℕ) (start bytes count line p n : ℕ) (x : Ending) → (length (by_ending t start bytes count s ys line p n x).state ≡ length s) × (length (by_ending t start bytes count s ys line p n x).records ≡ length ys)
  by_long t s ys start bytes count line p n x = go x where
    kept : (line placed at status : ℕ) (held : List ℕ) → length (advanced s line placed at bytes status held) ≡ length s
    kept line placed at status held = length-sets (sets s 2 (line ∷ placed ∷ at ∷ bytes ∷ status ∷ [])) 9 (length held ∷ held) ∙ length-sets s 2 (line ∷ placed ∷ at ∷ bytes ∷ status ∷ [])

    which : (c : Bool) → (length (cond c (stuck s ys (fault NumberRange (start + p))) (onward s ys line (count - n) (start + p) bytes going (drop p t))).state ≡ length s)
        × (length (cond c (stuck s ys (fault NumberRange (start + p))) (onward s ys line (count - n) (start + p) bytes going (drop p t))).records ≡ length ys)
    which true = (length-sets s 6 (refusing ∷ number_range ∷ (start + p) ∷ []), length-replicate {A = ℕ} (length ys) 0)
    which false = (kept line (count - n) (start + p) going (drop p t), refl)

    go : (x : Ending) → (length (by_ending t start bytes count s ys line p n x).state ≡ length s) × (length (by_ending t start bytes count s ys line p n x).records ≡ length ys)
    go placed_all = (kept line (count - n) (start + p) going [], refl)
    go table_end = (kept line (count - n) (start + p) going [], refl)
    go stop_byte = (kept line (count - n) (start + p) over [], refl)
    go (cut_short e) = (kept line (count - n) (start + p) going (drop p t), refl)
    go out_of_range = which (lost (drop p t) line)
    go (past_count e) = (kept line count (start + p) over [], refl)

  pub walked-stands : Bytes t → length t ≤ most_bytes → Stands first count n t (walked t 0 (length t) first 0 count s (zeros n))
  unfolding walked after
  walked-stands b small =
      let z : count - 0 ≡ count = omega arith in
      let r = row t first 0 count in
      let d = rowed t first 0 count in
      let y = by_ending t 0 (length t) count s (sets (zeros n) 0 (numbers (shown_of count r))) (line_after first r.entries) (place_after 0 r.entries) (count - total r.entries) r.ending in
      let w : walked t 0 (length t) first 0 count s (zeros n) ≡ y = ap (λ m. after t 0 (length t) count first m s (sets (zeros n) 0 (numbers (shown_of m (row t first 0 m)))) (row t first 0 m)) z in
      let l = by_long t s (sets (zeros n) 0 (numbers (shown_of count r))) 0 (length t) count (line_after first r.entries) (place_after 0 r.entries) (count - total r.entries) r.ending in
      subst (Stands first count n t) (sym w)
      (record {
        long = omega (arith, l.0);
        sounds = subst (λ (q : Left). sound q.state ≡ true) w (walked-sound s long t 0 (length t) first 0 count (zeros n) (sym is_count) small (omega arith) b);
        wide = l.1 ∙ length-sets (zeros n) 0 (numbers (shown_of count r)) ∙ length-replicate {A = ℕ} n 0;
        way = by_way r r.ending refl d.within d.ends (held_short t first count);
      })
