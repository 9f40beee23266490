-- What is left of a row, by how its walk says that it ends.
use mathlib.Core.Path.{◌≡◌, refl, sym, ap, subst, ◌∙◌}
use mathlib.Core.Bool.{false}
use mathlib.Core.List.{List, []}
use Prim.Native.Nat.{ℕ, ◌+◌, ◌-◌, ◌*◌, ◌≤◌, ◌<◌}
use native.Mathlib.Omega.{arith}
use lib.ListN.{length, take, drop}
use lib.Seq.{sets}
use Rattle.linetable.specs.Answer.{numbers}
use Rattle.rows.specs.declared.How.TheVariants as way
use Rattle.rows.proofs.Going.{number}
use Rattle.rows.specs.declared.RowEnd.{RowEnd}
use Rattle.rows.specs.Summary.{how_of, summary}
use Rattle.rows.specs.Row.{Ending, placed_all, table_end, stop_byte, cut_short, out_of_range, past_count, Row, row, Ends, line_after, place_after, total}
use Rattle.rows.proofs.Chains.{rowed, chain-upto}
use Rattle.lostentry.specs.Lost.{lost}
use Rattle.pieces.proofs.Short.{Goes, incomplete, unsure, held_short}
use Rattle.piecestate.specs.State.{going, over, advanced}
use Rattle.pieces.specs.Facts.{Unlost}
use Rattle.piecestate.proofs.Stores.{part_all}
use Rattle.piecestate.specs.Answers.{Answer, Left, pieced, Leaves}
use Rattle.pieces.specs.Piece.{onward, refused_as, by_ending, shown_of, after, walked}
use Rattle.std.specs.Prelude.{Ok}
use Rattle.piecestate.specs.declared.Pieced.{Pieced}

is_out_lem : (x : Ending) → how_of x ≡ way.Refused → x ≡ out_of_range
is_out_lem placed_all h = absurd (omega (arith, ap number h))
is_out_lem table_end h = absurd (omega (arith, ap number h))
is_out_lem stop_byte h = absurd (omega (arith, ap number h))
is_out_lem (cut_short e) h = absurd (omega (arith, ap number h))
is_out_lem out_of_range h = refl
is_out_lem (past_count e) h = absurd (omega (arith, ap number h))

module _ (t : List ℕ) (start bytes count : ℕ) (s rs : List ℕ) (line p n : ℕ) where
  by_out : (x : Ending) → how_of x ≡ way.Refused → by_ending t start bytes count s rs line p n x ≡ refused_as s rs line (count - n) (start + p) bytes (drop p t)
  by_out x h = ap (by_ending t start bytes count s rs line p n) (is_out_lem x h)

  by_cut : (x : Ending) → how_of x ≡ way.Cut → by_ending t start bytes count s rs line p n x ≡ onward s rs line (count - n) (start + p) bytes going (drop p t)
  by_cut placed_all h = absurd (omega (arith, ap number h))
  by_cut table_end h = absurd (omega (arith, ap number h))
  by_cut stop_byte h = absurd (omega (arith, ap number h))
  by_cut (cut_short e) h = refl
  by_cut out_of_range h = absurd (omega (arith, ap number h))
  by_cut (past_count e) h = absurd (omega (arith, ap number h))

  by_past : (x : Ending) → how_of x ≡ way.PastCount → by_ending t start bytes count s rs line p n x ≡ onward s rs line count (start + p) bytes over []
  by_past placed_all h = absurd (omega (arith, ap number h))
  by_past table_end h = absurd (omega (arith, ap number h))
  by_past stop_byte h = absurd (omega (arith, ap number h))
  by_past (cut_short e) h = absurd (omega (arith, ap number h))
  by_past out_of_range h = absurd (omega (arith, ap number h))
  by_past (past_count e) h = refl

  by_stop : (x : Ending) → Ends t line p n x → how_of x ≡ way.Ended → p < length t → by_ending t start bytes count s rs line p n x ≡ onward s rs line (count - n) (start + p) bytes over []
  by_stop placed_all d h l = absurd (omega (arith, ap number h))
  by_stop table_end d h l = absurd (omega (arith, d.1))
  by_stop stop_byte d h l = refl
  by_stop (cut_short e) d h l = absurd (omega (arith, ap number h))
  by_stop out_of_range d h l = absurd (omega (arith, ap number h))
  by_stop (past_count e) d h l = absurd (omega (arith, ap number h))

  by_end : (x : Ending) → Ends t line p n x → how_of x ≡ way.Ended → length t ≤ p → by_ending t start bytes count s rs line p n x ≡ onward s rs line (count - n) (start + p) bytes going []
  by_end placed_all d h l = absurd (omega (arith, ap number h))
  by_end table_end d h l = refl
  by_end stop_byte d h l = absurd (omega (arith, d.1))
  by_end (cut_short e) d h l = absurd (omega (arith, ap number h))
  by_end out_of_range d h l = absurd (omega (arith, ap number h))
  by_end (past_count e) d h l = absurd (omega (arith, ap number h))

  by_all : (x : Ending) → how_of x ≡ way.AllPlaced → by_ending t start bytes count s rs line p n x ≡ onward s rs line (count - n) (start + p) bytes going []
  by_all placed_all h = refl
  by_all table_end h = absurd (omega (arith, ap number h))
  by_all stop_byte h = absurd (omega (arith, ap number h))
  by_all (cut_short e) h = absurd (omega (arith, ap number h))
  by_all out_of_range h = absurd (omega (arith, ap number h))
  by_all (past_count e) h = absurd (omega (arith, ap number h))

-- ---- the same of what the walk tells
module _ (t : List ℕ) (start bytes count line left : ℕ) (s rs : List ℕ) {x : RowEnd} (e : x ≡ summary t line left) where
  abbrev r : Row
  r = row t line 0 left

  how : x.how ≡ how_of r.ending
  unfolding summary
  how = ap (λ y. y.how) e

  line-is : line_after line r.entries ≡ x.line
  unfolding summary
  line-is = sym (ap (λ y. y.line) e)

  place_is : place_after 0 r.entries ≡ x.place
  unfolding summary
  place_is = sym (ap (λ y. y.place) e)

  left_is : left - total r.entries ≡ x.left
  unfolding summary
  left_is = sym (ap (λ y. y.left) e)

  told_is : after t start bytes count line left s rs r ≡ by_ending t start bytes count s rs x.line x.place x.left r.ending
  unfolding after
  told_is = rw (line-is, place_is, left_is)

  ends : Ends t x.line x.place x.left r.ending
  ends = rw (line-is, place_is, left_is) at (rowed t line 0 left).ends

  pub place-upto : x.place ≤ length t
  place-upto = rw place_is at (chain-upto t line 0 r.entries (omega arith) (rowed t line 0 left).chain)

  pub left_upto : x.left ≤ left
  left_upto = omega (arith, left_is)

  pub short_cut : x.how ≡ way.Cut → length (drop x.place t) ≤ 25
  short_cut h = rw place_is at (held_short t line left (go r.ending (sym how ∙ h))) where
    go : (y : Ending) → how_of y ≡ way.Cut → Goes t (line_after line r.entries) (place_after 0 r.entries) y
    go placed_all h = absurd (omega (arith, ap number h))
    go table_end h = absurd (omega (arith, ap number h))
    go stop_byte h = absurd (omega (arith, ap number h))
    go (cut_short y) h = incomplete
    go out_of_range h = absurd (omega (arith, ap number h))
    go (past_count y) h = absurd (omega (arith, ap number h))

  pub short_out : x.how ≡ way.Refused → Unlost (drop x.place t) x.line
  short_out h = record { short = short } where
    short : lost (drop x.place t) x.line ≡ false → length (drop x.place t) ≤ 25
    short f =
        let u : lost (drop (place_after 0 r.entries) t) (line_after line r.entries) ≡ false = rw (place_is, line-is) f in
        rw place_is at (held_short t line left (subst (Goes t (line_after line r.entries) (place_after 0 r.entries)) (sym (is_out_lem r.ending (sym how ∙ h))) (unsure u)))

  pub settles_out : x.how ≡ way.Refused → after t start bytes count line left s rs r ≡ refused_as s rs x.line (count - x.left) (start + x.place) bytes (drop x.place t)
  settles_out h = told_is ∙ by_out t start bytes count s rs x.line x.place x.left r.ending (sym how ∙ h)

  pub settles_cut : x.how ≡ way.Cut → after t start bytes count line left s rs r ≡ onward s rs x.line (count - x.left) (start + x.place) bytes going (drop x.place t)
  settles_cut h = told_is ∙ by_cut t start bytes count s rs x.line x.place x.left r.ending (sym how ∙ h)

  -- the same of the part of the bytes that is lent on
  pub unlost_part : x.how ≡ way.Refused → Unlost (take (length t - x.place) (drop x.place t)) x.line
  unlost_part h = subst (λ u. Unlost u x.line) (sym (part_all t x.place)) (short_out h)

  pub out_part : x.how ≡ way.Refused → after t start bytes count line left s rs r ≡ refused_as s rs x.line (count - x.left) (start + x.place) bytes (take (length t - x.place) (drop x.place t))
  out_part h = settles_out h ∙ ap (refused_as s rs x.line (count - x.left) (start + x.place) bytes) (sym (part_all t x.place))

  pub short-part : x.how ≡ way.Cut → length (take (length t - x.place) (drop x.place t)) ≤ 25
  short-part h = subst (λ u. length u ≤ 25) (sym (part_all t x.place)) (short_cut h)

  pub cut-part : x.how ≡ way.Cut → after t start bytes count line left s rs r ≡ onward s rs x.line (count - x.left) (start + x.place) bytes going (take (length t - x.place) (drop x.place t))
  cut-part h = settles_cut h ∙ ap (onward s rs x.line (count - x.left) (start + x.place) bytes going) (sym (part_all t x.place))

  pub settles_past : x.how ≡ way.PastCount → after t start bytes count line left s rs r ≡ onward s rs x.line count (start + x.place) bytes over []
  settles_past h = told_is ∙ by_past t start bytes count s rs x.line x.place x.left r.ending (sym how ∙ h)

  pub settles_stop : x.how ≡ way.Ended → x.place < length t → after t start bytes count line left s rs r ≡ onward s rs x.line (count - x.left) (start + x.place) bytes over []
  settles_stop h l = told_is ∙ by_stop t start bytes count s rs x.line x.place x.left r.ending ends (sym how ∙ h) l

  pub settles_end : x.how ≡ way.Ended → length t ≤ x.place → after t start bytes count line left s rs r ≡ onward s rs x.line (count - x.left) (start + x.place) bytes going []
  settles_end h l = told_is ∙ by_end t start bytes count s rs x.line x.place x.left r.ending ends (sym how ∙ h) l

  pub settles_all : x.how ≡ way.AllPlaced → after t start bytes count line left s rs r ≡ onward s rs x.line (count - x.left) (start + x.place) bytes going []
  settles_all h = told_is ∙ by_all t start bytes count s rs x.line x.place x.left r.ending (sym how ∙ h)

-- what goes on with the records as they are
pub goes_on : {x : Left} (s rs : List ℕ) (line placed at bytes status : ℕ) (held : List ℕ) → x ≡ onward s rs line placed at bytes status held
    → {y : Pieced} {s' : List ℕ} → y ≡ pieced placed false → s' ≡ advanced s line placed at bytes status held → Leaves x (Ok y) s' rs
goes_on s rs line placed at bytes status held e {y} {s'} a c = subst (λ x. Leaves x (Ok y) s' rs) (sym e) (record { answers = ap Ok a; states = c; fills = refl })

pub leaves_same : {x y : Left} → x ≡ y → {r : Answer} {s rs : List ℕ} → Leaves y r s rs → Leaves x r s rs
leaves_same e {r} {s} {rs} l = subst (λ x. Leaves x r s rs) (sym e) l

-- ---- a walk, then its end
pub walks : (t : List ℕ) (start bytes line placed count : ℕ) (s rs : List ℕ) {rs₁ : List ℕ} {y : Answer} {s' rs' : List ℕ}
    → rs₁ ≡ sets rs (4 * placed) (numbers (shown_of (count - placed) (row t line 0 (count - placed))))
    → Leaves (after t start bytes count line (count - placed) s rs₁ (row t line 0 (count - placed))) y s' rs' → Leaves (walked t start bytes line placed count s rs) y s' rs'
unfolding walked
walks t start bytes line placed count s rs {rs₁} {y} {s'} {rs'} e l =
    subst (λ z. Leaves (after t start bytes count line (count - placed) s z (row t line 0 (count - placed))) y s' rs') e l
