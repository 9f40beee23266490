-- How each call by piece ends, whatever it is lent: an answer, or a refusal with the records all zero. By cases of the definitions.
use mathlib.Core.Path.{◌≡◌, refl, ap}
use mathlib.Core.Bool.{Bool, true, false, cond}
use mathlib.Core.List.{List, ◌++◌}
use Prim.Native.Nat.{ℕ, ◌+◌, ◌-◌, ◌*◌, ◌/◌, min}
use lib.ListN.{length, drop}
use lib.Seq.{sets, length-sets}
use lib.Dec.{ltb, eqb}
use Rattle.std.specs.Prelude.{Err}
use Rattle.refusals.specs.Faults.{fault}
use Rattle.refusals.specs.declared.Fault.{Fault}
use Rattle.refusals.specs.declared.Refusal.TheVariants.{InputTooLong, NoRoom, NumberRange}
use Rattle.refusals.specs.Limits.{most_bytes}
use Rattle.clearing.specs.Lent.{zeros}
use Rattle.lineentry.specs.declared.Entry.{Entry}
use Rattle.lineentry.specs.declared.Entry.TheVariants.{Covers, Stop, OutOfRange}
use Rattle.lineentry.specs.Entry.{entry_at}
use Rattle.linetable.specs.Answer.{numbers}
use Rattle.rows.specs.Row.{Ending, placed_all, table_end, stop_byte, cut_short, out_of_range, past_count, row}
use Rattle.lostentry.specs.Lost.{lost}
use Rattle.piecestate.specs.declared.Kept.{Kept}
use Rattle.piecestate.specs.declared.Gate.{Gate}
use Rattle.piecestate.specs.declared.Gate.TheVariants.{Open, Shut, Stuck}
use Rattle.piecestate.specs.State.{over, kept_at, held_at}
use Rattle.piecestate.specs.Answers.{Left, told, no_state, stuck, gate}
use Rattle.pieces.specs.Piece.{shown_of, by_ending, after, walked, piece_by}
use Rattle.pieces.specs.Calls.{through, called, piece, by_held, end_by, end, begin}

pub data CallEnds (n : ℕ) (x : Left) : Type 0 where
  answers : (k : ℕ) (w : Bool) → x.answer ≡ told k w → CallEnds n x
  refuses : (why : Fault) → x.answer ≡ Err why → x.records ≡ zeros n → CallEnds n x

by_test : (n : ℕ) (t : Bool) (a b : Left) → CallEnds n a → CallEnds n b → CallEnds n (cond t a b)
by_test n true a b p q = p
by_test n false a b p q = q

sticks : (s ys : List ℕ) (n : ℕ) (why : Fault) → length ys ≡ n → CallEnds n (stuck s ys why)
sticks s ys n why e = refuses why refl (ap zeros e)

-- ---- the gate
called-ends : (s rs : List ℕ) (on : Left) → CallEnds (length rs) on → CallEnds (length rs) (called s rs on)
called-ends s rs on p =
    by_test (length rs) (ltb (length s) 40) (no_state s rs) (through s rs on (gate s (kept_at s) (length rs / 4))) (refuses (fault NoRoom (length s)) refl refl)
    (by (gate s (kept_at s) (length rs / 4))) where
      by : (g : Gate) → CallEnds (length rs) (through s rs on g)
      by Open = p
      by (Shut why) = refuses why refl refl
      by (Stuck why) = refuses why refl refl

-- ---- a piece
ending-ends : (t : List ℕ) (start bytes count : ℕ) (s ys : List ℕ) (line p m n : ℕ) (x : Ending) → length ys ≡ n → CallEnds n (by_ending t start bytes count s ys line p m x)
ending-ends t start bytes count s ys line p m n placed_all e = answers (count - m) false refl
ending-ends t start bytes count s ys line p m n table_end e = answers (count - m) false refl
ending-ends t start bytes count s ys line p m n stop_byte e = answers (count - m) false refl
ending-ends t start bytes count s ys line p m n (cut_short x) e = answers (count - m) false refl
ending-ends t start bytes count s ys line p m n (past_count x) e = answers count false refl
ending-ends t start bytes count s ys line p m n out_of_range e =
    by_test n (lost (drop p t) line) _ _ (sticks s ys n (fault NumberRange (start + p)) e) (answers (count - m) false refl)

walked-ends : (t : List ℕ) (start bytes line placed count : ℕ) (s rs : List ℕ) → CallEnds (length rs) (walked t start bytes line placed count s rs)
unfolding walked after
walked-ends t start bytes line placed count s rs =
    let n = count - placed in
    let r = row t line 0 n in
    ending-ends t start bytes count s (sets rs (4 * placed) (numbers (shown_of n r))) _ _ _ (length rs) r.ending (length-sets rs (4 * placed) (numbers (shown_of n r)))

pub piece-ends : (v s rs : List ℕ) → CallEnds (length rs) (piece v s rs)
unfolding piece piece_by
piece-ends v s rs =
    let k = kept_at s in
    called-ends s rs (piece_by v s rs k)
    (by_test (length rs) (ltb most_bytes (k.bytes + length v)) _ _ (sticks s rs (length rs) (fault InputTooLong 0) refl)
    (by_test (length rs) (eqb k.status over) _ _ (answers k.placed false refl) (walked-ends (held_at s ++ v) k.start (k.bytes + length v) k.line k.placed k.count s rs)))

-- ---- the end
held_ends : (s rs : List ℕ) (k : Kept) (n : ℕ) (x : Entry) → CallEnds (length rs) (by_held s rs k n x)
held_ends s rs k n (Covers e) = answers (k.placed + min e.instructions n) false refl
held_ends s rs k n Stop = answers k.placed false refl
held_ends s rs k n OutOfRange = sticks s rs (length rs) (fault NumberRange k.start) refl

pub end_ends : (s rs : List ℕ) → CallEnds (length rs) (end s rs)
unfolding end end_by
end_ends s rs =
    let k = kept_at s in
    called-ends s rs (end_by s rs k)
    (by_test (length rs) (eqb k.status over) _ _ (held_ends s rs k (k.count - k.placed) Stop)
    (by_test (length rs) (eqb k.placed k.count) _ _ (answers k.placed (eqb k.start k.bytes) refl) (held_ends s rs k (k.count - k.placed) (entry_at (held_at s) k.line 0))))

-- ---- the start
pub begin-ends : (first count : ℕ) (s rs : List ℕ) → CallEnds (length rs) (begin first count s rs)
unfolding begin
begin-ends first count s rs =
    by_test (length rs) (ltb (length s) 40) _ _ (refuses (fault NoRoom (length s)) refl refl)
    (by_test (length rs) (ltb (length rs / 4) count) _ _ (refuses (fault NoRoom (length rs / 4)) refl refl) (answers 0 false refl))
