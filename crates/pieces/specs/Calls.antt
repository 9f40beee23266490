-- 02, K6: what the three calls answer, and what the state and the records then hold: one value of each input.
-- "Accept the line table cut anywhere, with a final call, without bytes, that says it has ended."
use Rattle.std.specs.Prelude.{Bool, false, cond, List, [], ◌∷◌, ◌++◌, ℕ, ◌+◌, ◌-◌, ◌*◌, ◌/◌, min, length, replicate, ltb, eqb}
use Rattle.std.proofs.lemmas.List.Edits.{sets}
use Rattle.refusals.specs.Faults.{fault}
use Rattle.refusals.specs.declared.Refusal.TheVariants.{NoRoom, NumberRange}
use Rattle.clearing.specs.Lent.{zeros}
use Rattle.lineentry.specs.declared.Location.{Location}
use Rattle.lineentry.specs.declared.Entry.{Entry}
use Rattle.lineentry.specs.declared.Entry.TheVariants.{Covers, Stop, OutOfRange}
use Rattle.lineentry.specs.Entry.{at_line, entry_at}
use Rattle.linetable.specs.Answer.{numbers}
use Rattle.piecestate.specs.declared.Kept.{Kept}
use Rattle.piecestate.specs.declared.Gate.{Gate}
use Rattle.piecestate.specs.declared.Gate.TheVariants.{Open, Shut, Stuck}
use Rattle.piecestate.specs.State.{state_numbers, going, over, ended, kept_at, held_at}
use Rattle.piecestate.specs.Answers.{told, Left, left, shut, stuck, no_state, gate}
use Rattle.pieces.specs.Piece.{piece_by}

-- ---- what is looked at first
abbrev pub through : List ℕ → List ℕ → Left → Gate → Left
through s rs on Open = on
through s rs on (Shut why) = shut s rs why
through s rs on (Stuck why) = stuck s rs why

abbrev pub called : List ℕ → List ℕ → Left → Left
called s rs on = cond (ltb (length s) state_numbers) (no_state s rs) (through s rs on (gate s (kept_at s) (length rs / 4)))

-- ---- a piece
unfoldable pub piece : List ℕ → List ℕ → List ℕ → Left
piece v s rs = called s rs (piece_by v s rs (kept_at s))

-- ---- the end
-- "missing bytes become 0 only there": an entry that is not complete places what it places then; what is left takes the first line
abbrev pub finished : List ℕ → List ℕ → ℕ → ℕ → Bool → List Location → Left
finished s rs placed entries whole shows = left (told entries whole) (sets s 6 (ended ∷ [])) (sets rs (4 * placed) (numbers shows))

abbrev pub by_held : List ℕ → List ℕ → Kept → ℕ → Entry → Left
by_held s rs k n Stop = finished s rs k.placed k.placed false (replicate n (at_line k.first))
by_held s rs k n OutOfRange = stuck s rs (fault NumberRange k.start)
by_held s rs k n (Covers e) =
    finished s rs k.placed (k.placed + min e.instructions n) false
    (replicate (min e.instructions n) e.location ++ replicate (n - e.instructions) (at_line k.first))

-- Whole: "every byte used, none missing, no stop, lengths summing to the instruction count"
unfoldable pub end_by : List ℕ → List ℕ → Kept → Left
end_by s rs k =
    cond (eqb k.status over) (by_held s rs k (k.count - k.placed) Stop)
    (cond (eqb k.placed k.count) (finished s rs k.placed k.placed (eqb k.start k.bytes) [])
    (by_held s rs k (k.count - k.placed) (entry_at (held_at s) k.line 0)))

unfoldable pub end : List ℕ → List ℕ → Left
end s rs = called s rs (end_by s rs (kept_at s))

-- ---- the start: "The first line and instruction count are fixed at the start"; too few records are 17, which the state keeps
abbrev pub fresh : ℕ → ℕ → List ℕ → List ℕ
fresh first count s = sets s 0 (first ∷ count ∷ first ∷ 0 ∷ 0 ∷ 0 ∷ going ∷ 0 ∷ 0 ∷ 0 ∷ [])

unfoldable pub begin : ℕ → ℕ → List ℕ → List ℕ → Left
begin first count s rs =
    cond (ltb (length s) state_numbers) (no_state s rs)
    (cond (ltb (length rs / 4) count) (stuck (fresh first count s) rs (fault NoRoom (length rs / 4)))
    (left (told 0 false) (fresh first count s) (zeros (length rs))))
