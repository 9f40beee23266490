-- 02, K6: what a call by piece leaves, a refusal's way of it, and what is looked at before a piece or the end.
use Rattle.std.specs.Prelude.{◌≡◌, Bool, cond, List, ℕ, length, ltb, eqb, Result, Ok, Err}
use Rattle.refusals.specs.Faults.{number_of, fault}
use Rattle.refusals.specs.declared.Refusal.TheVariants.{NoRoom, AlreadyEnded}
use Rattle.refusals.specs.declared.Fault.{Fault}
use Rattle.clearing.specs.Lent.{zeros}
use Rattle.piecestate.specs.declared.Kept.{Kept}
use Rattle.piecestate.specs.declared.Gate.{Gate}
use Rattle.piecestate.specs.declared.Gate.TheVariants.{Open, Shut, Stuck}
use Rattle.piecestate.specs.declared.Pieced.{Pieced}
use Rattle.piecestate.specs.State.{refusing, ended, kept_why, sound_by, refused_state}

-- a call's answer: what it tells, or why it is refused
abbrev pub Answer : Type 0
Answer = Result Pieced Fault

abbrev pub pieced : ℕ → Bool → Pieced
pieced entries whole = record { from_entries = entries; whole = whole }

abbrev pub told : ℕ → Bool → Answer
told entries whole = Ok (pieced entries whole)

-- what a call leaves
pub record Left : Type 0 where
  pub answer : Answer
  pub state : List ℕ
  pub records : List ℕ

abbrev pub left : Answer → List ℕ → List ℕ → Left
left answer state records = record { answer = answer; state = state; records = records }

-- a call's answer and both stores are these
pub record Leaves (x : Left) (r : Answer) (state records : List ℕ) : Type 0 where
  pub answers : r ≡ x.answer
  pub states : state ≡ x.state
  pub fills : records ≡ x.records

-- ---- refusals: "After a refusal, later calls repeat it, and the records stay zero."
-- one that the state does not keep
abbrev pub shut : List ℕ → List ℕ → Fault → Left
shut s rs why = left (Err why) s (zeros (length rs))

-- one that it keeps
abbrev pub stuck : List ℕ → List ℕ → Fault → Left
stuck s rs why = left (Err why) (refused_state s (number_of why.refusal) why.place) (zeros (length rs))

-- fewer numbers than a state has: 17 at their count, and nothing is kept
abbrev pub no_state : List ℕ → List ℕ → Left
no_state s rs = left (Err (fault NoRoom (length s))) (zeros (length s)) (zeros (length rs))

-- ---- what is looked at before a piece or the end
-- numbers that are no state, and a state after "an accepted final" call: 21 at 0; a refusal is repeated; then too few records, which the state keeps
unfoldable pub gate : List ℕ → Kept → ℕ → Gate
gate s k room =
    cond (sound_by s k)
    (cond (eqb k.status refusing) (Shut (fault (kept_why k.refusal) k.place))
    (cond (eqb k.status ended) (Shut (fault AlreadyEnded 0))
    (cond (ltb room k.count) (Stuck (fault NoRoom room)) Open)))
    (Shut (fault AlreadyEnded 0))
