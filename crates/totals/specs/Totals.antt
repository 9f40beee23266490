-- Nightly totals: 02, K14, "Over many inputs print exact counts in this form and order .. `inputs 3`, `accepted 2`, `refused 1`, then
-- `refusal N COUNT` for N from 1 to 26." Counter 0 is `inputs`, 1 `accepted`, 2 `refused`, 2 + N that of refusal N.
use Rattle.std.specs.Prelude.{ℕ, zero, suc, ◌+◌, ◌^◌, Bool, true, cond, ◌&&◌, not, List, [], ◌∷◌, ltb, leb, eqb, get_or, Result, Ok}
use Rattle.refusals.specs.Numbers.{accepted, last_number}
use Rattle.refusals.specs.Faults.{refused}
use Rattle.refusals.specs.declared.Refusal.{Refusal}
use Rattle.refusals.specs.declared.Refusal.TheVariants.{NoRoom, NumberRange}
use Rattle.refusals.specs.declared.Fault.{Fault}
use Rattle.clearing.specs.Lent.{zeros, padded}

-- how many counters there are
abbrev pub counters : ℕ
counters = 29

-- a count for each counter
abbrev pub Totals : Type 0
Totals = ℕ → ℕ

-- The totals that a lent store holds: a counter that it is too short for is 0, and nothing behind the last is looked at.
abbrev pub held_in : List ℕ → Totals
held_in store = λ counter. get_or store counter 0

-- Whether a counter counts an answer: `inputs` counts each, `accepted` 0, `refused` every other, and refusal N counts N.
unfoldable pub counts : ℕ → ℕ → Bool
counts zero answer = true
counts (suc zero) answer = eqb answer accepted
counts (suc (suc zero)) answer = not (eqb answer accepted)
counts (suc (suc (suc n))) answer = eqb answer (suc n)

-- how many of the answers it counts
unfoldable pub count_of : ℕ → List ℕ → ℕ
unfolding counts
count_of counter [] = 0
count_of counter (answer ∷ answers) = cond (counts counter answer) 1 0 + count_of counter answers

-- an answer is 0 or a refusal's number
unfoldable pub known : List ℕ → Bool
known [] = true
known (answer ∷ answers) = leb answer last_number && known answers

abbrev pub plus : Totals → Totals → Totals
plus t u = λ counter. t counter + u counter

-- so many counters from one on, as numbers of a store, and whether each fits in 64 bits
unfoldable pub cells_from : Totals → ℕ → ℕ → List ℕ
cells_from t counter zero = []
cells_from t counter (suc more) = t counter ∷ cells_from t (suc counter) more

unfoldable pub fit_from : Totals → ℕ → ℕ → Bool
fit_from t counter zero = true
fit_from t counter (suc more) = ltb (t counter) (2 ^ 64) && fit_from t (suc counter) more

abbrev pub cells : Totals → List ℕ
cells t = cells_from t 0 counters

-- the answer of a call, and what it leaves in the store
abbrev pub Outcome : Type 0
Outcome = Result (Unit {0}) Fault × List ℕ

-- A refusal leaves the store zero.
abbrev pub refused_at : ℕ → Refusal → ℕ → Outcome
refused_at room why place = (refused why place, zeros room)

-- "a total that would pass 64 bits is 18"
unfoldable pub stored : ℕ → Totals → Outcome
unfolding cells_from fit_from padded
stored room t = cond (fit_from t 0 counters) (Ok tt, padded room (cells t)) (refused_at room NumberRange 0)

-- a store too short for the counters is refused first
abbrev pub in_room : ℕ → Outcome → Outcome
in_room room outcome = cond (ltb room counters) (refused_at room NoRoom room) outcome

-- `before`, and every answer counted
unfoldable pub totals_of : List ℕ → List ℕ → ℕ → Outcome
unfolding known count_of stored
totals_of before answers room =
    in_room room (cond (known answers) (stored room (plus (held_in before) (λ counter. count_of counter answers))) (refused_at room NumberRange 0))

-- two totals, counter by counter
unfoldable pub added_of : List ℕ → List ℕ → ℕ → Outcome
unfolding stored
added_of a b room = in_room room (stored room (plus (held_in a) (held_in b)))
