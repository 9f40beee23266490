-- The totals as text: 02, K14, "print exact counts in this form and order, zero lines included, one per line: `inputs 3`, `accepted 2`,
-- `refused 1`, then `refusal N COUNT` for N from 1 to 26." The last line ends with a newline too.
use Rattle.std.specs.Prelude.{ℕ, zero, suc, cond, List, [], ◌∷◌, ◌++◌, ltb, length, Result, Ok}
use Rattle.refusals.specs.Faults.{refused}
use Rattle.refusals.specs.declared.Refusal.TheVariants.{NoRoom}
use Rattle.refusals.specs.declared.Fault.{Fault}
use Rattle.clearing.specs.Lent.{zeros, padded}
use Rattle.decimals.specs.Decimal.{decimal}
use Rattle.totals.specs.Totals.{counters, Totals, held_in}

-- `inputs `, `accepted `, `refused ` and `refusal `, each with its blank
abbrev pub inputs_text : List ℕ
inputs_text = 105 ∷ 110 ∷ 112 ∷ 117 ∷ 116 ∷ 115 ∷ 32 ∷ []

abbrev pub accepted_text : List ℕ
accepted_text = 97 ∷ 99 ∷ 99 ∷ 101 ∷ 112 ∷ 116 ∷ 101 ∷ 100 ∷ 32 ∷ []

abbrev pub refused_text : List ℕ
refused_text = 114 ∷ 101 ∷ 102 ∷ 117 ∷ 115 ∷ 101 ∷ 100 ∷ 32 ∷ []

abbrev pub refusal_text : List ℕ
refusal_text = 114 ∷ 101 ∷ 102 ∷ 117 ∷ 115 ∷ 97 ∷ 108 ∷ 32 ∷ []

abbrev pub blank : ℕ
blank = 0x20

abbrev pub newline : ℕ
newline = 0x0A

-- what stands before a counter's count; the counter behind `refused` is refusal 1's
unfoldable pub label : ℕ → List ℕ
unfolding decimal
label zero = inputs_text
label (suc zero) = accepted_text
label (suc (suc zero)) = refused_text
label (suc (suc (suc n))) = refusal_text ++ (decimal (suc n) ++ blank ∷ [])

unfoldable pub line : ℕ → ℕ → List ℕ
unfolding label decimal
line counter count = label counter ++ (decimal count ++ newline ∷ [])

-- so many lines from a counter on, and all of them
unfoldable pub lines_from : Totals → ℕ → ℕ → List ℕ
unfolding line
lines_from t counter zero = []
lines_from t counter (suc more) = line counter (t counter) ++ lines_from t (suc counter) more

abbrev pub lines : Totals → List ℕ
lines t = lines_from t 0 counters

-- the lines, or no room for them: 17 at the output's length
unfoldable pub printed_of : List ℕ → ℕ → Result ℕ Fault × List ℕ
unfolding lines_from padded
printed_of store room =
    let bytes = lines (held_in store) in
    cond (ltb room (length bytes)) (refused NoRoom room, zeros room) (Ok (length bytes), padded room bytes)
