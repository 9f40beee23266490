-- What a put does with the output: the bytes of a writing come behind those that are written, or it is refused.
-- 01, 'Writing it back': "then room for its own bytes as they come (17)".
use Rattle.std.specs.Prelude.{◌≡◌, ℕ, ◌≤◌, List, length, take, drop, Result, Ok, Err}
use Rattle.refusals.specs.declared.Fault.{Fault}
use Rattle.grammar.specs.Reading.{Answer, gives}
use Rattle.grammar.specs.Numbered.{numbered}
use Rattle.writing.specs.Writing.{Writing, into}
use Rattle.writing.specs.Answer.{most_output}

-- what a put answers: how many bytes are written, or a refusal and its place
abbrev pub Wrote : Type 0
Wrote = Result ℕ Fault

-- An output that is written up to a place, and counts whole.
pub record Open (at : ℕ) (o : List ℕ) : Type 0 where
  pub inside : at ≤ length o
  pub counts : length o ≤ most_output

-- Accepted, the output holds what the writing gives and is untouched behind it. Refused, nothing is said of its bytes: the entry clears them.
abbrev pub Agrees : Wrote → (at : ℕ) → (before after : List ℕ) → Answer (List ℕ) → Type 0
Agrees (Ok a) at o o' answer = (answer ≡ gives (take a o')) × (at ≤ a) × (a ≤ length o) × (drop a o' ≡ drop a o)
Agrees (Err stop) at o o' answer = answer ≡ numbered (Err stop)

-- the writing w, behind the bytes before `at`
pub record Puts (w : Writing) (at : ℕ) (before : List ℕ) (r : Wrote) (after : List ℕ) : Type 0 where
  pub same : length after ≡ length before
  pub exact : Agrees r at before after (into (length before) (take at before) w)
