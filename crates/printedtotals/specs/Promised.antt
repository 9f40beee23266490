-- What 02's K14 promises of the printed form. `proofs/Promised` has the theorem; the one law on decimals is of `decimals`.
use Rattle.std.specs.Prelude.{◌≡◌, ℕ, ◌<◌}
use Rattle.decimals.specs.Promised as decimals
use Rattle.totals.specs.Totals.{counters, Totals}
use Rattle.printedtotals.specs.Lines.{lines}

pub record Promised : Type 0 where
  -- the digits of a count are worth that count, and it ends where they do
  pub digits : decimals.Promised
  -- two totals print alike only if they are equal
  pub alike : (t u : Totals) → lines t ≡ lines u → (counter : ℕ) → counter < counters → t counter ≡ u counter
