-- No export and no promise rests on this page.
-- Whether bytes that are to be written fit. 02, K8 and K13: "no room 17", at the output's length, which counts as at most 4,294,967,295.
use Rattle.std.specs.Prelude.{ℕ, Result, Ok, min, cond, ltb}
use Rattle.refusals.specs.declared.Fault.{Fault}
use Rattle.refusals.specs.declared.Refusal.TheVariants.{NoRoom}
use Rattle.refusals.specs.Faults.{refused}
use Rattle.refusals.specs.Limits.{nothing}

abbrev pub fitting : ℕ → ℕ → Result ℕ Fault
fitting room size = cond (ltb (min room nothing) size) (refused NoRoom (min room nothing)) (Ok size)
