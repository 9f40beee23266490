-- 02, K9: the answer of a repair and what the output then holds, as one value. A refusal leaves the output zero.
use Rattle.std.specs.Prelude.{Result, Ok, cond, List, ◌∷◌, ℕ, ◌+◌, ◌-◌, min, length, get_or, take, drop, ltb}
use Rattle.refusals.specs.Faults.{refused}
use Rattle.refusals.specs.declared.Fault.{Fault}
use Rattle.refusals.specs.declared.Refusal.TheVariants.{InputTooLong, NoRoom}
use Rattle.refusals.specs.Limits.{most_bytes}
use Rattle.clearing.specs.Lent.{zeros, padded}
use Rattle.salvage.specs.Salvage.{head_for, salvaged, salvage, Account}
use Rattle.salvage.specs.declared.Salvaged.{Salvaged}

-- how many bytes were written, and a list's numbers
abbrev pub listed : ℕ → Account → Salvaged
listed written a = record { written = written; kept = a.kept; dropped = a.dropped; shortened = a.shortened; covered = a.covered }

-- the bytes from p to q, the first of them for `left` instructions
abbrev pub shortened : List ℕ → ℕ → ℕ → ℕ → List ℕ
shortened s p q left = head_for (get_or s p 0) left ∷ take (q - (p + 1)) (drop (p + 1) s)

-- "Refusals, in this order: input or result above 16 MiB 14; no room 17."
unfoldable pub repair : List ℕ → ℕ → ℕ → ℕ → Result Salvaged Fault × List ℕ
repair s first count room =
    cond (ltb most_bytes (length s)) (refused InputTooLong 0, zeros room)
    (cond (ltb most_bytes (length (salvaged s first count))) (refused InputTooLong 0, zeros room)
    (cond (ltb room (length (salvaged s first count))) (refused NoRoom (min room 4294967295), zeros room)
    (Ok (listed (length (salvaged s first count)) (salvage s first count)), padded room (salvaged s first count))))
