-- 02, K12: "Take table A, whole for a instructions from line f and leaving the running line at g, and B, whole for b instructions from g." The
-- answer of a join and what the output then holds, as one value.
use Rattle.std.specs.Prelude.{Bool, cond, ◌&&◌, List, ◌++◌, ℕ, ◌+◌, min, length, ltb, eqb, Option, Some, None, Result, Ok}
use Rattle.refusals.specs.Faults.{refused}
use Rattle.refusals.specs.declared.Fault.{Fault}
use Rattle.refusals.specs.declared.Refusal.TheVariants.{InputTooLong, NoRoom, NotJoined}
use Rattle.refusals.specs.Limits.{most_bytes}
use Rattle.clearing.specs.Lent.{zeros, padded}
use Rattle.join.specs.Whole.{whole_for, line_of}
use Rattle.join.specs.declared.Joined.{Joined}

-- A is whole for n instructions from f, B for m from g, and g is the line that A leaves: the line itself, not as it is shown.
abbrev pub meets : List ℕ → ℕ → ℕ → List ℕ → ℕ → ℕ → Bool
meets a f n b g m = whole_for a f n && (eqb (line_of a f n) g && whole_for b g m)

-- the line that B leaves, if the two meet
unfoldable pub met : List ℕ → ℕ → ℕ → List ℕ → ℕ → ℕ → Option ℕ
met a f n b g m = cond (meets a f n b g m) (Some (line_of b g m)) None

abbrev pub joins : ℕ → ℕ → ℕ → Joined
joins written count line = record { written = written; count = count; line = line }

-- "Refusals, in this order: above 16 MiB together 14; not whole (a refused table is not) or lines that do not meet 24 at 0; no room 17."
unfoldable pub join_of : List ℕ → ℕ → ℕ → List ℕ → ℕ → ℕ → ℕ → Result Joined Fault × List ℕ
join_of a f n b g m room =
    cond (ltb most_bytes (length a + length b)) (refused InputTooLong 0, zeros room)
    (cond (meets a f n b g m)
    (cond (ltb room (length a + length b)) (refused NoRoom (min room 4294967295), zeros room)
    (Ok (joins (length a + length b) (n + m) (line_of b g m)), padded room (a ++ b)))
    (refused NotJoined 0, zeros room))
