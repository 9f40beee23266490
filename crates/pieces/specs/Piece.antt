-- 02, K6: what a piece comes to: "Up to the final call only complete entries count"; what the state and the records then hold.
use Rattle.std.specs.Prelude.{Option, Some, None, false, cond, List, [], ◌∷◌, ◌++◌, ℕ, ◌+◌, ◌-◌, ◌*◌, length, replicate, drop, ltb, eqb}
use Rattle.std.proofs.lemmas.List.Edits.{sets}
use Rattle.refusals.specs.Faults.{fault}
use Rattle.refusals.specs.declared.Refusal.TheVariants.{InputTooLong, NumberRange}
use Rattle.refusals.specs.Limits.{most_bytes}
use Rattle.lineentry.specs.declared.Location.{Location}
use Rattle.lineentry.specs.declared.Span.{Span}
use Rattle.lineentry.specs.declared.Entry.{Entry}
use Rattle.lineentry.specs.declared.Entry.TheVariants.{Covers, Stop, OutOfRange}
use Rattle.linetable.specs.Answer.{numbers}
use Rattle.rows.specs.Row.{Ending, placed_all, table_end, stop_byte, cut_short, out_of_range, past_count, Row, row, line_after, place_after, total, locations}
use Rattle.lostentry.specs.Lost.{lost}
use Rattle.piecestate.specs.declared.Kept.{Kept}
use Rattle.piecestate.specs.State.{going, over, held_at, advanced}
use Rattle.piecestate.specs.Answers.{told, Left, left, stuck}

-- what a row shows: its entries' locations, and where the last entry runs past the count, that one's for the instructions left
abbrev pub overrun : ℕ → Ending → List Location
overrun n placed_all = []
overrun n table_end = []
overrun n stop_byte = []
overrun n (cut_short e) = []
overrun n out_of_range = []
overrun n (past_count e) = replicate n e.location

unfoldable pub shown_of : ℕ → Row → List Location
shown_of n r = locations r.entries ++ overrun (n - total r.entries) r.ending

-- the answer of a piece: "Up to the final call only complete entries count"
abbrev pub onward : List ℕ → List ℕ → ℕ → ℕ → ℕ → ℕ → ℕ → List ℕ → Left
onward s rs line placed at bytes status held = left (told placed false) (advanced s line placed at bytes status held) rs

-- an entry that is refused as it stands: "An 18 comes in the call whose bytes first show it"
abbrev pub refused_as : List ℕ → List ℕ → ℕ → ℕ → ℕ → ℕ → List ℕ → Left
refused_as s rs line placed at bytes held = cond (lost held line) (stuck s rs (fault NumberRange at)) (onward s rs line placed at bytes going held)

-- The row of t, which stands from `start` on in the joined table, ends behind its complete entries at p, at a line, with n instructions left of
-- count. The bytes of an entry that is not complete are held.
abbrev pub by_ending : List ℕ → ℕ → ℕ → ℕ → List ℕ → List ℕ → ℕ → ℕ → ℕ → Ending → Left
by_ending t start bytes count s rs line p n placed_all = onward s rs line (count - n) (start + p) bytes going []
by_ending t start bytes count s rs line p n table_end = onward s rs line (count - n) (start + p) bytes going []
by_ending t start bytes count s rs line p n stop_byte = onward s rs line (count - n) (start + p) bytes over []
by_ending t start bytes count s rs line p n (cut_short e) = onward s rs line (count - n) (start + p) bytes going (drop p t)
by_ending t start bytes count s rs line p n out_of_range = refused_as s rs line (count - n) (start + p) bytes (drop p t)
by_ending t start bytes count s rs line p n (past_count e) = onward s rs line count (start + p) bytes over []

unfoldable pub after : List ℕ → ℕ → ℕ → ℕ → ℕ → ℕ → List ℕ → List ℕ → Row → Left
after t start bytes count line n s rs r =
    by_ending t start bytes count s rs (line_after line r.entries) (place_after 0 r.entries) (n - total r.entries) r.ending

-- The bytes t from `start` on, at a line, with so many of count instructions placed.
unfoldable pub walked : List ℕ → ℕ → ℕ → ℕ → ℕ → ℕ → List ℕ → List ℕ → Left
walked t start bytes line placed count s rs =
    after t start bytes count line (count - placed) s (sets rs (4 * placed) (numbers (shown_of (count - placed) (row t line 0 (count - placed))))) (row t line 0 (count - placed))

-- a complete entry that fits
abbrev pub first_of : ℕ → Entry → Option Span
first_of n (Covers e) = cond e.missing None (cond (ltb n e.instructions) None (Some e))
first_of n Stop = None
first_of n OutOfRange = None

-- "pieces above 16 MiB together 14", before the piece's bytes are used; where nothing more is read its bytes are counted
unfoldable pub piece_by : List ℕ → List ℕ → List ℕ → Kept → Left
piece_by v s rs k =
    cond (ltb most_bytes (k.bytes + length v)) (stuck s rs (fault InputTooLong 0))
    (cond (eqb k.status over) (left (told k.placed false) (sets s 5 ((k.bytes + length v) ∷ [])) rs)
    (walked (held_at s ++ v) k.start (k.bytes + length v) k.line k.placed k.count s rs))
