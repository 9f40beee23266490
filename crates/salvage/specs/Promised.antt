-- What 02's K9 promises of a repair, each sentence a field. `proofs/Promised` has the theorem. Lines are kept plus 2^31, as everywhere.
use Rattle.std.specs.Prelude.{◌≡◌, Bool, true, List, [], ◌∷◌, ◌++◌, ℕ, ◌+◌, ◌-◌, ◌<◌, length, replicate, take, drop}
use Rattle.lineentry.specs.declared.Location.{Location}
use Rattle.lineentry.specs.declared.Span.{Span}
use Rattle.lineentry.specs.Entry.{at_line}
use Rattle.linetable.specs.Walk.{done, walk}
use Rattle.linetable.specs.Complete.{Complete}
use Rattle.rows.specs.Row.{Ending, past_count, Chain, Ends, line_after, place_after, total, locations}
use Rattle.salvage.specs.Salvage.{fill, salvaged, Account, salvage}

-- an entry for n instructions, in all else the same
abbrev pub for_fewer : ℕ → Span → Span
for_fewer n e = record { instructions = n; line = e.line; location = e.location; next = e.next; missing = e.missing }

-- What the list's numbers say, of the entries themselves. Either the complete entries `es` are kept as they stand, up to where the row ends
-- (`why`: every instruction is placed, the table ends, a stop, an entry that is cut, one that is refused), and code-15 entries `added` cover
-- the rest; or the entry `e` behind `es` runs past the count and is kept for the n instructions that are left. Kept are entries of the
-- original, the shortened one included and none of the added; dropped are the bytes behind the last kept entry; covered are the
-- instructions under the added entries. `shows` is what 01's rules then give: under kept entries what they give in the original.
pub data Says (s : List ℕ) (first count : ℕ) : Account → Type 0 where
  covers : (es added : List Span) (why : Ending) → ((e : Span) → why ≡ past_count e → ⊥) → total es + total added ≡ count
      → Chain s first 0 es → Ends s (line_after first es) (place_after 0 es) (count - total es) why
      → Chain (salvaged s first count) first 0 (es ++ added)
      → take (place_after 0 es) (salvaged s first count) ≡ take (place_after 0 es) s
      → drop (place_after 0 es) (salvaged s first count) ≡ fill (total added)
      → ((at : Location) → walk count (salvaged s first count) at first 0 count ≡ done (locations es ++ replicate (total added) (at_line (line_after first es))) count true)
      → Says s first count (record { kept = length es; dropped = length s - place_after 0 es; shortened = 0; covered = total added })
  shortens : (es : List Span) (e : Span) (n : ℕ) → 0 < n → n < e.instructions → total es + n ≡ count
      → Chain s first 0 (es ++ e ∷ []) → Chain (salvaged s first count) first 0 (es ++ for_fewer n e ∷ [])
      → ((at : Location) → walk count (salvaged s first count) at first 0 count ≡ done (locations es ++ replicate n e.location) count true)
      → Says s first count (record { kept = length es + 1; dropped = length s - e.next; shortened = 1; covered = 0 })

pub record Promised : Type 0 where
  -- "makes a whole one", by the definition of whole that does without the walk
  pub whole : (s : List ℕ) (first count : ℕ) → Complete (salvaged s first count) first 0 count
  -- "A list states entries kept, bytes dropped, whether one was shortened and instructions covered. Instructions under kept entries have the
  -- locations that 01's rules give those entries in the original."
  pub says : (s : List ℕ) (first count : ℕ) → Says s first count (salvage s first count)
  -- the same by 01's reading of both tables, where it reads the original: as many locations are alike as there are not covered
  pub alike : (s : List ℕ) (first count : ℕ) (at : Location) {ls ms : List Location} {k j : ℕ} {v w : Bool}
      → walk count s at first 0 count ≡ done ls k v → walk count (salvaged s first count) at first 0 count ≡ done ms j w
      → take (count - (salvage s first count).covered) ls ≡ take (count - (salvage s first count).covered) ms
  -- "A whole table returns unchanged", and nothing is dropped, shortened or covered
  pub unchanged : (s : List ℕ) (first count : ℕ) → Complete s first 0 count
      → (salvaged s first count ≡ s) × ((salvage s first count).dropped ≡ 0) × ((salvage s first count).shortened ≡ 0) × ((salvage s first count).covered ≡ 0)
  -- "and a second repair changes nothing"
  pub twice : (s : List ℕ) (first count : ℕ) → salvaged (salvaged s first count) first count ≡ salvaged s first count
  -- "Count 0 gives an empty table."
  pub none : (s : List ℕ) (first : ℕ) → salvaged s first 0 ≡ []
