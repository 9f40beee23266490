-- The viewer's question, by the plain reading: "whether every reference in a span (header included) names a slot reserved in that span". 02, K7.
-- A span is a node's bytes from its header to its end; its references are those that the plain reading met there.
use Rattle.std.specs.Prelude.{ℕ, suc, ◌-◌, Bool, true, cond, ◌&&◌, List, [], ◌∷◌, get_or, leb, ltb}
use Rattle.grammar.specs.Fields.{le32}
use Rattle.grammar.specs.State.{State, blank}
use Rattle.nodespan.specs.Header.{header_of}
use Rattle.shifts.specs.Lower.{between}

-- where a node's bytes begin and end, in what the plain reading left
unfoldable pub start_of : State → ℕ → ℕ
start_of st n = header_of (get_or st.nodes n blank)

unfoldable pub end_of : State → ℕ → ℕ
end_of st n = (get_or st.nodes n blank).end

-- "If flagged, reserve a slot": at the header of the node that fills it. A slot holds its node + 1.
abbrev pub reserved_at : State → ℕ → ℕ
reserved_at st x = start_of st (x - 1)

-- how many of these slots were reserved before a place
unfoldable pub reserved_before : State → (place : ℕ) → List ℕ → ℕ
reserved_before st p [] = 0
reserved_before st p (x ∷ xs) = cond (ltb (reserved_at st x) p) (suc (reserved_before st p xs)) (reserved_before st p xs)

abbrev pub slots_before : State → (place : ℕ) → ℕ
slots_before st p = reserved_before st p st.slots

-- Slots are numbered as they are reserved: an index names a slot reserved in the span if it is none of those reserved before the header, and
-- one of those reserved before the end.
unfoldable pub all_named : List ℕ → (before by : ℕ) → (places : List ℕ) → Bool
all_named s before by [] = true
all_named s before by (r ∷ rs) = leb before (le32 s r) && ltb (le32 s r) by && all_named s before by rs

unfoldable pub names_own : List ℕ → State → ℕ → Bool
names_own s st n = all_named s (slots_before st (start_of st n)) (slots_before st (end_of st n)) (between (start_of st n) (end_of st n) st.met)
