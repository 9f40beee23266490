-- The bytes of a node, from its header to its end, the slots reserved before them, and whether every reference in them names a slot
-- reserved in them: one answer for any stores. 02, K7: "The viewer asks, yes or no".
use Rattle.std.specs.Prelude.{ℕ, zero, suc, ◌+◌, ◌-◌, Bool, true, cond, ◌&&◌, List, [], ◌∷◌, length, get_or, leb, ltb, eqb}
use Rattle.std.proofs.Math.Option.{Option, none, some}
use Rattle.refusals.specs.Numbers.{input_too_long, bad_table}
use Rattle.refusals.specs.Limits.{most_bytes}
use Rattle.grammar.specs.Reading.{Answer, gives, stops}
use Rattle.grammar.specs.Letters.{flag_of}
use Rattle.grammar.specs.Record.{Tables, nodes_in, entries_in, sound_at, node_of, chain}
use Rattle.nodespan.specs.Header.{header_of, spanned}

-- What the viewer is told.
pub record Span : Type 0 where
  pub start : ℕ
  pub end : ℕ
  pub closed : Bool
  pub slots_before : ℕ

-- Whether a node is of the span's input, by its number, and its header stands in the span: the question goes by places, and those of a
-- value read from another input say nothing of this one's. 02, K11: "Kept nodes keep the input they name".
abbrev pub inside : Tables → (source start end node : ℕ) → Bool
inside t source start end m = eqb (node_of t m).input source && leb start (header_of (node_of t m)) && ltb (header_of (node_of t m)) end

-- "every reference in a span (header included) names a slot reserved in that span". What is inside names its children by entries, a
-- reference by an entry of the node that it names; each node owns at most one slot, reserved at its header. So the answer is yes exactly
-- where no entry of a node inside names one outside.
unfoldable pub all_inside : Tables → (source start end : ℕ) → List ℕ → Bool
all_inside t source start end [] = true
all_inside t source start end (v ∷ vs) = inside t source start end v && all_inside t source start end vs

-- a child's number beyond the nodes used is no child
unfoldable pub all_used : Tables → List ℕ → Bool
all_used t [] = true
all_used t (v ∷ vs) = ltb v (nodes_in t.nodes t.used_nodes) && all_used t vs

-- the children of one node inside; "a chain that fails", or one for which too few steps are left, is 16 at its container
abbrev pub of_used : ℕ → List ℕ → Bool → Answer (List ℕ)
of_used m vs used = cond used (gives vs) (stops bad_table m)

abbrev pub of_chain : Tables → ℕ → Option (List ℕ) → Answer (List ℕ)
of_chain t m none = stops bad_table m
of_chain t m (some vs) = of_used m vs (all_used t vs)

unfoldable pub children_at : Tables → (steps node : ℕ) → Answer (List ℕ)
children_at t steps m =
    cond (ltb steps (node_of t m).count) (stops bad_table m) (of_chain t m (chain t (node_of t m).count (node_of t m).first))

abbrev pub and_then : Bool → Answer Bool → Answer Bool
and_then b (gives c) = gives (b && c)
and_then b (stops number place) = stops number place

abbrev pub onward : Tables → (source start end : ℕ) → Answer (List ℕ) → (ℕ → Answer Bool) → Answer Bool
onward t source start end (stops number place) rest = stops number place
onward t source start end (gives vs) rest = and_then (all_inside t source start end vs) (rest (length vs))

-- The question, over so many nodes from one on, with so many steps along chains left: together no more than entries are used.
unfoldable pub closed_from : Tables → (source start end more node steps : ℕ) → Answer Bool
closed_from t source start end zero m steps = gives true
closed_from t source start end (suc more) m steps =
    cond (inside t source start end m)
    (onward t source start end (children_at t steps m) (λ taken. closed_from t source start end more (m + 1) (steps - taken)))
    (closed_from t source start end more (m + 1) steps)

-- "the slots reserved before the node": one for each flagged header before its own, of its own input, since by K11 "Slots of a new read begin
-- at 0 again".
abbrev pub reserved : Tables → (source start node : ℕ) → ℕ
reserved t source start m =
    cond (eqb (node_of t m).input source && ltb (header_of (node_of t m)) start) (flag_of (get_or t.input (header_of (node_of t m)) 0)) 0

unfoldable pub flagged_before : Tables → (source start more node : ℕ) → ℕ
flagged_before t source start zero m = 0
flagged_before t source start (suc more) m = reserved t source start m + flagged_before t source start more (m + 1)

abbrev pub told : Tables → (source start end : ℕ) → Answer Bool → Answer Span
told t source start end (stops number place) = stops number place
told t source start end (gives truth) =
    gives (record { start = start; end = end; closed = truth; slots_before = flagged_before t source start (nodes_in t.nodes t.used_nodes) 0 })

-- 14 at 0; then 16 at the node's number where its record is not sound or its bytes are none; then the question's own 16.
unfoldable pub span_of : Tables → ℕ → Answer Span
span_of t n =
    cond (ltb most_bytes (length t.input)) (stops input_too_long 0)
    (cond (sound_at t.input t.nodes t.used_nodes n && spanned t.input (node_of t n))
    (told t (node_of t n).input (header_of (node_of t n)) (node_of t n).end
    (closed_from t (node_of t n).input (header_of (node_of t n)) (node_of t n).end (nodes_in t.nodes t.used_nodes) 0 (entries_in t.entries t.used_entries)))
    (stops bad_table n))
