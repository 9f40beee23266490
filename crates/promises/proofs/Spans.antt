-- The span question's ends: every refusal that its definition gives has a number of 01's table, and the struct is an answer's or a
-- refusal's. Assumes nothing.
use mathlib.Core.Path.{◌≡◌}
use Prim.Native.Nat.{ℕ, zero, suc, ◌+◌, ◌-◌}
use native.Mathlib.Omega.{arith}
use mathlib.Core.Bool.{Bool, true, false, cond, ◌&&◌}
use mathlib.Core.Option.{Option, none, some}
use mathlib.Core.List.{List}
use lib.ListN.{length}
use lib.Dec.{ltb}
use Rattle.refusals.specs.Numbers.{bad_table}
use Rattle.refusals.specs.Limits.{most_bytes}
use Rattle.grammar.specs.Reading.{Answer, gives, stops}
use Rattle.grammar.specs.Record.{Tables, nodes_in, entries_in, sound_at, node_of, chain}
use Rattle.nodespan.specs.Header.{header_of, spanned}
use Rattle.nodespan.specs.Span.{Span, inside, all_inside, all_used, of_chain, children_at, and_then, onward, closed_from, told, span_of}
use Rattle.nodespan.specs.Walk.{answered_of}
use Rattle.nodespan.specs.declared.Found.{Found}
use Rattle.sillgarland.specs.Spans.{span_struct}
use Rattle.sillgarland.specs.declared.spans.SillSpan.{SillSpan}
use Rattle.promises.specs.Demand1.{Ends, answers, refuses}
use Rattle.promises.proofs.Numbers.{Tabled, if_tabled}

chain_tabled : (t : Tables) (m : ℕ) (o : Option (List ℕ)) → Tabled (of_chain t m o)
chain_tabled t m none = (omega arith, omega arith)
chain_tabled t m (some vs) = if_tabled (all_used t vs) _ _ tt (omega arith, omega arith)

children_tabled : (t : Tables) (steps m : ℕ) → Tabled (children_at t steps m)
unfolding children_at
children_tabled t steps m =
    if_tabled (ltb steps (node_of t m).count) _ _ (omega arith, omega arith) (chain_tabled t m (chain t (node_of t m).count (node_of t m).first))

and_tabled : (b : Bool) (a : Answer Bool) → Tabled a → Tabled (and_then b a)
and_tabled b (gives c) h = tt
and_tabled b (stops n p) h = h

onward_tabled : (t : Tables) (source start end : ℕ) (a : Answer (List ℕ)) (rest : ℕ → Answer Bool) → Tabled a → ((k : ℕ) → Tabled (rest k))
    → Tabled (onward t source start end a rest)
onward_tabled t source start end (gives vs) rest h later = and_tabled (all_inside t source start end vs) (rest (length vs)) (later (length vs))
onward_tabled t source start end (stops n p) rest h later = h

closed_tabled : (t : Tables) (source start end more m steps : ℕ) → Tabled (closed_from t source start end more m steps)
unfolding closed_from
closed_tabled t source start end zero m steps = tt
closed_tabled t source start end (suc more) m steps =
    if_tabled (inside t source start end m) _ _
    (onward_tabled t source start end (children_at t steps m) _ (children_tabled t steps m) (λ taken. closed_tabled t source start end more (m + 1) (steps - taken)))
    (closed_tabled t source start end more (m + 1) steps)

told_tabled : (t : Tables) (source start end : ℕ) (a : Answer Bool) → Tabled a → Tabled (told t source start end a)
told_tabled t source start end (gives c) h = tt
told_tabled t source start end (stops n p) h = h

pub span_in_table : (t : Tables) (n : ℕ) → Tabled (span_of t n)
unfolding span_of
span_in_table t n =
    if_tabled (ltb most_bytes (length t.input)) _ _ (omega arith, omega arith)
    (if_tabled (sound_at t.input t.nodes t.used_nodes n && spanned t.input (node_of t n)) _ _
    (told_tabled t (node_of t n).input (header_of (node_of t n)) (node_of t n).end (closed_from t (node_of t n).input (header_of (node_of t n)) (node_of t n).end all 0 steps)
    (closed_tabled t (node_of t n).input (header_of (node_of t n)) (node_of t n).end all 0 steps)) (omega arith, omega arith))
  where
    all : ℕ
    all = nodes_in t.nodes t.used_nodes

    steps : ℕ
    steps = entries_in t.entries t.used_entries

pub span-ends : (a : Answer Span) → Tabled a → (r : SillSpan) → r ≡ span_struct (answered_of a)
    → Ends r (λ found. span_struct (gives found)) (λ number place. span_struct (stops number place)) Unit
span-ends (gives s) t r h = answers (record { start = s.start; end = s.end; closed = s.closed; slots_before = s.slots_before }) h
span-ends (stops n p) t r h = refuses n p t h tt
