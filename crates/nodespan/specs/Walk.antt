-- The question as the code asks it: along one chain, of one node, and of node after node, by how many of each are used.
use Rattle.std.specs.Prelude.{ℕ, zero, suc, ◌+◌, ◌-◌, Bool, true, cond, ◌&&◌, List, [], ltb, Option, Some, None, Result, Ok, Err}
use Rattle.refusals.specs.Faults.{refused}
use Rattle.refusals.specs.declared.Fault.{Fault}
use Rattle.refusals.specs.declared.Refusal.TheVariants.{BadTable}
use Rattle.grammar.specs.Reading.{Answer, gives, stops}
use Rattle.grammar.specs.State.{node_at, entry_at}
use Rattle.grammar.specs.Record.{Tables, tables_of}
use Rattle.nodespan.specs.Span.{Span, inside, flagged_before}
use Rattle.nodespan.specs.declared.Bounds.{Bounds}
use Rattle.nodespan.specs.declared.Walked.{Walked}
use Rattle.nodespan.specs.declared.Found.{Found}

-- where a header stands is asked of the nodes alone, and of the input whether it is flagged
abbrev pub among : (input nodes : List ℕ) → Tables
among input nodes = tables_of input nodes [] 0 0

-- So many nodes and so many entries are used, and the span is this.
pub record Within : Type 0 where
  pub nodes : List ℕ
  pub entries : List ℕ
  pub many : ℕ
  pub room : ℕ
  pub source : ℕ
  pub start : ℕ
  pub end : ℕ

abbrev pub bounded : (nodes entries : List ℕ) → Bounds → Within
bounded nodes entries b =
    record { nodes = nodes; entries = entries; many = b.many; room = b.room; source = b.source; start = b.start; end = b.end }

abbrev pub has : Within → ℕ → Bool
has w v = inside (among [] w.nodes) w.source w.start w.end v

abbrev pub joined : Bool → Option Bool → Option Bool
joined b None = None
joined b (Some c) = Some (b && c)

-- so many children, linked from an entry on: none where one is no entry or no node, else whether all are inside
unfoldable pub along : Within → (count e : ℕ) → Option Bool
along w zero e = Some true
along w (suc more) e =
    cond (ltb e w.room)
    (cond (ltb (entry_at w.entries e).child w.many)
    (joined (has w (entry_at w.entries e).child) (along w more (entry_at w.entries e).next))
    None)
    None

-- what a walk of so many steps tells
abbrev pub told_of : ℕ → Option Bool → Option Walked
told_of count None = None
told_of count (Some truth) = Some (record { took = count; all = truth })

-- one node, with so many steps left
abbrev pub visits : Within → (steps node : ℕ) → Option Walked
visits w steps m =
    cond (has w m)
    (cond (ltb steps (node_at w.nodes m).count) None
    (told_of (node_at w.nodes m).count (along w (node_at w.nodes m).count (node_at w.nodes m).first)))
    (Some (record { took = 0; all = true }))

abbrev pub also : Bool → Result Bool Fault → Result Bool Fault
also b (Ok c) = Ok (b && c)
also b (Err fault) = Err fault

abbrev pub after : ℕ → Option Walked → (ℕ → Result Bool Fault) → Result Bool Fault
after m None rest = refused BadTable m
after m (Some walked) rest = also walked.all (rest walked.took)

-- node after node
unfoldable pub asks : Within → (more node steps : ℕ) → Result Bool Fault
asks w zero m steps = Ok true
asks w (suc more) m steps = after m (visits w steps m) (λ taken. asks w more (m + 1) (steps - taken))

-- the span in the code's words
abbrev pub answered_of : Answer Span → Answer Found
answered_of (gives s) = gives (record { start = s.start; end = s.end; closed = s.closed; slots_before = s.slots_before })
answered_of (stops number place) = stops number place

-- a sound node's, where the question came to this
abbrev pub spanned_by : Tables → Bounds → Result Bool Fault → Result Found Fault
spanned_by t b (Ok truth) =
    Ok (record { start = b.start; end = b.end; closed = truth; slots_before = flagged_before t b.source b.start b.many 0 })
spanned_by t b (Err fault) = Err fault

abbrev pub span_at : (input nodes entries : List ℕ) → Bounds → Result Found Fault
span_at input nodes entries b = spanned_by (among input nodes) b (asks (bounded nodes entries b) b.many 0 b.room)
