-- The place less the way from the header to it. Assumes nothing.
use Rattle.grammar.specs.State.{node_at}
use Rattle.nodespan.proofs.Leads.{header-some, header_none}
use mathlib.Core.Path.{refl}
use Rattle.nodespan.proofs.header_of.Goals as goal

pub returns-then-place-lead : goal.returns-then-place-lead
returns-then-place-lead c = header_none (node_at c.args.nodes.now c.args.node) c.place_of-place.ensures c.letter_of.ensures c.lead_of-lead.ensures c.if-place-lead.true

pub returns-else-place-lead : goal.returns-else-place-lead
returns-else-place-lead c = header-some (node_at c.args.nodes.now c.args.node) c.place_of-place.ensures c.letter_of.ensures c.lead_of-lead.ensures refl
