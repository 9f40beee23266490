-- `sillgarland::goldenfiles::sill_golden_to_fields` meets its contract: the move's answer, handed on as numbers.
-- Assumes nothing.
use mathlib.Core.Path.{ap, ◌∙◌}
use Rattle.sillgarland.specs.Goldenfiles.{moved_struct}
use Rattle.sillgarland.proofs.goldenfiles.sill_golden_to_fields.Goals as goal

pub returns : goal.returns
returns c =
    let known = c.to_fields.ensures in
    record {
      numbers = c.from.ensures ∙ ap (λ p. moved_struct p.0) known.0;
      holds = ap (λ p. p.1) known.0;
      clear_nodes = known.1;
      clear_entries = known.2;
      clear_slots = known.3;
    }
