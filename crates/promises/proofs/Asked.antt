-- Demand 2 asks no more than that nesting, bytes, nodes and entries fit: arithmetic of the capacities. Assumes nothing.
use native.Mathlib.Omega.{arith}
use Rattle.promises.specs.Asked.{NoMoreAsked}

pub no_more_asked : NoMoreAsked
no_more_asked =
    record {
      to_write = λ v W w h. record { nesting = omega (arith, h.deep, h.not_too_deep); bytes = omega (arith, h.long, h.not_too_long) };
      to_read =
          λ v R c h.
          record {
            nesting = omega (arith, h.deep, h.not_too_deep);
            bytes = h.not_too_long;
            nodes = omega (arith, h.nodes, h.not_too_many);
            entries = omega (arith, h.entries, h.not_too_many-entries);
          };
    }
