-- The move handed on as numbers: the export's promise is `keep`'s.
-- Assumes nothing.
use mathlib.Core.Path.{◌≡◌, ap, ◌∙◌}
use Prim.Native.Nat.{ℕ}
use mathlib.Core.List.{List}
use Rattle.std.specs.Prelude.{Result}
use Rattle.refusals.specs.declared.Fault.{Fault}
use Rattle.keep.specs.declared.Kept.{Kept}
use Rattle.keep.specs.Kept.{Held, Keeps}
use Rattle.sillgarland.specs.declared.reclaiming.SillKept.{SillKept}
use Rattle.sillgarland.specs.Reclaiming.{keep_struct, KeptAs}

pub kept_handed : {o : Held} {size : ℕ} {answer : Result Kept Fault} {r : SillKept} {nodes entries slots stack : List ℕ}
    → r ≡ keep_struct answer → Keeps o size answer nodes entries slots stack → KeptAs o size r nodes entries slots stack
kept_handed is k =
    record {
      numbers = is ∙ ap keep_struct k.answer;
      holds-nodes = k.holds-nodes;
      holds-entries = k.holds-entries;
      holds-slots = k.holds-slots;
      cleared = k.cleared;
    }
