-- `localsplus::write_map` meets its contract: the laws of a walk carry the loop; the ranks stay below the names passed.
-- Assumes nothing.
use Prim.Native.Nat.{◌+◌, ◌≤◌}
use lib.ListN.{length, drop}
use Rattle.localsplus.specs.Lists.{map_from}
use Rattle.localsplus.proofs.Walk.{Walk}
use Rattle.localsplus.proofs.write_map.Given as goal

abbrev pub invariant-loop-i : goal.invariant-loop-i
invariant-loop-i l =
    Walk (map_from 0 l.cells l.kinds) l.kinds (length l.initial.map) l.map l.i l.i (map_from l.cell l.free (drop l.i l.kinds))
    × (l.cell ≤ l.i)
    × (l.free ≤ l.cells + l.i)
