-- `localsplus::any_argument` meets its contract: what is left of the list says as much as the whole on whether all are nothing.
-- Assumes nothing.
use mathlib.Core.Path.{◌≡◌}
use lib.ListN.{drop}
use Rattle.localsplus.specs.Lists.{cell_args_from, all_nothing}
use Rattle.localsplus.proofs.any_argument.Given as goal

abbrev pub invariant-loop-i : goal.invariant-loop-i
invariant-loop-i l =
    all_nothing (cell_args_from l.sum 0 l.kinds) ≡ all_nothing (cell_args_from l.sum l.i (drop l.i l.kinds))
