-- `taggedfields::index_fields` meets its contract, by the laws of this crate that it names.
-- Assumes nothing.
use lib.ListN.{length}
use Prim.Native.Nat.{◌-◌}
use Rattle.taggedfields.proofs.Indexing.{Indexing}
use Rattle.taggedfields.proofs.index_fields.Given as goal

abbrev pub invariant-loop-at : goal.invariant-loop-at
invariant-loop-at l = Indexing l.file l.places l.at

abbrev pub decreases-loop-at : goal.decreases-loop-at
decreases-loop-at l = length l.file - l.at
