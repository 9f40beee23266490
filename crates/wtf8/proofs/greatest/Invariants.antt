-- `wtf8::greatest` meets its contract: what is kept is the least bound of the bytes passed.
-- Assumes nothing.
use Prim.Native.Nat.{ℕ, ◌≤◌, ◌<◌}
use lib.ListN.{get_or}
use Rattle.wtf8.proofs.greatest.Given as goal

abbrev pub invariant-loop-byte : goal.invariant-loop-byte
invariant-loop-byte l =
    ((k : ℕ) → k < l.byte-index → get_or l.bytes k 0 ≤ l.most) × ((m : ℕ) → ((k : ℕ) → k < l.byte-index → get_or l.bytes k 0 ≤ m) → l.most ≤ m)
