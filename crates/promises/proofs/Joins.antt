-- The ends of a join and of the running line, for demand 1: an answer, or 14, 24 and 17 of a join with its output zero, 14 and 18 of the line.
-- By cases of the definitions. Assumes nothing.
use mathlib.Core.Path.{◌≡◌, refl}
use mathlib.Core.Bool.{Bool, true, false}
use mathlib.Core.List.{List}
use Prim.Native.Nat.{ℕ, ◌+◌, min}
use native.Mathlib.Omega.{arith}
use lib.Dec.{ltb}
use lib.ListN.{length}
use Rattle.refusals.specs.Numbers.{input_too_long, no_room, number_range, not_joined}
use Rattle.refusals.specs.Limits.{most_bytes}
use Rattle.rows.specs.Row.{row, place_after}
use Rattle.join.specs.Whole as table
use Rattle.join.specs.Whole.{whole_for, line_of, line_told}
use Rattle.join.specs.Join.{meets, join_of}
use Rattle.sillgarland.specs.Joins.{joined_struct, line_struct}
use Rattle.sillgarland.specs.declared.joins.SillJoined.{SillJoined}
use Rattle.sillgarland.specs.declared.joins.SillLine.{SillLine}
use Rattle.promises.specs.Demand1.{Ends, answers, refuses, Zero, JoinEnds, LineEnds}

pub join-ends : (a : List ℕ) (f n : ℕ) (b : List ℕ) (g m : ℕ) (lent left : List ℕ) (r : SillJoined)
    → r ≡ joined_struct (join_of a f n b g m (length lent)).0 → left ≡ (join_of a f n b g m (length lent)).1 → JoinEnds r (Zero lent left)
unfolding join_of
join-ends a f n b g m lent left r e h = go (ltb most_bytes (length a + length b)) (meets a f n b g m) (ltb (length lent) (length a + length b)) refl refl refl e h
  where
    go : (t u v : Bool) → ltb most_bytes (length a + length b) ≡ t → meets a f n b g m ≡ u → ltb (length lent) (length a + length b) ≡ v
        → r ≡ joined_struct (join_of a f n b g m (length lent)).0 → left ≡ (join_of a f n b g m (length lent)).1 → JoinEnds r (Zero lent left)
    go true u v x y z e h = refuses input_too_long 0 (omega arith, omega arith) (rw x at e) (rw x at h)
    go false false v x y z e h = refuses not_joined 0 (omega arith, omega arith) (rw (x, y) at e) (rw (x, y) at h)
    go false true true x y z e h = refuses no_room (min (length lent) 4294967295) (omega arith, omega arith) (rw (x, y, z) at e) (rw (x, y, z) at h)
    go false true false x y z e h = answers (length a + length b, n + m, line_of b g m) (rw (x, y, z) at e)

pub line-ends : (s : List ℕ) (first count : ℕ) (r : SillLine) → r ≡ line_struct (line_told s first count) → LineEnds r
unfolding line_told
line-ends s first count r e = go (ltb most_bytes (length s)) (table.refuses (row s first 0 count).ending) refl refl e
  where
    go : (t u : Bool) → ltb most_bytes (length s) ≡ t → table.refuses (row s first 0 count).ending ≡ u → r ≡ line_struct (line_told s first count) → LineEnds r
    go true u x y e = refuses input_too_long 0 (omega arith, omega arith) (rw x at e) tt
    go false true x y e = refuses number_range (place_after 0 (row s first 0 count).entries) (omega arith, omega arith) (rw (x, y) at e) tt
    go false false x y e = answers (whole_for s first count, line_of s first count) (rw (x, y) at e)
