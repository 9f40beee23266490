-- A reading: what is asked of the room, in reading order, and how it ends. No limit stands in it: this is the plain reading,
-- and `run` of Room is the reading within given room.
use Rattle.std.specs.Prelude.{ℕ}

-- 01, 'Reading a value': "the nesting allowance falls each time", "reserve a slot (13)", "claim a node (11)", "claims an entry (12)".
pub data Kind : Type 0 where
  level node entry slot : Kind

-- 01, 'Numbers given when nothing is read': "The answer holds number and place".
pub data Answer (A : Type 0) : Type 0 where
  gives : A → Answer A
  stops : (number place : ℕ) → Answer A

-- It ends with a value, or refused with a number at a place; or first, at a place, it needs so much of a kind in all.
pub data Reading (A : Type 0) : Type 0 where
  done : A → Reading A
  refused : (number place : ℕ) → Reading A
  claim : Kind → (need place : ℕ) → Reading A → Reading A

-- one reading, then another of what the first gives
unfoldable pub bind : {A B : Type 0} → Reading A → (A → Reading B) → Reading B
bind (done a) f = f a
bind (refused n p) f = refused n p
bind (claim k need p m) f = claim k need p (bind m f)

-- what only reads bytes claims nothing
abbrev pub reads : {A : Type 0} → Answer A → Reading A
reads (gives a) = done a
reads (stops n p) = refused n p
