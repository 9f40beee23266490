-- 01, 'Locals, numbers and locations': the walk over a location table, entry by entry.
-- It gives one location an instruction, how many of them came from entries, and whether the table was whole; or a refusal.
-- CPython, InternalDocs/code_objects.md, 'Source code locations': a table is a row of entries, each for as many code units as its length says,
-- and each line counts from the entry before. That document says nothing of a cut table or of a wrong total; 01 does.
use Rattle.std.specs.Prelude.{Bool, false, not, ◌&&◌, cond, List, [], ◌++◌, ℕ, zero, suc, ◌+◌, ◌-◌, length, replicate, leb, eqb}
use Rattle.refusals.specs.Numbers.{number_range}
use Rattle.lineentry.specs.declared.Location.{Location}
use Rattle.lineentry.specs.declared.Entry.{Entry}
use Rattle.lineentry.specs.declared.Entry.TheVariants.{Covers, Stop, OutOfRange}
use Rattle.lineentry.specs.Entry.{entry_at}

-- What reading comes to: the locations, how many came from entries, whole; or the refusal's number and place.
pub data Reading : Type 0 where
  done : List Location → ℕ → Bool → Reading
  refused : ℕ → ℕ → Reading

-- n instructions of an entry, before what comes after it. Whole: "none missing"
abbrev pub joined : List Location → ℕ → Bool → Reading → Reading
joined before n missing (done after k whole) = done (before ++ after) (n + k) (not missing && whole)
joined before n missing (refused number place) = refused number place

-- "Reading ends once every instruction is placed." Whole: "every byte used"
abbrev pub ended : List ℕ → ℕ → Reading
ended s p = done [] 0 (eqb p (length s))

-- "Instructions left over take the first line (1 if not positive) and column 1." Not whole: the lengths do not sum to the count.
abbrev pub left_over : Location → ℕ → Reading
left_over first left = done (replicate left first) 0 false

-- After the entry at p, with `left` instructions to place; `on` walks on from a line and a place. Where the entry has more
-- instructions than are left, those left take its location, and the table is not whole. 18 stands at the "entry start".
abbrev pub after : (ℕ → ℕ → ℕ → Reading) → Location → ℕ → ℕ → Entry → Reading
after on first p left (Covers e) =
    cond (leb e.instructions left)
    (joined (replicate e.instructions e.location) e.instructions e.missing (on e.line e.next (left - e.instructions)))
    (done (replicate left e.location) left false)
after on first p left Stop = left_over first left
after on first p left OutOfRange = refused number_range p

-- From the place p on, at the line so far, with `left` instructions to place. Each entry places one or more, so as many
-- turns as there are instructions are enough.
abbrev pub walk : ℕ → List ℕ → Location → ℕ → ℕ → ℕ → Reading
walk zero s first line p left = ended s p
walk (suc turns) s first line p left =
    cond (eqb left 0) (ended s p) (after (walk turns s first) first p left (entry_at s line p))
