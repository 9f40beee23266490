-- An entry of an exception table, as five numbers, and stores of such entries.
-- CPython, InternalDocs/exception_handling.md, the format of the table: start, length, target, and depth with lasti; 02, K1: "four big-endian varints an
-- entry (start, length, target, depth x 2 plus the last-instruction bit)".
use Rattle.std.specs.Prelude.{ℕ, zero, suc, ◌+◌, List, [], ◌∷◌, ◌++◌, get_or}

pub record Entry : Type 0 where
  pub start : ℕ
  pub size : ℕ
  pub target : ℕ
  pub depth : ℕ
  pub last : ℕ

-- the numbers of an entry in a store, and of several one after another
abbrev pub numbers : Entry → List ℕ
numbers e = e.start ∷ e.size ∷ e.target ∷ e.depth ∷ e.last ∷ []

unfoldable pub flat : List Entry → List ℕ
flat [] = []
flat (e ∷ es) = numbers e ++ flat es

-- the entry whose numbers stand from a place of a store on, and so many of them, one after another
abbrev pub entry_in : List ℕ → ℕ → Entry
entry_in store at =
    record {
      start = get_or store at 0;
      size = get_or store (at + 1) 0;
      target = get_or store (at + 2) 0;
      depth = get_or store (at + 3) 0;
      last = get_or store (at + 4) 0;
    }

unfoldable pub entries_in : List ℕ → ℕ → ℕ → List Entry
entries_in store at zero = []
entries_in store at (suc count) = entry_in store at ∷ entries_in store (at + 5) count
