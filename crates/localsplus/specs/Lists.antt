-- The five lists that the split writes, each by one walk over the kind bytes, in the order of 01's sentences.
-- 01, 'Locals, numbers and locations', first paragraph. No refusal stands here: `Answer` has those.
use Rattle.std.specs.Prelude.{Bool, true, cond, not, ◌&&◌, List, [], ◌∷◌, ℕ, ◌+◌, ltb, eqb, length}
use Rattle.refusals.specs.Limits.{nothing}
use Rattle.localsplus.specs.Kind.{local_bit, cell_bit, free_bit, has}

-- "The split gives positions in the name list: Local, Cell, Free, each in order." p is the position of the first name left.
unfoldable pub positions_from : ℕ → ℕ → List ℕ → List ℕ
positions_from bit p [] = []
positions_from bit p (kind ∷ kinds) =
    cond (has bit kind) (p ∷ positions_from bit (p + 1) kinds) (positions_from bit (p + 1) kinds)

abbrev pub positions : ℕ → List ℕ → List ℕ
positions bit kinds = positions_from bit 0 kinds

-- "The map holds the cell's rank, or cells + free rank, or 4,294,967,295; Free wins over Cell."
-- c is the rank of the next Cell, f is cells + the rank of the next Free.
unfoldable pub mapped : ℕ → ℕ → ℕ → ℕ
mapped c f kind = cond (has free_bit kind) f (cond (has cell_bit kind) c nothing)

-- one more if the kind has the bit
unfoldable pub counted : ℕ → ℕ → ℕ → ℕ
counted bit kind n = cond (has bit kind) (n + 1) n

unfoldable pub map_from : ℕ → ℕ → List ℕ → List ℕ
map_from c f [] = []
map_from c f (kind ∷ kinds) = mapped c f kind ∷ map_from (counted cell_bit kind c) (counted free_bit kind f) kinds

abbrev pub deref_map : List ℕ → List ℕ
deref_map kinds = map_from 0 (length (positions cell_bit kinds)) kinds

-- "An argument cell is Local and Cell at a position below" the argument sum.
unfoldable pub argument_cell : ℕ → ℕ → ℕ → Bool
argument_cell sum p kind = has local_bit kind && (has cell_bit kind && ltb p sum)

-- "the cell-to-argument list holds that position or -1", which is 4,294,967,295
unfoldable pub argument_of : ℕ → ℕ → ℕ → ℕ
argument_of sum p kind = cond (argument_cell sum p kind) p nothing

-- one number for each Cell, in order
unfoldable pub cell_args_from : ℕ → ℕ → List ℕ → List ℕ
cell_args_from sum p [] = []
cell_args_from sum p (kind ∷ kinds) =
    cond (has cell_bit kind) (argument_of sum p kind ∷ cell_args_from sum (p + 1) kinds) (cell_args_from sum (p + 1) kinds)

-- "and is absent (store zero) if all are -1"
unfoldable pub all_nothing : List ℕ → Bool
all_nothing [] = true
all_nothing (x ∷ xs) = eqb x nothing && all_nothing xs

abbrev pub present : ℕ → List ℕ → Bool
present sum kinds = not (all_nothing (cell_args_from sum 0 kinds))

abbrev pub cell_to_argument : ℕ → List ℕ → List ℕ
cell_to_argument sum kinds = cond (present sum kinds) (cell_args_from sum 0 kinds) []
