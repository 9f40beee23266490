-- Small stores by computing. Assumes nothing.
use mathlib.Core.Path.{◌≡◌, refl}
use Prim.Native.Nat.{ℕ}
use mathlib.Core.List.{List, [], ◌∷◌}
use Rattle.clearing.specs.Lent.{padded}
use Rattle.keepvisit.specs.Visit.{stores, bad, visited, member, linked, children_of, chains, fresh, visit, visit_from, place_in}
use Rattle.keepmove.specs.Moved.{moved_nodes, relinked, moved_entries, nodes_after, entries_after}

-- Node 2 has the children 1, 3 and 1 again; node 1 has none; node 3 has itself; node 0 is not reached. The chain of 2 is 4, 0, 2.
abbrev nodes : List ℕ
nodes =
    9 ∷ 9 ∷ 9 ∷ 1 ∷ 1 ∷ 9 ∷ 9
    ∷ 1 ∷ 11 ∷ 12 ∷ 4294967295 ∷ 0 ∷ 15 ∷ 16
    ∷ 2 ∷ 21 ∷ 22 ∷ 4 ∷ 3 ∷ 25 ∷ 26
    ∷ 3 ∷ 31 ∷ 32 ∷ 3 ∷ 1 ∷ 35 ∷ 36
    ∷ []

abbrev entries : List ℕ
entries = 3 ∷ 2 ∷ 7 ∷ 7 ∷ 1 ∷ 77 ∷ 3 ∷ 88 ∷ 1 ∷ 0 ∷ []

order : visit_from (stores nodes entries 4 5) 2 ≡ visited (2 ∷ 1 ∷ 3 ∷ [])
unfolding visit member linked children_of chains fresh
order = refl

moved_nodes_lem : nodes_after nodes (2 ∷ 1 ∷ 3 ∷ [])
    ≡ 2 ∷ 21 ∷ 22 ∷ 0 ∷ 3 ∷ 25 ∷ 26
    ∷ 1 ∷ 11 ∷ 12 ∷ 4294967295 ∷ 0 ∷ 15 ∷ 16
    ∷ 3 ∷ 31 ∷ 32 ∷ 3 ∷ 1 ∷ 35 ∷ 36
    ∷ 0 ∷ 0 ∷ 0 ∷ 0 ∷ 0 ∷ 0 ∷ 0
    ∷ []
unfolding moved_nodes padded
moved_nodes_lem = refl

moved_entries_lem : entries_after (stores nodes entries 4 5) (2 ∷ 1 ∷ 3 ∷ []) ≡ 1 ∷ 1 ∷ 2 ∷ 2 ∷ 1 ∷ 4294967295 ∷ 2 ∷ 4294967295 ∷ 0 ∷ 0 ∷ []
unfolding moved_entries relinked place_in linked children_of padded
moved_entries_lem = refl

-- an entry met twice, a child beyond those used, a chain beyond those used
met-twice : visit_from (stores nodes (3 ∷ 4 ∷ 7 ∷ 7 ∷ 1 ∷ 77 ∷ 3 ∷ 88 ∷ 1 ∷ 0 ∷ []) 4 5) 2 ≡ bad 2
unfolding visit member linked children_of chains fresh
met-twice = refl

no_child : visit_from (stores nodes entries 3 5) 2 ≡ bad 3
unfolding visit member linked children_of chains fresh
no_child = refl

no_entry_lem : visit_from (stores nodes entries 4 3) 3 ≡ bad 3
unfolding visit member linked children_of chains fresh
no_entry_lem = refl
