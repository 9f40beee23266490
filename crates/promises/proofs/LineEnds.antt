-- How the exports that answer of line tables end: locations, their structs, salvage and sources. Each by cases of the definition that its
-- contract cites, with Numbers. Assumes nothing.
use mathlib.Core.Path.{◌≡◌, refl}
use Prim.Native.Nat.{ℕ, min}
use mathlib.Core.Bool.{Bool, true, false}
use mathlib.Core.List.{List}
use native.Mathlib.Omega.{arith}
use lib.Dec.{ltb}
use lib.ListN.{length, replicate}
use Rattle.std.specs.Prelude.{Ok}
use Rattle.refusals.specs.Numbers.{accepted, input_too_long, no_room}
use Rattle.refusals.specs.Limits.{most_bytes}
use Rattle.refusals.specs.Faults.{number_of}
use Rattle.refusals.proofs.Faults.{number_in_table}
use Rattle.std.specs.Prelude.{Ok}
use Rattle.lineentry.specs.declared.Location.{Location}
use Rattle.linetable.specs.Walk as table
use Rattle.linetable.specs.Answer.{answer, records_of, locations_of, blank}
use Rattle.salvage.specs.Salvage.{salvaged, Account, salvage}
use Rattle.salvage.specs.Repair.{listed, repair}
use Rattle.sources.specs.declared.Counts.{Counts}
use Rattle.sources.specs.Marks.{Marks, marked, denied, counts_of, answer_of, bytes_of}
use Rattle.sillgarland.specs.Locations.{located_struct}
use Rattle.sillgarland.specs.Salvage.{unsalvaged, salvaged_struct}
use Rattle.sillgarland.specs.Sources.{sourced_struct}
use Rattle.sillgarland.specs.declared.locations.SillLocated.{SillLocated}
use Rattle.sillgarland.specs.declared.repairs.SillSalvaged.{SillSalvaged}
use Rattle.sillgarland.specs.declared.origins.SillSourced.{SillSourced}
use Rattle.promises.specs.Demand1.{InTable, Ends, answers, refuses, Zero, LocateEnds}
use Rattle.promises.proofs.Numbers.{TabledLines}

pub locate_ends : (x : table.Reading) → TabledLines x → (lent left : List ℕ) (r : SillLocated) → r ≡ located_struct (answer x) → left ≡ records_of (length lent) x → LocateEnds r (Zero lent left)
unfolding records_of
locate_ends (table.done at k whole) t lent left r e h = answers (k, whole) e
locate_ends (table.refused n p) t lent left r e h = refuses n p t e h

pub locations_end : (x : table.Reading) → TabledLines x → (flat left : List ℕ) (out placed : List Location) (r : SillLocated)
    → r ≡ located_struct (answer x) → left ≡ records_of (length flat) x → placed ≡ locations_of (length out) x
    → LocateEnds r (Zero flat left × (placed ≡ replicate (length out) blank))
unfolding records_of locations_of
locations_end (table.done at k whole) t flat left out placed r e h h' = answers (k, whole) e
locations_end (table.refused n p) t flat left out placed r e h h' = refuses n p t e (h, h')

pub salvage-ends : (s : List ℕ) (first count : ℕ) (lent left : List ℕ) (r : SillSalvaged) → r ≡ salvaged_struct (repair s first count (length lent)).0 → left ≡ (repair s first count (length lent)).1
    → Ends r (λ (d : ℕ × Account). salvaged_struct (Ok (listed d.0 d.1))) unsalvaged (Zero lent left)
unfolding repair
salvage-ends s first count lent left r e h =
    go (ltb most_bytes (length s)) (ltb most_bytes (length (salvaged s first count))) (ltb (length lent) (length (salvaged s first count))) refl refl refl e h
  where
    go : (t u v : Bool) → ltb most_bytes (length s) ≡ t → ltb most_bytes (length (salvaged s first count)) ≡ u → ltb (length lent) (length (salvaged s first count)) ≡ v
        → r ≡ salvaged_struct (repair s first count (length lent)).0 → left ≡ (repair s first count (length lent)).1
        → Ends r (λ (d : ℕ × Account). salvaged_struct (Ok (listed d.0 d.1))) unsalvaged (Zero lent left)
    go true u v x y z e h = refuses input_too_long 0 (omega arith, omega arith) (rw x at e) (rw x at h)
    go false true v x y z e h = refuses input_too_long 0 (omega arith, omega arith) (rw (x, y) at e) (rw (x, y) at h)
    go false false true x y z e h = refuses no_room (min (length lent) 4294967295) (omega arith, omega arith) (rw (x, y, z) at e) (rw (x, y, z) at h)
    go false false false x y z e h = answers (length (salvaged s first count), salvage s first count) (rw (x, y, z) at e)

pub sources_end : (m : Marks) → (lent left : List ℕ) (r : SillSourced) → r ≡ sourced_struct (answer_of m) → left ≡ bytes_of (length lent) m
    → Ends r (λ (d : Counts). sourced_struct (Ok d)) (λ number place. record { refusal = number; place = place; from_entries = 0; with_line = 0; with_columns = 0; sure = 0 }) (Zero lent left)
unfolding bytes_of
sources_end (marked bytes) lent left r e h = answers (counts_of bytes) e
sources_end (denied why place) lent left r e h = refuses (number_of why) place (number_in_table why) e h
