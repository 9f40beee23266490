-- Demand 2's location tables, over the calls of the three exports that locate: `sill_locate`, `sill_locate_node`, `sill_locations`. A table that
-- was cut short is told, every instruction whose line is not from the table is counted out, and a record is the same in either form.
use Rattle.std.specs.Prelude.{◌≡◌, ℕ, ◌+◌, ◌-◌, ◌*◌, ◌/◌, ◌≤◌, ◌<◌, max, min, true, ◌&&◌, List, ◌++◌, ℤ, pos, negsuc, length, replicate, take}
use seplogic.Ra.Ura.{Ura}
use base.Logic.{SProp, ent}
use prog.Memory.{Memory}
use prog.Routine.{Routine}
use types.Logic.{Logic}
use contract.Monad.{Fun, fact}
use contract.Lifetimes.{Lfts}
use Rattle.std.specs.Int.{w32}
use Rattle.std.proofs.Common.{SFits}
use denote.Triple.Entry.{Args, Res}
use denote.Triple.Clauses.{Ended, Lasts, at_exit}
use Rattle.refusals.specs.Numbers.{accepted}
use Rattle.refusals.specs.Limits.{most_bytes}
use Rattle.lineentry.specs.declared.Location.{Location}
use Rattle.lineentry.specs.Entry.{location}
use Rattle.grammar.specs.Letters.{is_bytes}
use Rattle.grammar.specs.Fields.{contents}
use Rattle.grammar.specs.State.{Node, node_at}
use Rattle.grammar.specs.Record.{sound_at}
use Rattle.linetable.specs.Answer.{first_line_of, tells, numbers, location_at}
use Rattle.linetable.specs.Complete.{Complete}
use Rattle.linetable.specs.FromEntries.{FromEntries}
use Rattle.sillgarland.specs.declared.locations.SillLocated.{SillLocated}
use Rattle.sillgarland.specs.Locations.{located_struct}
use Rattle.sillgarland.proofs as sillgarland
use Rattle.sillgarland.specs.contracts as sillgarland_contracts
use Rattle.promises.specs.Calls.{Call}

-- "the first line (1 if not positive) and column 1"
abbrev pub first_shown : ℤ → ℕ
first_shown (pos n) = max 1 n
first_shown (negsuc n) = 1

abbrev pub left_over : ℤ → Location
left_over z = location (first_shown z) 1 (first_shown z) 1

-- "Added: how many came from entries": as many as the entries give locations to, in whose records these stand; "Instructions left over take
-- the first line (1 if not positive) and column 1", each from there on.
pub record Records (s : List ℕ) (z : ℤ) (count from_entries_here : ℕ) (records : List ℕ) : Type 0 where
  pub given : List Location
  pub by_entries : FromEntries s (first_line_of z) 0 count given
  pub counted : length given ≡ from_entries_here
  pub no_more : from_entries_here ≤ count
  pub holds : take (4 * count) records ≡ numbers (given ++ replicate (count - from_entries_here) (left_over z))
  pub from-there_on : (i : ℕ) → from_entries_here ≤ i → i < count → location_at records i ≡ left_over z

-- What an answer tells of a table, its first line and its instructions, and what the records then hold. "whole: every byte used, none missing,
-- no stop, lengths summing to the instruction count", which is `Complete`: told of such a table alone, and, wherever it can be read and the
-- records fit, of every such table. That the first line is a number of 32 bits is what its type says.
pub record Told (Fits : Type 0) (s : List ℕ) (z : ℤ) (count : ℕ) (r : SillLocated) (records : List ℕ) : Type 0 where
  pub from_entries : SFits w32 z → r.refusal ≡ accepted → Records s z count r.from_entries records
  pub told-whole : r.whole ≡ 1 → (r.refusal ≡ accepted) × (r.from_entries ≡ count) × Complete s (first_line_of z) 0 count
  pub whole_told_lem : Fits → Complete s (first_line_of z) 0 count → r ≡ located_struct (tells count true)

-- The slice of structs holds the same numbers.
abbrev pub SameNumbers : ℕ → SillLocated → List ℕ → List Location → Type 0
SameNumbers count r flat out = r.refusal ≡ accepted → (length (take count out) ≡ count) × (numbers (take count out) ≡ take (4 * count) flat)

-- `sill_locate`
abbrev pub Locate : Type 0
Locate = Call sillgarland_contracts.locations.sill_locate.ended sillgarland.locations.sill_locate.Reads.Asked sillgarland.locations.sill_locate.Reads.Learnt

abbrev pub LocateTells : Locate → Type 0
LocateTells c =
    let a = c.args in
    let table = a.0.now in
    let count = a.1.1.0 in
    Told ((length table ≤ most_bytes) × (count ≤ length a.1.1.1.0.now / 4)) table a.1.0 count c.result c.last.1.1.1.0

-- `sill_locate_node`: the table is a sound bytes node's contents
abbrev pub LocateNode : Type 0
LocateNode = Call sillgarland_contracts.leaves.sill_locate_node.ended sillgarland.leaves.sill_locate_node.Reads.Asked sillgarland.leaves.sill_locate_node.Reads.Learnt

abbrev pub LocateNodeTells : LocateNode → Type 0
LocateNodeTells c =
    let a = c.args in
    let input = a.0.now in
    let nodes = a.1.0.now in
    let used = a.1.1.0 in
    let n = a.1.1.1.0 in
    let b = a.1.1.1.1 in
    let node : Node = node_at nodes n in
    let count = b.1.0 in
    Told ((length input ≤ most_bytes) × ((sound_at input nodes used n && is_bytes node.letter) ≡ true) × (count ≤ length b.1.1.0.now / 4))
    (contents input node.place node.size) b.0 count c.result c.last.1.1.1.1.1.1.0

-- `sill_locations`, of which the kit has the clauses alone (specs/Agreement): in every model
abbrev pub locations : Ended
locations = sillgarland_contracts.locations.sill_locations.ended

abbrev pub LocationsTell : (κs : Lfts locations.signature.lifetimes) (a : Args locations.signature κs) → Res locations.signature κs → Lasts locations κs a → Type 0
LocationsTell κs a r ws =
    let table = a.0.now in
    let count = a.1.1.0 in
    let b = a.1.1.1 in
    Told ((length table ≤ most_bytes) × (count ≤ min (length b.0.now / 4) (length b.1.0.now))) table a.1.0 count r ws.1.1.1.0
    × SameNumbers count r ws.1.1.1.0 ws.1.1.1.1.0

pub record LinesTold : Type 2 where
  pub sill_locate : (c : Locate) → LocateTells c
  pub sill_locate_node : (c : LocateNode) → LocateNodeTells c
  pub sill_locations : (M : Type 1) (𝓤 : Ura M) (𝓛 : Logic 𝓤) (mem : Memory → SProp 𝓤) (run : Routine → Fun 𝓤)
      (κs : Lfts locations.signature.lifetimes) (a : Args locations.signature κs) (g : (sillgarland_contracts.locations.sill_locations.clauses 𝓛 mem run κs a).ghost)
      (r : Res locations.signature κs) (ws : Lasts locations κs a)
      → ent 𝓤 ((sillgarland_contracts.locations.sill_locations.clauses 𝓛 mem run κs a).ensures g r (at_exit locations κs a ws)) (fact 𝓤 (LocationsTell κs a r ws))
