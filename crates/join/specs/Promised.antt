-- What 02's K12 promises of a join, each sentence a field. `proofs/Promised` has the theorem. Lines are kept plus 2^31, as everywhere.
use Rattle.std.specs.Prelude.{◌≡◌, Bool, true, List, [], ◌++◌, ℕ, ◌+◌, ◌≤◌, ◌<◌, ◌^◌, min, length, Result, Ok}
use Rattle.refusals.specs.Faults.{number_of, refused as refused_as}
use Rattle.refusals.specs.declared.Fault.{Fault}
use Rattle.refusals.specs.declared.Refusal.{Refusal}
use Rattle.refusals.specs.declared.Refusal.TheVariants.{InputTooLong, NoRoom, NotJoined}
use Rattle.refusals.specs.Limits.{most_bytes}
use Rattle.clearing.specs.Lent.{zeros, padded}
use Rattle.lineentry.specs.declared.Location.{Location}
use Rattle.linetable.specs.Walk.{done, refused, walk}
use Rattle.linetable.specs.Complete.{Complete}
use Rattle.join.specs.declared.Joined.{Joined}
use Rattle.join.specs.Whole.{line_of, told, line_told, Leaves}
use Rattle.join.specs.Join.{joins, join_of}

-- a table, its first line and how many instructions it is for
pub record Table : Type 0 where
  pub bytes : List ℕ
  pub first : ℕ
  pub count : ℕ

-- it is whole for them, by the definition of whole that does without the walk
abbrev pub Whole : Table → Type 0
Whole t = Complete t.bytes t.first 0 t.count

-- the running line that it leaves
abbrev pub leaves : Table → ℕ
leaves t = line_of t.bytes t.first t.count

-- 01's reading of it gives these locations, all from entries, and says whole; `at` is what left-over instructions would show
abbrev pub Shows : Table → List Location → Type 0
Shows t ls = (at : Location) → walk t.count t.bytes at t.first 0 t.count ≡ done ls t.count true

-- "A followed by B"
abbrev pub followed : Table → Table → Table
followed t u = record { bytes = t.bytes ++ u.bytes; first = t.first; count = t.count + u.count }

-- "the empty table over no instructions", which leaves its first line
abbrev pub nothing : ℕ → Table
nothing line = record { bytes = []; first = line; count = 0 }

-- "Take table A, whole for a instructions from line f and leaving the running line at g, and B, whole for b instructions from g."
pub record Meet (t u : Table) : Type 0 where
  pub former : Whole t
  pub lines : leaves t ≡ u.first
  pub latter : Whole u

-- Such a join is allowed up to 16 MiB together.
pub record Allowed (t u : Table) : Type 0 where
  pub short : length t.bytes + length u.bytes ≤ most_bytes
  pub meet : Meet t u

-- the call, with so much room
abbrev pub joining : Table → Table → ℕ → Result Joined Fault × List ℕ
joining t u room = join_of t.bytes t.first t.count u.bytes u.first u.count room

pub record Promised : Type 0 where
  -- "A followed by B must then give A's locations followed by B's,"
  pub shows : (t u : Table) {ls ms : List Location} → Meet t u → Shows t ls → Shows u ms → Shows (followed t u) (ls ++ ms)
  -- a table that is whole shows some locations, so that the sentence before is of every join
  pub each : (t : Table) → Whole t → (ls : List Location) × Shows t ls
  -- "and be whole for a + b." It leaves the line that B leaves.
  pub whole : (t u : Table) → Meet t u → Whole (followed t u) × (leaves (followed t u) ≡ leaves u)
  -- "Joining is associative wherever both orders are allowed": one order is allowed exactly if the other is, and then they give one table.
  pub order : (t u v : Table) → (Allowed t u × Allowed (followed t u) v → Allowed u v × Allowed t (followed u v)) × (Allowed u v × Allowed t (followed u v) → Allowed t u × Allowed (followed t u) v)
  pub associates : (t u v : Table) → followed (followed t u) v ≡ followed t (followed u v)
  -- "and the empty table over no instructions is neutral on either side." It must meet too.
  pub behind : (t : Table) → Whole t → length t.bytes ≤ most_bytes → Allowed t (nothing (leaves t)) × (followed t (nothing (leaves t)) ≡ t)
  pub ahead : (t : Table) → Whole t → length t.bytes ≤ most_bytes → Allowed (nothing t.first) t × (followed (nothing t.first) t ≡ t)
  -- a + b needs no refusal of its own: it has at most eight instructions a byte
  pub sum : (t u : Table) → Allowed t u → t.count + u.count < 2 ^ 32
  -- What the call gives: an allowed join is written where there is room; "Joins outside these conditions are refused", in the request's order.
  pub accepts : (t u : Table) (room : ℕ) → Allowed t u → length t.bytes + length u.bytes ≤ room
      → joining t u room ≡ (Ok (joins (length t.bytes + length u.bytes) (t.count + u.count) (leaves u)), padded room (followed t u).bytes)
  pub long : (t u : Table) (room : ℕ) → most_bytes < length t.bytes + length u.bytes → joining t u room ≡ (refused_as InputTooLong 0, zeros room)
  pub apart : (t u : Table) (room : ℕ) → length t.bytes + length u.bytes ≤ most_bytes → (Meet t u → ⊥) → joining t u room ≡ (refused_as NotJoined 0, zeros room)
  pub narrow : (t u : Table) (room : ℕ) → Allowed t u → room < length t.bytes + length u.bytes → joining t u room ≡ (refused_as NoRoom (min room 4294967295), zeros room)

-- What is promised of the running line: it is told where 01's walk reads the table, with the walk's whole; else the walk's refusal is.
pub record LinePromised : Type 0 where
  pub long : (s : List ℕ) (first count : ℕ) → most_bytes < length s → line_told s first count ≡ refused_as InputTooLong 0
  pub refused : (s : List ℕ) (first count : ℕ) (at : Location) {number place : ℕ} → length s ≤ most_bytes
      → walk count s at first 0 count ≡ refused number place → (why : Refusal) × (number_of why ≡ number) × (line_told s first count ≡ refused_as why place)
  pub read : (s : List ℕ) (first count : ℕ) (at : Location) {ls : List Location} {k : ℕ} {whole : Bool} → length s ≤ most_bytes
      → walk count s at first 0 count ≡ done ls k whole → (line_told s first count ≡ Ok (told whole (line_of s first count))) × Leaves s first 0 count (line_of s first count)
