-- No export and no promise rests on this page.
-- A piece of one byte: what one reading of the held bytes and of it says, which calls it is made for, and what they then leave.
use Rattle.std.specs.Prelude.{◌≡◌, Bool, true, false, cond, List, [], ◌∷◌, ◌++◌, ℕ, ◌+◌, ◌-◌, ◌*◌, ◌%◌, ◌≤◌, ◌<◌, length, replicate}
use Rattle.std.proofs.lemmas.List.Edits.{sets}
use Rattle.refusals.specs.Limits.{most_bytes}
use Rattle.lineentry.specs.declared.Span.{Span}
use Rattle.lineentry.specs.declared.Entry.{Entry}
use Rattle.lineentry.specs.declared.Entry.TheVariants.{Covers}
use Rattle.lineentry.specs.Line.{shown}
use Rattle.lineentry.specs.Varint.{more}
use Rattle.lineentry.specs.Entry.{location, entry_at}
use Rattle.linetable.specs.Answer.{numbers}
use Rattle.piecestate.specs.declared.Kept.{Kept}
use Rattle.piecestate.specs.State.{going, held_in, advanced}
use Rattle.piecestate.specs.Answers.{Left, left, told}
use Rattle.bypiece.specs.declared.onebyte.Step.{Step}
use Rattle.bypiece.specs.declared.onebyte.Step.TheVariants.{Held, Whole, Other}

-- ---- what a reading says
-- bytes of the entry are missing
pub record Cut (x : Entry) : Type 0 where
  pub span : Span
  pub covers : x ≡ Covers span
  pub lacks : span.missing ≡ true

pub record CutIf (x : Entry) (r : Bool) : Type 0 where
  pub told : r ≡ true → Cut x

-- how many bytes end a number
abbrev pub lasts : List ℕ → ℕ
lasts [] = 0
lasts (b ∷ s) = cond (more b) 0 1 + lasts s

-- it is complete, and not within so many bytes
pub record Ended (x : Entry) (size : ℕ) (e : Span) : Type 0 where
  pub covers : x ≡ Covers e
  pub there : e.missing ≡ false
  pub last : size < e.next

abbrev pub Tells : Entry → ℕ → Step → Type 0
Tells x size Held = Cut x
Tells x size (Whole e) = Ended x size e
Tells x size Other = Unit {0}

-- an entry of codes 10 to 12 by its bytes, at the line that it steps to
abbrev pub line_span : ℕ → ℕ → ℕ → ℕ → Span
line_span head second byte to =
    record { instructions = head % 8 + 1; line = to; location = location (shown to) (second + 1) (shown to) (byte + 1); next = 3; missing = false }

-- ---- which calls it is made for
-- the reading goes on, instructions are to be placed, there is room for all records, and a byte more is not too many
pub record Easy (k : Kept) (room : ℕ) : Type 0 where
  pub stands : k.status ≡ going
  pub few : k.placed < k.count
  pub enough : k.count ≤ room
  pub small : k.bytes < most_bytes
  pub from : k.start ≤ k.bytes
  pub within : k.size ≤ k.bytes - k.start
  pub short : k.size < 25
  pub bits : k.line < 4294967296

pub record Eases (k : Kept) (room : ℕ) (r : Bool) : Type 0 where
  pub told : r ≡ true → Easy k room

-- the entry that the held bytes and the piece begin
abbrev pub entry_on : List ℕ → Kept → List ℕ → Entry
entry_on v k s = entry_at (held_in s k.size ++ v) k.line 0

pub record Holds (v : List ℕ) (k : Kept) (s : List ℕ) (room : ℕ) : Type 0 where
  pub one : length v ≡ 1
  pub easy : Easy k room
  pub cut : Cut (entry_on v k s)

pub record Places (v : List ℕ) (k : Kept) (s : List ℕ) (room : ℕ) (e : Span) : Type 0 where
  pub one : length v ≡ 1
  pub easy : Easy k room
  pub ends : Ended (entry_on v k s) k.size e
  pub fits : e.instructions ≤ k.count - k.placed

abbrev pub Steps : List ℕ → Kept → List ℕ → ℕ → Step → Type 0
Steps v k s room Held = Holds v k s room
Steps v k s room (Whole e) = Places v k s room e
Steps v k s room Other = Unit {0}

-- ---- what they leave
abbrev pub held_on : List ℕ → Kept → List ℕ → List ℕ
held_on v k s = advanced s k.line k.placed k.start (k.bytes + 1) going (held_in s k.size ++ v)

pub record Fits (e : Span) (k : Kept) (s rs : List ℕ) : Type 0 where
  pub numbers : 40 ≤ length s
  pub room : 4 * k.count ≤ length rs
  pub few : k.placed + e.instructions ≤ k.count
  pub small : k.bytes < most_bytes
  pub upto : k.start + e.next ≤ most_bytes

abbrev pub placed_on : Span → Kept → List ℕ → List ℕ → Left
placed_on e k s rs =
    left (told (k.placed + e.instructions) false)
    (advanced s e.line (k.placed + e.instructions) (k.start + e.next) (k.bytes + 1) going [])
    (sets rs (4 * k.placed) (numbers (replicate e.instructions e.location)))
