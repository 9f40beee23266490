-- 01, 'Locals, numbers and locations': "how many came from entries", said without the walk: the locations that a table's entries give, one an
-- instruction. `proofs/Entered` shows that these are the walk's, and that their number is the one that is answered.
use Rattle.std.specs.Prelude.{◌≡◌, List, [], ◌++◌, ℕ, ◌+◌, ◌<◌, replicate}
use Rattle.lineentry.specs.declared.Location.{Location}
use Rattle.lineentry.specs.declared.Span.{Span}
use Rattle.lineentry.specs.declared.Entry.TheVariants.{Covers, Stop}
use Rattle.lineentry.specs.Entry.{entry_at}

-- From the place p on, where the line so far is `line`, with so many instructions to place. "Reading ends once every instruction is placed";
-- "a first byte without 0x80 stops"; an entry gives its location to its instructions, and to those that are left where it has more.
pub data FromEntries (s : List ℕ) : ℕ → ℕ → ℕ → List Location → Type 0 where
  placed : {line p : ℕ} → FromEntries s line p 0 []
  stop : {line p left : ℕ} → entry_at s line p ≡ Stop → FromEntries s line p left []
  entry : {line p left : ℕ} {ls : List Location} (e : Span) → entry_at s line p ≡ Covers e
      → FromEntries s e.line e.next left ls → FromEntries s line p (e.instructions + left) (replicate e.instructions e.location ++ ls)
  beyond : {line p left : ℕ} (e : Span) → entry_at s line p ≡ Covers e → left < e.instructions → FromEntries s line p left (replicate left e.location)
