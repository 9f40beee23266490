-- 01, 'Locals, numbers and locations': "whole: every byte used, none missing, no stop, lengths summing to the instruction count",
-- said without the walk: the table is a row of complete entries. `proofs/Whole` shows that this is when the answer says whole.
use Rattle.std.specs.Prelude.{◌≡◌, false, List, ℕ, ◌+◌, length}
use Rattle.lineentry.specs.declared.Span.{Span}
use Rattle.lineentry.specs.declared.Entry.TheVariants.{Covers}
use Rattle.lineentry.specs.Entry.{entry_at}

-- The table s from the place p on, where the line so far is `line`, is a row of complete entries of n instructions in all:
-- every byte to the table's end belongs to an entry, none of an entry's bytes is missing, and no entry is a stop.
pub data Complete (s : List ℕ) : ℕ → ℕ → ℕ → Type 0 where
  here : {line p : ℕ} → p ≡ length s → Complete s line p 0
  entry : {line p n : ℕ} (e : Span) → entry_at s line p ≡ Covers e → e.missing ≡ false
      → Complete s e.line e.next n → Complete s line p (e.instructions + n)
