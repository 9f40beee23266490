-- No export and no promise rests on this page.
-- One turn of the walk as it is made: an entry with its byte; and the counts by what instructions lack, since most lack nothing.
use Rattle.std.specs.Prelude.{not, List, ℕ, ◌+◌, ◌-◌, ◌≤◌}
use Rattle.lineentry.specs.declared.Entry.{Entry}
use Rattle.lineentry.specs.declared.Entry.TheVariants.{Covers, Stop, OutOfRange}
use Rattle.lineentry.specs.Entry.{entry_at}
use Rattle.sources.specs.Source.{source_of}
use Rattle.sources.specs.Marks.{is_lined, is_spanned, is_sure, counts, share}
use Rattle.sources.specs.declared.Counts.{Counts}
use Rattle.sources.specs.declared.Mark.{Mark}
use Rattle.sources.specs.declared.Lacks.{Lacks}
use Rattle.sources.specs.declared.Turn.{Turn}
use Rattle.sources.specs.declared.Turn.TheVariants.{Gives, Stops, Refuses}

abbrev pub mark : ℕ → ℕ → ℕ → ℕ → Mark
mark n line next byte = record { instructions = n; line = line; next = next; byte = byte }

-- the entry at p, with its byte
abbrev pub turn_of : List ℕ → ℕ → Entry → Turn
turn_of s p (Covers e) = Gives (mark e.instructions e.line e.next (source_of s p e.line e.missing))
turn_of s p Stop = Stops
turn_of s p OutOfRange = Refuses

abbrev pub turn_at : List ℕ → ℕ → ℕ → Turn
turn_at s line p = turn_of s p (entry_at s line p)

-- ---- counts by what is lacking
abbrev pub lacks : ℕ → ℕ → ℕ → Lacks
lacks line columns sure = record { line = line; columns = columns; sure = sure }

-- n more instructions of one byte
abbrev pub lacking : Lacks → ℕ → ℕ → Lacks
lacking l n byte =
    lacks (l.line + share n (not (is_lined byte))) (l.columns + share n (not (is_spanned byte))) (l.sure + share n (not (is_sure byte)))

-- of i instructions no more lack what is counted
pub record Few (l : Lacks) (i : ℕ) : Type 0 where
  pub few-lines : l.line ≤ i
  pub few-columns : l.columns ≤ i
  pub few_sure : l.sure ≤ i

-- the counts of i instructions that have an entry
abbrev pub having : ℕ → Lacks → Counts
having i l = counts i (i - l.line) (i - l.columns) (i - l.sure)
