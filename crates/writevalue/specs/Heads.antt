-- No export and no promise rests on this page.
-- What the parts of the writer of values answer: the front of a node, and a node that is opened. 01, 'Writing it back': "Node by node in writing
-- order", "its own bytes as they come".
use Rattle.std.specs.Prelude.{◌≡◌, ℕ, ◌+◌, ◌-◌, ◌≤◌, Bool, cond, List, ◌∷◌, length, eqb, Result, Ok, Err}
use Rattle.grammar.specs.LetterNames.{float_letter}
use Rattle.grammar.specs.Letters.{Class, codes, class_of}
use Rattle.grammar.specs.Fields.{le32, le64}
use Rattle.grammar.specs.State.{Node}
use Rattle.grammar.specs.Record.{Tables, node_of}
use Rattle.writing.specs.Writing.{Writing, ended, emit, then, each}
use Rattle.writing.specs.Canonical.{bytes64, integer_bytes, of_bits}
use Rattle.writing.specs.Shape.{classed}
use Rattle.writing.specs.Steps.{shaped, writing, parted}
use Rattle.output.specs.Puts.{Wrote, Puts}
use Rattle.writecheck.specs.Looking.{Held}
use Rattle.underway.specs.Onward.{Onward}
use Rattle.underway.specs.Rows.{row_of_node, closed, line_of, out_of_levels}
use Rattle.refusals.specs.declared.Fault.{Fault}
use Rattle.writevalue.specs.declared.Opened.{Opened}
use Rattle.writevalue.specs.declared.Opened.TheVariants as opened

-- one field of eight bytes: `g` is a float, which is copied, and `I` a whole number
abbrev pub eight_at : List ℕ → (letter place : ℕ) → Writing
eight_at s letter place =
    emit (cond (eqb letter float_letter) (float_letter ∷ bytes64 (le64 s place)) (integer_bytes (of_bits 9223372036854775808 (le64 s place)))) ended

-- a put's answer, and what is to come after it
abbrev pub whole_of : Wrote → Result Opened Fault
whole_of (Ok a) = Ok (opened.Done a)
whole_of (Err stop) = Err stop

abbrev pub row_of : Bool → Wrote → Result Opened Fault
row_of pairs (Ok a) = Ok (opened.Row a pairs)
row_of pairs (Err stop) = Err stop

abbrev pub parts_of : Wrote → Result Opened Fault
parts_of (Ok a) = Ok (opened.Parts a)
parts_of (Err stop) = Err stop

-- What stands in front of the children, which are so many, and are written by f, or as parts by g.
abbrev pub FrontAs : (f : ℕ → Writing) (g : ℕ → List ℕ → Writing) → (s : List ℕ) → Node → List ℕ → Class → (at : ℕ) → (before : List ℕ) → Result Opened Fault → (after : List ℕ) → Type 0
FrontAs f g s n kids class at o (Err stop) o' = Puts (shaped f g (classed s n kids class)) at o (Err stop) o'
FrontAs f g s n kids class at o (Ok (opened.Done a)) o' = Puts (shaped f g (classed s n kids class)) at o (Ok a) o'
FrontAs f g s n kids class at o (Ok (opened.Row a pairs)) o' = Onward o at (shaped f g (classed s n kids class)) o' a (then (each f kids) (closed pairs))
FrontAs f g s n kids class at o (Ok (opened.Parts a)) o' = Onward o at (shaped f g (classed s n kids class)) o' a (g (le32 s (n.place + n.size)) kids) × (class ≡ codes)

pub record Fronts (s : List ℕ) (n : Node) (class : Class) (at : ℕ) (o : List ℕ) (r : Result Opened Fault) (o' : List ℕ) : Type 0 where
  pub tells : (f : ℕ → Writing) (g : ℕ → List ℕ → Writing) (kids : List ℕ) → length kids ≡ n.count → FrontAs f g s n kids class at o r o'

-- a code that was tested, with all its parts
pub record Coded (t : Tables) (n : ℕ) : Type 0 where
  pub code : class_of (node_of t n).letter ≡ codes
  pub held : Held t n

-- A node that is opened: refused, whole, or with its row or its parts still to come.
abbrev pub HeadAs : Tables → (allowance node at : ℕ) → (before : List ℕ) → Result Opened Fault → (after : List ℕ) → Type 0
HeadAs t a n at o (Err stop) o' = Puts (writing a t n) at o (Err stop) o'
HeadAs t a n at o (Ok (opened.Done p)) o' = Puts (writing a t n) at o (Ok p) o'
HeadAs t a n at o (Ok (opened.Row p pairs)) o' =
    Onward o at (writing a t n) o' p (then (each (writing (a - 1) t) (row_of_node t n)) (closed pairs)) × (1 ≤ a) × Held t n
HeadAs t a n at o (Ok (opened.Parts p)) o' =
    Onward o at (writing a t n) o' p (parted t (a - 2) (writing (a - 2) t) (line_of t n) (row_of_node t n)) × (2 ≤ a) × Coded t n

pub record Heads (t : Tables) (a n at : ℕ) (o : List ℕ) (r : Result Opened Fault) (o' : List ℕ) : Type 0 where
  pub same : length o' ≡ length o
  pub stands : HeadAs t a n at o r o'

-- whether levels are out, which neither the input nor the entries tell
pub record Levels (nodes : List ℕ) (used allowance node : ℕ) (r : Bool) : Type 0 where
  pub tells : (t : Tables) → t.nodes ≡ nodes → t.used_nodes ≡ used → r ≡ out_of_levels t allowance node
