-- No export and no promise rests on this page.
-- A node without children whose record is sound is written at once: which of the common kinds it is, and its bytes; and a row of
-- children as far as they are such leaves. Nothing is said of a node that is left to the writer of values.
use Rattle.std.specs.Prelude.{◌≡◌, ℕ, ◌+◌, ◌-◌, ◌≤◌, Bool, true, false, List, ◌∷◌, length, Option, None, Some, Result, Ok, Err}
use Rattle.grammar.specs.LetterNames.{int_letter, unicode_letter}
use Rattle.grammar.specs.Letters.{codes, class_of}
use Rattle.grammar.specs.Fields.{contents}
use Rattle.grammar.specs.State.{Node}
use Rattle.grammar.specs.Record.{Tables, sound, chain}
use Rattle.writing.specs.Writing.{Writing, ended, emit, each}
use Rattle.writing.specs.Canonical.{sized}
use Rattle.writing.specs.Shape.{classed}
use Rattle.writing.specs.Steps.{shaped, writing}
use Rattle.writecheck.specs.declared.Used.{Used}
use Rattle.output.specs.Puts.{Puts}
use Rattle.chains.specs.Chained.{is_some}
use Rattle.writecheck.specs.Looking.{lent}
use Rattle.underway.specs.Onward.{Onward}
use Rattle.underway.specs.Rows.{kids_from}
use Rattle.writeleaves.specs.declared.Leaf.{Leaf}
use Rattle.writeleaves.specs.declared.Leaf.TheVariants as leaf
use Rattle.writeleaves.specs.declared.Rowed.{Rowed}
use Rattle.refusals.specs.declared.Fault.{Fault}

-- a sound record without children, which is written as w
pub record Leafed (s : List ℕ) (n : Node) (w : Writing) : Type 0 where
  pub sounds : sound s n ≡ true
  pub childless : n.count ≡ 0
  pub no_code : class_of n.letter ≡ codes → ⊥
  pub writes : (f : ℕ → Writing) (g : ℕ → List ℕ → Writing) (kids : List ℕ) → shaped f g (classed s n kids (class_of n.letter)) ≡ w

-- the bytes of each kind: an integer of four bytes; bytes or a string, by their letter
abbrev pub four_at : List ℕ → (place : ℕ) → Writing
four_at s place = emit (int_letter ∷ contents s place 4) ended

abbrev pub sized_at : List ℕ → (letter place size : ℕ) → Writing
sized_at s letter place size = emit (sized letter (contents s place size)) ended

abbrev pub text_if : Bool → (place size : ℕ) → Option Leaf
text_if true place size = Some (leaf.Sized unicode_letter place size)
text_if false place size = None

abbrev pub LeafIs : List ℕ → Node → Option Leaf → Type 0
LeafIs s n None = Unit
LeafIs s n (Some (leaf.Four place)) = Leafed s n (four_at s place) × (place + 4 ≤ length s)
LeafIs s n (Some (leaf.Sized letter place size)) = Leafed s n (sized_at s letter place size) × (place + size ≤ length s)

-- the same of a node of the stores, with the levels that are left
abbrev pub LeafAt : Tables → (allowance node : ℕ) → Option Leaf → Type 0
LeafAt t a n None = Unit
LeafAt t a n (Some (leaf.Four place)) = (writing a t n ≡ four_at t.input place) × (place + 4 ≤ length t.input)
LeafAt t a n (Some (leaf.Sized letter place size)) = (writing a t n ≡ sized_at t.input letter place size) × (place + size ≤ length t.input)

-- entries are not asked
pub record Leaves (s nodes : List ℕ) (used : Used) (a n : ℕ) (r : Option Leaf) : Type 0 where
  pub tells : (entries : List ℕ) → LeafAt (lent s nodes entries used) a n r

-- A leaf is written as the value is up to its end, or it is left and nothing is written.
abbrev pub Led : Type 0
Led = Result (Option ℕ) Fault

abbrev pub LeadAs : Tables → (allowance node at : ℕ) → (before : List ℕ) → Led → (after : List ℕ) → Type 0
LeadAs t a n at o (Ok (Some p)) o' = Puts (writing a t n) at o (Ok p) o'
LeadAs t a n at o (Err stop) o' = Puts (writing a t n) at o (Err stop) o'
LeadAs t a n at o (Ok None) o' = o' ≡ o

pub record Leads (s nodes : List ℕ) (used : Used) (a n at : ℕ) (o : List ℕ) (r : Led) (o' : List ℕ) : Type 0 where
  pub same : length o' ≡ length o
  pub tells : (entries : List ℕ) → LeadAs (lent s nodes entries used) a n at o r o'

-- the writing of what is left of a row of so many children, of which some are done
abbrev pub row_from : Tables → (allowance count first done : ℕ) → Writing
row_from t a count first done = each (writing a t) (kids_from t (count - done) first)

abbrev pub RowAs : Tables → (allowance count first done at : ℕ) → (before : List ℕ) → Result Rowed Fault → (after : List ℕ) → Type 0
RowAs t a count e i at o (Ok row) o' =
    Onward o at (row_from t a count e i) o' row.at (row_from t a count row.entry row.done) × (is_some (chain t (count - row.done) row.entry) ≡ true) × (i ≤ row.done) × (row.done ≤ count)
RowAs t a count e i at o (Err stop) o' = Puts (row_from t a count e i) at o (Err stop) o'

pub record Rows (t : Tables) (a count e i at : ℕ) (o : List ℕ) (r : Result Rowed Fault) (o' : List ℕ) : Type 0 where
  pub same : length o' ≡ length o
  pub stands : RowAs t a count e i at o r o'
