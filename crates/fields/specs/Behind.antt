-- No export and no promise rests on this page.
-- What stands behind a header, for any class that is kept, and what the code's answers say of it.
use Rattle.std.specs.Prelude.{◌≡◌, ℕ, ◌+◌, ◌≤◌, List, length, Result, Ok, Err}
use Rattle.refusals.specs.Faults.{number_of}
use Rattle.refusals.specs.declared.Fault.{Fault}
use Rattle.grammar.specs.Reading.{Answer, stops}
use Rattle.grammar.specs.Letters.{Class, refers, keeps, contains, codes, refuses}
use Rattle.grammar.specs.Fields.{Fields, Children, items, pairs, parts, span, fields, contained, code_fields}
use Rattle.fields.specs.declared.Kids.{Kids}
use Rattle.fields.specs.declared.Kids.TheVariants as kids
use Rattle.fields.specs.declared.Behind.{Behind}

-- 01, 'Reading a value': "then the fields", from the byte after the header on. A header that is no node has none: it is refused before,
-- or is a reference, of which nothing is asked here.
unfoldable pub fields_of : List ℕ → Class → ℕ → Answer Fields
fields_of s (keeps form) at = fields s form at
fields_of s (contains sort) at = contained s sort at
fields_of s codes at = code_fields s at
fields_of s refers at = span at 0 (items 0)
fields_of s (refuses number) at = stops number at

-- The code's answers in the words of the grammar.
abbrev pub children_of : Kids → Children
children_of (kids.Items count) = items count
children_of kids.Pairs = pairs
children_of kids.Parts = parts

abbrev pub behind_of : Result Behind Fault → Answer Fields
behind_of (Ok b) = span b.place b.size (children_of b.kids)
behind_of (Err f) = stops (number_of f.refusal) f.place

-- The fields lie in the input, from the byte after the header on.
abbrev pub Ahead : List ℕ → ℕ → Result Behind Fault → Type 0
Ahead s at (Ok b) = (at ≤ b.place) × (b.place + b.size ≤ length s)
Ahead s at (Err f) = Unit

pub record Reads (s : List ℕ) (class : Class) (at : ℕ) (r : Result Behind Fault) : Type 0 where
  pub ahead : Ahead s at r
  pub exact : behind_of r ≡ fields_of s class at

-- A test in front of the rest: the rest, or a refusal instead of it.
abbrev pub or_else : Result (Unit {0}) Fault → Answer Fields → Answer Fields
or_else (Ok fine) rest = rest
or_else (Err f) rest = stops (number_of f.refusal) f.place

abbrev pub Within : List ℕ → ℕ → Result (Unit {0}) Fault → Type 0
Within s end (Ok fine) = end ≤ length s
Within s end (Err f) = Unit

-- where the test is passed, the input reaches to `end`; and the test is `then` in the words of the grammar
pub record Judges (s : List ℕ) (end : ℕ) (test : Answer Fields → Answer Fields) (r : Result (Unit {0}) Fault) : Type 0 where
  pub within : Within s end r
  pub exact : (rest : Answer Fields) → or_else r rest ≡ test rest
