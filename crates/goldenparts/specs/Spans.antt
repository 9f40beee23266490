-- No export and no promise rests on this page.
-- No promise rests on this page.
-- A golden's two parts as numbers: where each starts in the file, and its size.
use Rattle.std.specs.Prelude.{ℕ, ◌+◌, ◌≤◌, cond, List, ltb, eqb, length, get_or, take, drop}
use Rattle.std.specs.Prelude as rust
use Rattle.std.proofs.Math.Option.{Option, none, some}
use Rattle.taggedfields.specs.Looking.{size_in}
use Rattle.grammar.specs.Reading.{Answer, gives, stops}
use Rattle.goldenparts.specs.Forms.{Part, Golden}
use Rattle.taggedfields.specs.declared.Span.{Span}
use Rattle.goldenparts.specs.declared.Spans.{Spans}

abbrev pub span_of : Part → Span
span_of p = record { start = p.start; size = length p.bytes }

abbrev pub spans_of : Golden → Spans
spans_of g = record { code = span_of g.code; result = span_of g.result }

abbrev pub spanned : Answer Golden → Answer Spans
spanned (gives g) = gives (spans_of g)
spanned (stops number place) = stops number place

-- the parts that numbers name in a file
abbrev pub part_in : List ℕ → Span → Part
part_in file s = record { start = s.start; bytes = take s.size (drop s.start file) }

abbrev pub golden_in : List ℕ → Spans → Golden
golden_in file s = record { code = part_in file s.code; result = part_in file s.result }

-- the numbers name parts of a file of so many bytes, and are no larger than an input
pub record Standing (len : ℕ) (s : Spans) : Type 0 where
  pub code_in : s.code.start + s.code.size ≤ len
  pub result_in : s.result.start + s.result.size ≤ len
  pub code_start : s.code.start ≤ 16777216
  pub code-size : s.code.size ≤ 16777216
  pub result_start : s.result.start ≤ 16777216
  pub result-size : s.result.size ≤ 16777216

-- so of a golden that is taken apart
abbrev pub StandingIn : ℕ → Answer Spans → Type 0
StandingIn len (gives s) = Standing len s
StandingIn len (stops number place) = Unit {0}

-- parts that are there or not, and that their numbers name parts of the file
abbrev pub spans_if : Option Golden → rust.Option Spans
spans_if none = rust.None
spans_if (some g) = rust.Some (spans_of g)

abbrev pub StandingIf : ℕ → rust.Option Spans → Type 0
StandingIf len rust.None = Unit {0}
StandingIf len (rust.Some s) = Standing len s

-- the place behind the field at a place, where one of this tag stands there
abbrev pub behind_field : List ℕ → ℕ → ℕ → rust.Option ℕ
behind_field file at tag = cond (ltb at (length file)) (cond (eqb (get_or file at 0) tag) (rust.Some (at + 3 + size_in file at)) rust.None) rust.None
