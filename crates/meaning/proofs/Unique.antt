-- A node means one value at most: any valuation that goes by the shapes that P sees gives it, with allowance enough. Of the stores that a
-- writer is lent that valuation is `value_of`, and what it gives the node means. Assumes nothing.
use mathlib.Core.Path.{◌≡◌, refl, sym, ap, ap₂, ◌∙◌}
use Prim.Native.Nat.{ℕ, zero, suc, ◌≤◌, max}
use native.Mathlib.Omega.{arith}
use mathlib.Core.Option.{Option, some}
use mathlib.Core.List.{List}
use lib.ListN.{take, drop}
use Rattle.grammar.specs.Steps.{line_part}
use Rattle.grammar.specs.Record.{Tables}
use Rattle.grammar.proofs.Tests.{same_some}
use Rattle.writing.specs.Canonical.{shown_line}
use Rattle.writing.specs.Shape.{Shape}
use Rattle.meaning.specs.Value.{Value, Values, nil, more, single, integer, float, complex, bytes, text, sequence, slice, dict, code}
use Rattle.meaning.specs.Extent.{depth_of, depth_all}
use Rattle.meaning.specs.Meaning.{put, all_of, holding, code_of, shaped, looked_as, nowhere, value_of}
use Rattle.meaning.proofs.Means.{Sees, Means, MeanAll}
use Rattle.meaning.proofs.Emits.{InTables}

-- A valuation that goes by the shapes that P sees.
pub record ValuesBy (P : Sees) (val : ℕ → ℕ → Option Value) : Type 0 where
  pub one : (n : ℕ) (kids : List ℕ) (sh : Shape) → P n kids sh → val 1 n ≡ shaped (val 0) (val 0) sh
  pub more_than_one : (a n : ℕ) (kids : List ℕ) (sh : Shape) → P n kids sh → val (suc (suc a)) n ≡ shaped (val (suc a)) (val a) sh

module _ (P : Sees) (val : ℕ → ℕ → Option Value) (by : ValuesBy P val) where
  mutual
    unfolding Means depth_of all_of

    pub means-value : (v : Value) (n a : ℕ) → Means P n v → depth_of v ≤ a → val a n ≡ some v
    means-value (single letter) n zero m h = absurd (omega arith)
    means-value (single letter) n (suc zero) m h = by.one n m.0 _ m.1
    means-value (single letter) n (suc (suc a)) m h = by.more_than_one a n m.0 _ m.1
    means-value (integer z) n zero m h = absurd (omega arith)
    means-value (integer z) n (suc zero) m h = by.one n m.0 _ m.1
    means-value (integer z) n (suc (suc a)) m h = by.more_than_one a n m.0 _ m.1
    means-value (float bits) n zero m h = absurd (omega arith)
    means-value (float bits) n (suc zero) m h = by.one n m.0 _ m.1
    means-value (float bits) n (suc (suc a)) m h = by.more_than_one a n m.0 _ m.1
    means-value (complex real imaginary) n zero m h = absurd (omega arith)
    means-value (complex real imaginary) n (suc zero) m h = by.one n m.0 _ m.1
    means-value (complex real imaginary) n (suc (suc a)) m h = by.more_than_one a n m.0 _ m.1
    means-value (bytes contents) n zero m h = absurd (omega arith)
    means-value (bytes contents) n (suc zero) m h = by.one n m.0 _ m.1
    means-value (bytes contents) n (suc (suc a)) m h = by.more_than_one a n m.0 _ m.1
    means-value (text contents) n zero m h = absurd (omega arith)
    means-value (text contents) n (suc zero) m h = by.one n m.0 _ m.1
    means-value (text contents) n (suc (suc a)) m h = by.more_than_one a n m.0 _ m.1
    means-value (sequence letter vs) n zero m h = absurd (omega arith)
    means-value (sequence letter vs) n (suc zero) m h = by.one n m.0 _ m.1 ∙ ap (holding (sequence letter)) (mean_values vs m.0 0 m.2 (omega arith))
    means-value (sequence letter vs) n (suc (suc a)) m h = by.more_than_one a n m.0 _ m.1 ∙ ap (holding (sequence letter)) (mean_values vs m.0 (suc a) m.2 (omega arith))
    means-value (slice vs) n zero m h = absurd (omega arith)
    means-value (slice vs) n (suc zero) m h = by.one n m.0 _ m.1 ∙ ap (holding slice) (mean_values vs m.0 0 m.2 (omega arith))
    means-value (slice vs) n (suc (suc a)) m h = by.more_than_one a n m.0 _ m.1 ∙ ap (holding slice) (mean_values vs m.0 (suc a) m.2 (omega arith))
    means-value (dict vs) n zero m h = absurd (omega arith)
    means-value (dict vs) n (suc zero) m h = by.one n m.0 _ m.1 ∙ ap (holding dict) (mean_values vs m.0 0 m.2 (omega arith))
    means-value (dict vs) n (suc (suc a)) m h = by.more_than_one a n m.0 _ m.1 ∙ ap (holding dict) (mean_values vs m.0 (suc a) m.2 (omega arith))
    means-value (code numbers parts line tables) n zero m h = absurd (omega arith)
    means-value (code numbers parts line tables) n (suc zero) m h = absurd (omega arith)
    means-value (code numbers parts line tables) n (suc (suc a)) m h =
        by.more_than_one a n m.0 _ m.2
        ∙ ap₂ (code_of numbers (shown_line m.1)) (mean_values parts (take line_part m.0) a m.4 (omega arith)) (mean_values tables (drop line_part m.0) a m.5 (omega arith))
        ∙ ap (λ l. some (code numbers parts l tables)) m.3

    mean_values : (vs : Values) (kids : List ℕ) (a : ℕ) → MeanAll P kids vs → depth_all vs ≤ a → all_of (val a) kids ≡ some vs
    mean_values nil kids a m h = rw m refl
    mean_values (more v vs) kids a m h = ap (all_of (val a)) m.2 ∙ ap₂ put (means-value v m.0 a m.3 (omega arith)) (mean_values vs m.1 a m.4 (omega arith))

  pub means_one : (n : ℕ) (v w : Value) → Means P n v → Means P n w → v ≡ w
  means_one n v w p q =
      let a = max (depth_of v) (depth_of w) in
      same_some (sym (means-value v n a p (omega arith)) ∙ means-value w n a q (omega arith))

-- `value_of` goes by the record test and the shapes of the stores.
pub by_tables : (t : Tables) → ValuesBy (InTables t) (λ a n. value_of a t n)
unfolding value_of
by_tables t =
    record {
      one = λ n kids sh h. ap (looked_as nowhere nowhere t n) h.held ∙ ap (shaped nowhere nowhere) h.is;
      more_than_one = λ a n kids sh h. ap (looked_as (value_of (suc a) t) (value_of a t) t n) h.held ∙ ap (shaped (value_of (suc a) t) (value_of a t)) h.is;
    }
