-- No two results have the same numbers: what is said of a result in the documents' words is said of one result alone.
-- Assumes nothing.
use mathlib.Core.Path.{◌≡◌, ap}
use Prim.Native.Nat.{ℕ}
use Rattle.std.specs.Prelude.{Result, Ok, Err}
use Rattle.refusals.specs.Faults.{number_of, fault}
use Rattle.refusals.specs.declared.Fault.{Fault}
use Rattle.refusals.proofs.Faults.{number_of_injective}
use Rattle.grammar.specs.Reading.{Answer, gives, stops}
use Rattle.grammar.specs.Numbered.{numbered}

same_fault : (f g : Fault) → number_of f.refusal ≡ number_of g.refusal → f.place ≡ g.place → f ≡ g
same_fault f g refusal place = λ i. fault (number_of_injective refusal i) (place i)

pub numbered_injective : {A : Type 0} (r s : Result A Fault) → numbered r ≡ numbered s → r ≡ s
numbered_injective (Ok x) (Ok y) same = let e : x ≡ y = cc in ap Ok e
numbered_injective (Ok x) (Err f) same = cc
numbered_injective (Err f) (Ok y) same = cc
numbered_injective (Err f) (Err g) same =
    let number : number_of f.refusal ≡ number_of g.refusal = cc in
    let place : f.place ≡ g.place = cc in
    ap Err (same_fault f g number place)
