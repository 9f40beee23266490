-- One answer for each call of the functions of `writecheck`: the answer, by an equation; of the record test, since a node
-- that holds its children is not faulty.
use mathlib.Core.Path.{◌≡◌, refl, sym, ap}
use Prim.Native.Nat.{ℕ}
use mathlib.Core.Bool.{Bool, true, false}
use native.Mathlib.Omega.{arith}
use Rattle.grammar.specs.Record.{Tables, Looked, holds, faulty}
use Rattle.writecheck.specs.Looking.{Looks}
use Rattle.writecheck.proofs as writecheck
use Rattle.writecheck.specs.contracts as writecheck_contracts
use Rattle.agreement.specs.Agreement.{Agree}
use Rattle.agreement.proofs.Same.{one}

-- a node holds its children, or is faulty, and not both
abbrev is_held : Looked → ℕ
is_held (holds kids) = 1
is_held (faulty place) = 0

looks_one : (t : Tables) (n : ℕ) (r r' : Bool) → Looks t n r → Looks t n r' → r ≡ r'
looks_one t n true true p q = refl
looks_one t n true false p q = let z : ◌≡◌ {A = ℕ} 1 0 = ap is_held (one (sym p.holds-kids) (sym q)) in absurd (omega arith)
looks_one t n false true p q = let z : ◌≡◌ {A = ℕ} 0 1 = ap is_held (one (sym p) (sym q.holds-kids)) in absurd (omega arith)
looks_one t n false false p q = refl

pub part_at_agrees : Agree writecheck_contracts.part_at.ended writecheck.part_at.Reads.Asked writecheck.part_at.Reads.Learnt
part_at_agrees κs a asked r r' ws ws' p p' = (one p p', refl)

pub look-agrees : Agree writecheck_contracts.look.ended writecheck.look.Reads.Asked writecheck.look.Reads.Learnt
look-agrees κs a asked r r' ws ws' p p' = (looks_one _ _ r r' p p', refl)
