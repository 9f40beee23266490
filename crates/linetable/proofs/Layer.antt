-- The layer of locations over the core: reading the core's store back gives what the definitions say the slice of locations holds.
use mathlib.Core.Path.{◌≡◌, ◌∙◌}
use mathlib.Core.List.{List, []}
use Prim.Native.Nat.{ℕ, ◌-◌, ◌/◌, min}
use native.Mathlib.Omega.{arith}
use lib.ListN.{length}
use Rattle.clearing.specs.Lent.{padded}
use Rattle.lineentry.specs.declared.Location.{Location}
use Rattle.linetable.specs.Walk.{Reading, done, refused}
use Rattle.linetable.specs.Answer.{numbers, located, records_of, locations_of, locations_from}
use Rattle.linetable.proofs.Readback.{read_back}
use Rattle.linetable.proofs.Placed.{Fits, located_fits}

layer : (n k : ℕ) (r : Reading) → Fits k r → locations_from (records_of n r) 0 k ≡ locations_of k r
unfolding records_of locations_of padded
layer n k (done ls i whole) h = read_back ls (n - length (numbers ls)) k h
layer n k (refused number place) h =
    let z : k - 0 ≡ k = omega arith in
    read_back [] n k (omega arith) ∙ rw z

-- what the slice holds after the core's store was read back
pub layered : (s : List ℕ) (first count n k : ℕ) {zs : List ℕ} {out : List Location} → zs ≡ records_of n (located s first count (min (n / 4) k)) → out ≡ locations_from zs 0 k
    → out ≡ locations_of k (located s first count (min (n / 4) k))
layered s first count n k e q = q ∙ rw e (layer n k (located s first count (min (n / 4) k)) (located_fits s first count (min (n / 4) k) k (omega arith)))
