-- What 02's K4 promises of an index that was built holds: the sum, the search and the count over the records, put together. Assumes nothing.
use Rattle.std.proofs.Common.{◌≡◌, ℕ, zero, suc, ◌+◌, ◌-◌, ◌<◌, true, List, arith}
use Rattle.std.specs.Prelude.{Some}
use Rattle.startindex.specs.Starts.{is_start, starts_in, kth_start}
use Rattle.starts.specs.Promised.{Promised}
use Rattle.starts.proofs.Built.{before-counts}
use Rattle.starts.proofs.Kth.{kth_zero, kth-inverts, kth-reaches, kth-lacks}
use Rattle.starts.proofs.Found.{kth-finds}

inverts : (rs : List ℕ) (count k p : ℕ) → kth_start rs 0 count k ≡ Some p → (p < count) × (is_start rs p ≡ true) × (starts_in rs 0 p + 1 ≡ k)
inverts rs count zero p e = let z : ◌≡◌ {A = ℕ} 0 1 = cc (kth_zero rs 0 count) in absurd (omega arith)
inverts rs count (suc k) p e =
    let i = kth-inverts rs count 0 (suc k) p (omega arith) e in
    let d : p - 0 ≡ p = omega arith in
    (omega (arith, i.1), i.2, rw d at i.3)

pub starts_keep_their_promises : Promised
starts_keep_their_promises =
    record {
      counts = before-counts;
      finds = kth-finds;
      inverts = inverts;
      reaches = kth-reaches;
      lacks = λ rs count k e h. kth-lacks rs 0 count k e h;
      never = λ rs count. kth_zero rs 0 count;
    }
