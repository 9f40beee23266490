-- What the greatest of bytes, or of parts of them, tells of whether they are ASCII. Assumes nothing.
use mathlib.Core.Path.{◌≡◌, refl}
use mathlib.Core.Bool.{Bool, true, false}
use mathlib.Core.List.{List}
use Prim.Native.Nat.{ℕ, ◌+◌, ◌-◌, ◌*◌, ◌≤◌, ◌<◌}
use native.Mathlib.Omega.{arith}
use native.Mathlib.Nat.{le_trans}
use lib.Dec.{ltb}
use lib.ListN.{length, get_or, take, drop, length-take, length-drop}
use lib.Seq.{get_or-take, get_or-drop}
use borrow.Author.Tests.{lt-ltb, ltb-true, ltb-false}
use Rattle.wtf8.specs.Ascii.{UpTo, Tells, Greatest}

-- What holds of the bytes of a part holds of them in the whole, and the other way round.
module _ (bytes : List ℕ) (start size : ℕ) {bound : ℕ} where
  pub in_whole : UpTo bound (take size (drop start bytes)) → (k : ℕ) → start ≤ k → k < start + size → k < length bytes → get_or bytes k 0 ≤ bound
  in_whole part k g l i =
      let place : start + (k - start) ≡ k = omega arith in
      rw (get_or-take size (drop start bytes) (k - start) 0 (omega arith), get_or-drop, place) at (part (k - start) (simp (length-take, length-drop) (omega arith)))

  pub in_part : UpTo bound bytes → UpTo bound (take size (drop start bytes))
  in_part all k l =
      let inside : (k < size) × (start + k < length bytes) = omega (arith, l, length-take size (drop start bytes), length-drop start bytes) in
      rw (get_or-take size (drop start bytes) k 0 inside.0, get_or-drop) (all (start + k) inside.1)

-- two truth values
pub apart : ◌≡◌ {A = Bool} false true → ⊥
apart e = let zero_is_one : ◌≡◌ {A = ℕ} 0 1 = cc in omega arith

-- by the greatest of all
pub by_greatest : {bytes : List ℕ} {most : ℕ} → Greatest bytes most → Tells bytes (ltb most 0x80)
by_greatest {bytes} {most} g =
    record {
      low = λ e k h. le_trans (g.bound k h) (omega (arith, ltb-true most 0x80 e));
      all = λ u. lt-ltb most 0x80 (omega (arith, g.least 0x7F u));
    }

-- by the first and the last bytes, which together are all
module _ {bytes : List ℕ} {block : ℕ} (all : (block ≤ length bytes) × (length bytes ≤ 2 * block)) where
  pub by_first : {most : ℕ} → Greatest (take block bytes) most → 0x80 ≤ most → Tells bytes false
  by_first g l = record { low = λ e. absurd (apart e); all = λ u. absurd (omega (arith, l, g.least 0x7F (in_part bytes 0 block u))) }

  pub by_both :
      {first last : ℕ} → Greatest (take block bytes) first → first < 0x80
      → Greatest (take (length bytes - (length bytes - block)) (drop (length bytes - block) bytes)) last → Tells bytes (ltb last 0x80)
  by_both {first} {last} f l g =
      record {
        low = λ e k i. go k i (ltb k block) refl (ltb-true last 0x80 e);
        all = λ u. lt-ltb last 0x80 (omega (arith, g.least 0x7F (in_part bytes from (length bytes - from) u)));
      }
    where
      from : ℕ
      from = length bytes - block

      go : (k : ℕ) → k < length bytes → (t : Bool) → ltb k block ≡ t → last < 0x80 → get_or bytes k 0 ≤ 0x7F
      go k i true t e = le_trans (in_whole bytes 0 block f.bound k (omega arith) (omega (arith, ltb-true k block t)) i) (omega arith)
      go k i false t e = le_trans (in_whole bytes from (length bytes - from) g.bound k (omega (arith, ltb-false k block t, all.1)) (omega arith) i) (omega arith)
