-- Going through a sequence byte by byte: what is expected after its first k bytes, and how that comes to a size or to none.
-- Every answer on one sequence is a chain of these steps. Assumes nothing.
use mathlib.Core.Path.{◌≡◌, refl, ◌∙◌}
use mathlib.Core.Bool.{Bool, true, false, cond}
use mathlib.Core.List.{List, [], ◌∷◌}
use Prim.Native.Nat.{ℕ, zero, suc, ◌+◌, ◌≤◌, ◌<◌}
use native.Mathlib.Omega.{arith}
use native.Mathlib.Numerals.{add-one}
use native.Mathlib.Nat.{add-zero}
use lib.Dec.{leb}
use lib.ListN.{length, get_or, drop, length-drop}
use lib.Seq.{drop-cons}
use borrow.Author.Tests.{lt-ltb, ne_eqb}
use Rattle.wtf8.specs.Forms.{Expected, point, trail, wrong, after_lead, after_trail, after, allows}
use Rattle.wtf8.specs.Ascii.{UpTo}
use Rattle.wtf8.specs.Sequence.{Taken, Reached, within}

-- one byte more
pub turn : (s : List ℕ) (i : ℕ) (e : Expected) → i < length s → allows (drop i s) e ≡ allows (drop (suc i) s) (after e (get_or s i 0))
unfolding allows
turn s i e h = rw (drop-cons s i 0)

-- a wrong byte is never made good
pub spoilt : (bs : List ℕ) → allows bs wrong ≡ false
unfolding allows after
spoilt [] = refl
spoilt (b ∷ bs) = spoilt bs

-- a trail with too few bytes is not well-formed
pub short : (bs : List ℕ) (low high more : ℕ) → length bs ≤ more → allows bs (trail low high more) ≡ false
unfolding allows after
short [] low high more h = refl
short (b ∷ bs) low high zero h = absurd (omega arith)
short (b ∷ bs) low high (suc more) h = go (leb low b) (leb b high) (short bs 0x80 0xBF more (omega arith))
  where
    go : (t u : Bool) → allows bs (trail 0x80 0xBF more) ≡ false → allows bs (cond t (cond u (trail 0x80 0xBF more) wrong) wrong) ≡ false
    go true true less = less
    go true false less = spoilt bs
    go false u less = spoilt bs

-- the two bounds as one test
pub after_trail_lem : (low high more b : ℕ) → after (trail low high more) b ≡ cond (within low high b) (after_trail more) wrong
unfolding after
after_trail_lem low high more b = go (leb low b) (leb b high)
  where
    go : (t u : Bool) → cond t (cond u (after_trail more) wrong) wrong ≡ cond (cond t u false) (after_trail more) wrong
    go true u = refl
    go false u = refl

-- a byte of ASCII is a code point of its own
pub ascii : {b : ℕ} → b < 0x80 → after_lead b ≡ point
unfolding after_lead
ascii {b} l = rw (lt-ltb b 0x80)

-- bytes of ASCII are well-formed
pub all_ascii : (s : List ℕ) → UpTo 0x7F s → allows s point ≡ true
unfolding allows after
all_ascii [] all = refl
all_ascii (b ∷ bs) all =
    let low : b ≤ 0x7F = all 0 (omega arith) in
    rw (ascii {b = b} (omega arith)) (all_ascii bs (λ k h. all (suc k) (omega (arith, h))))

module _ {s : List ℕ} {at : ℕ} where
  -- the first byte
  pub led : {e : Expected} → at < length s → after_lead (get_or s at 0) ≡ e → Reached s at 1 e
  unfolding after
  led h l = record { inside = omega arith; same = rw (add-one, ← l) (turn s at point h) }

  next : {k : ℕ} {e : Expected} → Reached s at k e → at + k < length s → Reached s at (suc k) (after e (get_or s (at + k) 0))
  next {k} {e} r h =
      let one_more : at + suc k ≡ suc (at + k) = omega arith in
      record { inside = omega arith; same = rw one_more (r.same ∙ turn s (at + k) e h) }

  stood :
      {k low high more : ℕ} {test : Bool} → Reached s at k (trail low high more) → at + k < length s → test ≡ within low high (get_or s (at + k) 0)
      → Reached s at (suc k) (cond test (after_trail more) wrong)
  stood {k} {low} {high} {more} r h w = rw (after_trail_lem low high more (get_or s (at + k) 0), ← w) at (next r h)

  -- a byte within its bounds
  pub on :
      {k low high more : ℕ} {test : Bool} → Reached s at k (trail low high more) → at + k < length s → test ≡ within low high (get_or s (at + k) 0)
      → test ≡ true → Reached s at (suc k) (after_trail more)
  on r h w n = rw n at (stood r h w)

  -- a byte of ASCII
  pub low : {k : ℕ} → Reached s at k point → at + k < length s → get_or s (at + k) 0 < 0x80 → Reached s at (suc k) point
  unfolding after
  low {k} r h l = rw (ascii l) at (next r h)

  -- a stretch of bytes, and a stretch after it
  pub joined : {j k : ℕ} → Reached s at j point → Reached s (at + j) k point → Reached s at (j + k) point
  joined {j} {k} r q =
      let end : at + (j + k) ≡ at + j + k = omega arith in
      record { inside = omega (arith, q.inside); same = rw end (r.same ∙ q.same) }

  -- bytes of ASCII, so many
  pub lows : (n : ℕ) → at + n ≤ length s → ((k : ℕ) → k < n → get_or s (at + k) 0 < 0x80) → Reached s at n point
  lows zero h all = record { inside = h; same = rw add-zero }
  lows (suc n) h all = low (lows n (omega arith) (λ k l. all k (omega arith))) (omega arith) (all n (omega arith))

  none : {k : ℕ} → Reached s at k wrong → Taken s at 0
  none {k} r = record { inside = omega (arith, r.inside); leaves = r.same ∙ spoilt (drop (at + k) s) }

  -- a first byte that leads nothing
  pub no_lead : at < length s → after_lead (get_or s at 0) ≡ wrong → Taken s at 0
  no_lead h l = none (led h l)

  -- a byte out of its bounds
  pub off :
      {k low high more : ℕ} {test : Bool} → Reached s at k (trail low high more) → at + k < length s → test ≡ within low high (get_or s (at + k) 0)
      → test ≡ false → Taken s at 0
  off r h w n = none (rw n at (stood r h w))

  -- the bytes end within the sequence
  pub cut : {k low high more : ℕ} → Reached s at k (trail low high more) → length s ≤ at + k + more → Taken s at 0
  cut {k} {low} {high} {more} r h =
      record {
        inside = omega (arith, r.inside);
        leaves = r.same ∙ short (drop (at + k) s) low high more (simp length-drop (omega arith));
      }

  -- so many bytes, after which a code point may begin
  pub taken : {k : ℕ} → Reached s at k point → (k ≡ 0 → ⊥) → Taken s at k
  taken {k} r n = record { inside = r.inside; leaves = rw (ne_eqb k 0 n) r.same }

  -- a whole sequence
  pub whole : {k : ℕ} → Reached s at (suc k) point → Taken s at (suc k)
  whole r = taken r (λ e. omega (arith, e))
