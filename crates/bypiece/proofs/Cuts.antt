-- Code 14 while it lacks bytes: at most five bytes behind the first, of which fewer than four end a number, and a line so far from both ends of
-- its range that no step of so few bytes leaves it.
use mathlib.Core.Path.{◌≡◌, refl, ap, ◌∙◌}
use mathlib.Core.Bool.{Bool, true, false, cond, ◌&&◌}
use mathlib.Core.List.{List, [], ◌∷◌, ◌++◌, map}
use Prim.Native.Nat.{ℕ, zero, suc, ◌+◌, ◌-◌, ◌*◌, ◌/◌, ◌%◌, ◌≤◌, ◌<◌, max}
use native.Mathlib.Omega.{arith}
use lib.ListN.{length, drop, get_or, length-append, length-drop, drop_of_length-le}
use lib.Seq.{drop-drop}
use lib.Dec.{ltb, eqb}
use borrow.Author.Tests.{lt-ltb, le-ltb, ltb-true, eq-eqb, ne_eqb}
use Rattle.std.specs.Prelude.{Some}
use Rattle.lineentry.specs.Line.{origin, as_signed, moved, shown}
use Rattle.lineentry.specs.Varint.{read_as, more, digits, number, cut, varint_at, signed_of}
use Rattle.lineentry.specs.Entry.{location, long_columns, long_form, by_code, entry_at}
use Rattle.rows.proofs.Local.{never, digits_le, cut-end, parses}
use Rattle.rows.proofs.Extent.{signed_at_lem, entry-code}
use Rattle.lostentry.proofs.Grows.{moved_to}
use Rattle.piecestate.specs.State.{low}
use Rattle.piecestate.proofs.Stores.{length-map}
use Rattle.bypiece.specs.Byte.{Cut, CutIf, lasts}
use Rattle.bypiece.proofs.Heads.{cut_of}

-- ---- bytes that end a number
pub lasts-append : (u v : List ℕ) → lasts (u ++ v) ≡ lasts u + lasts v
lasts-append [] v = omega arith
lasts-append (b ∷ u) v = let i = lasts-append u v in omega arith

-- a number that is all there has one of them
fewer : (u : List ℕ) → cut u ≡ false → lasts u ≡ lasts (drop (length (digits u)) u) + 1
fewer [] h = never h
fewer (b ∷ u) h = on (more b) (λ k. fewer u k) h where
  on : (t : Bool) → (cut u ≡ false → lasts u ≡ lasts (drop (length (digits u)) u) + 1) → (t && cut u) ≡ false
      → cond t 0 1 + lasts u ≡ lasts (drop (length (b ∷ cond t (digits u) [])) (b ∷ u)) + 1
  on true f k = let i = f k in omega arith
  on false f k = omega arith

-- ---- a number of few bytes is small
abbrev most : ℕ → ℕ
most zero = 1
most (suc n) = 64 * most n

most-some : (n : ℕ) → 0 < most n
most-some zero = omega arith
most-some (suc n) = let i = most-some n in omega arith

number_lt : (u : List ℕ) (n : ℕ) → length u ≤ n → number (digits u) < most n
number_lt [] n h = most-some n
number_lt (b ∷ u) zero h = absurd (omega (arith, h))
number_lt (b ∷ u) (suc n) h = on (more b) (number_lt u n (omega arith)) where
  on : (t : Bool) → number (digits u) < most n → number (b ∷ cond t (digits u) []) < most (suc n)
  on true i = omega arith
  on false i = let j = most-some n in omega arith

-- ---- one number after the other
record Next (s : List ℕ) (p : ℕ) : Type 0 where
  value : ℕ
  next : ℕ
  missing : Bool
  is : varint_at s p ≡ read_as value next missing
  small : value < 1073741824
  from : p ≤ next
  upto : next ≤ length s
  late : missing ≡ true → next ≡ length s
  ends : missing ≡ false → lasts (drop p s) ≡ lasts (drop next s) + 1

next_of : (s : List ℕ) (p : ℕ) → p ≤ length s → length s ≤ p + 5 → Next s p
next_of s p h k =
    let u = drop p s in
    let d = length-drop p s in
    let l = digits_le u in
    let v : number (digits u) < 1073741824 = number_lt u 5 (omega arith) in
    record {
      value = number (digits u);
      next = p + length (digits u);
      missing = cut u;
      is = parses s p (number (digits u)) (p + length (digits u)) (cut u) (record { wide = refl; few = omega arith; value = refl; small = omega arith; cuts = refl });
      small = v;
      from = omega arith;
      upto = omega arith;
      late = λ e. omega (arith, cut-end u e);
      ends = λ e. fewer u e ∙ ap (λ t. lasts t + 1) (drop-drop (length (digits u)) p s);
    }

-- behind it a number ends, so it is all there
falls : (s : List ℕ) (p : ℕ) (n : Next s p) → 0 < lasts (drop n.next s) → lasts (drop p s) ≡ lasts (drop n.next s) + 1
falls s p n h = on n.missing refl where
  on : (t : Bool) → n.missing ≡ t → lasts (drop p s) ≡ lasts (drop n.next s) + 1
  on false e = n.ends e
  on true e =
      let z : lasts (drop n.next s) ≡ 0 = ap lasts (drop_of_length-le s {i = n.next} (omega (arith, n.late e))) in
      absurd (omega arith)

-- ---- steps of so few bytes
signed_near : (v : ℕ) → v < 1073741824 → (1610612736 < signed_of v) × (signed_of v < 2684354560)
signed_near v h = on (eqb (v % 2) 0) where
  on : (t : Bool) → (1610612736 < cond t (origin + v / 2) (origin - v / 2)) × (cond t (origin + v / 2) (origin - v / 2) < 2684354560)
  on true = (omega arith, omega arith)
  on false = (omega arith, omega arith)

signed-plain : (v : ℕ) → v < 1073741824 → as_signed v ≡ v + origin
unfolding as_signed
signed-plain v h = rw (lt-ltb v origin (omega arith))

long_by_lem : (u : List ℕ) (h line to end x y c d : ℕ) {q₁ q₂ q₃ q₄ : ℕ} {m₁ m₂ m₃ m₄ : Bool} → 240 ≤ h → h < 248
    → varint_at (h ∷ u) 1 ≡ read_as x q₁ m₁ → varint_at (h ∷ u) q₁ ≡ read_as y q₂ m₂ → varint_at (h ∷ u) q₂ ≡ read_as c q₃ m₃ → varint_at (h ∷ u) q₃ ≡ read_as d q₄ m₄
    → moved line (signed_of x) ≡ Some to → moved to (as_signed y) ≡ Some end → m₄ ≡ true → Cut (entry_at (h ∷ u) line 0)
unfolding by_code long_form long_columns
long_by_lem u h line to end x y c d {q₄ = q₄} a b v₁ v₂ v₃ v₄ l k m =
    cut_of (h % 8 + 1) to (location (shown to) (max 1 c) (shown end) (max 1 d)) q₄
    (entry-code (h ∷ u) line 0 (omega arith)
    ∙ rw (
      le-ltb h 128 (omega arith),
      le-ltb (h / 8 % 16) 10 (omega arith),
      le-ltb (h / 8 % 16) 13 (omega arith),
      ne_eqb (h / 8 % 16) 13 (λ z. omega arith),
      eq-eqb (h / 8 % 16) 14 (omega arith),
      signed_at_lem (h ∷ u) 1,
      v₁,
      v₂,
      l,
      k,
      v₃,
      v₄,
      m,
    ))

pub long-cut : (u : List ℕ) (h line : ℕ) → 240 ≤ h → h < 248 → length u ≤ 5 → 536870912 ≤ line → line < 2684354560 → lasts u < 4 → Cut (entry_at (h ∷ u) line 0)
long-cut u h line a b l f g k = one (next_of (h ∷ u) 1 (omega arith) (omega arith)) where
  on : (n₁ : Next (h ∷ u) 1) (n₂ : Next (h ∷ u) n₁.next) (n₃ : Next (h ∷ u) n₂.next) (n₄ : Next (h ∷ u) n₃.next) (t : Bool) → n₄.missing ≡ t → n₄.missing ≡ true
  on n₁ n₂ n₃ n₄ true e = e
  on n₁ n₂ n₃ n₄ false e =
      let d₄ = n₄.ends e in
      let d₃ = falls (h ∷ u) n₂.next n₃ (omega arith) in
      let d₂ = falls (h ∷ u) n₁.next n₂ (omega arith) in
      let d₁ = falls (h ∷ u) 1 n₁ (omega arith) in
      let z : lasts (drop 1 (h ∷ u)) ≡ lasts u = refl in
      absurd (omega arith)

  four : (n₁ : Next (h ∷ u) 1) (n₂ : Next (h ∷ u) n₁.next) (n₃ : Next (h ∷ u) n₂.next) → Next (h ∷ u) n₃.next → Cut (entry_at (h ∷ u) line 0)
  four n₁ n₂ n₃ n₄ =
      let w = signed_near n₁.value n₁.small in
      let y = signed-plain n₂.value n₂.small in
      let to = line + signed_of n₁.value - origin in
      long_by_lem u h line to (to + as_signed n₂.value - origin) n₁.value n₂.value n₃.value n₄.value a b n₁.is n₂.is n₃.is n₄.is
      (moved_to line (signed_of n₁.value) (omega (arith, w.0, w.1)) (omega (arith, w.0, w.1)))
      (moved_to to (as_signed n₂.value) (omega (arith, w.0, w.1, y, n₂.small)) (omega (arith, w.0, w.1, y, n₂.small)))
      (on n₁ n₂ n₃ n₄ n₄.missing refl)

  three : (n₁ : Next (h ∷ u) 1) (n₂ : Next (h ∷ u) n₁.next) → Next (h ∷ u) n₂.next → Cut (entry_at (h ∷ u) line 0)
  three n₁ n₂ n₃ = four n₁ n₂ n₃ (next_of (h ∷ u) n₃.next n₃.upto (omega (arith, n₁.from, n₂.from, n₃.from)))

  two : (n₁ : Next (h ∷ u) 1) → Next (h ∷ u) n₁.next → Cut (entry_at (h ∷ u) line 0)
  two n₁ n₂ = three n₁ n₂ (next_of (h ∷ u) n₂.next n₂.upto (omega (arith, n₁.from, n₂.from)))

  one : Next (h ∷ u) 1 → Cut (entry_at (h ∷ u) line 0)
  one n₁ = two n₁ (next_of (h ∷ u) n₁.next n₁.upto (omega (arith, n₁.from)))

-- ---- the held bytes
pub cut_held : (h : List ℕ) (b line : ℕ) {n m : ℕ} → 0 < length h → length h ≤ 5 → 240 ≤ get_or h 0 0 % 256 → get_or h 0 0 % 256 < 248 → 536870912 ≤ line → line < 2684354560
    → n ≡ lasts (map low (drop 1 h)) → m ≡ cond (more b) 0 1 → CutIf (entry_at (map low h ++ b ∷ []) line 0) (ltb (n + m) 4)
cut_held [] b line k l x y f g e d = absurd (omega (arith, k))
cut_held (a ∷ h) b line {n} {m} k l x y f g e d =
    record {
      told = λ t.
          let i = length-map low h in
          let j = length-append (map low h) (b ∷ []) in
          let o = lasts-append (map low h) (b ∷ []) in
          long-cut (map low h ++ b ∷ []) (a % 256) line x y (omega arith) f g (omega (arith, ltb-true (n + m) 4 t));
    }

-- ---- the loop that counts them
pub record Counting (h : List ℕ) (n i : ℕ) : Type 0 where
  pub few : n ≤ i
  pub upto : i ≤ length h
  pub comes : lasts (map low h) ≡ n + lasts (map low (drop i h))
