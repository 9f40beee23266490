-- One step of the reading, where the bytes that are left stand from a place of the file on: a repeated tag, a cut field, a whole field, the end.
-- Assumes nothing.
use mathlib.Core.Path.{◌≡◌, refl, ap, ◌∙◌}
use mathlib.Core.Bool.{Bool, true, false, cond}
use mathlib.Core.List.{List, [], ◌∷◌}
use Prim.Native.Nat.{ℕ, zero, suc, ◌+◌, ◌-◌, ◌≤◌, ◌<◌}
use native.Mathlib.Omega.{arith}
use lib.Dec.{ltb}
use lib.ListN.{length, get_or, drop, length-drop, drop_of_length-le}
use lib.Seq.{drop-cons, drop-drop}
use borrow.Author.Tests.{lt-ltb, le-ltb, ltb-true, ltb-false}
use Rattle.refusals.specs.declared.Refusal.{Refusal}
use Rattle.refusals.specs.declared.Refusal.TheVariants.{DataTooShort, RepeatedTag}
use Rattle.taggedfields.specs.Looking.{size_in, field_at}
use Rattle.taggedfields.specs.Fields.{Reading, ended, stopped, with_field, among, headed, read_from}

-- what is read from a place on
abbrev pub from : ℕ → List ℕ → List ℕ → ℕ → Reading
from bound file tags at = read_from bound tags at (drop at file)

-- the two bytes of the length, and what is behind them
pub behind : (file : List ℕ) (at : ℕ) → at + 3 ≤ length file → drop (suc at) file ≡ get_or file (at + 1) 0 ∷ get_or file (at + 2) 0 ∷ drop (at + 3) file
behind file at h =
    let a : suc at ≡ at + 1 = omega arith in
    let b : suc (at + 1) ≡ at + 2 = omega arith in
    let c : suc (at + 2) ≡ at + 3 = omega arith in
    ap (λ i. drop i file) a ∙ drop-cons file (at + 1) 0 (omega arith) ∙ ap (λ i. get_or file (at + 1) 0 ∷ drop i file) b
    ∙ ap (λ l. get_or file (at + 1) 0 ∷ l) (drop-cons file (at + 2) 0 (omega arith)) ∙ ap (λ i. get_or file (at + 1) 0 ∷ get_or file (at + 2) 0 ∷ drop i file) c

pub from_end : (file tags : List ℕ) (at bound : ℕ) → length file ≤ at → from bound file tags at ≡ ended
unfolding read_from
from_end file tags at bound h = rw (drop_of_length-le file {i = at} h) (go bound)
  where
    go : (b : ℕ) → read_from b tags at [] ≡ ended
    go zero = refl
    go (suc b) = refl

module _ (file tags : List ℕ) (at bound : ℕ) where
  opened : at < length file
      → from (suc bound) file tags at ≡ cond (among (get_or file at 0) tags) (stopped RepeatedTag at) (headed (get_or file at 0) at (drop (suc at) file) (read_from bound (get_or file at 0 ∷ tags)))
  unfolding read_from
  opened h = rw (drop-cons file at 0 h) refl

  pub from_repeated : at < length file → among (get_or file at 0) tags ≡ true → from (suc bound) file tags at ≡ stopped RepeatedTag at
  from_repeated h e = opened h ∙ rw e

  -- the header of a field is cut: fewer than three bytes are left
  pub from-cut-header : at < length file → length file - at < 3 → among (get_or file at 0) tags ≡ false → from (suc bound) file tags at ≡ stopped DataTooShort at
  from-cut-header h k e = opened h ∙ rw e (go (drop (suc at) file) (omega (arith, length-drop (suc at) file)))
    where
      go : (l : List ℕ) → length l < 2 → headed (get_or file at 0) at l (read_from bound (get_or file at 0 ∷ tags)) ≡ stopped DataTooShort at
      go [] q = refl
      go (x ∷ []) q = refl
      go (x ∷ y ∷ l) q = absurd (omega arith)

  headed-whole : at + 3 ≤ length file → among (get_or file at 0) tags ≡ false
      → from (suc bound) file tags at ≡ headed (get_or file at 0) at (get_or file (at + 1) 0 ∷ get_or file (at + 2) 0 ∷ drop (at + 3) file) (read_from bound (get_or file at 0 ∷ tags))
  headed-whole h e = opened (omega arith) ∙ rw (e, behind file at h)

  pub from_cut : at + 3 ≤ length file → length file - at - 3 < size_in file at → among (get_or file at 0) tags ≡ false → from (suc bound) file tags at ≡ stopped DataTooShort at
  from_cut h k e = headed-whole h e ∙ rw (lt-ltb (length (drop (at + 3) file)) (size_in file at) (omega (arith, length-drop (at + 3) file)))

  pub from_field : at + 3 + size_in file at ≤ length file → among (get_or file at 0) tags ≡ false
      → from (suc bound) file tags at ≡ with_field (field_at file at) (from bound file (get_or file at 0 ∷ tags) (at + 3 + size_in file at))
  from_field h e =
      headed-whole (omega arith) e
      ∙ rw (le-ltb (length (drop (at + 3) file)) (size_in file at) (omega (arith, length-drop (at + 3) file)), drop-drop (size_in file at) (at + 3) file)

  -- ---- one of these steps is taken
  pub data Step : Type 0 where
    ends : length file ≤ at → from (suc bound) file tags at ≡ ended → Step
    stops : (why : Refusal) → at < length file → from (suc bound) file tags at ≡ stopped why at → Step
    goes : at + 3 + size_in file at ≤ length file → among (get_or file at 0) tags ≡ false
        → from (suc bound) file tags at ≡ with_field (field_at file at) (from bound file (get_or file at 0 ∷ tags) (at + 3 + size_in file at)) → Step

  pub step : Step
  step = bytes (ltb at (length file)) refl
    where
      contents : at + 3 ≤ length file → among (get_or file at 0) tags ≡ false → (c : Bool) → ltb (length file - at - 3) (size_in file at) ≡ c → Step
      contents h e true q = stops DataTooShort (omega arith) (from_cut h (ltb-true (length file - at - 3) (size_in file at) q) e)
      contents h e false q =
          let w : at + 3 + size_in file at ≤ length file = omega (arith, ltb-false (length file - at - 3) (size_in file at) q) in
          goes w e (from_field w e)

      header : at < length file → among (get_or file at 0) tags ≡ false → (c : Bool) → ltb (length file - at) 3 ≡ c → Step
      header h e true q = stops DataTooShort h (from-cut-header h (ltb-true (length file - at) 3 q) e)
      header h e false q = contents (omega (arith, ltb-false (length file - at) 3 q)) e (ltb (length file - at - 3) (size_in file at)) refl

      tag : at < length file → (c : Bool) → among (get_or file at 0) tags ≡ c → Step
      tag h true e = stops RepeatedTag h (from_repeated h e)
      tag h false e = header h e (ltb (length file - at) 3) refl

      bytes : (c : Bool) → ltb at (length file) ≡ c → Step
      bytes true e = tag (ltb-true at (length file) e) (among (get_or file at 0) tags) refl
      bytes false e = let h = ltb-false at (length file) e in ends h (from_end file tags at (suc bound) h)
