-- A walk over the kind bytes that writes a list into a cleared store, one number or none a byte: the loops of the three writers.
-- What stands in the store and what is left to write come to the whole list. Assumes nothing.
use mathlib.Core.Path.{◌≡◌, ap, ◌∙◌}
use mathlib.Core.List.{List, [], ◌∷◌}
use Prim.Native.Nat.{ℕ, ◌+◌, ◌≤◌, ◌<◌}
use native.Mathlib.Nat.{zero-add}
use native.Mathlib.Numerals.{add-one}
use native.Mathlib.Omega.{arith}
use lib.ListN.{length, set, length-set, length-replicate}
use lib.Seq.{sets}
use Rattle.refusals.specs.Limits.{most_bytes}
use Rattle.clearing.specs.Lent.{zeros, padded}
use Rattle.clearing.proofs.Laws.{sets-padded}

-- i kind bytes are passed and n numbers written; rest is left of the whole list.
pub record Walk (whole kinds : List ℕ) (room : ℕ) (out : List ℕ) (n i : ℕ) (rest : List ℕ) : Type 0 where
  pub upto : i ≤ length kinds
  pub below : n ≤ i
  pub fits : length kinds ≤ room
  pub small : length kinds ≤ most_bytes
  pub same : length out ≡ room
  pub comes : sets out n rest ≡ sets (zeros room) 0 whole
  pub count : n + length rest ≡ length whole

-- the store is cleared, and nothing is written
pub walk_start : {whole kinds out : List ℕ} {room : ℕ} → out ≡ zeros room → length kinds ≤ room → length kinds ≤ most_bytes → Walk whole kinds room out 0 0 whole
walk_start {whole} {out = out} {room = room} e h k =
    record {
      upto = omega arith;
      below = omega arith;
      fits = h;
      small = k;
      same = ap length e ∙ length-replicate room 0;
      comes = ap (λ s. sets s 0 whole) e;
      count = zero-add (length whole);
    }

module _ {whole kinds : List ℕ} {room : ℕ} {out : List ℕ} {n i : ℕ} {rest : List ℕ} (w : Walk whole kinds room out n i rest) where
  -- a byte that writes a number
  pub walk_put : {out' rest' : List ℕ} {x n' : ℕ} → i < length kinds → rest ≡ x ∷ rest' → out' ≡ set out n x → n' ≡ n + 1 → Walk whole kinds room out' n' (i + 1) rest'
  walk_put {out'} {rest'} {x} {n'} h e q r =
      record {
        upto = omega arith;
        below = omega (arith, w.below);
        fits = w.fits;
        small = w.small;
        same = ap length q ∙ simp length-set w.same;
        comes = rw (q, r, add-one n) (rw e at w.comes);
        count = omega (arith, w.count, ap length e);
      }

  -- a byte that writes none
  pub walk_pass : {out' rest' : List ℕ} {n' : ℕ} → i < length kinds → rest ≡ rest' → out' ≡ out → n' ≡ n → Walk whole kinds room out' n' (i + 1) rest'
  walk_pass {out'} {rest'} {n'} h e q r =
      record {
        upto = omega arith;
        below = omega (arith, w.below);
        fits = w.fits;
        small = w.small;
        same = ap length q ∙ w.same;
        comes = rw (q, r) (rw e at w.comes);
        count = omega (arith, w.count, ap length e);
      }

  -- every byte is passed: the store holds the whole list, then zeros
  pub walk-done : {room' : ℕ} → length kinds ≤ i → rest ≡ [] → room ≡ room' → (n ≡ length whole) × (n ≤ most_bytes) × (out ≡ padded room' whole)
  walk-done h e q =
      let all : n ≡ length whole = omega (arith, w.count, ap length e) in
      let fits : length whole ≤ room = omega (arith, w.upto, w.below, w.fits) in
      (all, omega (arith, w.upto, w.below, w.small), rw (← q) (rw e at w.comes ∙ sets-padded room whole fits))
