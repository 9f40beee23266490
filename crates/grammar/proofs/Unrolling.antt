-- Fuel: with as much of it as there are bytes left, a value and a dict's pairs are what one turn of their definition says. Assumes nothing.
use mathlib.Core.Path.{◌≡◌, refl}
use Prim.Native.Nat.{ℕ, zero, suc, ◌+◌, ◌≤◌}
use native.Mathlib.Omega.{arith}
use mathlib.Core.List.{List}
use lib.ListN.{length}
use borrow.Author.Tests.{le-ltb}
use Rattle.grammar.specs.Reading.{bind}
use Rattle.grammar.specs.State.{State}
use Rattle.grammar.specs.Steps.{Reader, Chain, whatever, child, key_or, couples, front, one, value}

-- one turn, and the fuel that is left for the next
pub record Turn (s : List ℕ) (fuel depth : ℕ) (st : State) : Type 0 where
  pub left : ℕ
  pub enough : length s ≤ st.at + 1 + left
  pub turned : value fuel s depth st ≡ one (value left s) s left depth st

pub value_unroll : (s : List ℕ) (fuel depth : ℕ) (st : State) → length s ≤ st.at + fuel → Turn s fuel depth st
unfolding value one front bind
value_unroll s zero depth st h = record { left = zero; enough = omega arith; turned = rw (le-ltb st.at (length s) (omega arith)) refl }
value_unroll s (suc fuel) depth st h = record { left = fuel; enough = omega arith; turned = refl }

pub record PairTurn (f : Reader) (s : List ℕ) (fuel : ℕ) (c : Chain) : Type 0 where
  pub left : ℕ
  pub enough : length s ≤ c.st.at + 1 + left
  pub turned : couples f s fuel c ≡ key_or s c (bind (child whatever f c) (λ d. bind (child whatever f d) (couples f s left)))

pub couples_unroll : (f : Reader) (s : List ℕ) (fuel : ℕ) (c : Chain) → length s ≤ c.st.at + fuel → PairTurn f s fuel c
unfolding couples
couples_unroll f s zero c h = record { left = zero; enough = omega arith; turned = rw (le-ltb c.st.at (length s) (omega arith)) refl }
couples_unroll f s (suc fuel) c h = record { left = fuel; enough = omega arith; turned = refl }
