-- Sums over the nodes of a state, so many from one on. Assumes nothing.
use mathlib.Core.Path.{◌≡◌, refl, ap₂}
use Prim.Native.Nat.{ℕ, zero, suc, ◌+◌, ◌≤◌, ◌<◌}
use native.Mathlib.Omega.{arith}
use mathlib.Core.List.{List}
use lib.ListN.{get_or}
use Rattle.grammar.specs.State.{Node, blank}

unfoldable pub total : (Node → ℕ) → List Node → (more from : ℕ) → ℕ
total f ns zero i = 0
total f ns (suc more) i = f (get_or ns i blank) + total f ns more (i + 1)

pub total-one : (f : Node → ℕ) (ns : List Node) (more i : ℕ) → total f ns (suc more) i ≡ f (get_or ns i blank) + total f ns more (i + 1)
unfolding total
total-one f ns more i = refl

pub total_none : (f : Node → ℕ) (ns : List Node) (i : ℕ) → total f ns 0 i ≡ 0
unfolding total
total_none f ns i = refl

-- of the same nodes it is the same
pub total_same : (f : Node → ℕ) (ns ms : List Node) (more i : ℕ) → ((j : ℕ) → i ≤ j → j < i + more → get_or ms j blank ≡ get_or ns j blank) → total f ms more i ≡ total f ns more i
unfolding total
total_same f ns ms zero i e = refl
total_same f ns ms (suc more) i e =
    ap₂ (λ x y. f x + y) (e i (omega arith) (omega arith)) (total_same f ns ms more (i + 1) (λ j lo hi. e j (omega arith) (omega arith)))

-- one part after another
pub total_split : (f : Node → ℕ) (ns : List Node) (a b c i mid : ℕ) → c ≡ a + b → mid ≡ i + a → total f ns c i ≡ total f ns a i + total f ns b mid
unfolding total
total_split f ns zero b c i mid e m =
    let z : c ≡ b = omega arith in
    let y : mid ≡ i = omega arith in
    rw (z, y) (omega arith)
total_split f ns (suc a) b zero i mid e m = absurd (omega arith)
total_split f ns (suc a) b (suc c) i mid e m = omega (arith, total_split f ns a b c (i + 1) mid (omega arith) (omega arith))
