-- An answer handed on as numbers: the export's promise is the function's, through the definition that gives the numbers.
-- Assumes nothing.
use mathlib.Core.Path.{◌≡◌, ap, ◌∙◌}
use Prim.Native.Nat.{ℕ}
use mathlib.Core.List.{List}

-- an answer and a store
pub handed : {A B : Type 0} (numbers : A → B) {r : B} {answer : A} {store : List ℕ} {outcome : A × List ℕ}
    → r ≡ numbers answer → ◌≡◌ {A = A × List ℕ} (answer, store) outcome
    → ◌≡◌ {A = B × List ℕ} (r, store) (numbers outcome.0, outcome.1)
handed {A} {B} numbers {store = store} is e =
    ap {B = B × List ℕ} (λ x. (x, store)) is ∙ ap {B = B × List ℕ} (λ (o : A × List ℕ). (numbers o.0, o.1)) e

-- the same where the answer and the store are told by an equation each
pub handed_apart : {A B : Type 0} (numbers : A → B) {r : B} {answer : A} {store : List ℕ} {outcome : A × List ℕ}
    → r ≡ numbers answer → answer ≡ outcome.0 → store ≡ outcome.1 → ◌≡◌ {A = B × List ℕ} (r, store) (numbers outcome.0, outcome.1)
handed_apart {A} {B} numbers {answer = answer} {store = store} {outcome = outcome} is e s =
    ap {B = B × List ℕ} (λ x. (x, store)) (is ∙ ap numbers e) ∙ ap {B = B × List ℕ} (λ xs. (numbers outcome.0, xs)) s
