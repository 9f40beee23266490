-- The answer of a whole table, case by case in 01's order: 14, 17, then the walk.
use mathlib.Core.Path.{◌≡◌, ap}
use mathlib.Core.List.{List}
use Prim.Native.Nat.{ℕ, ◌≤◌, ◌<◌}
use native.Mathlib.Omega.{arith}
use Rattle.std.specs.Prelude.{Result, Ok, Err}
use lib.ListN.{length}
use borrow.Author.Tests.{lt-ltb, le-ltb}
use Rattle.refusals.specs.Numbers.{input_too_long, no_room}
use Rattle.refusals.specs.Faults.{number_of, fault, refused as refused_as}
use Rattle.refusals.specs.declared.Fault.{Fault}
use Rattle.refusals.specs.declared.Refusal.{Refusal}
use Rattle.refusals.proofs.Faults.{number_of_injective}
use Rattle.refusals.specs.Limits.{most_bytes}
use Rattle.clearing.specs.Lent.{zeros}
use Rattle.lineentry.specs.Entry.{at_line}
use Rattle.linetable.specs.declared.Located.{Located}
use Rattle.linetable.specs.Walk.{Reading, refused, walk}
use Rattle.linetable.specs.Answer.{located, numbered, records_of}
use Rattle.linetable.proofs.Walking.{Ends}

-- a refusal's answer, and a store that is all zero
pub ends_zero : (n : ℕ) (why : Refusal) {goal : Reading} {place : ℕ} {r : Result Located Fault} {ys : List ℕ} → goal ≡ refused (number_of why) place → (r ≡ refused_as why place) × (ys ≡ zeros n) → Ends n goal (numbered r) ys
unfolding records_of
ends_zero n why e x = rw e (ap numbered x.0, x.1)

module _ (s : List ℕ) (first count capacity : ℕ) where
  pub located-long : most_bytes < length s → located s first count capacity ≡ refused input_too_long 0
  unfolding located
  located-long h = rw (lt-ltb most_bytes (length s) h)

  pub located-short : (room : ℕ) → length s ≤ most_bytes → room ≡ capacity → room < count → located s first count capacity ≡ refused no_room room
  unfolding located
  located-short room h e k =
      let l : capacity < count = omega arith in
      rw (le-ltb most_bytes (length s) h, lt-ltb capacity count l, e)

  pub located_walks : length s ≤ most_bytes → count ≤ capacity → located s first count capacity ≡ walk count s (at_line first) first 0 count
  unfolding located
  located_walks h k = rw (le-ltb most_bytes (length s) h, le-ltb capacity count k)

-- ---- what a callee's answer is worth to its caller
pub ends-walk : (s : List ℕ) (first count capacity : ℕ) (n x : ℕ) {r : Result Located (ℕ × ℕ)} {ys : List ℕ} → length s ≤ most_bytes → count ≤ capacity → x ≡ first
    → Ends n (walk count s (at_line x) x 0 count) r ys → Ends n (located s first count capacity) r ys
ends-walk s first count capacity n x' h k e x = rw (located_walks s first count capacity h k, ← e) x

pub ends_same : (s : List ℕ) (first count capacity : ℕ) (n f c : ℕ) {r : Result Located (ℕ × ℕ)} {ys : List ℕ} → f ≡ first → c ≡ capacity
    → Ends n (located s f count c) r ys → Ends n (located s first count capacity) r ys
ends_same s first count capacity n f c e q x = rw (← e, ← q) x

-- ---- no two answers have the same numbers
same_fault : (f g : Fault) → number_of f.refusal ≡ number_of g.refusal → f.place ≡ g.place → f ≡ g
same_fault f g why place = λ i. fault (number_of_injective why i) (place i)

pub numbered_injective : (r s : Result Located Fault) → numbered r ≡ numbered s → r ≡ s
numbered_injective (Ok x) (Ok y) same = let e : x ≡ y = cc in ap Ok e
numbered_injective (Ok x) (Err f) same = cc
numbered_injective (Err f) (Ok y) same = cc
numbered_injective (Err f) (Err g) same =
    let pair : ◌≡◌ {A = ℕ × ℕ} (number_of f.refusal, f.place) (number_of g.refusal, g.place) = cc in
    ap Err (same_fault f g (ap (λ x. x.0) pair) (ap (λ x. x.1) pair))
