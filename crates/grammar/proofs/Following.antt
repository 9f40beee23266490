-- What holds of a reading on its way: `Follows Q C P t m`: every place that m claims at has C, what it is refused with has Q, and P holds of
-- the most that it claimed of each kind, from t on, and of what it gives. The laws that let it go through a definition. Assumes nothing.
use mathlib.Core.Path.{◌≡◌, refl, ◌∙◌}
use Prim.Native.Nat.{ℕ, max}
use native.Mathlib.Omega.{arith}
use mathlib.Core.Bool.{Bool, true, false, cond}
use mathlib.Core.List.{List, [], ◌∷◌}
use Rattle.grammar.specs.Reading.{Kind, level, node, entry, slot, Reading, done, refused, claim, bind, reads, Answer, gives, stops}
use Rattle.grammar.specs.Room.{plainly, Claim, claims, same, most}

-- the most that was claimed of each kind
pub record Need : Type 0 where
  pub levels : ℕ
  pub nodes : ℕ
  pub entries : ℕ
  pub slots : ℕ

abbrev pub raise : Kind → ℕ → Need → Need
raise level n t = record { levels = max t.levels n; nodes = t.nodes; entries = t.entries; slots = t.slots }
raise node n t = record { levels = t.levels; nodes = max t.nodes n; entries = t.entries; slots = t.slots }
raise entry n t = record { levels = t.levels; nodes = t.nodes; entries = max t.entries n; slots = t.slots }
raise slot n t = record { levels = t.levels; nodes = t.nodes; entries = t.entries; slots = max t.slots n }

abbrev pub need_of : Need → Kind → ℕ
need_of t level = t.levels
need_of t node = t.nodes
need_of t entry = t.entries
need_of t slot = t.slots

abbrev pub Follows : {A : Type 0} → (ℕ → ℕ → Type 0) → (ℕ → Type 0) → (Need → A → Type 0) → Need → Reading A → Type 0
Follows Q C P t (done a) = P t a
Follows Q C P t (refused n p) = Q n p
Follows Q C P t (claim k need p m) = C p × Follows Q C P (raise k need t) m

-- the same of what only reads bytes
abbrev pub FollowsA : {A : Type 0} → (ℕ → ℕ → Type 0) → (A → Type 0) → Answer A → Type 0
FollowsA Q P (gives a) = P a
FollowsA Q P (stops n p) = Q n p

module _ (Q : ℕ → ℕ → Type 0) (C : ℕ → Type 0) where
  pub follows_bind : {A B : Type 0} (P : Need → A → Type 0) (P' : Need → B → Type 0) (t : Need) (m : Reading A) (f : A → Reading B)
      → Follows Q C P t m → ((t : Need) (a : A) → P t a → Follows Q C P' t (f a)) → Follows Q C P' t (bind m f)
  unfolding bind
  follows_bind P P' t (done a) f e g = g t a e
  follows_bind P P' t (refused n p) f e g = e
  follows_bind P P' t (claim k need p m) f e g = (e.0, follows_bind P P' (raise k need t) m f e.1 g)

  pub follows_map : {A : Type 0} (P P' : Need → A → Type 0) (t : Need) (m : Reading A) → Follows Q C P t m → ((t : Need) (a : A) → P t a → P' t a) → Follows Q C P' t m
  follows_map P P' t (done a) e g = g t a e
  follows_map P P' t (refused n p) e g = e
  follows_map P P' t (claim k need p m) e g = (e.0, follows_map P P' (raise k need t) m e.1 g)

  pub follows_cond : {A : Type 0} (P : Need → A → Type 0) (t : Need) (b : Bool) (m m' : Reading A) → (b ≡ true → Follows Q C P t m) → (b ≡ false → Follows Q C P t m') → Follows Q C P t (cond b m m')
  follows_cond P t true m m' e e' = e refl
  follows_cond P t false m m' e e' = e' refl

  pub follows_reads : {A : Type 0} (P : Need → A → Type 0) (t : Need) (r : Answer A) → FollowsA Q (P t) r → Follows Q C P t (reads r)
  follows_reads P t (gives a) e = e
  follows_reads P t (stops n p) e = e

  pub follows_cond_a : {A : Type 0} (P : A → Type 0) (b : Bool) (r r' : Answer A) → (b ≡ true → FollowsA Q P r) → (b ≡ false → FollowsA Q P r') → FollowsA Q P (cond b r r')
  follows_cond_a P true r r' e e' = e refl
  follows_cond_a P false r r' e e' = e' refl

-- What it says of the claims and of the plain answer.
raise_most : (t : Need) (k j : Kind) (n m : ℕ) → max (need_of (raise k n t) j) m ≡ max (need_of t j) (max (cond (same j k) n 0) m)
raise_most t level level n m = omega arith
raise_most t level node n m = omega arith
raise_most t level entry n m = omega arith
raise_most t level slot n m = omega arith
raise_most t node level n m = omega arith
raise_most t node node n m = omega arith
raise_most t node entry n m = omega arith
raise_most t node slot n m = omega arith
raise_most t entry level n m = omega arith
raise_most t entry node n m = omega arith
raise_most t entry entry n m = omega arith
raise_most t entry slot n m = omega arith
raise_most t slot level n m = omega arith
raise_most t slot node n m = omega arith
raise_most t slot entry n m = omega arith
raise_most t slot slot n m = omega arith

pub record Gave {A : Type 0} (P : Need → A → Type 0) (t : Need) (m : Reading A) (a : A) : Type 0 where
  pub need : Need
  pub holds : P need a
  pub exact : (k : Kind) → need_of need k ≡ max (need_of t k) (most k (claims m))

module _ (Q : ℕ → ℕ → Type 0) (C : ℕ → Type 0) where
  pub follows_gives : {A : Type 0} (P : Need → A → Type 0) (t : Need) (m : Reading A) (a : A) → Follows Q C P t m → plainly m ≡ gives a → Gave P t m a
  unfolding plainly claims most
  follows_gives P t (done x) a e q =
      let z : x ≡ a = cc in
      record { need = t; holds = rw (← z) e; exact = λ k. omega arith }
  follows_gives P t (refused n p) a e q = let z : ◌≡◌ {A = ℕ} 0 1 = cc in absurd (omega arith)
  follows_gives P t (claim k need p m) a e q =
      let g = follows_gives P (raise k need t) m a e.1 q in
      record { need = g.need; holds = g.holds; exact = λ j. g.exact j ∙ raise_most t k j need (most j (claims m)) }

  pub follows_stops : {A : Type 0} (P : Need → A → Type 0) (t : Need) (m : Reading A) (n p : ℕ) → Follows Q C P t m → plainly m ≡ stops n p → Q n p
  unfolding plainly
  follows_stops P t (done x) n p e q = let z : ◌≡◌ {A = ℕ} 0 1 = cc in absurd (omega arith)
  follows_stops P t (refused m r) n p e q =
      let z : m ≡ n = cc in
      let w : r ≡ p = cc in
      rw (← z, ← w) e
  follows_stops P t (claim k need r m) n p e q = follows_stops P (raise k need t) m n p e.1 q

  -- every place that is claimed at
  abbrev pub AllAt : List Claim → Type 0
  AllAt [] = Unit
  AllAt (c ∷ cs) = C c.place × AllAt cs

  pub follows_claims : {A : Type 0} (P : Need → A → Type 0) (t : Need) (m : Reading A) → Follows Q C P t m → AllAt (claims m)
  unfolding claims
  follows_claims P t (done x) e = tt
  follows_claims P t (refused n p) e = tt
  follows_claims P t (claim k need p m) e = (e.0, follows_claims P (raise k need t) m e.1)
