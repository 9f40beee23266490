-- A walk that has taken more steps than there are entries goes round: it can be taken on for ever. So a chain of any count is judged in as
-- many steps as there are entries, and one more. Carried by counting the entries from which so many steps can be taken: while their number
-- falls with each step more it is soon zero, and once it stays it stays. Assumes nothing.
use mathlib.Core.Path.{◌≡◌, refl, sym, ap, ◌∙◌}
use Prim.Native.Nat.{ℕ, zero, suc, ◌+◌, ◌-◌, ◌≤◌, ◌<◌, min}
use native.Mathlib.Omega.{arith}
use mathlib.Core.Bool.{Bool, true, false, ◌&&◌}
use mathlib.Core.Logic.{◌⊎◌, inl, inr}
use lib.Dec.{leb, eqb}
use borrow.Author.Tests.{leb-true, leb-false, eqb-true, eqb-false}
use Rattle.grammar.proofs.Tests.{never, both_true}

both : {a b : Bool} → a ≡ true → b ≡ true → (a && b) ≡ true
both e f = rw (e, f) refl

-- so many steps, from an entry on, each from an entry that is fine
unfoldable pub lives : (fine : ℕ → Bool) (next : ℕ → ℕ) → (steps e : ℕ) → Bool
lives fine next zero e = true
lives fine next (suc k) e = fine e && lives fine next k (next e)

abbrev bit : Bool → ℕ
bit true = 1
bit false = 0

module _ (fine : ℕ → Bool) (next : ℕ → ℕ) (room : ℕ) (inside : (e : ℕ) → fine e ≡ true → e < room) where
  abbrev goes : ℕ → ℕ → Bool
  goes k e = lives fine next k e

  -- fewer steps can be taken where more can
  less : (k e : ℕ) → goes (suc k) e ≡ true → goes k e ≡ true
  unfolding lives
  less zero e h = refl
  less (suc k) e h = both (both_true (fine e) (goes (suc k) (next e)) h).0 (less k (next e) (both_true (fine e) (goes (suc k) (next e)) h).1)

  pub less_by : (j k e : ℕ) → goes (j + k) e ≡ true → goes k e ≡ true
  less_by zero k e h = let z : 0 + k ≡ k = omega arith in rw z at (h)
  less_by (suc j) k e h =
      let z : suc j + k ≡ suc (j + k) = omega arith in
      less_by j k e (less (j + k) e (rw z at (h)))

  -- of the first n entries, those from which k steps can be taken
  abbrev tally : (k n : ℕ) → ℕ
  tally k zero = 0
  tally k (suc n) = bit (goes k n) + tally k n

  bit_less : (k e : ℕ) → bit (goes (suc k) e) ≤ bit (goes k e)
  bit_less k e = go (goes (suc k) e) (goes k e) (less k e)
    where
      go : (a b : Bool) → (a ≡ true → b ≡ true) → bit a ≤ bit b
      go true true h = omega arith
      go true false h = never (h refl)
      go false true h = omega arith
      go false false h = omega arith

  tally_less : (k n : ℕ) → tally (suc k) n ≤ tally k n
  tally_less k zero = omega arith
  tally_less k (suc n) = omega (arith, bit_less k n, tally_less k n)

  tally_most : (k n : ℕ) → tally k n ≤ n
  tally_most k zero = omega arith
  tally_most k (suc n) = omega (arith, tally_most k n, at_most (goes k n))
    where
      at_most : (b : Bool) → bit b ≤ 1
      at_most true = omega arith
      at_most false = omega arith

  tally_one : (k n e : ℕ) → e < n → goes k e ≡ true → 0 < tally k n
  tally_one k zero e l h = absurd (omega arith)
  tally_one k (suc n) e l h = go (eqb e n) refl (λ m. tally_one k n e m h)
    where
      go : (b : Bool) → eqb e n ≡ b → (e < n → 0 < tally k n) → 0 < bit (goes k n) + tally k n
      go true q more =
          let i : e ≡ n = eqb-true e n q in
          let g : goes k n ≡ true = sym (ap (goes k) i) ∙ h in
          let one : bit (goes k n) ≡ 1 = ap bit g in
          omega arith
      go false q more =
          let i : e ≡ n → ⊥ = eqb-false e n q in
          let m : e < n = omega arith in
          omega (arith, more m)

  -- what can go k steps can go one more
  abbrev Stays : ℕ → Type 0
  Stays k = (e : ℕ) → e < room → goes k e ≡ true → goes (suc k) e ≡ true

  tally_same : (k n : ℕ) → tally (suc k) n ≡ tally k n → (e : ℕ) → e < n → goes k e ≡ true → goes (suc k) e ≡ true
  tally_same k zero q e l h = absurd (omega arith)
  tally_same k (suc n) q e l h = go (eqb e n) refl (tally_same k n (omega (arith, q, bit_less k n, tally_less k n)) e)
    where
      bit_one : (b : Bool) → bit b ≡ 1 → b ≡ true
      bit_one true e = refl
      bit_one false e = absurd (omega arith)

      go : (b : Bool) → eqb e n ≡ b → (e < n → goes k e ≡ true → goes (suc k) e ≡ true) → goes (suc k) e ≡ true
      go true r more =
          let i : e ≡ n = eqb-true e n r in
          let g : goes k n ≡ true = sym (ap (goes k) i) ∙ h in
          let one : bit (goes k n) ≡ 1 = ap bit g in
          ap (goes (suc k)) i ∙ bit_one (goes (suc k) n) (omega (arith, q, bit_less k n, tally_less k n))
      go false r more =
          let i : e ≡ n → ⊥ = eqb-false e n r in
          more (omega arith) h

  stays_next : (k : ℕ) → Stays (suc k) → Stays (suc (suc k))
  unfolding lives
  stays_next k st e l h =
      let f = (both_true (fine e) (goes (suc k) (next e)) h).0 in
      let g = (both_true (fine e) (goes (suc k) (next e)) h).1 in
      both f (st (next e) (inside (next e) (both_true (fine (next e)) (goes k (next (next e))) g).0) g)

  falls_or_stays : (k : ℕ) → (tally (suc k) room + k ≤ room) ⊎ Stays (suc k)
  falls_or_stays zero = inl (omega (arith, tally_most 1 room))
  falls_or_stays (suc k) = on (falls_or_stays k)
    where
      apart : (b : Bool) → eqb (tally (suc (suc k)) room) (tally (suc k) room) ≡ b → tally (suc k) room + k ≤ room
          → (tally (suc (suc k)) room + suc k ≤ room) ⊎ Stays (suc (suc k))
      apart true q h = inr (stays_next k (tally_same (suc k) room (eqb-true (tally (suc (suc k)) room) (tally (suc k) room) q)))
      apart false q h =
          let i : tally (suc (suc k)) room ≡ tally (suc k) room → ⊥ = eqb-false (tally (suc (suc k)) room) (tally (suc k) room) q in
          inl (omega (arith, tally_less (suc k) room))

      on : (tally (suc k) room + k ≤ room) ⊎ Stays (suc k) → (tally (suc (suc k)) room + suc k ≤ room) ⊎ Stays (suc (suc k))
      on (inl h) = apart (eqb (tally (suc (suc k)) room) (tally (suc k) room)) refl h
      on (inr st) = inr (stays_next k st)

  stays : Stays (suc room)
  stays = on (falls_or_stays room)
    where
      on : (tally (suc room) room + room ≤ room) ⊎ Stays (suc room) → Stays (suc room)
      on (inl h) = λ e l g. absurd (omega (arith, tally_one (suc room) room e l g))
      on (inr st) = st

  stays_on : (j : ℕ) → Stays (suc (j + room))
  stays_on zero = let z : 0 + room ≡ room = omega arith in rw z stays
  stays_on (suc j) = let z : suc j + room ≡ suc (j + room) = omega arith in rw z (stays_next (j + room) (stays_on j))

  start : (e : ℕ) → goes (suc room) e ≡ true → e < room
  unfolding lives
  start e h = inside e (both_true (fine e) (goes room (next e)) h).0

  onwards : (j e : ℕ) → goes (suc room) e ≡ true → goes (suc (j + room)) e ≡ true
  onwards zero e h = let z : 0 + room ≡ room = omega arith in rw z h
  onwards (suc j) e h =
      let z : suc j + room ≡ suc (j + room) = omega arith in
      rw z (stays_on j e (start e h) (onwards j e h))

  -- a walk of any length is judged in as many steps as there are entries, and one more
  pub cut-walk : (count e : ℕ) → goes (min count (suc room)) e ≡ goes count e
  cut-walk count e = go (leb count (suc room)) refl
    where
      far : suc room < count → (a b : Bool) → goes (suc room) e ≡ a → goes count e ≡ b → a ≡ b
      far l true true p q = refl
      far l false false p q = refl
      far l true false p q =
          let z : suc (count - suc room + room) ≡ count = omega arith in
          never (sym q ∙ sym (ap (λ k. goes k e) z) ∙ onwards (count - suc room) e p)
      far l false true p q =
          let z : count - suc room + suc room ≡ count = omega arith in
          never (sym p ∙ less_by (count - suc room) (suc room) e (ap (λ k. goes k e) z ∙ q))

      go : (b : Bool) → leb count (suc room) ≡ b → goes (min count (suc room)) e ≡ goes count e
      go true p = let l = leb-true count (suc room) p in let z : min count (suc room) ≡ count = omega arith in ap (λ k. goes k e) z
      go false p =
          let l = leb-false count (suc room) p in
          let z : min count (suc room) ≡ suc room = omega arith in
          ap (λ k. goes k e) z ∙ far l (goes (suc room) e) (goes count e) refl refl
