-- Going through bytes by the table: the state has, in its low bits, the place of the stage that is reached, and what is left is
-- well-formed from there just where the whole is. Assumes nothing.
use mathlib.Core.Path.{◌≡◌, refl, sym, ap, ◌∙◌, subst}
use mathlib.Core.List.{List}
use Prim.Native.Nat.{ℕ, ◌+◌, ◌-◌, ◌/◌, ◌%◌, ◌^◌, ◌≤◌, ◌<◌}
use native.Mathlib.Omega.{arith}
use native.Mathlib.Numerals.{add-one}
use lib.Dec.{eqb}
use lib.ListN.{length, get_or, drop, drop_of_length-le}
use Rattle.wtf8.specs.Forms.{allows, may_end, well_formed}
use Rattle.wtf8.specs.Leads.{lead_table, row_table, Stage, fresh, one, two, three, after_e0, after_f0, after_f4, spoilt, expected, shift, turned}
use Rattle.wtf8.proofs.Reached.{turn}
use Rattle.wtf8.proofs.Table.{next, next_expected, row_right}

pub record Resting (bytes : List ℕ) (at state : ℕ) : Type 0 where
  pub inside : at ≤ length bytes
  pub stage : Stage
  pub place : state % 64 ≡ shift stage
  pub comes : allows (drop at bytes) (expected stage) ≡ well_formed bytes

-- a new code point may begin at the place 0 alone
at_rest : (q : Stage) → eqb (shift q) 0 ≡ may_end (expected q)
at_rest fresh = refl
at_rest one = refl
at_rest two = refl
at_rest three = refl
at_rest after_e0 = refl
at_rest after_f0 = refl
at_rest after_f4 = refl
at_rest spoilt = refl

module _ {bytes : List ℕ} where
  pub begun : Resting bytes 0 0
  begun = record { inside = omega arith; stage = fresh; place = refl; comes = refl }

  -- one byte more
  pub onward : {at state r : ℕ} → Resting bytes at state → at < length bytes → get_or bytes at 0 < 256 → r ≡ turned state (get_or bytes at 0) → Resting bytes (at + 1) r
  onward {at} {state} {r} w h b e =
      let byte = get_or bytes at 0 in
      let q = w.stage in
      record {
        inside = omega arith;
        stage = next q byte;
        place = ap (λ (n : ℕ). n % 64) e ∙ ap (λ (k : ℕ). get_or row_table (get_or lead_table byte 0) 0 / 2 ^ k % 64) w.place ∙ row_right q byte b;
        comes = rw (add-one, next_expected q byte) (sym (turn bytes at (expected q) h) ∙ w.comes);
      }

  -- nothing left
  pub ended : {at state : ℕ} → Resting bytes at state → length bytes ≤ at → eqb (state % 64) 0 ≡ well_formed bytes
  unfolding allows
  ended {at} {state} w h = ap (λ (n : ℕ). eqb n 0) w.place ∙ at_rest w.stage ∙ rw (drop_of_length-le bytes {i = at} h) at w.comes

  -- and one more after it
  pub onward-two :
      {at state half r : ℕ} → Resting bytes at state → 2 ≤ length bytes - at → ((i : ℕ) → get_or bytes i 0 < 256)
      → half ≡ turned state (get_or bytes at 0) → r ≡ turned half (get_or bytes (at + 1) 0) → Resting bytes (at + 2) r
  onward-two {at} {state} {half} {r} w h b e f =
      let two : at + 1 + 1 ≡ at + 2 = omega arith in
      let first : Resting bytes (at + 1) half = onward w (omega arith) (b at) e in
      subst (λ (n : ℕ). Resting bytes n r) two (onward first (omega arith) (b (at + 1)) f)

  -- a last byte
  pub last : {at state r : ℕ} → Resting bytes at state → at < length bytes → length bytes - at < 2 → get_or bytes at 0 < 256 → r ≡ turned state (get_or bytes at 0) → eqb (r % 64) 0 ≡ well_formed bytes
  last w h l b e = ended (onward w h b e) (omega arith)
