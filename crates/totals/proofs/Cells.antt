-- Stores of totals, counter by counter: what a store holds, and when two totals are stored alike. Assumes nothing.
use mathlib.Core.Path.{◌≡◌, refl, sym, ap, ◌∙◌}
use mathlib.Core.Bool.{Bool, true, false, cond, ◌&&◌}
use mathlib.Core.List.{List, [], ◌∷◌, ◌++◌}
use Prim.Native.Nat.{ℕ, zero, suc, ◌+◌, ◌-◌, ◌^◌, ◌≤◌, ◌<◌}
use native.Mathlib.Omega.{arith}
use native.Mathlib.Nat.{zero-add, not-suc-le-zero}
use borrow.Author.Tests.{lt-ltb, ltb-true}
use lib.Dec.{ltb}
use lib.ListN.{length, get_or, length-append, length-replicate}
use Rattle.std.specs.Prelude.{Ok}
use Rattle.refusals.specs.Faults.{refused}
use Rattle.refusals.specs.declared.Refusal.TheVariants.{NumberRange}
use Rattle.clearing.specs.Lent.{zeros, padded}
use Rattle.totals.specs.Totals.{counters, Totals, held_in, cells_from, fit_from, cells, stored}

-- ---- what a store holds

pub zero_held : (n counter : ℕ) → get_or (zeros n) counter 0 ≡ 0
zero_held zero counter = refl
zero_held (suc n) zero = refl
zero_held (suc n) (suc counter) = zero_held n counter

all_zero : (xs : List ℕ) → ((c : ℕ) → get_or xs c 0 ≡ 0) → xs ≡ zeros (length xs)
all_zero [] h = refl
all_zero (x ∷ xs) h = ap (λ (y : ℕ). y ∷ xs) (h 0) ∙ ap (λ (ys : List ℕ). 0 ∷ ys) (all_zero xs (λ c. h (suc c)))

pub length-cells : (t : Totals) (at n : ℕ) → length (cells_from t at n) ≡ n
unfolding cells_from
length-cells t at zero = refl
length-cells t at (suc n) = ap suc (length-cells t (suc at) n)

-- a store whose cells are known one by one
known-cells : (t : Totals) (at n : ℕ) (xs : List ℕ) → n ≤ length xs → ((c : ℕ) → c < n → get_or xs c 0 ≡ t (at + c))
    → ((c : ℕ) → n ≤ c → get_or xs c 0 ≡ 0) → xs ≡ cells_from t at n ++ zeros (length xs - n)
unfolding cells_from
known-cells t at zero xs h own none =
    let all : length xs ≡ length xs - 0 = omega arith in
    all_zero xs (λ c. none c (omega arith)) ∙ ap zeros all
known-cells t at (suc n) [] h own none = absurd (not-suc-le-zero h)
known-cells t at (suc n) (x ∷ xs) h own none =
    let first : at + 0 ≡ at = omega arith in
    let left : length xs - n ≡ suc (length xs) - suc n = omega arith in
    ap (λ (y : ℕ). y ∷ xs) (own 0 (omega arith) ∙ ap t first)
    ∙ ap (λ (ys : List ℕ). t at ∷ ys)
    (known-cells t (suc at) n xs (omega arith) (λ c k. own (suc c) (omega arith) ∙ ap t (shift c)) (λ c k. none (suc c) (omega arith))
    ∙ ap (λ (m : ℕ). cells_from t (suc at) n ++ zeros m) left)
  where
    shift : (c : ℕ) → at + suc c ≡ suc at + c
    shift c = omega arith

pub holds-cells : (t : Totals) (xs : List ℕ) → counters ≤ length xs → ((c : ℕ) → c < counters → get_or xs c 0 ≡ t c)
    → ((c : ℕ) → counters ≤ c → get_or xs c 0 ≡ 0) → xs ≡ padded (length xs) (cells t)
unfolding padded
holds-cells t xs h own none =
    known-cells t 0 counters xs h (λ c k. own c k ∙ ap t (sym (zero-add c))) none
    ∙ ap (λ (m : ℕ). cells t ++ zeros (length xs - m)) (sym (length-cells t 0 counters))

cell_held : (t : Totals) (at n c : ℕ) (ys : List ℕ) → c < n → get_or (cells_from t at n ++ ys) c 0 ≡ t (at + c)
unfolding cells_from
cell_held t at zero c ys h = absurd (not-suc-le-zero h)
cell_held t at (suc n) zero ys h = ap t (omega arith)
cell_held t at (suc n) (suc c) ys h = cell_held t (suc at) n c ys (omega arith) ∙ ap t (omega arith)

pub held_cells : (t : Totals) (room c : ℕ) → c < counters → held_in (padded room (cells t)) c ≡ t c
unfolding padded
held_cells t room c h = cell_held t 0 counters c (zeros (room - length (cells t))) h ∙ ap t (zero-add c)

beyond-cells : (t : Totals) (at n c : ℕ) (m : ℕ) → n ≤ c → get_or (cells_from t at n ++ zeros m) c 0 ≡ 0
unfolding cells_from
beyond-cells t at zero c m h = zero_held m c
beyond-cells t at (suc n) zero m h = absurd (not-suc-le-zero h)
beyond-cells t at (suc n) (suc c) m h = beyond-cells t (suc at) n c m (omega arith)

pub held_beyond : (t : Totals) (room c : ℕ) → counters ≤ c → held_in (padded room (cells t)) c ≡ 0
unfolding padded
held_beyond t room c h = beyond-cells t 0 counters c (room - length (cells t)) h

pub length-stored : (t : Totals) (room : ℕ) → counters ≤ room → length (padded room (cells t)) ≡ room
unfolding padded
length-stored t room h =
    let l = length-cells t 0 counters in
    length-append (cells t) (zeros (room - length (cells t))) ∙ ap (λ (m : ℕ). length (cells t) + m) (length-replicate (room - length (cells t)) 0) ∙ omega (arith, l)

-- ---- totals that are the same up to the last counter are stored alike

cells-alike : (t u : Totals) (at n : ℕ) → ((c : ℕ) → c < n → t (at + c) ≡ u (at + c))
    → (cells_from t at n ≡ cells_from u at n) × (fit_from t at n ≡ fit_from u at n)
unfolding cells_from fit_from
cells-alike t u at zero h = (refl, refl)
cells-alike t u at (suc n) h =
    let first : t at ≡ u at = ap t (sym here) ∙ h 0 (omega arith) ∙ ap u here in
    let rest = cells-alike t u (suc at) n (λ c k. ap t (sym (shift c)) ∙ h (suc c) (omega arith) ∙ ap u (shift c)) in
    (ap (λ (x : ℕ). x ∷ cells_from t (suc at) n) first ∙ ap (λ (xs : List ℕ). u at ∷ xs) rest.0, ap (λ (x : ℕ). ltb x (2 ^ 64) && fit_from t (suc at) n) first ∙ ap (λ (b : Bool). ltb (u at) (2 ^ 64) && b) rest.1)
  where
    here : at + 0 ≡ at
    here = omega arith

    shift : (c : ℕ) → at + suc c ≡ suc at + c
    shift c = omega arith

pub stored-alike : (room : ℕ) (t u : Totals) → ((c : ℕ) → c < counters → t c ≡ u c) → stored room t ≡ stored room u
unfolding stored
stored-alike room t u h =
    let both = cells-alike t u 0 counters (λ c k. ap t (zero-add c) ∙ h c k ∙ ap u (sym (zero-add c))) in
    λ i. cond (both.1 i) (Ok tt, padded room (both.0 i)) (refused NumberRange 0, zeros room)

-- ---- what fits

-- what a sum fits, its part does
pub fit_part : (t u : Totals) (at n : ℕ) → ((c : ℕ) → u c ≤ t c) → fit_from t at n ≡ true → fit_from u at n ≡ true
unfolding fit_from
fit_part t u at zero h e = refl
fit_part t u at (suc n) h e = go (ltb (t at) (2 ^ 64)) refl e (fit_part t u (suc at) n h)
  where
    go : (b : Bool) → ltb (t at) (2 ^ 64) ≡ b → (b && fit_from t (suc at) n) ≡ true → (fit_from t (suc at) n ≡ true → fit_from u (suc at) n ≡ true)
        → (ltb (u at) (2 ^ 64) && fit_from u (suc at) n) ≡ true
    go true s e i =
        let below : u at < 2 ^ 64 = omega (arith, h at, ltb-true (t at) (2 ^ 64) s) in
        ap (λ (b : Bool). b && fit_from u (suc at) n) (lt-ltb (u at) (2 ^ 64) below) ∙ i e
    go false s e i = absurd (false_true e)
      where
        false_true : false ≡ true → ⊥
        false_true e =
            let z : ◌≡◌ {A = ℕ} 0 1 = ap (λ (b : Bool). cond b 1 0) e in
            omega arith

-- totals that fit, and those that do not
pub stored_fit : (room : ℕ) (t : Totals) → fit_from t 0 counters ≡ true → stored room t ≡ (Ok tt, padded room (cells t))
unfolding stored
stored_fit room t e = rw e

pub stored_unfit : (room : ℕ) (t : Totals) → fit_from t 0 counters ≡ false → stored room t ≡ (refused NumberRange 0, zeros room)
unfolding stored
stored_unfit room t e = rw e

pub unfit_whole : (t u : Totals) → ((c : ℕ) → u c ≤ t c) → fit_from u 0 counters ≡ false → fit_from t 0 counters ≡ false
unfit_whole t u h e = go (fit_from t 0 counters) refl
  where
    go : (b : Bool) → fit_from t 0 counters ≡ b → b ≡ false
    go false s = refl
    go true s =
        let z : ◌≡◌ {A = ℕ} 1 0 = ap (λ (b : Bool). cond b 1 0) (sym (fit_part t u 0 counters h s) ∙ e) in
        absurd (omega arith)
