-- A number of which more bytes come.
use mathlib.Core.Path.{◌≡◌, refl, sym, ap, ◌∙◌}
use mathlib.Core.Bool.{Bool, true, false, cond, ◌&&◌}
use mathlib.Core.List.{List, [], ◌∷◌, ◌++◌}
use Prim.Native.Nat.{ℕ, ◌+◌, ◌-◌, ◌/◌, ◌%◌, ◌≤◌, ◌<◌}
use native.Mathlib.Omega.{arith}
use lib.ListN.{length, drop, length-append}
use lib.Seq.{drop-append-le}
use lib.Dec.{leb, ltb, eqb}
use borrow.Author.Tests.{lt-leb, leb-false, lt-ltb, le-ltb, ltb-true, ltb-false, eqb-true, eqb-false, eq-eqb, ne_eqb}
use Rattle.std.specs.Prelude.{Option, Some, None}
use Rattle.lineentry.specs.declared.Varint.{Varint}
use Rattle.lineentry.specs.Varint.{read_as, more, digits, number, cut, varint_within, varint_at, signed_of}
use Rattle.lineentry.specs.Line.{origin, moved}
use Rattle.rows.proofs.Local.{never, parsed, narrow, varint_local}
use Rattle.rows.proofs.Extent.{ran}
use Rattle.rows.proofs.Joins.{same_append}

-- ---- digits of which more come
onto_on : (t : Bool) (b : ℕ) (d v : List ℕ) → (cut d ≡ true → (digits (d ++ v) ≡ d ++ digits v) × (digits d ≡ d) × (cut (d ++ v) ≡ cut v)) → (t && cut d) ≡ true
    → (b ∷ cond t (digits (d ++ v)) [] ≡ b ∷ (d ++ digits v)) × (b ∷ cond t (digits d) [] ≡ b ∷ d) × ((t && cut (d ++ v)) ≡ cut v)
onto_on true b d v h c = let r = h c in (ap {B = List ℕ} (λ x. b ∷ x) r.0, ap {B = List ℕ} (λ x. b ∷ x) r.1, r.2)
onto_on false b d v h c = never (sym c)

pub digits_onto : (d v : List ℕ) → cut d ≡ true → (digits (d ++ v) ≡ d ++ digits v) × (digits d ≡ d) × (cut (d ++ v) ≡ cut v)
digits_onto [] v c = (refl, refl, refl)
digits_onto (b ∷ d) v c = onto_on (more b) b d v (digits_onto d v) c

kept_on : (t : Bool) (b : ℕ) (d v : List ℕ) → (cut d ≡ false → digits (d ++ v) ≡ digits d) → (t && cut d) ≡ false → b ∷ cond t (digits (d ++ v)) [] ≡ b ∷ cond t (digits d) []
kept_on true b d v h c = ap {B = List ℕ} (λ x. b ∷ x) (h c)
kept_on false b d v h c = refl

digits-kept : (d v : List ℕ) → cut d ≡ false → digits (d ++ v) ≡ digits d
digits-kept [] v c = never c
digits-kept (b ∷ d) v c = kept_on (more b) b d v (digits-kept d v) c

number_grows : (d e : List ℕ) → number d ≤ number (d ++ e)
number_grows [] e = omega arith
number_grows (b ∷ d) e = omega (arith, number_grows d e)

number_parity : (d e : List ℕ) → 0 < number d → number d % 2 ≡ number (d ++ e) % 2
number_parity [] e h = absurd (omega arith)
number_parity (b ∷ d) e h = omega arith

-- no fewer digits and no smaller number
record More (d v : List ℕ) : Type 0 where
  longer : length (digits d) ≤ length (digits (d ++ v))
  larger : number (digits d) ≤ number (digits (d ++ v))

more_of : (d v : List ℕ) → More d v
more_of d v = go (cut d) refl where
  go : (t : Bool) → cut d ≡ t → More d v
  go true c =
      let r = digits_onto d v c in
      record { longer = rw (r.0, r.1) (omega (arith, length-append d (digits v))); larger = rw (r.0, r.1) (number_grows d (digits v)) }
  go false c = let e = digits-kept d v c in record { longer = rw e (omega arith); larger = rw e (omega arith) }

-- ---- too long
long_on : (s : List ℕ) (p : ℕ) (w z : Bool) → leb (length (digits (drop p s))) 6 ≡ w → ltb (number (digits (drop p s))) 4294967296 ≡ z
    → cond (w && z) (read_as (number (digits (drop p s))) (p + length (digits (drop p s))) (cut (drop p s))) None ≡ None → (w && z) ≡ false
long_on s p true true h k e = let z : ◌≡◌ {A = ℕ} 0 1 = cc in absurd (omega arith)
long_on s p true false h k e = refl
long_on s p false z h k e = refl

is_long_lem : (s : List ℕ) (p : ℕ) → varint_at s p ≡ None → (leb (length (digits (drop p s))) 6 && ltb (number (digits (drop p s))) 4294967296) ≡ false
unfolding varint_within
is_long_lem s p e = long_on s p (leb (length (digits (drop p s))) 6) (ltb (number (digits (drop p s))) 4294967296) refl refl e

still_on : (a b : ℕ) (x y : ℕ) (w : Bool) → leb a 6 ≡ w → (w && ltb x 4294967296) ≡ false → a ≤ b → x ≤ y → (leb b 6 && ltb y 4294967296) ≡ false
still_on a b x y true h e k l = let z : 4294967296 ≤ y = omega (arith, ltb-false x 4294967296 e) in rw (le-ltb y 4294967296 z) (and_no (leb b 6)) where
  and_no : (t : Bool) → (t && false) ≡ false
  and_no true = refl
  and_no false = refl
still_on a b x y false h e k l = let z : 6 < b = omega (arith, leb-false a 6 h) in rw (lt-leb b 6 z)

long_by_lem : (s : List ℕ) (p : ℕ) → (leb (length (digits (drop p s))) 6 && ltb (number (digits (drop p s))) 4294967296) ≡ false → varint_at s p ≡ None
unfolding varint_within
long_by_lem s p e = rw e

pub long_stays : (u v : List ℕ) (p : ℕ) → p ≤ length u → varint_at u p ≡ None → varint_at (u ++ v) p ≡ None
long_stays u v p h e =
    let m = more_of (drop p u) v in
    long_by_lem (u ++ v) p (rw (drop-append-le p u v h) (still_on (length (digits (drop p u))) _ (number (digits (drop p u))) _ _ refl (is_long_lem u p e) m.longer m.larger))

-- ---- all there
pub whole_stays : (u v : List ℕ) (p x q : ℕ) → p ≤ length u → varint_at u p ≡ read_as x q false → varint_at (u ++ v) p ≡ read_as x q false
whole_stays u v p x q h e = varint_local u (u ++ v) p x q e (narrow p q (omega arith) (omega arith) (same_append u v q (ran u p x q false h e).upto))

-- ---- cut: the number only grows, and keeps its sign
abbrev pub Grown : ℕ → Option Varint → Type 0
Grown x (Some v) = (x ≤ v.value) × (0 < x → x % 2 ≡ v.value % 2) × (v.value < 4294967296)
Grown x None = Unit {0}

pub cut_grows : (u v : List ℕ) (p x q : ℕ) → p ≤ length u → varint_at u p ≡ read_as x q true → (w : Option Varint) → varint_at (u ++ v) p ≡ w → Grown x w
cut_grows u v p x q h e None k = tt
cut_grows u v p x q h e (Some w) k =
    let a = parsed u p x q true e in
    let b = parsed (u ++ v) p w.value w.next w.missing k in
    let j = drop-append-le p u v h in
    let r = digits_onto (drop p u) v a.cuts in
    let vy : number (drop p u ++ digits v) ≡ w.value = rw (j, r.0) at b.value in
    let vx : number (drop p u) ≡ x = rw r.1 at a.value in
    (omega (arith, number_grows (drop p u) (digits v)), (λ z. let n = number_parity (drop p u) (digits v) (omega arith) in sym (ap (λ i. i % 2) vx) ∙ n ∙ ap (λ i. i % 2) vy), omega (arith, b.small, b.value))

-- six bytes that all say more, and one byte behind them
pub full_long : (u : List ℕ) (b : ℕ) (v : List ℕ) (p x q : ℕ) → p ≤ length u → varint_at u p ≡ read_as x q true → 6 ≤ q - p → varint_at (u ++ b ∷ v) p ≡ None
full_long u b v p x q h e k =
    let a = parsed u p x q true e in
    let r = digits_onto (drop p u) (b ∷ v) a.cuts in
    let l : 6 < length (drop p u ++ digits (b ∷ v)) = omega (arith, length-append (drop p u) (digits (b ∷ v)), a.wide, ap length r.1) in
    long_by_lem (u ++ b ∷ v) p (rw (drop-append-le p u (b ∷ v) h, r.0, lt-leb (length (drop p u ++ digits (b ∷ v))) 6 l))

-- ---- lines
outside_on : (line step : ℕ) (a b : Bool) → ltb (line + step) origin ≡ a → ltb (line + step) (origin + 4294967296) ≡ b
    → cond a None (cond b (Some (line + step - origin)) None) ≡ None → (a ≡ false → origin + 4294967296 ≤ line + step)
outside_on line step true b h k e = λ z. never z
outside_on line step false true h k e = let z : ◌≡◌ {A = ℕ} 0 1 = cc in absurd (omega arith)
outside_on line step false false h k e = λ z. ltb-false (line + step) (origin + 4294967296) k

-- a line that is outside is so on one side
pub outside_above : (line step : ℕ) → moved line step ≡ None → origin ≤ line + step → origin + 4294967296 ≤ line + step
unfolding moved
outside_above line step e h =
    outside_on line step (ltb (line + step) origin) (ltb (line + step) (origin + 4294967296)) refl refl e (le-ltb (line + step) origin h)

pub outside_low : (line step : ℕ) → line + step < origin → moved line step ≡ None
unfolding moved
outside_low line step h = rw (lt-ltb (line + step) origin h)

pub outside_high : (line step : ℕ) → origin + 4294967296 ≤ line + step → moved line step ≡ None
unfolding moved
outside_high line step h =
    let z : origin ≤ line + step = omega arith in
    rw (le-ltb (line + step) origin z, le-ltb (line + step) (origin + 4294967296) h)

pub moved_to : (line step : ℕ) → origin ≤ line + step → line + step < origin + 4294967296 → moved line step ≡ Some (line + step - origin)
unfolding moved
moved_to line step h k = rw (le-ltb (line + step) origin h, lt-ltb (line + step) (origin + 4294967296) k)

to_on : (line step to : ℕ) (a b : Bool) → ltb (line + step) origin ≡ a → ltb (line + step) (origin + 4294967296) ≡ b
    → cond a None (cond b (Some (line + step - origin)) None) ≡ Some to → to < 4294967296
to_on line step to true b h k e = let z : ◌≡◌ {A = ℕ} 0 1 = cc in absurd (omega arith)
to_on line step to false true h k e = let z : line + step - origin ≡ to = cc in omega (arith, ltb-true (line + step) (origin + 4294967296) k)
to_on line step to false false h k e = let z : ◌≡◌ {A = ℕ} 0 1 = cc in absurd (omega arith)

pub to_lt : (line step to : ℕ) → moved line step ≡ Some to → to < 4294967296
unfolding moved
to_lt line step to e = to_on line step to (ltb (line + step) origin) (ltb (line + step) (origin + 4294967296)) refl refl e

-- A step that leads out of range does so with a greater magnitude too.
pub out_stays : (line x y : ℕ) → line < 4294967296 → x ≤ y → (0 < x → x % 2 ≡ y % 2) → y < 4294967296 → moved line (signed_of x) ≡ None → moved line (signed_of y) ≡ None
out_stays line x y h k s l e = go (eqb (x % 2) 0) refl e where
  go : (t : Bool) → eqb (x % 2) 0 ≡ t → moved line (cond t (origin + x / 2) (origin - x / 2)) ≡ None → moved line (signed_of y) ≡ None
  go true t m =
      let a : origin + 4294967296 ≤ line + (origin + x / 2) = outside_above line (origin + x / 2) m (omega arith) in
      let z : 0 < x = omega arith in
      let p : y % 2 ≡ 0 = sym (s z) ∙ eqb-true (x % 2) 0 t in
      rw (eq-eqb (y % 2) 0 p) (outside_high line (origin + y / 2) (omega arith))
  go false t m = low (ltb (line + (origin - x / 2)) origin) refl where
    odd : y % 2 ≡ 1
    odd = let w = eqb-false (x % 2) 0 t in let z : 0 < x = omega (arith, w) in let p = s z in omega (arith, w)

    low : (b : Bool) → ltb (line + (origin - x / 2)) origin ≡ b → moved line (signed_of y) ≡ None
    low true b =
        let q : line + (origin - x / 2) < origin = ltb-true _ _ b in
        rw (ne_eqb (y % 2) 0 (λ z. let o = odd in omega arith)) (outside_low line (origin - y / 2) (omega arith))
    low false b =
        let q : origin ≤ line + (origin - x / 2) = ltb-false _ _ b in
        let a : origin + 4294967296 ≤ line + (origin - x / 2) = outside_above line (origin - x / 2) m q in
        absurd (omega arith)
