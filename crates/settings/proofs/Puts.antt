-- Bytes that are put into the output, or do not fit: what comes behind them comes to the same. Assumes nothing.
use mathlib.Core.Path.{◌≡◌, refl, sym, ap, ◌∙◌, subst}
use mathlib.Core.Bool.{cond}
use mathlib.Core.List.{List, [], ◌++◌, append_assoc}
use mathlib.Core.Option.{none, some}
use Prim.Native.Nat.{ℕ, ◌+◌, ◌-◌, ◌≤◌, ◌<◌}
use native.Mathlib.Omega.{arith}
use lib.Dec.{ltb, eqb}
use lib.ListN.{length, take, drop, length-append}
use lib.Seq.{sets}
use borrow.Author.Tests.{lt-ltb, eq-eqb, ne_eqb}
use Rattle.taggedfields.specs.Looking.{size_in, bytes_at}
use Rattle.taggedfields.proofs.Stored.{sets-append}
use Rattle.std.specs.Prelude as rust
use Rattle.settings.specs.Putting.{after, Puts}

-- what does not fit comes to nothing
short : (room used : ℕ) (out bytes more : List ℕ) → room < used + length bytes → none ≡ after room used out (bytes ++ more)
unfolding after
short room used out bytes more h = let l = length-append bytes more in rw (lt-ltb room (used + length (bytes ++ more)) (omega (arith, l))) refl

pub puts_none : {room used : ℕ} {out out' bytes : List ℕ} → room < used + length bytes → Puts room used out bytes rust.None out'
puts_none {room} {used} {out} {out'} {bytes} h = record { upto = λ e. absurd (cc); comes = λ more. short room used out bytes more h }

-- what fits is stored, and the rest comes behind it
pub puts-bytes : {room used : ℕ} {out out' : List ℕ} (bytes : List ℕ) → used ≤ room → length bytes ≤ room - used → out' ≡ sets out used bytes
    → Puts room used out bytes (rust.Some (used + length bytes)) out'
unfolding after
puts-bytes {room} {used} {out} {out'} bytes k h e = record { upto = λ {n} q. (let z : used + length bytes ≡ n = cc in omega arith); comes = stored }
  where
    stored : (more : List ℕ) → after room (used + length bytes) out' more ≡ after room used out (bytes ++ more)
    stored more =
        let l : used + length (bytes ++ more) ≡ used + length bytes + length more = omega (arith, length-append bytes more) in
        let q : sets out used (bytes ++ more) ≡ sets out' (used + length bytes) more = sets-append out used bytes more ∙ ap (λ o. sets o (used + length bytes) more) (sym e) in
        sym (ap (λ x. cond (ltb room x) none (some (x, sets out used (bytes ++ more)))) l
        ∙ ap (λ o. cond (ltb room (used + length bytes + length more)) none (some (used + length bytes + length more, o))) q)

-- one of two, and none
pub puts_first : {room used place : ℕ} {r : rust.Option ℕ} {out a out' : List ℕ} (b : List ℕ) → place ≡ 0 → Puts room used out a r out' → Puts room used out (cond (eqb place 0) a b) r out'
puts_first {room} {used} {place} {r} {out} {a} {out'} b e p = subst (λ t. Puts room used out (cond t a b) r out') (sym (eq-eqb place 0 e)) p

pub puts-second : {room used place : ℕ} {r : rust.Option ℕ} {out b out' : List ℕ} (a : List ℕ) → (place ≡ 0 → ⊥) → Puts room used out b r out' → Puts room used out (cond (eqb place 0) a b) r out'
puts-second {room} {used} {place} {r} {out} {b} {out'} a e p = subst (λ t. Puts room used out (cond t a b) r out') (sym (ne_eqb place 0 e)) p

pub puts-nothing : {room used : ℕ} {out : List ℕ} → used ≤ room → Puts room used out [] (rust.Some used) out
puts-nothing {room} {used} h = record { upto = λ {n} q. (let z : used ≡ n = cc in omega arith); comes = λ more. refl }

pub puts_then : {room used r : ℕ} {q : rust.Option ℕ} {out out' out'' : List ℕ} (a b : List ℕ) → Puts room used out a (rust.Some r) out' → Puts room r out' b q out''
    → Puts room used out (a ++ b) q out''
puts_then {room} {used} {r} {q} {out} {out'} {out''} a b p w = record {
  upto = w.upto;
  comes = λ more. w.comes more ∙ p.comes (b ++ more)
      ∙ ap (after room used out) (sym (append_assoc a b more));
}

-- where the first do not fit, nothing does
pub puts_no_more : {room used : ℕ} {out out' out'' : List ℕ} (a b : List ℕ) → Puts room used out a rust.None out' → Puts room used out (a ++ b) rust.None out''
puts_no_more {room} {used} {out} a b p = record { upto = λ e. absurd (cc); comes = λ more. p.comes (b ++ more) ∙ ap (after room used out) (sym (append_assoc a b more)) }

-- a whole field
pub puts-field : {room used : ℕ} {r : rust.Option ℕ} {out out' : List ℕ} (s : List ℕ) (at n : ℕ) → n ≡ 3 + size_in s at → Puts room used out (take n (drop at s)) r out'
    → Puts room used out (bytes_at s at) r out'
puts-field {room} {used} {r} {out} {out'} s at n e p = subst (λ n. Puts room used out (take n (drop at s)) r out') e p
