-- How far a header stands before its place, and how much a node itself holds, by the number of its letter's class; and where a header stands.
-- Assumes nothing.
use mathlib.Core.Path.{◌≡◌, refl, ap, ◌∙◌}
use Prim.Native.Nat.{ℕ, zero, suc, ◌-◌, ◌<◌}
use native.Mathlib.Omega.{arith}
use Rattle.grammar.specs.Letters.{class_of}
use Rattle.grammar.specs.State.{Node}
use Rattle.fields.specs.Classes.{classes, class_at}
use Rattle.nodespan.specs.Header.{lead, own_size, header_of}

-- of all classes but strings and bytes the place is the byte after the header
pub lead-other : (class : ℕ) → (class ≡ 9 → ⊥) → (class ≡ 10 → ⊥) → (class ≡ 11 → ⊥) → 1 ≡ lead (class_at class)
unfolding classes class_at
lead-other zero a b c = refl
lead-other (suc zero) a b c = refl
lead-other (suc (suc zero)) a b c = refl
lead-other (suc (suc (suc zero))) a b c = refl
lead-other (suc (suc (suc (suc zero)))) a b c = refl
lead-other (suc (suc (suc (suc (suc zero))))) a b c = refl
lead-other (suc (suc (suc (suc (suc (suc zero)))))) a b c = refl
lead-other (suc (suc (suc (suc (suc (suc (suc zero))))))) a b c = refl
lead-other (suc (suc (suc (suc (suc (suc (suc (suc zero)))))))) a b c = refl
lead-other (suc (suc (suc (suc (suc (suc (suc (suc (suc zero))))))))) a b c = absurd (a refl)
lead-other (suc (suc (suc (suc (suc (suc (suc (suc (suc (suc zero)))))))))) a b c = absurd (b refl)
lead-other (suc (suc (suc (suc (suc (suc (suc (suc (suc (suc (suc zero))))))))))) a b c = absurd (c refl)
lead-other (suc (suc (suc (suc (suc (suc (suc (suc (suc (suc (suc (suc zero)))))))))))) a b c = refl
lead-other (suc (suc (suc (suc (suc (suc (suc (suc (suc (suc (suc (suc (suc zero))))))))))))) a b c = refl
lead-other (suc (suc (suc (suc (suc (suc (suc (suc (suc (suc (suc (suc (suc (suc more)))))))))))))) a b c = refl

-- all but a code hold their size
pub own_other : (class size : ℕ) → (class ≡ 12 → ⊥) → size ≡ own_size (class_at class) size
unfolding classes class_at
own_other zero size n = refl
own_other (suc zero) size n = refl
own_other (suc (suc zero)) size n = refl
own_other (suc (suc (suc zero))) size n = refl
own_other (suc (suc (suc (suc zero)))) size n = refl
own_other (suc (suc (suc (suc (suc zero))))) size n = refl
own_other (suc (suc (suc (suc (suc (suc zero)))))) size n = refl
own_other (suc (suc (suc (suc (suc (suc (suc zero))))))) size n = refl
own_other (suc (suc (suc (suc (suc (suc (suc (suc zero)))))))) size n = refl
own_other (suc (suc (suc (suc (suc (suc (suc (suc (suc zero))))))))) size n = refl
own_other (suc (suc (suc (suc (suc (suc (suc (suc (suc (suc zero)))))))))) size n = refl
own_other (suc (suc (suc (suc (suc (suc (suc (suc (suc (suc (suc zero))))))))))) size n = refl
own_other (suc (suc (suc (suc (suc (suc (suc (suc (suc (suc (suc (suc zero)))))))))))) size n = absurd (n refl)
own_other (suc (suc (suc (suc (suc (suc (suc (suc (suc (suc (suc (suc (suc zero))))))))))))) size n = refl
own_other (suc (suc (suc (suc (suc (suc (suc (suc (suc (suc (suc (suc (suc (suc more)))))))))))))) size n = refl

module _ (n : Node) {place letter l : ℕ} (p : place ≡ n.place) (q : letter ≡ n.letter) (is : l ≡ lead (class_of letter)) where
  header_is : place - l ≡ header_of n
  unfolding header_of
  header_is =
      ap (λ x. place - x) (is ∙ ap (λ x. lead (class_of x)) q) ∙ ap (λ x. x - lead (class_of n.letter)) p

  pub header-some : {r : ℕ} → r ≡ place - l → r ≡ header_of n
  header-some e = e ∙ header_is

  pub header_none : place < l → 0 ≡ header_of n
  header_none h = let e : 0 ≡ place - l = omega arith in e ∙ header_is
