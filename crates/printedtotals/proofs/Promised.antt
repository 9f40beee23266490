-- Two totals that print alike are equal: each line's label is the same, and its number ends at the newline. Assumes nothing.
use mathlib.Core.Path.{◌≡◌, sym, ap, ◌∙◌}
use mathlib.Core.List.{List, [], ◌∷◌, ◌++◌, append_assoc}
use Prim.Native.Nat.{ℕ, zero, suc, ◌+◌, ◌<◌}
use native.Mathlib.Omega.{arith}
use native.Mathlib.Nat.{zero-add, not-suc-le-zero}
use Rattle.decimals.specs.Decimal.{decimal}
use Rattle.decimals.proofs.Promised.{decimals_keep_their_promises}
use Rattle.totals.specs.Totals.{counters, Totals}
use Rattle.printedtotals.specs.Lines.{newline, label, line, lines_from}
use Rattle.printedtotals.specs.Promised.{Promised}

abbrev behind : List ℕ → List ℕ
behind [] = []
behind (x ∷ xs) = xs

same_front : (front xs ys : List ℕ) → front ++ xs ≡ front ++ ys → xs ≡ ys
same_front [] xs ys e = e
same_front (x ∷ front) xs ys e = same_front front xs ys (ap behind e)

line-then : (counter count : ℕ) (rest : List ℕ) → line counter count ++ rest ≡ label counter ++ (decimal count ++ newline ∷ rest)
unfolding line
line-then counter count rest =
    append_assoc (label counter) (decimal count ++ newline ∷ []) rest
    ∙ ap (λ (l : List ℕ). label counter ++ l) (append_assoc (decimal count) (newline ∷ []) rest)

lines-alike : (t u : Totals) (at n : ℕ) → lines_from t at n ≡ lines_from u at n → (c : ℕ) → c < n → t (at + c) ≡ u (at + c)
unfolding lines_from
lines-alike t u at zero e c h = absurd (not-suc-le-zero h)
lines-alike t u at (suc n) e c h = go (lines-alike t u (suc at) n) c h
  where
    both : (t at ≡ u at) × (lines_from t (suc at) n ≡ lines_from u (suc at) n)
    both =
        decimals_keep_their_promises.ended (t at) (u at) newline (lines_from t (suc at) n) (lines_from u (suc at) n) (omega arith)
        (same_front (label at) _ _ (sym (line-then at (t at) (lines_from t (suc at) n)) ∙ e ∙ line-then at (u at) (lines_from u (suc at) n)))

    here : at + 0 ≡ at
    here = omega arith

    shift : (c : ℕ) → at + suc c ≡ suc at + c
    shift c = omega arith

    go : (lines_from t (suc at) n ≡ lines_from u (suc at) n → (c : ℕ) → c < n → t (suc at + c) ≡ u (suc at + c)) → (c : ℕ) → c < suc n → t (at + c) ≡ u (at + c)
    go i zero h = ap t here ∙ both.0 ∙ ap u (sym here)
    go i (suc c) h = ap t (shift c) ∙ i both.1 c (omega arith) ∙ ap u (sym (shift c))

pub printed_totals_keep_their_promises : Promised
printed_totals_keep_their_promises =
    record {
      digits = decimals_keep_their_promises;
      alike = λ t u e c h. ap t (sym (zero-add c)) ∙ lines-alike t u 0 counters e c h ∙ ap u (zero-add c);
    }
