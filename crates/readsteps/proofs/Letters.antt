-- The tests of letters and rules, one law for each way out: `is_tuple`, `is_string`, `strings`, `suits` and `rule_at`.
-- Assumes nothing.
use mathlib.Core.Path.{◌≡◌, refl, sym, ap, ◌∙◌}
use Prim.Native.Nat.{ℕ, zero, suc, ◌-◌, ◌≤◌, ◌<◌}
use native.Mathlib.Omega.{arith}
use mathlib.Core.Bool.{Bool, true, false, cond, ◌&&◌}
use mathlib.Core.List.{List}
use lib.ListN.{get_or}
use lib.Dec.{eqb}
use borrow.Author.Tests.{ne_eqb}
use Rattle.grammar.specs.Letters.{is_bytes, is_tuple, is_string}
use Rattle.grammar.specs.State.{node_at, entry_at}
use Rattle.grammar.specs.Steps.{Rule, whatever, as_bytes, as_tuple, as_names, as_string, rules}
use Rattle.readsteps.specs.Linking.{rule_of, rule_number, strings_in}

pub tuple_none : (x : ℕ) → (x ≡ 0x28 → ⊥) → (x ≡ 0x29 → ⊥) → false ≡ is_tuple x
tuple_none x a b = rw (ne_eqb x 0x28 a, ne_eqb x 0x29 b) refl

pub string_none : (x : ℕ) → (x ≡ 0x75 → ⊥) → (x ≡ 0x74 → ⊥) → (x ≡ 0x61 → ⊥) → (x ≡ 0x41 → ⊥) → (x ≡ 0x7A → ⊥) → (x ≡ 0x5A → ⊥) → false ≡ is_string x
string_none x a b c d e f =
    rw (ne_eqb x 0x75 a, ne_eqb x 0x74 b, ne_eqb x 0x61 c, ne_eqb x 0x41 d, ne_eqb x 0x7A e, ne_eqb x 0x5A f) refl

pub bytes-is : (x : ℕ) → eqb x 0x73 ≡ is_bytes x
bytes-is x = go (eqb x 0x73)
  where
    go : (b : Bool) → b ≡ cond b true false
    go true = refl
    go false = refl

-- a chain of strings, one link at a time
module _ (ns es : List ℕ) (left e : ℕ) {child letter : ℕ} {t : Bool} (some : 0 < left) (at : child ≡ (entry_at es e).child) (is : letter ≡ (node_at ns child).letter) (test : t ≡ is_string letter) where
  opens-chain : strings_in ns es left e ≡ t && strings_in ns es (left - 1) (entry_at es e).next
  unfolding strings_in
  opens-chain =
      let more : left ≡ suc (left - 1) = omega arith in
      ap (λ n. strings_in ns es n e) more
      ∙ ap (λ b. b && strings_in ns es (left - 1) (entry_at es e).next) (ap (λ c. is_string (node_at ns c).letter) (sym at) ∙ ap is_string (sym is) ∙ sym test)

  pub strings-cut : t ≡ false → strings_in ns es left e ≡ false
  strings-cut h = opens-chain ∙ ap (λ b. b && strings_in ns es (left - 1) (entry_at es e).next) h

  pub strings_more : {next : ℕ} → t ≡ true → next ≡ (entry_at es e).next → strings_in ns es left e ≡ strings_in ns es (left - 1) next
  strings_more h on = opens-chain ∙ ap (λ b. b && strings_in ns es (left - 1) (entry_at es e).next) h ∙ ap (strings_in ns es (left - 1)) (sym on)

pub strings_all : (ns es : List ℕ) (left e : ℕ) → left ≤ 0 → strings_in ns es left e ≡ true
unfolding strings_in
strings_all ns es zero e h = refl
strings_all ns es (suc n) e h = absurd (omega arith)

-- rules by number
pub rule_back : (r : Rule) → rule_of (rule_number r) ≡ r
rule_back whatever = refl
rule_back as_bytes = refl
rule_back as_tuple = refl
rule_back as_names = refl
rule_back as_string = refl

pub rule_string : (r : ℕ) → (r ≡ 0 → ⊥) → (r ≡ 1 → ⊥) → (r ≡ 2 → ⊥) → (r ≡ 3 → ⊥) → rule_of r ≡ as_string
rule_string zero a b c d = absurd (a refl)
rule_string (suc zero) a b c d = absurd (b refl)
rule_string (suc (suc zero)) a b c d = absurd (c refl)
rule_string (suc (suc (suc zero))) a b c d = absurd (d refl)
rule_string (suc (suc (suc (suc n)))) a b c d = refl

pub no_rule : (i : ℕ) → (i ≡ 0 → ⊥) → (i ≡ 1 → ⊥) → (i ≡ 2 → ⊥) → (i ≡ 3 → ⊥) → (i ≡ 4 → ⊥) → (i ≡ 5 → ⊥) → (i ≡ 6 → ⊥) → (i ≡ 7 → ⊥) → (i ≡ 8 → ⊥) → (i ≡ 9 → ⊥) → whatever ≡ get_or rules i whatever
unfolding rules
no_rule zero a b c d e f g h j k = absurd (a refl)
no_rule (suc zero) a b c d e f g h j k = absurd (b refl)
no_rule (suc (suc zero)) a b c d e f g h j k = absurd (c refl)
no_rule (suc (suc (suc zero))) a b c d e f g h j k = absurd (d refl)
no_rule (suc (suc (suc (suc zero)))) a b c d e f g h j k = absurd (e refl)
no_rule (suc (suc (suc (suc (suc zero))))) a b c d e f g h j k = absurd (f refl)
no_rule (suc (suc (suc (suc (suc (suc zero)))))) a b c d e f g h j k = absurd (g refl)
no_rule (suc (suc (suc (suc (suc (suc (suc zero))))))) a b c d e f g h j k = absurd (h refl)
no_rule (suc (suc (suc (suc (suc (suc (suc (suc zero)))))))) a b c d e f g h j k = absurd (j refl)
no_rule (suc (suc (suc (suc (suc (suc (suc (suc (suc zero))))))))) a b c d e f g h j k = absurd (k refl)
no_rule (suc (suc (suc (suc (suc (suc (suc (suc (suc (suc n)))))))))) a b c d e f g h j k = refl
