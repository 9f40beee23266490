-- One part of a code: what its rule asks, by its letter and its own numbers. Assumes nothing.
use mathlib.Core.Path.{◌≡◌, refl, sym, ap, ◌∙◌}
use Prim.Native.Nat.{ℕ, zero, suc, ◌<◌}
use native.Mathlib.Omega.{arith}
use mathlib.Core.Bool.{Bool, true, false, cond, ◌&&◌}
use mathlib.Core.Option.{Option, none, some}
use mathlib.Core.List.{List, [], ◌∷◌}
use lib.ListN.{get_or}
use lib.Dec.{eqb}
use borrow.Author.Tests.{eqb-true}
use Rattle.grammar.specs.Letters as letter
use Rattle.grammar.specs.Letters.{contains, found, letters, class_of, among, is_bytes, is_tuple, is_string}
use Rattle.grammar.specs.Steps.{Rule, whatever, as_bytes, as_tuple, as_names, as_string, rules}
use Rattle.grammar.specs.Record.{Tables, unless, chain, whole, node_of, sound_at, ruled, containing, suited, names}
use Rattle.grammar.proofs.Tests.{both_true}
use Rattle.grammar.proofs.Lettered.{among-each}
use Rattle.grammar.proofs.Passed.{sound-ruled, sound_at_lem, whole-some}
use Rattle.chains.specs.Chained.{is_some, is_none, bytes_at, string_at, Names}
use Rattle.writecheck.specs.Looking.{NamesFit}
use Rattle.chains.proofs.Chains.{some_is}

-- One part.

pub part_broken : (t : Tables) (rule : Rule) (v : ℕ) {o : Option (List ℕ)} → o ≡ none → false ≡ is_none (suited t rule v o)
part_broken t whatever v e = rw e refl
part_broken t as_bytes v e = rw e refl
part_broken t as_tuple v e = rw e refl
part_broken t as_names v e = rw e refl
part_broken t as_string v e = rw e refl

unless_none : (b : Bool) (v : ℕ) → b ≡ is_none (unless b v)
unless_none true v = refl
unless_none false v = refl

pub tuple-part : (t : Tables) (v : ℕ) {kids : List ℕ} {o : Option (List ℕ)} → o ≡ some kids → {r : Bool} {l : ℕ} → l ≡ (node_of t v).letter → r ≡ is_tuple l
    → r ≡ is_none (suited t as_tuple v o)
tuple-part t v is e f = f ∙ ap is_tuple e ∙ unless_none (is_tuple (node_of t v).letter) v ∙ ap (λ x. is_none (suited t as_tuple v x)) (sym is)

-- A part by its letter, whose class has contents: it has no children, so its chain is whole.
module _ (t : Tables) (v : ℕ) where
  abbrev sounds : Bool
  sounds = sound_at t.input t.nodes t.used_nodes v

  no_chain : {sort : letter.Sort} → sounds ≡ true → class_of (node_of t v).letter ≡ contains sort → whole t v ≡ some []
  unfolding whole chain
  no_chain {sort} e is =
      let r = (sound-ruled t.input (node_of t v) (sound_at_lem t v e).1).1 in
      let none_there = eqb-true (node_of t v).count 0 (both_true (eqb (node_of t v).count 0) (containing t.input (node_of t v) sort) (sym (ap (ruled t.input (node_of t v)) is) ∙ r)).0 in
      ap (λ b. cond b (chain t (node_of t v).count (node_of t v).first) none) e ∙ ap (λ c. chain t c (node_of t v).first) none_there

  pub contained-part : (rule : Rule) (p : Bool) → (p ≡ true → sounds ≡ true → whole t v ≡ some []) → ((kids : List ℕ) → suited t rule v (some kids) ≡ unless p v)
      → (sounds && p) ≡ is_none (suited t rule v (whole t v))
  unfolding whole
  contained-part rule p empty suits = go sounds refl p refl
    where
      unsuited : (o : Option (List ℕ)) → p ≡ false → false ≡ is_none (suited t rule v o)
      unsuited none f = part_broken t rule v refl
      unsuited (some kids) f = sym (ap is_none (suits kids ∙ ap (λ b. unless b v) f))

      go : (b : Bool) → sounds ≡ b → (q : Bool) → p ≡ q → (b && q) ≡ is_none (suited t rule v (whole t v))
      go true e true f = sym (ap (λ o. is_none (suited t rule v o)) (empty f e) ∙ ap is_none (suits [] ∙ ap (λ b. unless b v) f))
      go true e false f = unsuited (whole t v) f
      go false e q f = part_broken t rule v (ap (λ b. cond b (chain t (node_of t v).count (node_of t v).first) none) e)

  pub bytes-part : bytes_at t.input t.nodes t.used_nodes v ≡ is_none (suited t as_bytes v (whole t v))
  unfolding class_of letters found
  bytes-part =
      contained-part as_bytes (is_bytes (node_of t v).letter)
      (λ p e. no_chain e (among-each (λ l. class_of l ≡ contains letter.bytes) (node_of t v).letter (0x73 ∷ []) (refl, tt) p)) (λ kids. refl)

  pub string_part_lem : string_at t.input t.nodes t.used_nodes v ≡ is_none (suited t as_string v (whole t v))
  unfolding class_of letters found
  string_part_lem =
      contained-part as_string (is_string (node_of t v).letter)
      (λ p e.
      among-each (λ l. class_of (node_of t v).letter ≡ class_of l → whole t v ≡ some []) (node_of t v).letter (0x75 ∷ 0x74 ∷ 0x61 ∷ 0x41 ∷ 0x7A ∷ 0x5A ∷ [])
      (no_chain e, (no_chain e, (no_chain e, (no_chain e, (no_chain e, (no_chain e, tt)))))) p refl)
      (λ kids. refl)

pub names_part_lem : (t : Tables) (v : ℕ) {r : Bool} → NamesFit t v r → true ≡ is_some (whole t v) → r ≡ is_none (suited t as_names v (whole t v))
names_part_lem t v k e =
    let w = some_is (whole t v) e in
    k.tells w.0 w.1 ∙ ap (λ x. is_none (suited t as_names v x)) (sym w.1)

pub no_tuple : (t : Tables) (v : ℕ) {b : Bool} {l : ℕ} → l ≡ (node_of t v).letter → b ≡ is_tuple l → b ≡ false → NamesFit t v false
no_tuple t v {b} {l} e f g =
    record { tells = λ kids q. ap (λ x. is_none (names t v x kids)) (sym g ∙ f ∙ ap is_tuple e) }

pub a_tuple : (t : Tables) (v : ℕ) {b r : Bool} {l first count : ℕ} → l ≡ (node_of t v).letter → b ≡ is_tuple l → b ≡ true
    → first ≡ (node_of t v).first → count ≡ (node_of t v).count → Names t first count r → NamesFit t v r
a_tuple t v {b} {r} {l} {first} {count} e f g p q k =
    record {
      tells = λ kids w.
          k.tells kids (ap (λ x. chain t x first) q ∙ ap (chain t (node_of t v).count) p ∙ (whole-some t v kids w).1)
          ∙ ap (λ x. is_none (names t v x kids)) (sym g ∙ f ∙ ap is_tuple e);
    }

pub rule_else : (part : ℕ) → part < 10 → (part ≡ 1 → ⊥) → (part ≡ 2 → ⊥) → (part ≡ 3 → ⊥) → (part ≡ 5 → ⊥) → (part ≡ 6 → ⊥) → (part ≡ 7 → ⊥)
    → get_or rules part whatever ≡ as_bytes
unfolding rules
rule_else zero h n₁ n₂ n₃ n₅ n₆ n₇ = refl
rule_else (suc zero) h n₁ n₂ n₃ n₅ n₆ n₇ = absurd (n₁ refl)
rule_else (suc (suc zero)) h n₁ n₂ n₃ n₅ n₆ n₇ = absurd (n₂ refl)
rule_else (suc (suc (suc zero))) h n₁ n₂ n₃ n₅ n₆ n₇ = absurd (n₃ refl)
rule_else (suc (suc (suc (suc zero)))) h n₁ n₂ n₃ n₅ n₆ n₇ = refl
rule_else (suc (suc (suc (suc (suc zero))))) h n₁ n₂ n₃ n₅ n₆ n₇ = absurd (n₅ refl)
rule_else (suc (suc (suc (suc (suc (suc zero)))))) h n₁ n₂ n₃ n₅ n₆ n₇ = absurd (n₆ refl)
rule_else (suc (suc (suc (suc (suc (suc (suc zero))))))) h n₁ n₂ n₃ n₅ n₆ n₇ = absurd (n₇ refl)
rule_else (suc (suc (suc (suc (suc (suc (suc (suc zero)))))))) h n₁ n₂ n₃ n₅ n₆ n₇ = refl
rule_else (suc (suc (suc (suc (suc (suc (suc (suc (suc zero))))))))) h n₁ n₂ n₃ n₅ n₆ n₇ = refl
rule_else (suc (suc (suc (suc (suc (suc (suc (suc (suc (suc k)))))))))) h n₁ n₂ n₃ n₅ n₆ n₇ = absurd (omega arith)

pub by_rule : (t : Tables) (v : ℕ) {rule rule' : Rule} → rule ≡ rule' → is_none (suited t rule' v (whole t v)) ≡ is_none (suited t rule v (whole t v))
by_rule t v e = ap (λ r. is_none (suited t r v (whole t v))) (sym e)
