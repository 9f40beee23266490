-- The parts of a code, one after another, and what the record test comes to. Assumes nothing.
use mathlib.Core.Path.{◌≡◌, refl, sym, ap, ◌∙◌}
use Prim.Native.Nat.{ℕ, zero, suc, ◌+◌, ◌-◌, ◌%◌, ◌≤◌, ◌<◌}
use native.Mathlib.Omega.{arith}
use mathlib.Core.Bool.{Bool, true, false, cond, ◌&&◌}
use mathlib.Core.Option.{Option, none, some}
use mathlib.Core.List.{List, [], ◌∷◌}
use lib.ListN.{get_or, drop}
use lib.Seq.{drop-cons}
use lib.Dec.{ltb, eqb}
use borrow.Author.Tests.{eqb-true, eq-eqb, ne_eqb}
use Rattle.grammar.specs.Letters.{Class, refers, keeps, contains, codes, refuses, found, letters, class_of}
use Rattle.grammar.specs.Fields.{sum_at}
use Rattle.grammar.specs.State.{node_at, entry_at}
use Rattle.grammar.specs.Steps.{whatever, rules, code_parts}
use Rattle.grammar.specs.Record.{Tables, holds, faulty, look, looked_as, looked_of, judged, or_else, unless, chain, whole, node_of, ruled, suited, bad_part, bad_end}
use Rattle.grammar.proofs.Tests.{never}
use Rattle.grammar.proofs.Lettered.{class_passes}
use Rattle.grammar.proofs.Passed.{sound-ruled, CodeRuled, code-ruled, sound_at_lem, whole-some}
use Rattle.chains.specs.Chained.{is_some, is_none}
use Rattle.writecheck.specs.Looking.{Held, Looks, Parts, after, part_of, evenly}
use Rattle.chains.proofs.Chains.{onto, headed, chain_none, none_is, none_so, some_so}

-- Part after part.

drop_rule : (i : ℕ) → i < 10 → drop i rules ≡ get_or rules i whatever ∷ drop (suc i) rules
unfolding rules
drop_rule i h = drop-cons rules i whatever h

pub record Left (t : Tables) (part e : ℕ) (parts : List ℕ) : Type 0 where
  pub rest : List ℕ
  pub chained : chain t (10 - part) e ≡ some rest
  pub comes : is_none (bad_part t (drop part rules) rest) ≡ is_none (bad_part t rules parts)

pub record Fitting (t : Tables) (first part e : ℕ) : Type 0 where
  pub within : part ≤ 10
  pub left : (parts : List ℕ) → chain t code_parts first ≡ some parts → Left t part e parts

pub fitting_none : (t : Tables) (first : ℕ) → Fitting t first 0 first
fitting_none t first = record { within = omega arith; left = λ parts q. record { rest = parts; chained = q; comes = refl } }

both_none : (a b : Option ℕ) → is_none (or_else a b) ≡ (is_none a && is_none b)
both_none none b = refl
both_none (some x) b = refl

-- one part of those that are left
record Turn (t : Tables) (part e v : ℕ) (parts : List ℕ) : Type 0 where
  rest : List ℕ
  chained : chain t (10 - (part + 1)) (onto t.entries e) ≡ some rest
  comes : (is_none (suited t (get_or rules part whatever) v (whole t v)) && is_none (bad_part t (drop (part + 1) rules) rest)) ≡ is_none (bad_part t rules parts)

turn : (t : Tables) (part e v : ℕ) (parts : List ℕ) → Left t part e parts → part < 10 → v ≡ (entry_at t.entries e).child → Turn t part e v parts
unfolding bad_part
turn t part e v parts k l is =
    let n : 10 - part ≡ suc (10 - (part + 1)) = omega arith in
    let d = headed t (10 - (part + 1)) e k.rest (sym (ap (λ m. chain t m e) n) ∙ k.chained) in
    let m : suc part ≡ part + 1 = omega arith in
    record {
      rest = d.rest;
      chained = d.more;
      comes =
          ap (λ x. is_none (suited t (get_or rules part whatever) x (whole t x)) && is_none (bad_part t (drop (part + 1) rules) d.rest)) is
          ∙ sym (both_none (suited t (get_or rules part whatever) (entry_at t.entries e).child (whole t (entry_at t.entries e).child)) (bad_part t (drop (part + 1) rules) d.rest))
          ∙ ap (λ i. is_none (bad_part t (get_or rules part whatever ∷ drop i rules) ((entry_at t.entries e).child ∷ d.rest))) (sym m)
          ∙ ap (λ rs. is_none (bad_part t rs ((entry_at t.entries e).child ∷ d.rest))) (sym (drop_rule part l))
          ∙ ap (λ vs. is_none (bad_part t (drop part rules) vs)) (sym d.are)
          ∙ k.comes;
    }

pub fitting_not : (t : Tables) (first part e v : ℕ) {r : Bool} → Fitting t first part e → part < 10 → v ≡ (entry_at t.entries e).child
    → r ≡ is_none (suited t (get_or rules part whatever) v (whole t v)) → r ≡ false → Parts t first false
fitting_not t first part e v w l is tells fails =
    record {
      tells = λ parts q.
          let d = turn t part e v parts (w.left parts q) l is in
          ap (λ b. b && is_none (bad_part t (drop (part + 1) rules) d.rest)) (sym fails ∙ tells) ∙ d.comes;
    }

pub fitting_more : (t : Tables) (first part e e' v : ℕ) {r : Bool} → Fitting t first part e → part < 10 → v ≡ (entry_at t.entries e).child
    → r ≡ is_none (suited t (get_or rules part whatever) v (whole t v)) → r ≡ true → e' ≡ (entry_at t.entries e).next → Fitting t first (part + 1) e'
fitting_more t first part e e' v w l is tells fits on =
    record {
      within = omega arith;
      left = λ parts q.
          let d = turn t part e v parts (w.left parts q) l is in
          record {
            rest = d.rest;
            chained = ap (chain t (10 - (part + 1))) on ∙ d.chained;
            comes = ap (λ b. b && is_none (bad_part t (drop (part + 1) rules) d.rest)) (sym fits ∙ tells) ∙ d.comes;
          };
    }

pub fitting_all : (t : Tables) (first part e : ℕ) → Fitting t first part e → 10 ≤ part → Parts t first true
unfolding bad_part rules
fitting_all t first part e w l =
    record {
      tells = λ parts q.
          let k = w.left parts q in
          let z : part ≡ 10 = omega arith in
          let n : 10 - part ≡ 0 = omega arith in
          let r = chain_none t e k.rest (sym (ap (λ m. chain t m e) n) ∙ k.chained) in
          sym (ap (λ vs. is_none (bad_part t (drop part rules) vs)) r ∙ ap (λ p. is_none (bad_part t (drop p rules) [])) z) ∙ k.comes;
    }

-- The node of a part.

pub part-of : (t : Tables) (k j e : ℕ) (kids : List ℕ) → chain t (k + suc j) e ≡ some kids → get_or kids k 0 ≡ part_of t.entries e k
unfolding after
part-of t zero j e kids h =
    let z : 0 + suc j ≡ suc j = omega arith in
    let d = headed t j e kids (sym (ap (λ m. chain t m e) z) ∙ h) in
    ap (λ l. get_or l 0 0) d.are
part-of t (suc k) j e kids h =
    let z : suc k + suc j ≡ suc (k + suc j) = omega arith in
    let d = headed t (k + suc j) e kids (sym (ap (λ m. chain t m e) z) ∙ h) in
    ap (λ l. get_or l (suc k) 0) d.are ∙ part-of t k j (onto t.entries e) d.rest d.more

pub record Reaching (entries : List ℕ) (first part i e : ℕ) : Type 0 where
  pub within : i ≤ part
  pub comes : after entries (part - i) e ≡ after entries part first

pub reaching_none : (entries : List ℕ) (first part : ℕ) → Reaching entries first part 0 first
reaching_none entries first part =
    let z : part - 0 ≡ part = omega arith in
    record { within = omega arith; comes = ap (λ k. after entries k first) z }

pub reaching_more : {entries : List ℕ} {first part i e e' : ℕ} → Reaching entries first part i e → i < part → e' ≡ (entry_at entries e).next
    → Reaching entries first part (i + 1) e'
unfolding after
reaching_more {entries} {first} {part} {i} {e} {e'} w l n =
    let z : part - i ≡ suc (part - (i + 1)) = omega arith in
    record { within = omega arith; comes = ap (after entries (part - (i + 1))) n ∙ sym (ap (λ k. after entries k e) z) ∙ w.comes }

pub reaching_end : {entries : List ℕ} {first part i e v : ℕ} → Reaching entries first part i e → part ≤ i → v ≡ (entry_at entries e).child
    → v ≡ part_of entries first part
unfolding after
reaching_end {entries} {first} {part} {i} {e} {v} w l n =
    let z : part - i ≡ 0 = omega arith in
    n ∙ ap (λ x. (entry_at entries x).child) (sym (ap (λ k. after entries k e) z) ∙ w.comes)

-- The whole test.

-- no other letter than `c` is a code's
abbrev code_only : ℕ → Class → Bool
code_only l codes = eqb l 0x63
code_only l refers = true
code_only l (refuses number) = true
code_only l (keeps form) = true
code_only l (contains which) = true

pub only_code : (l : ℕ) → class_of l ≡ codes → l ≡ 0x63
unfolding letters
only_code l h = eqb-true l 0x63 (ap (code_only l) (sym h) ∙ class_passes code_only (λ l. refl) refl l)

pub code_class_lem : (l : ℕ) → l ≡ 0x63 → class_of l ≡ codes
unfolding class_of letters found
code_class_lem l h = rw h refl

module _ (t : Tables) (n : ℕ) (vs : List ℕ) (is : whole t n ≡ some vs) where
  rules_hold : ruled t.input (node_of t n) (class_of (node_of t n).letter) ≡ true
  rules_hold = (sound-ruled t.input (node_of t n) (sound_at_lem t n (whole-some t n vs is).0).1).1

  looked_is : look t n ≡ looked_as t n vs (class_of (node_of t n).letter)
  unfolding look
  looked_is = ap (looked_of t n) is

  pub look-plain : ((node_of t n).letter ≡ 0x63 → ⊥) → Held t n
  look-plain h = record { kids = vs; holds-kids = looked_is ∙ go (class_of (node_of t n).letter) refl rules_hold; chained = (whole-some t n vs is).1 }
    where
      go : (k : Class) → class_of (node_of t n).letter ≡ k → ruled t.input (node_of t n) k ≡ true → looked_as t n vs k ≡ holds vs
      go refers p r = never r
      go (refuses x) p r = never r
      go (keeps f) p r = refl
      go (contains f) p r = refl
      go codes p r = absurd (h (only_code (node_of t n).letter p))

  module _ (code : (node_of t n).letter ≡ 0x63) (first : ℕ) (at : first ≡ (node_of t n).first) where
    rules-code : CodeRuled t.input (node_of t n)
    rules-code = code-ruled t.input (node_of t n) (sym (ap (ruled t.input (node_of t n)) (code_class_lem (node_of t n).letter code)) ∙ rules_hold)

    pub ten : chain t code_parts first ≡ some vs
    ten = ap (chain t code_parts) at ∙ sym (ap (λ k. chain t k (node_of t n).first) rules-code.ten) ∙ (whole-some t n vs is).1

    judged_is : look t n ≡ judged n vs (or_else (bad_part t rules vs) (bad_end t n vs))
    judged_is = looked_is ∙ ap (looked_as t n vs) (code_class_lem (node_of t n).letter code)

    pub look-parts : {b : Bool} → Parts t first b → b ≡ false → look t n ≡ faulty n
    look-parts {b} k f =
        let w = some_so (bad_part t rules vs) (sym f ∙ k.tells vs ten) in
        judged_is ∙ ap (λ o. judged n vs (or_else o (bad_end t n vs))) w.1

    ends : evenly t.nodes (part_of t.entries first 0) (part_of t.entries first 3) (part_of t.entries first 4) ≡ is_none (bad_end t n vs)
    unfolding bad_end
    ends =
        ap (λ a. evenly t.nodes a (part_of t.entries first 3) (part_of t.entries first 4)) (sym (part-of t 0 9 first vs ten))
        ∙ ap (λ a. evenly t.nodes (get_or vs 0 0) a (part_of t.entries first 4)) (sym (part-of t 3 6 first vs ten))
        ∙ ap (evenly t.nodes (get_or vs 0 0) (get_or vs 3 0)) (sym (part-of t 4 5 first vs ten))
        ∙ go (eqb (node_of t (get_or vs 3 0)).count (node_of t (get_or vs 4 0)).size) (eqb ((node_of t (get_or vs 0 0)).size % 2) 0) (ltb (sum_at t.input (node_of t n).place) 4294967296) rules-code.summed
      where
        go : (a b c : Bool) → c ≡ true → (a && b) ≡ is_none (unless (eqb (cond a (cond c (cond b 0 8) 18) 8) 0) n)
        go true true true e = refl
        go true false true e = refl
        go false b true e = refl
        go a b false e = never e

    pub look-ends : {b r : Bool} → Parts t first b → b ≡ true
        → r ≡ evenly t.nodes (part_of t.entries first 0) (part_of t.entries first 3) (part_of t.entries first 4) → Looks t n r
    look-ends {b} {r} k f e = go r (e ∙ ends)
      where
        fine : bad_part t rules vs ≡ none
        fine = none_so (bad_part t rules vs) (sym f ∙ k.tells vs ten)

        go : (r : Bool) → r ≡ is_none (bad_end t n vs) → Looks t n r
        go true q =
            record {
              kids = vs;
              holds-kids = judged_is ∙ ap (λ o. judged n vs (or_else o (bad_end t n vs))) fine ∙ ap (λ o. judged n vs o) (none_so (bad_end t n vs) q);
              chained = (whole-some t n vs is).1;
            }
        go false q =
            let w = some_so (bad_end t n vs) q in
            judged_is ∙ ap (λ o. judged n vs (or_else o (bad_end t n vs))) fine ∙ ap (λ o. judged n vs o) w.1

pub look_broken : (t : Tables) (n : ℕ) → false ≡ is_some (whole t n) → look t n ≡ faulty n
unfolding look
look_broken t n e = ap (looked_of t n) (none_is (whole t n) e)

-- What the code compares.

module _ (nodes : List ℕ) {a b d a' b' d' : ℕ} (pa : a ≡ a') (pb : b ≡ b') (pd : d ≡ d') where
  pub ends_so : {x y z : ℕ} → x ≡ (node_at nodes a).size → y ≡ (node_at nodes b).count → z ≡ (node_at nodes d).size → y ≡ z
      → eqb (x % 2) 0 ≡ evenly nodes a' b' d'
  ends_so {x} {y} {z} ex ey ez q =
      ap (λ n. eqb (n % 2) 0) (ex ∙ ap (λ v. (node_at nodes v).size) pa)
      ∙ ap (λ t. t && eqb ((node_at nodes a').size % 2) 0)
      (sym (eq-eqb (node_at nodes b').count (node_at nodes d').size
      (sym (ap (λ v. (node_at nodes v).count) pb) ∙ sym ey ∙ q ∙ ez ∙ ap (λ v. (node_at nodes v).size) pd)))

  pub ends_not : {y z : ℕ} → y ≡ (node_at nodes b).count → z ≡ (node_at nodes d).size → (y ≡ z → ⊥) → false ≡ evenly nodes a' b' d'
  ends_not {y} {z} ey ez q =
      ap (λ t. t && eqb ((node_at nodes a').size % 2) 0)
      (sym (ne_eqb (node_at nodes b').count (node_at nodes d').size
      (λ e. q (ey ∙ ap (λ v. (node_at nodes v).count) pb ∙ e ∙ sym (ez ∙ ap (λ v. (node_at nodes v).size) pd)))))
