-- The loops: what is left of a chain, of the question and of the count still comes to the same, and each turn and each way out.
-- Assumes nothing.
use mathlib.Core.Path.{◌≡◌, refl, sym, ap, ◌∙◌}
use Prim.Native.Nat.{ℕ, suc, ◌+◌, ◌-◌, ◌≤◌, ◌<◌}
use native.Mathlib.Omega.{arith}
use mathlib.Core.Bool.{Bool, true, false, cond, ◌&&◌}
use lib.Dec.{ltb}
use borrow.Author.Tests.{lt-ltb, le-ltb, ltb-false}
use Rattle.std.specs.Prelude.{Option, Some, None, Result, Ok, Err}
use Rattle.refusals.specs.Faults.{refused}
use Rattle.refusals.specs.declared.Fault.{Fault}
use Rattle.refusals.specs.declared.Refusal.TheVariants.{BadTable}
use Rattle.grammar.specs.State.{node_at, entry_at}
use Rattle.grammar.specs.Record.{Tables}
use Rattle.nodespan.specs.Span.{reserved, flagged_before}
use Rattle.nodespan.specs.Walk.{Within, has, joined, along, told_of, visits, also, after, asks}
use Rattle.nodespan.specs.declared.Walked.{Walked}

-- One chain.

joined_true : (o : Option Bool) → joined true o ≡ o
joined_true None = refl
joined_true (Some c) = refl

joined-twice : (a b : Bool) (o : Option Bool) → joined a (joined b o) ≡ joined (a && b) o
joined-twice a b None = refl
joined-twice true b (Some c) = refl
joined-twice false b (Some c) = refl

joined_last : (a : Bool) → joined a (Some true) ≡ Some a
joined_last true = refl
joined_last false = refl

module _ (w : Within) (count first : ℕ) where
  pub record Walking (all : Bool) (i e : ℕ) : Type 0 where
    pub within : i ≤ count
    pub comes : joined all (along w (count - i) e) ≡ along w count first

  pub walk_start : Walking true 0 first
  walk_start =
      let z : count - 0 ≡ count = omega arith in
      record { within = omega arith; comes = joined_true (along w (count - 0) first) ∙ ap (λ k. along w k first) z }

  module _ {all : Bool} {i e : ℕ} (k : Walking all i e) (more : i < count) where
    abbrev later : Option Bool
    later = along w (count - (i + 1)) (entry_at w.entries e).next

    abbrev turn : Bool → Bool → Option Bool
    turn a b = cond a (cond b (joined (has w (entry_at w.entries e).child) later) None) None

    turned : joined all (turn (ltb e w.room) (ltb (entry_at w.entries e).child w.many)) ≡ along w count first
    unfolding along
    turned =
        let z : count - i ≡ suc (count - (i + 1)) = omega arith in sym (ap (λ n. joined all (along w n e)) z) ∙ k.comes

    pub walk-no_entry : w.room ≤ e → None ≡ along w count first
    walk-no_entry h =
        sym (ap (λ a. joined all (turn a (ltb (entry_at w.entries e).child w.many))) (le-ltb e w.room h)) ∙ turned

    module _ (here : e < w.room) (v : ℕ) (is : v ≡ (entry_at w.entries e).child) where
      entered : (b : Bool) → ltb v w.many ≡ b → joined all (turn true b) ≡ along w count first
      entered b h =
          sym (ap (λ a. joined all (turn a (ltb (entry_at w.entries e).child w.many))) (lt-ltb e w.room here)
          ∙ ap (λ x. joined all (turn true (ltb x w.many))) (sym is) ∙ ap (λ x. joined all (turn true x)) h)
          ∙ turned

      pub walk-no_node : w.many ≤ v → None ≡ along w count first
      walk-no_node h = entered false (le-ltb v w.many h)

      pub walk_more : v < w.many → {b all' : Bool} {e' : ℕ} → b ≡ has w v → all' ≡ (all && b) → e' ≡ (entry_at w.entries e).next → Walking all' (i + 1) e'
      walk_more h {b} {all'} {e'} q a on =
          record {
            within = omega arith;
            comes =
                ap (λ x. joined x (along w (count - (i + 1)) e')) (a ∙ ap (λ x. all && x) (q ∙ ap (has w) is))
                ∙ ap (λ x. joined (all && has w (entry_at w.entries e).child) (along w (count - (i + 1)) x)) on
                ∙ sym (joined-twice all (has w (entry_at w.entries e).child) later) ∙ entered true (lt-ltb v w.many h);
          }

  pub walk_end : {all : Bool} {i e : ℕ} → Walking all i e → count ≤ i → Some all ≡ along w count first
  unfolding along
  walk_end {all} {i} {e} k h =
      let z : count - i ≡ 0 = omega (arith, k.within) in
      sym (ap (λ n. joined all (along w n e)) z ∙ joined_last all) ∙ k.comes

-- One node.
module _ (w : Within) (steps m : ℕ) {b : Bool} (is : b ≡ has w m) where
  pub visit_outside : b ≡ false → Some (record { took = 0; all = true }) ≡ visits w steps m
  visit_outside f =
      ap (λ x. cond x (cond (ltb steps (node_at w.nodes m).count) None
      (told_of (node_at w.nodes m).count (along w (node_at w.nodes m).count (node_at w.nodes m).first))) (Some (record { took = 0; all = true }))) (sym f ∙ is)

  module _ (t : b ≡ true) (count : ℕ) (c : count ≡ (node_at w.nodes m).count) where
    visited : {r : Option Walked} → r ≡ cond (ltb steps count) None (told_of count (along w count (node_at w.nodes m).first)) → r ≡ visits w steps m
    visited {r} e =
        e ∙ ap (λ k. cond (ltb steps k) None (told_of k (along w k (node_at w.nodes m).first))) c
        ∙ ap (λ x. cond x (cond (ltb steps (node_at w.nodes m).count) None
        (told_of (node_at w.nodes m).count (along w (node_at w.nodes m).count (node_at w.nodes m).first))) (Some (record { took = 0; all = true }))) (sym t ∙ is)

    pub visit-short : steps < count → None ≡ visits w steps m
    visit-short h =
        visited (ap (λ x. cond x None (told_of count (along w count (node_at w.nodes m).first))) (sym (lt-ltb steps count h)))

    pub visit-walk : count ≤ steps → {first : ℕ} {r : Option Walked} → first ≡ (node_at w.nodes m).first → r ≡ told_of count (along w count first) → r ≡ visits w steps m
    visit-walk h {first} {r} f e =
        visited (e ∙ ap (λ x. told_of count (along w count x)) f
        ∙ ap (λ x. cond x None (told_of count (along w count (node_at w.nodes m).first))) (sym (le-ltb steps count h)))

told-few : (steps n : ℕ) (walked : Walked) (o : Option Bool) → n ≤ steps → Some walked ≡ told_of n o → walked.took ≤ steps
told-few steps n walked None h e = cc
told-few steps n walked (Some b) h e =
    let is : walked ≡ record { took = n; all = b } = cc in
    omega (arith, ap (λ (x : Walked). x.took) is, h)

-- no walk takes more steps than are left
pub visit-few : (w : Within) (steps m : ℕ) {walked : Walked} → Some walked ≡ visits w steps m → walked.took ≤ steps
visit-few w steps m {walked} e = go (has w m) e
  where
    n : ℕ
    n = (node_at w.nodes m).count

    o : Option Bool
    o = along w n (node_at w.nodes m).first

    within : (b : Bool) → ltb steps n ≡ b → Some walked ≡ cond b None (told_of n o) → walked.took ≤ steps
    within true q e = cc
    within false q e = told-few steps n walked o (ltb-false steps n q) e

    go : (b : Bool) → Some walked ≡ cond b (cond (ltb steps n) None (told_of n o)) (Some (record { took = 0; all = true })) → walked.took ≤ steps
    go true e = within (ltb steps n) refl e
    go false e =
        let is : walked ≡ record { took = 0; all = true } = cc in
        omega (arith, ap (λ (x : Walked). x.took) is)

-- Node after node.

also_true : (a : Result Bool Fault) → also true a ≡ a
also_true (Ok c) = refl
also_true (Err f) = refl

also-twice : (a b : Bool) (x : Result Bool Fault) → also a (also b x) ≡ also (a && b) x
also-twice true b (Ok c) = refl
also-twice false b (Ok c) = refl
also-twice a b (Err f) = refl

also_last : (a : Bool) → also a (Ok true) ≡ Ok a
also_last true = refl
also_last false = refl

module _ (w : Within) (many room : ℕ) where
  pub record Asking (all : Bool) (steps node : ℕ) : Type 0 where
    pub within : node ≤ many
    pub few : steps ≤ room
    pub comes : also all (asks w (many - node) node steps) ≡ asks w many 0 room

  pub ask_start : Asking true room 0
  ask_start =
      let z : many - 0 ≡ many = omega arith in
      record { within = omega arith; few = omega arith; comes = also_true (asks w (many - 0) 0 room) ∙ ap (λ k. asks w k 0 room) z }

  module _ {all : Bool} {steps node : ℕ} (k : Asking all steps node) (more : node < many) where
    asked_on : {r : Option Walked} → r ≡ visits w steps node
        → also all (after node r (λ taken. asks w (many - (node + 1)) (node + 1) (steps - taken))) ≡ asks w many 0 room
    unfolding asks
    asked_on {r} e =
        let z : many - node ≡ suc (many - (node + 1)) = omega arith in
        ap (λ x. also all (after node x (λ taken. asks w (many - (node + 1)) (node + 1) (steps - taken)))) e
        ∙ sym (ap (λ n. also all (asks w n node steps)) z) ∙ k.comes

    pub ask_fails : None ≡ visits w steps node → refused BadTable node ≡ asks w many 0 room
    ask_fails e = asked_on e

    pub ask_more : {walked : Walked} {steps' : ℕ} {all' : Bool} → Some walked ≡ visits w steps node → steps' ≡ steps - walked.took
        → all' ≡ (all && walked.all) → Asking all' steps' (node + 1)
    ask_more {walked} {steps'} {all'} e s a =
        let f = k.few in
        record {
          within = omega arith;
          few = omega (arith, s, f);
          comes =
              ap (λ x. also x (asks w (many - (node + 1)) (node + 1) steps')) a
              ∙ ap (λ x. also (all && walked.all) (asks w (many - (node + 1)) (node + 1) x)) s
              ∙ sym (also-twice all walked.all (asks w (many - (node + 1)) (node + 1) (steps - walked.took))) ∙ asked_on e;
        }

  pub ask_end : {all : Bool} {steps node : ℕ} → Asking all steps node → many ≤ node → Ok all ≡ asks w many 0 room
  unfolding asks
  ask_end {all} {steps} {node} k h =
      let z : many - node ≡ 0 = omega (arith, k.within) in
      sym (ap (λ n. also all (asks w n node steps)) z ∙ also_last all) ∙ k.comes

-- The slots reserved before a place.
module _ (t : Tables) (source start many : ℕ) where
  pub record Counting (slots node : ℕ) : Type 0 where
    pub within : node ≤ many
    pub few : slots ≤ node
    pub comes : slots + flagged_before t source start (many - node) node ≡ flagged_before t source start many 0

  pub count-start : Counting 0 0
  count-start =
      let z : many - 0 ≡ many = omega arith in
      let e = ap (λ k. flagged_before t source start k 0) z in
      record { within = omega arith; few = omega arith; comes = omega (arith, e) }

  pub count_more : {slots node r slots' : ℕ} → Counting slots node → node < many → r ≡ reserved t source start node → r ≤ 1 → slots' ≡ slots + r
      → Counting slots' (node + 1)
  unfolding flagged_before
  count_more {slots} {node} {r} {slots'} k h e one s =
      let z : many - node ≡ suc (many - (node + 1)) = omega arith in
      let next = ap (λ n. flagged_before t source start n node) z in
      let f = k.few in
      let c = k.comes in
      record { within = omega arith; few = omega (arith, f, one, s); comes = omega (arith, next, c, e, s) }

  pub count_end : {slots node : ℕ} → Counting slots node → many ≤ node → slots ≡ flagged_before t source start many 0
  unfolding flagged_before
  count_end {slots} {node} k h =
      let z : many - node ≡ 0 = omega (arith, k.within) in
      let last = ap (λ n. flagged_before t source start n node) z in
      let c = k.comes in
      omega (arith, last, c)
