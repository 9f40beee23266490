-- The one loop over a node's children, by the kind of these: each way out and each turn is a law of Loops or of Codes.
-- Assumes nothing.
use mathlib.Core.Path.{◌≡◌, refl, sym, ap, subst, ◌∙◌}
use Prim.Native.Nat.{ℕ, ◌+◌, ◌-◌, ◌%◌, ◌≤◌, ◌<◌}
use native.Mathlib.Omega.{arith}
use mathlib.Core.Bool.{Bool, true, false, cond}
use mathlib.Core.List.{List}
use lib.ListN.{length, get_or}
use lib.Dec.{leb, ltb, eqb}
use borrow.Author.Tests.{eqb-true, eqb-false, ltb-true, ltb-false}
use Rattle.std.specs.Prelude.{Result, Ok, Err}
use Rattle.refusals.specs.Faults.{refused}
use Rattle.refusals.specs.declared.Refusal.TheVariants.{DataTooShort}
use Rattle.refusals.specs.declared.Fault.{Fault}
use Rattle.grammar.specs.Reading.{bind}
use Rattle.grammar.specs.Fields.{parts}
use Rattle.grammar.specs.Steps.{whatever, rules, code_parts, line_part, couples, ended, body, value}
use Rattle.fields.specs.Behind.{children_of}
use Rattle.fields.specs.declared.Kids.{Kids}
use Rattle.fields.specs.declared.Kids.TheVariants as kind
use Rattle.readsteps.specs.declared.Room.{Room}
use Rattle.readsteps.specs.declared.Line.{Line}
use Rattle.readsteps.specs.declared.Next.{Next}
use Rattle.readsteps.specs.declared.Next.TheVariants as next
use Rattle.readsteps.specs.Held.{Safe, LineIn}
use Rattle.readsteps.specs.Linking.{rule_of, line_lined, first_lined, NextOf, Nexts, below_of}
use Rattle.readsteps.proofs.Letters.{rule_back}
use Rattle.readleaves.specs.Readings.{Lists, LinkedMoved, Counted, ReadsChild, BodyLists, ReadsBody, child_of, parts_of, body_of}
use Rattle.readleaves.specs.Turns.{Stands, InvKids, InvDict, InvCode, InvOf, InvBody}
use Rattle.readleaves.proofs.Chains.{lists-inside}
use Rattle.readleaves.proofs.Loops.{kids_start, kids_end, kids-cut, kids_next, pairs_start, pairs_out, pairs_null, key-cut, key_next, item-cut, item_next}
use Rattle.readleaves.proofs.Codes.{line-lists, code_start, code_fault_lem, code_end, line-cut, part_cut, code_next}

-- the first line adds no child, and moves on
abbrev Passes : Line → Result Line Fault → Type 0
Passes line (Ok m) = (m.count ≡ line.count) × (line.walk.at ≤ m.walk.at)
Passes line (Err failed) = Unit

line_passes : (s : List ℕ) (i : ℕ) (line : Line) → Passes line (first_lined s i line)
line_passes s i line = go (eqb i line_part) (leb (line.walk.at + 4) (length s))
  where
    go : (b d : Bool) → Passes line (cond b (cond d (Ok (line_lined line)) (refused DataTooShort line.walk.at)) (Ok line))
    go true true = (refl, omega arith)
    go true false = tt
    go false d = (refl, omega arith)

-- no child has more allowance than what holds it
pub below_le : (kids : Kids) (allowance : ℕ) → below_of kids allowance ≤ allowance
below_le (kind.Items count) allowance = omega arith
below_le kind.Pairs allowance = omega arith
below_le kind.Parts allowance = omega arith

-- The loop begins.
pub body_start : {kids : Kids} {at : ℕ} {s : List ℕ} {room : Room} {allowance : ℕ} {line : Line} {ns es ss : List ℕ} → Safe s room line.walk ns es ss → LineIn line → line.count ≡ 0
    → InvBody kids at s room allowance line ns es ss ns es ss line
body_start {kids} {at} {s} {room} {allowance} {line} {ns} {es} {ss} safe li none =
    record { stands = (pairs_start {allowance = allowance} safe li).stands; inv = go kids }
  where
    go : (kids : Kids) → InvOf kids at s room allowance line ns es ss ns es ss line
    go (kind.Items count) = subst (InvKids s room allowance count line ns es ss ns es ss line) (sym none) (kids_start safe li)
    go kind.Pairs = record { key = λ e. pairs_start safe li; item = λ odd. absurd (odd (ap (λ n. n % 2) none)) }
    go kind.Parts = subst (InvCode s room allowance at line ns es ss ns es ss line) (sym none) (code_start safe li)

-- A child is asked for: what is known of it without the invariant.
module _ {kids : Kids} {at : ℕ} {s : List ℕ} {ns : List ℕ} {line : Line} {n : Result Next Fault} (x : Nexts s ns kids at line n) {m : Line} {rule : ℕ} (is : n ≡ Ok (next.Child m rule)) where
  asked : NextOf s ns kids at line (Ok (next.Child m rule))
  asked = subst (NextOf s ns kids at line) is x.is

  pub next_stands : {room : Room} {line₀ : Line} {ns₀ es₀ ss₀ es ss : List ℕ} → Stands s room line₀ ns₀ es₀ ss₀ ns es ss line → Stands s room line₀ ns₀ es₀ ss₀ ns es ss m
  next_stands {room} {line₀} {ns₀} {es₀} {ss₀} {es} {ss} st = go kids asked
    where
      lined : first_lined s line.count line ≡ Ok m → Stands s room line₀ ns₀ es₀ ss₀ ns es ss m
      lined e =
          let mv : LinkedMoved 0 s room line.walk (Ok m) = subst (LinkedMoved 0 s room line.walk) e (line-lists 0 line.count st refl).moved in
          record { moved = omega (arith, st.moved, mv.0); line_in = mv.1; node_store = st.node_store; entry_store = st.entry_store; slot_store = st.slot_store }

      go : (kids : Kids) → NextOf s ns kids at line (Ok (next.Child m rule)) → Stands s room line₀ ns₀ es₀ ss₀ ns es ss m
      go (kind.Items count) y = rw y.0 st
      go kind.Pairs y = rw y.0 st
      go kind.Parts y = lined y.0

  asked_on : line.walk.at ≤ m.walk.at
  asked_on = go kids asked
    where
      go : (kids : Kids) → NextOf s ns kids at line (Ok (next.Child m rule)) → line.walk.at ≤ m.walk.at
      go (kind.Items count) y = let e : m.walk.at ≡ line.walk.at = ap (λ q. q.walk.at) y.0 in omega arith
      go kind.Pairs y = let e : m.walk.at ≡ line.walk.at = ap (λ q. q.walk.at) y.0 in omega arith
      go kind.Parts y = (subst (Passes line) y.0 (line_passes s line.count line)).1

  -- the measure falls
  pub next_less : {room : Room} {below : ℕ} {r : Result Line Fault} {es ss ns' es' ss' : List ℕ} → ReadsChild rule s room below m ns es ss r ns' es' ss' → {l : Line} → r ≡ Ok l → length s - l.walk.at < length s - line.walk.at
  next_less {room} c {l} it = let mv : LinkedMoved 1 s room m.walk (Ok l) = subst (LinkedMoved 1 s room m.walk) it c.lists.moved in omega (arith, mv.0, asked_on)

-- The ways out that read no child.
module _ {kids : Kids} {at : ℕ} {s : List ℕ} {room : Room} {allowance : ℕ} {line₀ : Line} {ns₀ es₀ ss₀ ns es ss : List ℕ} {line : Line} {n : Result Next Fault} (some : children_of kids ≡ parts → 0 < allowance) (v : InvBody kids at s room allowance line₀ ns₀ es₀ ss₀ ns es ss line) (x : Nexts s ns kids at line n) where
  pub body-done : {m : Line} → n ≡ Ok (next.Done m) → ReadsBody kids at s room allowance line₀ ns₀ es₀ ss₀ (Ok m) ns es ss
  body-done {m} is = record { lists = go kids some v.inv (subst (NextOf s ns kids at line) is x.is) }
    where
      go : (kids : Kids) → (children_of kids ≡ parts → 0 < allowance) → InvOf kids at s room allowance line₀ ns₀ es₀ ss₀ ns es ss line → NextOf s ns kids at line (Ok (next.Done m))
          → BodyLists kids at s room allowance line₀ ns₀ es₀ ss₀ (Ok m) ns es ss
      go (kind.Items count) some inv y = rw y.0 (kids_end inv y.1)
      go kind.Pairs some inv y = rw y.0 (pairs_null (inv.key y.1) y.2 y.3)
      go kind.Parts some inv y = rw y.0 (code_end (some refl) inv y.1 refl y.2)

  pub body_refused : {failed : Fault} → n ≡ Err failed → ReadsBody kids at s room allowance line₀ ns₀ es₀ ss₀ (Err failed) ns es ss
  body_refused {failed} is = record { lists = go kids some v.inv (subst (NextOf s ns kids at line) is x.is) }
    where
      part : 0 < allowance → InvCode s room allowance at line₀ ns₀ es₀ ss₀ ns es ss line line.count → NextOf s ns kind.Parts at line (Err failed) → (t : Bool) → ltb line.count code_parts ≡ t
          → BodyLists kind.Parts at s room allowance line₀ ns₀ es₀ ss₀ (Err failed) ns es ss
      part some inv y true e = let lt : line.count < code_parts = ltb-true line.count code_parts e in line-cut some inv lt refl (y.0 lt)
      part some inv y false e =
          let le : code_parts ≤ line.count = ltb-false line.count code_parts e in
          let z = y.1 le in
          code_fault_lem some inv le z.1 z.2 refl z.0

      go : (kids : Kids) → (children_of kids ≡ parts → 0 < allowance) → InvOf kids at s room allowance line₀ ns₀ es₀ ss₀ ns es ss line → NextOf s ns kids at line (Err failed)
          → BodyLists kids at s room allowance line₀ ns₀ es₀ ss₀ (Err failed) ns es ss
      go (kind.Items count) some inv y = absurd y
      go kind.Pairs some inv y = pairs_out (inv.key y.2) y.0 y.1 y.3
      go kind.Parts some inv y = part (some refl) inv y (ltb line.count code_parts) refl

  -- A child is asked for.
  module _ {m : Line} {rule : ℕ} (is : n ≡ Ok (next.Child m rule)) where
    module _ {below : ℕ} (under : below ≡ below_of kids allowance) {r : Result Line Fault} {ns' es' ss' : List ℕ} (c : ReadsChild rule s room below m ns es ss r ns' es' ss') where
      -- a child that may be anything, at the line itself
      plain : m ≡ line → rule ≡ 0 → below ≡ allowance → Lists (child_of s whatever) 1 s room allowance line ns es ss r ns' es' ss'
      plain em er eb =
          subst (λ q. Lists (child_of s whatever) 1 s room allowance q ns es ss r ns' es' ss') em
          (subst (λ q. Lists (child_of s whatever) 1 s room q m ns es ss r ns' es' ss') eb
          (subst (λ q. Lists (child_of s (rule_of q)) 1 s room below m ns es ss r ns' es' ss') er c.lists))

      under_code : below ≡ allowance - 1 → Lists (child_of s (rule_of rule)) 1 s room (allowance - 1) m ns es ss r ns' es' ss'
      under_code eb = subst (λ q. Lists (child_of s (rule_of rule)) 1 s room q m ns es ss r ns' es' ss') eb c.lists

      pub body-cut : {failed : Fault} → r ≡ Err failed → ReadsBody kids at s room allowance line₀ ns₀ es₀ ss₀ (Err failed) ns' es' ss'
      body-cut {failed} it = record { lists = go kids some v.inv (asked x is) under }
        where
          pair : InvDict s room allowance line₀ ns₀ es₀ ss₀ ns es ss line → NextOf s ns kind.Pairs at line (Ok (next.Child m rule)) → below ≡ allowance → (t : Bool) → eqb (line.count % 2) 0 ≡ t
              → BodyLists kind.Pairs at s room allowance line₀ ns₀ es₀ ss₀ (Err failed) ns' es' ss'
          pair inv y u true e = let z = y.2 (eqb-true (line.count % 2) 0 e) in key-cut (inv.key (eqb-true (line.count % 2) 0 e)) z.0 z.1 (plain y.0 y.1 u) it
          pair inv y u false e = item-cut (inv.item (eqb-false (line.count % 2) 0 e)) (plain y.0 y.1 u) it

          go : (kids : Kids) → (children_of kids ≡ parts → 0 < allowance) → InvOf kids at s room allowance line₀ ns₀ es₀ ss₀ ns es ss line → NextOf s ns kids at line (Ok (next.Child m rule)) → below ≡ below_of kids allowance
              → BodyLists kids at s room allowance line₀ ns₀ es₀ ss₀ (Err failed) ns' es' ss'
          go (kind.Items count) some inv y u = kids-cut inv y.2 (plain y.0 y.1 u) it
          go kind.Pairs some inv y u = pair inv y u (eqb (line.count % 2) 0) refl
          go kind.Parts some inv y u = part_cut (some refl) inv y.2 refl y.0 rule (ap rule_of y.1 ∙ rule_back (get_or rules line.count whatever)) (under_code u) it

      module _ {l : Line} (it : r ≡ Ok l) where
        moved : LinkedMoved 1 s room m.walk (Ok l)
        moved = subst (LinkedMoved 1 s room m.walk) it c.lists.moved

        more : l.count ≡ m.count + 1
        more = subst (Counted m) it c.counted

        pub body_next : length ns' ≡ length ns → length es' ≡ length es → length ss' ≡ length ss → InvBody kids at s room allowance line₀ ns₀ es₀ ss₀ ns' es' ss' l
        body_next ln le ls =
            record {
              stands = record {
                moved = omega (arith, (next_stands x is v.stands).moved, moved.0);
                line_in = moved.1;
                node_store = ln ∙ v.stands.node_store;
                entry_store = le ∙ v.stands.entry_store;
                slot_store = ls ∙ v.stands.slot_store;
              };
              inv = go kids some v.inv (asked x is) under;
            }
          where
            pair : InvDict s room allowance line₀ ns₀ es₀ ss₀ ns es ss line → NextOf s ns kind.Pairs at line (Ok (next.Child m rule)) → below ≡ allowance → (t : Bool) → eqb (line.count % 2) 0 ≡ t
                → InvDict s room allowance line₀ ns₀ es₀ ss₀ ns' es' ss' l
            pair inv y u true e =
                let even : line.count % 2 ≡ 0 = eqb-true (line.count % 2) 0 e in
                let z = y.2 even in
                let q : l.count ≡ line.count + 1 = more ∙ ap (λ x. x.count + 1) y.0 in
                record {
                  key = λ h. absurd (omega arith);
                  item = λ odd. key_next (inv.key even) z.0 z.1 (plain y.0 y.1 u) it ln le ls;
                }
            pair inv y u false e =
                let odd : line.count % 2 ≡ 0 → ⊥ = eqb-false (line.count % 2) 0 e in
                let q : l.count ≡ line.count + 1 = more ∙ ap (λ x. x.count + 1) y.0 in
                record {
                  key = λ h. item_next (inv.item odd) (plain y.0 y.1 u) it ln le ls;
                  item = λ h. absurd (odd (turned line.count l.count q h));
                }
              where
                turned : (a b : ℕ) → b ≡ a + 1 → (b % 2 ≡ 0 → ⊥) → a % 2 ≡ 0
                turned a b q h = omega arith

            go : (kids : Kids) → (children_of kids ≡ parts → 0 < allowance) → InvOf kids at s room allowance line₀ ns₀ es₀ ss₀ ns es ss line → NextOf s ns kids at line (Ok (next.Child m rule)) → below ≡ below_of kids allowance
                → InvOf kids at s room allowance line₀ ns₀ es₀ ss₀ ns' es' ss' l
            go (kind.Items count) some inv y u =
                subst (InvKids s room allowance count line₀ ns₀ es₀ ss₀ ns' es' ss' l) (sym (more ∙ ap (λ x. x.count + 1) y.0)) (kids_next inv y.2 (plain y.0 y.1 u) it ln le ls)
            go kind.Pairs some inv y u = pair inv y u (eqb (line.count % 2) 0) refl
            go kind.Parts some inv y u =
                subst (InvCode s room allowance at line₀ ns₀ es₀ ss₀ ns' es' ss' l) (sym (more ∙ ap (λ n. n + 1) (subst (Passes line) y.0 (line_passes s line.count line)).0)) (code_next (some refl) inv y.2 refl y.0 rule (ap rule_of y.1 ∙ rule_back (get_or rules line.count whatever)) (under_code u) it ln le ls)

-- What a node holds: its container or code's body has the allowance less one.
pub node_lists : {kids : Kids} {at : ℕ} {s : List ℕ} {room : Room} (allowance : ℕ) {line : Line} {ns es ss ns' es' ss' : List ℕ} {r : Result Line Fault} → 0 < allowance → ReadsBody kids at s room (allowance - 1) line ns es ss r ns' es' ss'
    → Lists (body_of s at kids) 0 s room allowance line ns es ss r ns' es' ss'
unfolding body
node_lists {kids} {at} {s} {room} allowance {line} {ns} {es} {ss} {ns'} {es'} {ss'} {r} some b = go kids b.lists
  where
    go : (kids : Kids) → BodyLists kids at s room (allowance - 1) line ns es ss r ns' es' ss' → Lists (body_of s at kids) 0 s room allowance line ns es ss r ns' es' ss'
    go (kind.Items count) f = lists-inside allowance 1 f (omega arith) (body_of s at (kind.Items count)) (λ fuel depth c. refl)
    go kind.Pairs h =
        let f : Lists (λ fuel depth c. couples (value fuel s depth) s fuel c) 0 s room (allowance - 1) line ns es ss r ns' es' ss' =
        record { moved = (h (length s) (omega arith)).moved; exact = λ fuel depth c hc len. (h fuel len).exact fuel depth c hc len } in
        lists-inside allowance 1 f (omega arith) (body_of s at kind.Pairs) (λ fuel depth c. refl)
    go kind.Parts f =
        lists-inside allowance 1 f (omega arith) (body_of s at kind.Parts)
        (λ fuel depth c. let e : depth + 1 + 1 ≡ depth + 2 = omega arith in ap (λ d. bind (parts_of s code_parts 0 fuel d c) (ended s at)) e)
