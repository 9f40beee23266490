-- The answers of `leaf` and `leaf_child`: what `front` takes is read as `value` and `child` of the reader read it, with no children.
-- Assumes nothing.
use mathlib.Core.Path.{◌≡◌, refl, subst}
use Prim.Native.Nat.{ℕ, ◌+◌, ◌*◌, ◌≤◌, ◌<◌}
use native.Mathlib.Omega.{arith}
use mathlib.Core.Bool.{Bool, true, false}
use mathlib.Core.List.{List}
use lib.ListN.{length}
use Rattle.std.specs.Prelude.{Result, Ok, Err, Option, Some, None}
use Rattle.refusals.specs.declared.Fault.{Fault}
use Rattle.refusals.specs.Faults.{fault}
use Rattle.refusals.specs.declared.Refusal.TheVariants.{BadType}
use Rattle.refusals.specs.Limits.{nothing, most_records}
use Rattle.grammar.specs.State.{entry_width}
use Rattle.grammar.specs.Steps.{fill}
use Rattle.fields.specs.declared.Kids.TheVariants as kind
use Rattle.stores.specs.Written.{node_written}
use Rattle.readsteps.specs.declared.Room.{Room}
use Rattle.readsteps.specs.declared.Walk.{Walk}
use Rattle.readsteps.specs.declared.Head.{Head}
use Rattle.readsteps.specs.declared.Line.{Line}
use Rattle.readsteps.specs.declared.Step.{Step}
use Rattle.readsteps.specs.declared.Opened.TheVariants as opened
use Rattle.readsteps.specs.Held.{Safe, LineIn}
use Rattle.readsteps.specs.Opening.{HeadIn, Fronts}
use Rattle.readsteps.specs.Linking.{rule_of, suits_in, Attaches}
use Rattle.readleaves.specs.declared.Plain.{Plain}
use Rattle.readleaves.specs.declared.Plain.TheVariants as plain
use Rattle.readleaves.specs.Fronts.{FrontOf, Plainly}
use Rattle.readleaves.specs.Readings.{ReadsValue, ReadsChild}
use Rattle.readleaves.specs.Turns.{TakesOf, Takes, Tries}
use Rattle.readleaves.proofs.Loops.{kids_start, kids_end}
use Rattle.readleaves.proofs.Values.{head_in, inside_safe, inside-line, value-known, value-whole}
use Rattle.readleaves.proofs.Children.{child_unfit, child-linked, attach-asks}

-- `leaf`
pub takes_none : {s : List ℕ} {room : Room} {allowance : ℕ} {w : Walk} {ns ss : List ℕ} → Takes s room allowance w ns ss None ns ss
takes_none = record { is = (refl, refl) }

module _ {s : List ℕ} {room : Room} {allowance : ℕ} {w : Walk} {ss : List ℕ} {o : Option Plain} (f : Plainly s ss room allowance w o) where
  pub takes_known : {ns : List ℕ} {v at : ℕ} → o ≡ Some (plain.Known v at)
      → Takes s room allowance w ns ss (Some (record { node = v; walk = record { at = at; nodes = w.nodes; entries = w.entries; slots = w.slots } })) ns ss
  takes_known is = record { is = λ es safe. value-known (subst (FrontOf s ss room allowance w) is f.is) safe refl }

  module _ {h : Head} (is : o ≡ Some (plain.Leaf h)) where
    opens : Fronts s ss room allowance w (Ok (opened.Node h (kind.Items 0)))
    opens = subst (FrontOf s ss room allowance w) is f.is

    pub leaf_head : HeadIn s room allowance w h (kind.Items 0)
    leaf_head = head_in opens refl

    -- a node without children: their loop ends where it begins
    pub takes_leaf : {ns ns' ss' : List ℕ} → ns' ≡ node_written ns w.nodes (record { letter = h.letter; place = h.place; size = h.size; first = nothing; count = 0; end = h.place + h.size; input = 0 })
        → ss' ≡ fill h.flag w.slots w.nodes ss
        → Takes s room allowance w ns ss (Some (record { node = w.nodes; walk = record { at = h.place + h.size; nodes = w.nodes + 1; entries = w.entries; slots = w.slots + h.flag } })) ns' ss'
    takes_leaf en ek =
        record {
          is = λ es safe.
              value-whole safe opens refl (record { lists = kids_end (kids_start (inside_safe safe opens refl) (inside-line safe opens refl)) (omega arith) }) refl refl en ek;
        }

-- `leaf_child`
module _ {s : List ℕ} {room : Room} {allowance : ℕ} {line : Line} {ns es ss ns' ss' : List ℕ} {t : Option Step} (safe : Safe s room line.walk ns es ss) (li : LineIn line)
    (f : Takes s room allowance line.walk ns ss t ns' ss') where
  pub tries_none : {rule : ℕ} → t ≡ None → Tries rule s room allowance line ns es ss (Ok None) ns' es ss'
  tries_none is = let x : TakesOf s room allowance line.walk ns ss None ns' ss' = subst (λ q. TakesOf s room allowance line.walk ns ss q ns' ss') is f.is in record { is = (x.0, refl, x.1) }

  module _ {v : ℕ} {a : Walk} (is : t ≡ Some (record { node = v; walk = a })) where
    read : ReadsValue s room allowance line.walk ns es ss (Ok (record { node = v; walk = a })) ns' es ss'
    read = (subst (λ q. TakesOf s room allowance line.walk ns ss q ns' ss') is f.is) es safe

    pub leaf_attach-asks : (room.entries * entry_width ≤ length es) × (room.entries ≤ most_records) × ((line.last ≡ nothing → ⊥) → line.last < a.entries) × (line.count ≤ most_records)
    leaf_attach-asks = attach-asks safe li read refl refl

    module _ {rule : ℕ} {b : Bool} (test : b ≡ suits_in (rule_of rule) ns' es v) where
      pub tries_unfit : b ≡ false → {failed : Fault} → failed ≡ fault BadType line.walk.at → Tries rule s room allowance line ns es ss (Err failed) ns' es ss'
      tries_unfit u told = rw told (record { is = child_unfit safe li read refl test u })

      module _ (u : b ≡ true) {es' : List ℕ} {r : Result Line Fault} (k : Attaches room.entries line line.walk.at v a es r es') where
        made : ReadsChild rule s room allowance line ns es ss r ns' es' ss'
        made = child-linked safe li read refl test u refl k

        pub tries_cut : {failed : Fault} → r ≡ Err failed → Tries rule s room allowance line ns es ss (Err failed) ns' es' ss'
        tries_cut it = record { is = subst (λ q. ReadsChild rule s room allowance line ns es ss q ns' es' ss') it made }

        pub tries_line : {l : Line} → r ≡ Ok l → Tries rule s room allowance line ns es ss (Ok (Some l)) ns' es' ss'
        tries_line it = record { is = subst (λ q. ReadsChild rule s room allowance line ns es ss q ns' es' ss') it made }
