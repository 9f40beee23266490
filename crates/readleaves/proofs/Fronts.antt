-- The laws that carry a plain value's front: each is a law of the steps' own front, where the answer is known to be one.
-- Assumes nothing.
use mathlib.Core.Path.{◌≡◌, refl, ap, subst, ◌∙◌}
use Prim.Native.Nat.{ℕ, ◌+◌, ◌/◌, ◌%◌, ◌≤◌, ◌<◌}
use native.Mathlib.Omega.{arith}
use mathlib.Core.List.{List}
use lib.ListN.{length, get_or}
use borrow.Author.Tests.{ne_eqb}
use Rattle.std.specs.Prelude.{Result, Ok, Err, Option, Some, None}
use Rattle.std.specs.Result.{result_ok}
use Rattle.refusals.specs.declared.Fault.{Fault}
use Rattle.grammar.specs.Letters.{class_of}
use Rattle.fields.specs.Classes.{class_at}
use Rattle.fields.specs.Behind.{Reads}
use Rattle.fields.specs.declared.Kids.TheVariants as kind
use Rattle.fields.specs.declared.Behind.{Behind}
use Rattle.readsteps.specs.declared.Room.{Room}
use Rattle.readsteps.specs.declared.Walk.{Walk}
use Rattle.readsteps.specs.declared.Opened.{Opened}
use Rattle.readsteps.specs.declared.Opened.TheVariants as opened
use Rattle.readsteps.specs.Opening.{References}
use Rattle.readsteps.proofs.Fronts.{node-opened, front-known, front-opened}
use Rattle.readleaves.specs.declared.Plain.{Plain}
use Rattle.readleaves.specs.declared.Plain.TheVariants as plain
use Rattle.readleaves.specs.Fronts.{RefersTo, Refers, SpansOf, Spans, LeafOf, Leafs, FrontOf, Plainly}

-- A reference.
pub refers-known : {s slots : List ℕ} {at : ℕ} {o : Result Opened Fault} {v a : ℕ} → References s slots at o → o ≡ Ok (opened.Known v a) → Refers s slots at (Some (plain.Known v a))
refers-known {s} {slots} {at} f is = record { is = subst (References s slots at) is f }

pub refers-other : {s slots : List ℕ} {at : ℕ} → Refers s slots at None
refers-other = record { is = tt }

-- The fields of a class, of which the answer of its own function is told.
pub spans-some : {s : List ℕ} {class at : ℕ} {read : Behind} → class < 12 → Reads s (class_at class) at (Ok read) → Spans s class at (Some read)
spans-some h f = record { is = (h, f) }

spans-any : {s : List ℕ} {class at : ℕ} → class < 12 → (r : Result Behind Fault) → Reads s (class_at class) at r → SpansOf s class at (result_ok r)
spans-any h (Ok read) f = (h, f)
spans-any h (Err failed) f = tt

pub spans-read : {s : List ℕ} {class at : ℕ} {r : Result Behind Fault} {o : Option Behind} → class < 12 → Reads s (class_at class) at r → o ≡ result_ok r → Spans s class at o
spans-read {r = r} h f is = rw is (record { is = spans-any h r f })

-- A node without children.
pub leaf_other : {s : List ℕ} {letter flag class at : ℕ} → Leafs s letter flag class at None
leaf_other = record { is = tt }

pub leaf_opened : {s : List ℕ} {letter flag class at : ℕ} {b : Option Behind} {read : Behind} {count : ℕ} → Spans s class at b → b ≡ Some read → read.kids ≡ kind.Items count → count ≡ 0
    → Leafs s letter flag class at (Some (plain.Leaf (record { letter = letter; flag = flag; place = read.place; size = read.size })))
leaf_opened {s} {letter} {flag} {class} {at} {b} {read} {count} f is items none =
    let x : SpansOf s class at (Some read) = subst (SpansOf s class at) is f.is in
    let e : read.kids ≡ kind.Items 0 = items ∙ ap (λ n. kind.Items n) none in
    let y : Reads s (class_at class) at (Ok (record { place = read.place; size = read.size; kids = kind.Items 0 })) =
    subst (λ k. Reads s (class_at class) at (Ok (record { place = read.place; size = read.size; kids = k }))) e x.1 in
    let h : class < 12 = x.0 in
    record {
      is = (h, λ allowance some. node-opened (omega arith) {need = 1} (rw (ne_eqb class 12 (omega arith)) refl) (omega arith) y refl);
    }

-- The whole front.
module _ {s slots : List ℕ} {room : Room} {allowance : ℕ} {w : Walk} where
  pub front-other : Plainly s slots room allowance w None
  front-other = record { is = tt }

  module _ (some : allowance ≡ 0 → ⊥) (there : w.at < length s) {byte class : ℕ} (is : byte ≡ get_or s w.at 0) (sorted : class_at class ≡ class_of (byte % 128)) where
    pub front-refers : class ≡ 13 → {r : Option Plain} → Refers s slots (w.at + 1) r → Plainly s slots room allowance w r
    front-refers it {r} f = record { is = go r f.is }
      where
        go : (r : Option Plain) → RefersTo s slots (w.at + 1) r → FrontOf s slots room allowance w r
        go (Some (plain.Known v a)) x = front-known some there is sorted it x
        go (Some (plain.Leaf h)) x = absurd x
        go None x = tt

    pub front_leaf : byte < 256 → (class ≡ 13 → ⊥) → w.slots + byte / 128 ≤ room.slots → w.nodes < room.nodes → {r : Option Plain} → Leafs s (byte % 128) (byte / 128) class (w.at + 1) r
        → Plainly s slots room allowance w r
    front_leaf small other fits node {r} f = record { is = go r f.is }
      where
        go : (r : Option Plain) → LeafOf s (byte % 128) (byte / 128) class (w.at + 1) r → FrontOf s slots room allowance w r
        go (Some (plain.Known v a)) x = absurd x
        go (Some (plain.Leaf h)) x = let lt : class < 12 = x.0 in front-opened some there is sorted small other fits (omega arith) node (x.1 allowance (omega arith))
        go None x = tt
