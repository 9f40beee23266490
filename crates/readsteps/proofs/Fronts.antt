-- What `open_node` and `front` answer, one law for each way out.
-- Assumes nothing.
use mathlib.Core.Path.{◌≡◌, refl, sym, ap, subst, ◌∙◌}
use Prim.Native.Nat.{ℕ, zero, suc, ◌+◌, ◌-◌, ◌/◌, ◌%◌, ◌≤◌, ◌<◌}
use native.Mathlib.Omega.{arith}
use mathlib.Core.Bool.{Bool, true, false, cond}
use mathlib.Core.List.{List}
use lib.ListN.{length, get_or}
use lib.Dec.{ltb, eqb}
use borrow.Author.Tests.{lt-ltb, le-ltb, ltb-true, ltb-false, eq-eqb, ne_eqb}
use Rattle.std.specs.Prelude.{Result, Ok, Err}
use Rattle.refusals.specs.Numbers.{too_deep, eof_object, no_slot}
use Rattle.refusals.specs.Faults.{number_of, fault}
use Rattle.refusals.specs.declared.Refusal.{Refusal}
use Rattle.refusals.specs.declared.Refusal.TheVariants.{TooDeep, EofObject, NoSlot, NoNode}
use Rattle.refusals.specs.declared.Fault.{Fault}
use Rattle.grammar.specs.Reading.{level, node, slot, Reading, refused, claim, reads, gives, stops}
use Rattle.grammar.specs.Room.{Rooms, run}
use Rattle.grammar.specs.Letters.{refers, codes, flag_of, letter_of, class_of}
use Rattle.grammar.specs.Fields.{Fields, span}
use Rattle.grammar.specs.Steps.{Front, opens, opened, reference, reserving, header, front}
use Rattle.fields.specs.Classes.{classes, class_at, kept_classes, refused_from, refusal_of}
use Rattle.fields.proofs.Refusals.{refused_class, refusal-own}
use Rattle.fields.specs.Behind.{fields_of, children_of, behind_of, Reads}
use Rattle.fields.specs.Behind as fields
use Rattle.fields.specs.declared.Behind.{Behind}
use Rattle.readsteps.specs.declared.Room.{Room}
use Rattle.readsteps.specs.declared.Walk.{Walk}
use Rattle.readsteps.specs.declared.Opened.{Opened}
use Rattle.readsteps.specs.declared.Opened.TheVariants as answer
use Rattle.readsteps.specs.Held.{rooms}
use Rattle.readsteps.specs.Opening.{inner, KnownAhead, References, NodeAhead, Opens, Ahead, Fronts}
use Rattle.readsteps.proofs.Runs.{claim-fits, claim_fails, run-reads}
use Rattle.readsteps.proofs.Fields.{Kept, a_form, a_sort, a_code, kept_class, parts-code}

-- The classes that are not kept.
reference_class : (class : ℕ) → class ≡ 13 → class_at class ≡ refers
unfolding class_at classes
reference_class class e = rw e refl

below : {class : ℕ} → (class ≡ 13 → ⊥) → class < refused_from → class < kept_classes
below {class} other h = omega arith

-- `open_node`
run-opened : (R : Rooms) (letter flag : ℕ) (f : Fields) → run R (opened letter flag (gives f)) ≡ gives (opens letter flag f)
unfolding run
run-opened R letter flag f = refl

run-cut : (R : Rooms) (letter flag n p : ℕ) → run R (opened letter flag (stops n p)) ≡ stops n p
unfolding run
run-cut R letter flag n p = refl

module _ (s : List ℕ) (allowance letter flag class at : ℕ) (is : class < kept_classes) (need : ℕ) (needs : need ≡ cond (eqb class 12) 2 1) where
  -- too few levels: only a code's body can be too deep
  deep : 0 < allowance → allowance < need → (room : Room) (depth : ℕ) → stops too_deep at ≡ run (rooms room (depth + allowance)) (inner s depth at letter flag (class_at class))
  deep some h room depth = go (kept_class class is)
    where
      one : (class ≡ 12 → ⊥) → ⊥
      one other = let e : need ≡ 1 = needs ∙ ap (λ b. cond b 2 1) (ne_eqb class 12 other) in omega arith

      go : Kept class → stops too_deep at ≡ run (rooms room (depth + allowance)) (inner s depth at letter flag (class_at class))
      go (a_form form k other) = absurd (one other)
      go (a_sort sort k other) = absurd (one other)
      go (a_code k it) =
          let e : need ≡ 2 = needs ∙ ap (λ b. cond b 2 1) (eq-eqb class 12 it) in
          sym (ap (λ c. run (rooms room (depth + allowance)) (inner s depth at letter flag c)) k ∙ claim_fails (rooms room (depth + allowance)) level (depth + 2) at (opened letter flag (fields_of s codes at)) (omega arith))

  -- the levels are there: what is left is the fields
  fields_left : need ≤ allowance → (room : Room) (depth : ℕ)
      → run (rooms room (depth + allowance)) (inner s depth at letter flag (class_at class)) ≡ run (rooms room (depth + allowance)) (opened letter flag (fields_of s (class_at class) at))
  fields_left fits room depth = go (kept_class class is)
    where
      go : Kept class → run (rooms room (depth + allowance)) (inner s depth at letter flag (class_at class)) ≡ run (rooms room (depth + allowance)) (opened letter flag (fields_of s (class_at class) at))
      go (a_form form k other) = rw k refl
      go (a_sort sort k other) = rw k refl
      go (a_code k it) =
          let e : need ≡ 2 = needs ∙ ap (λ b. cond b 2 1) (eq-eqb class 12 it) in
          rw k (claim-fits (rooms room (depth + allowance)) level (depth + 2) at (opened letter flag (fields_of s codes at)) (omega arith))

module _ {s : List ℕ} {allowance letter flag class at : ℕ} (is : class < kept_classes) {need : ℕ} (needs : need ≡ cond (eqb class 12) 2 1) where
  pub node-deep : 0 < allowance → allowance < need → {f : Fault} → f ≡ fault TooDeep at → Opens s allowance letter flag class at (Err f)
  node-deep some h told = rw told (record { ahead = tt; exact = deep s allowance letter flag class at is need needs some h })

  module _ (fits : need ≤ allowance) {b : Result Behind Fault} (f : Reads s (class_at class) at b) where
    pub node-cut : {g : Fault} → b ≡ Err g → Opens s allowance letter flag class at (Err g)
    node-cut {g} it =
        let n = number_of g.refusal in
        let p = g.place in
        let e : stops n p ≡ fields_of s (class_at class) at = sym (ap behind_of it) ∙ f.exact in
        record {
          ahead = tt;
          exact = λ room depth.
              sym (fields_left s allowance letter flag class at is need needs fits room depth ∙ ap (λ a. run (rooms room (depth + allowance)) (opened letter flag a)) (sym e) ∙ run-cut (rooms room (depth + allowance)) letter flag n p);
        }

    pub node-opened : {read : Behind} → b ≡ Ok read
        → Opens s allowance letter flag class at (Ok (answer.Node (record { letter = letter; flag = flag; place = read.place; size = read.size }) read.kids))
    node-opened {read} it =
        let place = read.place in
        let size = read.size in
        let kids = read.kids in
        let e : span place size (children_of kids) ≡ fields_of s (class_at class) at = sym (ap behind_of it) ∙ f.exact in
        let a : fields.Ahead s at (Ok read) = subst (fields.Ahead s at) it f.ahead in
        record {
          ahead = record {
            past = a.0;
            within = a.1;
            lettered = refl;
            flagged = refl;
            code = λ q.
                let x = parts-code s class at is place size (children_of kids) e q in
                let n : need ≡ 2 = needs ∙ ap (λ b. cond b 2 1) (eq-eqb class 12 x.0) in
                (x.1, x.2, omega arith);
          };
          exact = λ room depth.
              sym
              (fields_left s allowance letter flag class at is need needs fits room depth
              ∙ ap (λ a. run (rooms room (depth + allowance)) (opened letter flag a)) (sym e)
              ∙ run-opened (rooms room (depth + allowance)) letter flag (record { place = place; size = size; children = children_of kids }));
        }

-- The slot.
reserving-fits : (R : Rooms) (flag used at : ℕ) (m : Reading Front) → used + flag ≤ R.slots → run R (reserving flag used at m) ≡ run R m
reserving-fits R zero used at m h = refl
reserving-fits R (suc f) used at m h = claim-fits R slot (used + 1) at m (omega arith)

reserving_fails : (R : Rooms) (flag used at : ℕ) (m : Reading Front) → R.slots < used + flag → flag ≤ 1 → used ≤ R.slots → run R (reserving flag used at m) ≡ stops no_slot at
reserving_fails R zero used at m h l u = absurd (omega arith)
reserving_fails R (suc f) used at m h l u = claim_fails R slot (used + 1) at m (omega arith)

-- A header by its class.
module _ (s : List ℕ) (depth at nodes used : ℕ) (ss : List ℕ) (letter flag : ℕ) where
  kept-header : (class : ℕ) → class < kept_classes
      → header s depth at nodes used ss letter flag (class_at class) ≡ reserving flag used at (claim node (nodes + 1) at (inner s depth (at + 1) letter flag (class_at class)))
  unfolding header fields_of
  kept-header class h = go (kept_class class h)
    where
      go : Kept class → header s depth at nodes used ss letter flag (class_at class) ≡ reserving flag used at (claim node (nodes + 1) at (inner s depth (at + 1) letter flag (class_at class)))
      go (a_form form k other) = rw k refl
      go (a_sort sort k other) = rw k refl
      go (a_code k it) = rw k refl

  refused-header : (class : ℕ) → refused_from ≤ class → header s depth at nodes used ss letter flag (class_at class) ≡ reserving flag used at (refused (class - refused_from) at)
  unfolding header
  refused-header class h = ap (header s depth at nodes used ss letter flag) (refused_class class h)

  reference-header : (class : ℕ) → class ≡ 13 → header s depth at nodes used ss letter flag (class_at class) ≡ reads (reference s ss (at + 1))
  unfolding header
  reference-header class e = ap (header s depth at nodes used ss letter flag) (reference_class class e)

  -- but for a reference, the slot is claimed first
  slot_first : (class : ℕ) → (class ≡ 13 → ⊥) → (m : Reading Front) × (header s depth at nodes used ss letter flag (class_at class) ≡ reserving flag used at m)
  slot_first class h = go (ltb class kept_classes) refl
    where
      go : (b : Bool) → ltb class kept_classes ≡ b → (m : Reading Front) × (header s depth at nodes used ss letter flag (class_at class) ≡ reserving flag used at m)
      go true e = (claim node (nodes + 1) at (inner s depth (at + 1) letter flag (class_at class)), kept-header class (ltb-true class kept_classes e))
      go false e = let le : kept_classes ≤ class = ltb-false class kept_classes e in (refused (class - refused_from) at, refused-header class (past class le h))
        where
          past : (c : ℕ) → kept_classes ≤ c → (c ≡ 13 → ⊥) → refused_from ≤ c
          past c l n = omega arith

-- `front`
module _ (s ss : List ℕ) (room : Room) (allowance : ℕ) (w : Walk) where
  abbrev R : ℕ → Rooms
  R depth = rooms room (depth + allowance)

  abbrev headed : (depth : ℕ) → Reading Front
  headed depth = header s depth w.at w.nodes w.slots ss (letter_of (get_or s w.at 0)) (flag_of (get_or s w.at 0)) (class_of (letter_of (get_or s w.at 0)))

  -- a level is there
  levelled : (allowance ≡ 0 → ⊥) → (depth : ℕ) → run (R depth) (front s depth w.at w.nodes w.slots ss) ≡ run (R depth) (cond (ltb w.at (length s)) (headed depth) (refused eof_object (length s)))
  unfolding front
  levelled some depth = claim-fits (R depth) level (depth + 1) w.at (cond (ltb w.at (length s)) (headed depth) (refused eof_object (length s))) (omega arith)

  known-ahead : (r : Result Opened Fault) → KnownAhead s (w.at + 1) r → Ahead s room allowance w r
  known-ahead (Ok (answer.Known v at)) h = h
  known-ahead (Ok (answer.Node hd kids)) h = absurd h
  known-ahead (Err f) h = tt

  -- of a header byte: its letter and its flag go with the node
  node-ahead : (byte : ℕ) (r : Result Opened Fault) → byte ≡ get_or s w.at 0 → NodeAhead s allowance (letter_of byte) (flag_of byte) (w.at + 1) r → byte < 256 → w.slots + flag_of byte ≤ room.slots
      → w.nodes < room.nodes → 0 < allowance → Ahead s room allowance w r
  node-ahead byte (Ok (answer.Known v at)) is h small slots n l = absurd h
  node-ahead byte (Ok (answer.Node hd kids)) is h small slots n l =
      record {
        past = h.past;
        within = h.within;
        lettered = h.lettered ∙ ap letter_of is;
        flagged = h.flagged ∙ ap flag_of is;
        flag = omega (arith, h.flagged);
        slot = omega (arith, h.flagged);
        node = n;
        level = l;
        code = h.code;
      }
  node-ahead byte (Err f) is h small slots n l = tt

  module _ (byte class : ℕ) (some : allowance ≡ 0 → ⊥) (there : w.at < length s) (is : byte ≡ get_or s w.at 0) (sorted : class_at class ≡ class_of (byte % 128)) where
    at_header : (depth : ℕ) → run (R depth) (front s depth w.at w.nodes w.slots ss) ≡ run (R depth) (header s depth w.at w.nodes w.slots ss (byte % 128) (byte / 128) (class_at class))
    at_header depth =
        levelled some depth
        ∙ ap (λ b. run (R depth) (cond b (headed depth) (refused eof_object (length s)))) (lt-ltb w.at (length s) there)
        ∙ ap (λ b. run (R depth) (header s depth w.at w.nodes w.slots ss (b % 128) (b / 128) (class_of (b % 128)))) (sym is)
        ∙ ap (λ c. run (R depth) (header s depth w.at w.nodes w.slots ss (byte % 128) (byte / 128) c)) (sym sorted)

    at_node : w.slots + byte / 128 ≤ room.slots → class < kept_classes → (depth : ℕ) → run (R depth) (front s depth w.at w.nodes w.slots ss)
        ≡ run (R depth) (claim node (w.nodes + 1) w.at (inner s depth (w.at + 1) (byte % 128) (byte / 128) (class_at class)))
    at_node fits kept depth =
        at_header depth
        ∙ ap (run (R depth)) (kept-header s depth w.at w.nodes w.slots ss (byte % 128) (byte / 128) class kept)
        ∙ reserving-fits (R depth) (byte / 128) w.slots w.at _ fits

module _ {s ss : List ℕ} {room : Room} {allowance : ℕ} {w : Walk} where
  pub front-deep : allowance ≡ 0 → {f : Fault} → f ≡ fault TooDeep w.at → Fronts s ss room allowance w (Err f)
  unfolding front
  front-deep e told = rw told (record { ahead = tt; exact = λ depth. sym (claim_fails (rooms room (depth + allowance)) level (depth + 1) w.at _ (omega arith)) })

  module _ (some : allowance ≡ 0 → ⊥) where
    pub front-end : w.at ≤ length s → length s ≤ w.at → {f : Fault} → f ≡ fault EofObject w.at → Fronts s ss room allowance w (Err f)
    unfolding run
    front-end le ge told =
        let e : w.at ≡ length s = omega arith in
        rw told (record {
          ahead = tt;
          exact = λ depth.
              ap (λ n. stops eof_object n) e
              ∙ sym (levelled s ss room allowance w some depth ∙ ap (λ b. run (rooms room (depth + allowance)) (cond b (headed s ss room allowance w depth) (refused eof_object (length s)))) (le-ltb w.at (length s) ge));
        })

    module _ (there : w.at < length s) {byte class : ℕ} (is : byte ≡ get_or s w.at 0) (sorted : class_at class ≡ class_of (byte % 128)) where
      pub front-known : class ≡ 13 → {r : Result Opened Fault} → References s ss (w.at + 1) r → Fronts s ss room allowance w r
      front-known it {r} k =
          record {
            ahead = known-ahead s ss room allowance w r k.ahead;
            exact = λ depth.
                k.exact
                ∙ sym
                (at_header s ss room allowance w byte class some there is sorted depth
                ∙ ap (run (rooms room (depth + allowance))) (reference-header s depth w.at w.nodes w.slots ss (byte % 128) (byte / 128) class it)
                ∙ run-reads (rooms room (depth + allowance)) (reference s ss (w.at + 1)));
          }

      module _ (small : byte < 256) (other : class ≡ 13 → ⊥) where
        pub front-no_slot : w.slots ≤ room.slots → room.slots < w.slots + byte / 128 → {f : Fault} → f ≡ fault NoSlot w.at → Fronts s ss room allowance w (Err f)
        front-no_slot used h told =
            rw told (record {
              ahead = tt;
              exact = λ depth.
                  let x = slot_first s depth w.at w.nodes w.slots ss (byte % 128) (byte / 128) class other in
                  sym
                  (at_header s ss room allowance w byte class some there is sorted depth
                  ∙ ap (run (rooms room (depth + allowance))) x.1
                  ∙ reserving_fails (rooms room (depth + allowance)) (byte / 128) w.slots w.at x.0 h (omega arith) used);
            })

        module _ (fits : w.slots + byte / 128 ≤ room.slots) where
          pub front-refused : refused_from ≤ class → {why : Refusal} → why ≡ refusal_of class → {f : Fault} → f ≡ fault why w.at → Fronts s ss room allowance w (Err f)
          unfolding run
          front-refused h {why} x told =
              rw told (record {
                ahead = tt;
                exact = λ depth.
                    ap (λ n. stops n w.at) (ap number_of x ∙ refusal-own class (byte % 128) sorted h)
                    ∙ sym
                    (at_header s ss room allowance w byte class some there is sorted depth
                    ∙ ap (run (rooms room (depth + allowance))) (refused-header s depth w.at w.nodes w.slots ss (byte % 128) (byte / 128) class h)
                    ∙ reserving-fits (rooms room (depth + allowance)) (byte / 128) w.slots w.at (refused (class - refused_from) w.at) fits);
              })

          pub front-no_node : class < refused_from → room.nodes ≤ w.nodes → {f : Fault} → f ≡ fault NoNode w.at → Fronts s ss room allowance w (Err f)
          front-no_node sound h told =
              rw told (record {
                ahead = tt;
                exact = λ depth.
                    sym
                    (at_node s ss room allowance w byte class some there is sorted fits (below other sound) depth
                    ∙ claim_fails (rooms room (depth + allowance)) node (w.nodes + 1) w.at (inner s depth (w.at + 1) (byte % 128) (byte / 128) (class_at class)) (omega arith));
              })

          pub front-opened : class < refused_from → w.nodes < room.nodes → {r : Result Opened Fault} → Opens s allowance (byte % 128) (byte / 128) class (w.at + 1) r → Fronts s ss room allowance w r
          front-opened sound h {r} k =
              record {
                ahead = node-ahead s ss room allowance w byte r is k.ahead small fits h (omega arith);
                exact = λ depth.
                    k.exact room depth
                    ∙ sym
                    (at_node s ss room allowance w byte class some there is sorted fits (below other sound) depth
                    ∙ claim-fits (rooms room (depth + allowance)) node (w.nodes + 1) w.at (inner s depth (w.at + 1) (byte % 128) (byte / 128) (class_at class)) (omega arith));
              }
