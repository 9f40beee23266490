-- A reading behind kept nodes and entries (02, K11: "New reads append to the kept nodes .. its node and entry numbers are the plain reading's
-- raised by those kept"): the whole reading, what it needs, its answer in given room. Assumes 16 MiB at most.
use mathlib.Core.Path.{◌≡◌, refl, ap, ◌∙◌}
use Prim.Native.Nat.{ℕ, ◌+◌, ◌-◌, ◌≤◌, max}
use native.Mathlib.Omega.{arith}
use mathlib.Core.Bool.{Bool, true, false, cond}
use mathlib.Core.List.{List, [], append-nil}
use lib.ListN.{length, get_or}
use lib.Dec.{leb}
use borrow.Author.Tests.{leb-true, le-leb}
use Rattle.refusals.specs.Limits.{most_bytes}
use Rattle.grammar.specs.Reading.{Kind, level, node, entry, slot, Reading, done, refused, claim, Answer, stops}
use Rattle.grammar.specs.Room.{Rooms, room_for, number_of, run, claims, most, same}
use Rattle.grammar.specs.Fields.{contents}
use Rattle.grammar.specs.State.{Node, Entry, State, start}
use Rattle.grammar.specs.Steps.{value}
use Rattle.grammar.specs.Answer.{plain}
use Rattle.grammar.proofs.Tests.{each_way}
use Rattle.grammar.proofs.Bounded.{at_start, none_claimed}
use Rattle.shifts.specs.Shift.{Shift, raised, raised_value, raised_need, lifted, lifted_a, Further}
use Rattle.shifts.proofs.Shifting.{value-shift}

-- the state in which a new read begins: kept nodes and entries, no slot
abbrev pub kept_state : List Node → List Entry → State
kept_state ns es = record { at = 0; nodes = ns; entries = es; slots = []; met = [] }

abbrev pub kept_shift : List Node → List Entry → Shift
kept_shift ns es = record { levels = 0; places = 0; nodes = ns; entries = es; met = [] }

itself : (ns : List Node) (es : List Entry) (s : List ℕ) → Further (kept_shift ns es) s s
itself ns es s = record { long = omega arith; byte = λ i. byte i; part = λ i n. part i n }
  where
    byte : (i : ℕ) → get_or s (0 + i) 0 ≡ get_or s i 0
    byte i = let z : 0 + i ≡ i = omega arith in rw z refl

    part : (i n : ℕ) → contents s (0 + i) n ≡ contents s i n
    part i n = let z : 0 + i ≡ i = omega arith in rw z refl

raised_start : (ns : List Node) (es : List Entry) → raised (kept_shift ns es) start ≡ kept_state ns es
unfolding raised
raised_start ns es = rw (append-nil ns, append-nil es) refl

-- The whole reading behind what is kept is the plain reading, raised: every claim, every refusal with its place, and what it gives.
pub kept-reading : (s : List ℕ) → length s ≤ most_bytes → (ns : List Node) (es : List Entry)
    → value (length s) s 0 (kept_state ns es) ≡ lifted (kept_shift ns es) (raised_value (kept_shift ns es)) (plain s)
unfolding plain
kept-reading s small ns es =
    rw (← (raised_start ns es))
    (value-shift (kept_shift ns es) s s (itself ns es s) small (length s) 0 0 refl none_claimed start (at_start s small) (λ i l e. absurd (omega arith)))

-- What a raised reading needs.
module _ (k : Shift) where
  most-raised : (kind j : Kind) (need m n : ℕ) → max (raised_need k kind 0) m ≡ raised_need k kind n
      → max (raised_need k kind 0) (max (cond (same kind j) (raised_need k j need) 0) m) ≡ raised_need k kind (max (cond (same kind j) need 0) n)
  most-raised level level need m n e = omega arith
  most-raised level node need m n e = omega arith
  most-raised level entry need m n e = omega arith
  most-raised level slot need m n e = omega arith
  most-raised node level need m n e = omega arith
  most-raised node node need m n e = omega arith
  most-raised node entry need m n e = omega arith
  most-raised node slot need m n e = omega arith
  most-raised entry level need m n e = omega arith
  most-raised entry node need m n e = omega arith
  most-raised entry entry need m n e = omega arith
  most-raised entry slot need m n e = omega arith
  most-raised slot level need m n e = omega arith
  most-raised slot node need m n e = omega arith
  most-raised slot entry need m n e = omega arith
  most-raised slot slot need m n e = omega arith

  none_raised : (kind : Kind) → max (raised_need k kind 0) 0 ≡ raised_need k kind 0
  none_raised level = omega arith
  none_raised node = omega arith
  none_raised entry = omega arith
  none_raised slot = omega arith

  pub needs_raised : {A B : Type 0} (g : A → B) (m : Reading A) (kind : Kind) → max (raised_need k kind 0) (most kind (claims (lifted k g m))) ≡ raised_need k kind (most kind (claims m))
  unfolding lifted claims most
  needs_raised g (done a) kind = none_raised kind
  needs_raised g (refused n p) kind = none_raised kind
  needs_raised g (claim j need p m) kind = most-raised kind j need (most kind (claims (lifted k g m))) (most kind (claims m)) (needs_raised g m kind)

  -- the room that is left
  abbrev pub room_left : Rooms → Rooms
  room_left R = record { levels = R.levels - k.levels; nodes = R.nodes - length k.nodes; entries = R.entries - length k.entries; slots = R.slots }

  pub record Fit (R : Rooms) : Type 0 where
    pub levels : k.levels ≤ R.levels
    pub nodes : length k.nodes ≤ R.nodes
    pub entries : length k.entries ≤ R.entries

  left-fits : (a b c : ℕ) → a ≤ c → leb (a + b) c ≡ leb b (c - a)
  left-fits a b c l = each_way (leb (a + b) c) (leb b (c - a)) (λ e. le-leb b (c - a) (omega (arith, leb-true (a + b) c e))) (λ e. le-leb (a + b) c (omega (arith, leb-true b (c - a) e)))

  room_left_lem : (R : Rooms) → Fit R → (kind : Kind) (need : ℕ) → leb (raised_need k kind need) (room_for R kind) ≡ leb need (room_for (room_left R) kind)
  room_left_lem R f level need = left-fits k.levels need R.levels f.levels
  room_left_lem R f node need = left-fits (length k.nodes) need R.nodes f.nodes
  room_left_lem R f entry need = left-fits (length k.entries) need R.entries f.entries
  room_left_lem R f slot need = refl

  -- The answer within room is the plain answer within the room that is left, raised.
  pub run-raised : {A B : Type 0} (g : A → B) (R : Rooms) → Fit R → (m : Reading A) → run R (lifted k g m) ≡ lifted_a k g (run (room_left R) m)
  unfolding lifted lifted_a run
  run-raised g R f (done a) = refl
  run-raised g R f (refused n p) = refl
  run-raised {A} {B} g R f (claim kind need p m) = rw (room_left_lem R f kind need) (go (leb need (room_for (room_left R) kind)) (run-raised g R f m))
    where
      go : (t : Bool) → run R (lifted k g m) ≡ lifted_a k g (run (room_left R) m)
          → ◌≡◌ {A = Answer B} (cond t (run R (lifted k g m)) (stops (number_of kind) (k.places + p))) (lifted_a k g (cond t (run (room_left R) m) (stops (number_of kind) p)))
      go true e = e
      go false e = refl

-- A new read in given room: what the plain reading answers in the room that is left, raised.
pub kept-answer : (s : List ℕ) → length s ≤ most_bytes → (ns : List Node) (es : List Entry) (R : Rooms) → length ns ≤ R.nodes → length es ≤ R.entries
    → run R (value (length s) s 0 (kept_state ns es)) ≡ lifted_a (kept_shift ns es) (raised_value (kept_shift ns es)) (run (room_left (kept_shift ns es) R) (plain s))
kept-answer s small ns es R n e =
    ap (run R) (kept-reading s small ns es)
    ∙ run-raised (kept_shift ns es) (raised_value (kept_shift ns es)) R (record { levels = omega arith; nodes = n; entries = e }) (plain s)
