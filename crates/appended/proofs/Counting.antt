-- Demand 3 for an append: the room that is left is enough for the plain reading exactly where the lent room is enough for kept plus new, and the
-- first claim that does not fit is the same. By the laws of Fitting and Exactness (grammar) and of the shift by what is kept (shifts). Assumes nothing.
use mathlib.Core.Path.{◌≡◌, refl, sym, ap, ◌∙◌}
use Prim.Native.Nat.{ℕ, ◌+◌, ◌-◌, ◌≤◌, ◌<◌}
use native.Mathlib.Omega.{arith}
use mathlib.Core.List.{List, [], ◌∷◌, ◌++◌, map}
use lib.ListN.{length}
use borrow.Author.Tests.{le-ltb, lt-ltb}
use Rattle.refusals.specs.Numbers.{no_node, no_entry, input_too_long}
use Rattle.refusals.specs.Limits.{most_bytes}
use Rattle.grammar.specs.Reading.{Kind, level, node, entry, slot, Answer, stops}
use Rattle.grammar.specs.Room.{Rooms, room_for, run, Claim, AllFit}
use Rattle.grammar.specs.State.{Node, Entry, State}
use Rattle.grammar.specs.Steps.{value}
use Rattle.grammar.specs.Answer.{plain}
use Rattle.grammar.specs.Counted.{claims_of, Over}
use Rattle.grammar.proofs.Fitting.{exact_where_all_fit, all_fit, refused_where_one_is_over}
use Rattle.grammar.proofs.Exactness.{FourOrOver, four, short, four_or_over}
use Rattle.shifts.specs.Shift.{raised_value, lifted_a}
use Rattle.shifts.proofs.Kept.{kept-answer}
use Rattle.readmore.specs.More.{Kept, keeping, room_left, appending, appended_to, more_of}
use Rattle.appended.specs.Promised.{more_by, lent_room, Holds, kept_for, counted, AllFourWith, EndsIn, kept_state, by_kept}
use Rattle.appended.specs.Promised as promised

module _ (R : Rooms) (k : Kept) (h : Holds R k) where
  -- a need fits in what is left exactly where it fits with what is kept
  fits_left : (kind : Kind) {need : ℕ} → need ≤ room_for (room_left R k) kind → kept_for k kind + need ≤ room_for R kind
  fits_left level l = omega arith
  fits_left node l = omega arith
  fits_left entry l = omega arith
  fits_left slot l = omega arith

  left-fits : (kind : Kind) {need : ℕ} → kept_for k kind + need ≤ room_for R kind → need ≤ room_for (room_left R k) kind
  left-fits level l = omega arith
  left-fits node l = omega arith
  left-fits entry l = omega arith
  left-fits slot l = omega arith

  over_left : (kind : Kind) {need : ℕ} → room_for (room_left R k) kind < need → room_for R kind < kept_for k kind + need
  over_left level l = omega arith
  over_left node l = omega arith
  over_left entry l = omega arith
  over_left slot l = omega arith

  all_counted : (cs : List Claim) → AllFit (room_left R k) cs → AllFit R (map (counted k) cs)
  unfolding AllFit
  all_counted [] a = tt
  all_counted (c ∷ cs) a = (fits_left c.kind a.0, all_counted cs a.1)

  order-counted : (before : List Claim) (c : Claim) (rest : List Claim) → map (counted k) (before ++ c ∷ rest) ≡ map (counted k) before ++ counted k c ∷ map (counted k) rest
  order-counted [] c rest = refl
  order-counted (b ∷ bs) c rest = ap (λ t. counted k b ∷ t) (order-counted bs c rest)

  over-counted : (cs : List Claim) → Over (room_left R k) cs → Over R (map (counted k) cs)
  over-counted cs o =
      record {
        before = map (counted k) o.before;
        first = counted k o.first;
        rest = map (counted k) o.rest;
        order = ap (map (counted k)) o.order ∙ order-counted o.before o.first o.rest;
        fitting = all_counted o.before o.fitting;
        over = over_left o.first.kind o.over;
      }

  -- what is read where the kept records fit
  pub reads_on : (s : List ℕ) → length s ≤ most_bytes → appending s R k ≡ run (room_left R k) (plain s)
  unfolding appending
  reads_on s small = rw (le-ltb most_bytes (length s) small, le-ltb R.nodes k.nodes h.in_nodes, le-ltb R.entries k.entries h.in_entries) refl

module _ (s nodes entries : List ℕ) (slots nesting : ℕ) (k : Kept) where
  abbrev R : Rooms
  R = lent_room nodes entries slots nesting

  pub more-is : {a : Answer (ℕ × State)} → appending s R k ≡ a → more_by s nodes entries slots nesting k ≡ appended_to k nodes entries slots a
  unfolding more_of
  more-is e = ap (appended_to k nodes entries slots) e

  pub exact_or_first : length s ≤ most_bytes → Holds R k → EndsIn s nodes entries slots nesting k
  unfolding over-counted
  exact_or_first small h = go (four_or_over s (room_left R k))
    where
      go : FourOrOver s (room_left R k) → EndsIn s nodes entries slots nesting k
      go (four f) =
          promised.fits (λ kind. fits_left R k h kind (f kind))
          (more-is (reads_on R k h s small ∙ exact_where_all_fit (room_left R k) (plain s) (all_fit (room_left R k) (claims_of s) (λ kind. f kind))))
      go (short n o) =
          promised.short (λ f. n (λ kind. left-fits R k h kind (f kind))) (over-counted R k h (claims_of s) o)
          (more-is (reads_on R k h s small ∙ refused_where_one_is_over (room_left R k) (plain s) o))

  pub too_long : most_bytes < length s → (more_by s nodes entries slots nesting k).answer ≡ stops input_too_long 0
  unfolding more_of appending
  too_long l = rw (lt-ltb most_bytes (length s) l) refl

  pub no_node_lem : length s ≤ most_bytes → R.nodes < k.nodes → (more_by s nodes entries slots nesting k).answer ≡ stops no_node 0
  unfolding more_of appending
  no_node_lem small l = rw (le-ltb most_bytes (length s) small, lt-ltb R.nodes k.nodes l) refl

  pub no_entry_lem : length s ≤ most_bytes → k.nodes ≤ R.nodes → R.entries < k.entries → (more_by s nodes entries slots nesting k).answer ≡ stops no_entry 0
  unfolding more_of appending
  no_entry_lem small n l = rw (le-ltb most_bytes (length s) small, le-ltb R.nodes k.nodes n, lt-ltb R.entries k.entries l) refl

-- the grammar's reading behind what is kept, by the law of shifted readings
pub goes_on : (s nodes entries : List ℕ) (slots nesting : ℕ) (ns : List Node) (es : List Entry) (number : ℕ) → length s ≤ most_bytes
    → Holds (lent_room nodes entries slots nesting) (keeping (length ns) (length es) number)
    → run (lent_room nodes entries slots nesting) (value (length s) s 0 (kept_state ns es))
    ≡ lifted_a (by_kept ns es) (raised_value (by_kept ns es)) (appending s (lent_room nodes entries slots nesting) (keeping (length ns) (length es) number))
goes_on s nodes entries slots nesting ns es number small h =
    let Q = lent_room nodes entries slots nesting in
    let k = keeping (length ns) (length es) number in
    let z : Q.levels - 0 ≡ Q.levels = omega arith in
    kept-answer s small ns es Q h.in_nodes h.in_entries
    ∙ ap (λ l. lifted_a (by_kept ns es) (raised_value (by_kept ns es)) (run (record { levels = l; nodes = Q.nodes - length ns; entries = Q.entries - length es; slots = Q.slots }) (plain s))) z
    ∙ ap (lifted_a (by_kept ns es) (raised_value (by_kept ns es))) (sym (reads_on Q k h s small))
