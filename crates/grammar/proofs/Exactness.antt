-- Demand 3 over the whole reading: exact where the four counts fit, the first claim's refusal where one does not; more room changes no other
-- answer. The laws of Fitting carry it. Assumes nothing.
use mathlib.Core.Path.{◌≡◌, refl, ◌∙◌}
use Prim.Native.Nat.{ℕ, ◌≤◌, ◌<◌}
use native.Mathlib.Omega.{arith}
use mathlib.Core.Bool.{Bool, true, false, cond}
use mathlib.Core.List.{List}
use lib.ListN.{length}
use lib.Dec.{ltb}
use borrow.Author.Tests.{le-ltb, lt-ltb}
use Rattle.refusals.specs.Numbers.{input_too_long}
use Rattle.refusals.specs.Limits.{most_bytes}
use Rattle.grammar.specs.Reading.{Kind, level, node, entry, slot, stops}
use Rattle.grammar.specs.Room.{Rooms, room_for, number_of, run, plainly}
use Rattle.grammar.specs.Answer.{plain, rooms_of, reading}
use Rattle.grammar.specs.Counted.{claims_of, AllFour, Over, NotOfRoom, Larger}
use Rattle.grammar.proofs.Fitting.{exact_where_all_fit, all_fit, most-fits, need-most, Fitted, all, some-over, fitted, refused_where_one_is_over, fits-unless_of_room, more_room}

-- "InputTooLong, tested before all"
pub too_long : (s : List ℕ) (nodes entries slots nesting : ℕ) → most_bytes < length s → reading s nodes entries slots nesting ≡ stops input_too_long 0
unfolding reading
too_long s nodes entries slots nesting h = rw (lt-ltb most_bytes (length s) h) refl

pub within-room : (s : List ℕ) (nodes entries slots nesting : ℕ) → length s ≤ most_bytes
    → reading s nodes entries slots nesting ≡ run (rooms_of nodes entries slots nesting) (plain s)
unfolding reading
within-room s nodes entries slots nesting h = rw (le-ltb most_bytes (length s) h) refl

-- Where nesting, nodes, entries and slots all fit, the answer is the plain one, refusals and places included.
pub exact_where_it_fits : (s : List ℕ) (nodes entries slots nesting : ℕ) → length s ≤ most_bytes
    → AllFour s (rooms_of nodes entries slots nesting) → reading s nodes entries slots nesting ≡ plainly (plain s)
exact_where_it_fits s nodes entries slots nesting h fits =
    within-room s nodes entries slots nesting h
    ∙ exact_where_all_fit (rooms_of nodes entries slots nesting) (plain s) (all_fit (rooms_of nodes entries slots nesting) (claims_of s) (λ k. omega (arith, fits k)))

-- Otherwise it is the refusal of the first claim, in reading order, that does not fit.
pub first_over-refuses : (s : List ℕ) (nodes entries slots nesting : ℕ) → length s ≤ most_bytes → (o : Over (rooms_of nodes entries slots nesting) (claims_of s))
    → reading s nodes entries slots nesting ≡ stops (number_of o.first.kind) o.first.place
first_over-refuses s nodes entries slots nesting h o =
    within-room s nodes entries slots nesting h ∙ refused_where_one_is_over (rooms_of nodes entries slots nesting) (plain s) o

-- One of the two is so and not the other: all four counts fit, or some claim is over, and then they do not.
pub not_both : (s : List ℕ) (R : Rooms) → AllFour s R → Over R (claims_of s) → ⊥
not_both s R four o =
    omega (arith, need-most o.first.kind (claims_of s) o.before o.first o.rest o.order refl, four o.first.kind, o.over)

pub data FourOrOver (s : List ℕ) (R : Rooms) : Type 0 where
  four : AllFour s R → FourOrOver s R
  short : (AllFour s R → ⊥) → Over R (claims_of s) → FourOrOver s R

pub four_or_over : (s : List ℕ) (R : Rooms) → FourOrOver s R
four_or_over s R = go (fitted R (claims_of s))
  where
    go : Fitted R (claims_of s) → FourOrOver s R
    go (all h) = four (λ k. omega (arith, most-fits R (claims_of s) h k))
    go (some-over o) = short (λ f. not_both s R f o) o

-- Wherever an answer is given that is no refusal for want of room, all four counts fit: so wherever an input is accepted.
pub four_unless_of_room : (s : List ℕ) (nodes entries slots nesting : ℕ) → length s ≤ most_bytes → NotOfRoom (reading s nodes entries slots nesting)
    → AllFour s (rooms_of nodes entries slots nesting)
four_unless_of_room s nodes entries slots nesting h other =
    let R = rooms_of nodes entries slots nesting in
    let m = most-fits R (claims_of s) (fits-unless_of_room R (plain s) (λ n p e. other n p (within-room s nodes entries slots nesting h ∙ e))) in
    λ k. omega (arith, m k)

larger_rooms : {nodes entries slots nesting nodes' entries' slots' nesting' : ℕ} → Larger nodes entries slots nesting nodes' entries' slots' nesting'
    → (k : Kind) → room_for (rooms_of nodes entries slots nesting) k ≤ room_for (rooms_of nodes' entries' slots' nesting') k
larger_rooms l level = omega arith
larger_rooms l node = omega arith
larger_rooms l entry = omega arith
larger_rooms l slot = omega arith

-- More room changes no answer that is no refusal for want of room.
pub more_room-same_answer : (s : List ℕ) (nodes entries slots nesting nodes' entries' slots' nesting' : ℕ)
    → Larger nodes entries slots nesting nodes' entries' slots' nesting' → NotOfRoom (reading s nodes entries slots nesting)
    → reading s nodes' entries' slots' nesting' ≡ reading s nodes entries slots nesting
unfolding reading
more_room-same_answer s nodes entries slots nesting nodes' entries' slots' nesting' l other = go (ltb most_bytes (length s)) other
  where
    go : (b : Bool)
        → NotOfRoom (cond b (stops input_too_long 0) (run (rooms_of nodes entries slots nesting) (plain s)))
        → cond b (stops input_too_long 0) (run (rooms_of nodes' entries' slots' nesting') (plain s)) ≡ cond b (stops input_too_long 0) (run (rooms_of nodes entries slots nesting) (plain s))
    go true other = refl
    go false other = more_room (rooms_of nodes entries slots nesting) (rooms_of nodes' entries' slots' nesting') (plain s) (larger_rooms l) other
