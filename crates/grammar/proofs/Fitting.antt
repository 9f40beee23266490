-- Any reading within room: it gives its plain answer where all that it needs fits, and otherwise the refusal of the first claim that does not.
-- Every law is by induction on the reading or on its claims. Assumes nothing.
use mathlib.Core.Path.{◌≡◌, refl, sym, ap, ◌∙◌}
use Prim.Native.Nat.{ℕ, ◌≤◌, ◌<◌, max}
use native.Mathlib.Omega.{arith}
use mathlib.Core.Bool.{Bool, true, false, cond}
use mathlib.Core.List.{List, [], ◌∷◌, ◌++◌}
use lib.Dec.{leb, ltb}
use borrow.Author.Tests.{le-leb, lt-leb, leb-true, leb-false, ltb-true, ltb-false}
use Rattle.refusals.specs.Numbers.{no_node, no_entry, no_slot}
use Rattle.grammar.specs.Reading.{Kind, level, node, entry, slot, Reading, done, refused, claim, Answer, gives, stops}
use Rattle.grammar.specs.Room.{Rooms, room_for, number_of, run, plainly, Claim, claims, same, most, AllFit}
use Rattle.grammar.specs.Counted.{Over, OfRoom, NotOfRoom}

-- the refusal of the first claim that does not fit, or else an answer
unfoldable pub first_over : {A : Type 0} → Rooms → List Claim → Answer A → Answer A
first_over R [] a = a
first_over R (c ∷ cs) a = cond (leb c.need (room_for R c.kind)) (first_over R cs a) (stops (number_of c.kind) c.place)

-- The answer within room is read off the claims and the plain answer.
pub run_is_first_over : {A : Type 0} (R : Rooms) (m : Reading A) → run R m ≡ first_over R (claims m) (plainly m)
unfolding run claims plainly first_over
run_is_first_over R (done a) = refl
run_is_first_over R (refused n p) = refl
run_is_first_over R (claim k need p m) = ap (λ x. cond (leb need (room_for R k)) x (stops (number_of k) p)) (run_is_first_over R m)

none_over : {A : Type 0} (R : Rooms) (cs : List Claim) (a : Answer A) → AllFit R cs → first_over R cs a ≡ a
unfolding first_over AllFit
none_over R [] a h = refl
none_over R (c ∷ cs) a h = rw (le-leb c.need (room_for R c.kind) h.0) (none_over R cs a h.1)

-- Where every claim fits, the answer is the plain one.
pub exact_where_all_fit : {A : Type 0} (R : Rooms) (m : Reading A) → AllFit R (claims m) → run R m ≡ plainly m
exact_where_all_fit R m h = run_is_first_over R m ∙ none_over R (claims m) (plainly m) h

-- Every claim fits exactly where the most of each kind does.
pub all_fit : (R : Rooms) (cs : List Claim) → ((k : Kind) → most k cs ≤ room_for R k) → AllFit R cs
unfolding AllFit most
all_fit R [] h = tt
all_fit R (c ∷ cs) h = (own c.kind (h c.kind), all_fit R cs (λ k. omega (arith, h k)))
  where
    own : (k : Kind) → max (cond (same k k) c.need 0) (most k cs) ≤ room_for R k → c.need ≤ room_for R k
    own level q = omega arith
    own node q = omega arith
    own entry q = omega arith
    own slot q = omega arith

pub most-fits : (R : Rooms) (cs : List Claim) → AllFit R cs → (k : Kind) → most k cs ≤ room_for R k
unfolding AllFit most
most-fits R [] h k = omega arith
most-fits R (c ∷ cs) h k = own k c.kind h.0 (most-fits R cs h.1 k)
  where
    own : (k j : Kind) → c.need ≤ room_for R j → most k cs ≤ room_for R k → max (cond (same k j) c.need 0) (most k cs) ≤ room_for R k
    own level level f m = omega arith
    own level node f m = omega arith
    own level entry f m = omega arith
    own level slot f m = omega arith
    own node level f m = omega arith
    own node node f m = omega arith
    own node entry f m = omega arith
    own node slot f m = omega arith
    own entry level f m = omega arith
    own entry node f m = omega arith
    own entry entry f m = omega arith
    own entry slot f m = omega arith
    own slot level f m = omega arith
    own slot node f m = omega arith
    own slot entry f m = omega arith
    own slot slot f m = omega arith

-- A claim's need is at most the most of its kind.
pub need-most : (k : Kind) (cs before : List Claim) (c : Claim) (rest : List Claim) → cs ≡ before ++ c ∷ rest → c.kind ≡ k → c.need ≤ most k cs
unfolding most
need-most k cs [] c rest e q = rw (e, q) (own k)
  where
    own : (k : Kind) → c.need ≤ max (cond (same k k) c.need 0) (most k rest)
    own level = omega arith
    own node = omega arith
    own entry = omega arith
    own slot = omega arith
need-most k cs (b ∷ bs) c rest e q = rw e (omega (arith, need-most k (bs ++ c ∷ rest) bs c rest refl q))

-- All fit, or there is a first that does not.
pub data Fitted (R : Rooms) (cs : List Claim) : Type 0 where
  all : AllFit R cs → Fitted R cs
  some-over : Over R cs → Fitted R cs

pub fitted : (R : Rooms) (cs : List Claim) → Fitted R cs
unfolding AllFit
fitted R [] = all tt
fitted R (c ∷ cs) = go (leb c.need (room_for R c.kind)) refl (fitted R cs)
  where
    go : (b : Bool) → leb c.need (room_for R c.kind) ≡ b → Fitted R cs → Fitted R (c ∷ cs)
    go false e f = some-over (record { before = []; first = c; rest = cs; order = refl; fitting = tt; over = leb-false _ _ e })
    go true e (all h) = all (leb-true _ _ e, h)
    go true e (some-over o) =
        some-over
        (record { before = c ∷ o.before; first = o.first; rest = o.rest; order = ap (λ l. c ∷ l) o.order; fitting = (leb-true _ _ e, o.fitting); over = o.over })

over-refuses : {A : Type 0} (R : Rooms) (before : List Claim) (c : Claim) (rest : List Claim) (a : Answer A) → AllFit R before → room_for R c.kind < c.need
    → first_over R (before ++ c ∷ rest) a ≡ stops (number_of c.kind) c.place
unfolding first_over AllFit
over-refuses R [] c rest a h o = rw (lt-leb c.need (room_for R c.kind) o) refl
over-refuses R (b ∷ bs) c rest a h o = rw (le-leb b.need (room_for R b.kind) h.0) (over-refuses R bs c rest a h.1 o)

-- Otherwise the answer is the refusal of the first claim, in reading order, that does not fit.
pub refused_where_one_is_over : {A : Type 0} (R : Rooms) (m : Reading A) (o : Over R (claims m)) → run R m ≡ stops (number_of o.first.kind) o.first.place
refused_where_one_is_over R m o =
    run_is_first_over R m ∙ ap (λ cs. first_over R cs (plainly m)) o.order ∙ over-refuses R o.before o.first o.rest (plainly m) o.fitting o.over

-- The number of each kind's refusal is of room, and no other number is: not 1 to 9, and not 14 to 18.
pub of_room : (k : Kind) → OfRoom (number_of k)
of_room level = (omega arith, omega arith)
of_room node = (omega arith, omega arith)
of_room entry = (omega arith, omega arith)
of_room slot = (omega arith, omega arith)

pub of_room_only : (number : ℕ) → OfRoom number → (k : Kind) × (number ≡ number_of k)
of_room_only number h = go (ltb number no_node) (ltb number no_entry) (ltb number no_slot) refl refl refl
  where
    go : (a b c : Bool) → ltb number no_node ≡ a → ltb number no_entry ≡ b → ltb number no_slot ≡ c → (k : Kind) × (number ≡ number_of k)
    go true b c p q r = (level, omega (arith, h.0, ltb-true number no_node p))
    go false true c p q r = (node, omega (arith, ltb-false number no_node p, ltb-true number no_entry q))
    go false false true p q r = (entry, omega (arith, ltb-false number no_entry q, ltb-true number no_slot r))
    go false false false p q r = (slot, omega (arith, h.1, ltb-false number no_slot r))

-- Such an answer is given only where all fits.
pub fits-unless_of_room : {A : Type 0} (R : Rooms) (m : Reading A) → NotOfRoom (run R m) → AllFit R (claims m)
fits-unless_of_room R m other = go (fitted R (claims m))
  where
    go : Fitted R (claims m) → AllFit R (claims m)
    go (all h) = h
    go (some-over o) = absurd (other _ _ (refused_where_one_is_over R m o) (of_room o.first.kind))

pub gives_not_of_room : {A : Type 0} (x : A) → NotOfRoom (gives x)
gives_not_of_room x n p e o = let z : ◌≡◌ {A = ℕ} 0 1 = cc in absurd (omega arith)

wider : (R R' : Rooms) → ((k : Kind) → room_for R k ≤ room_for R' k) → (cs : List Claim) → AllFit R cs → AllFit R' cs
unfolding AllFit
wider R R' le [] h = tt
wider R R' le (c ∷ cs) h = (omega (arith, h.0, le c.kind), wider R R' le cs h.1)

-- More room, of all four kinds at once, changes no other answer.
pub more_room : {A : Type 0} (R R' : Rooms) (m : Reading A) → ((k : Kind) → room_for R k ≤ room_for R' k) → NotOfRoom (run R m) → run R' m ≡ run R m
more_room R R' m le other =
    let h = fits-unless_of_room R m other in
    exact_where_all_fit R' m (wider R R' le (claims m) h) ∙ sym (exact_where_all_fit R m h)
