-- How the spans of an accepted reading stand to one another: headers ascend with their numbers, the nodes of a span are those from its own
-- number on that were made before its end, and slots are reserved in the same order. Assumes that the input is bytes, 16 MiB at most.
use mathlib.Core.Path.{◌≡◌, refl, ap, ◌∙◌}
use Prim.Native.Nat.{ℕ, zero, suc, ◌+◌, ◌-◌, ◌≤◌, ◌<◌}
use native.Mathlib.Omega.{arith}
use mathlib.Core.Bool.{Bool, true, false}
use mathlib.Core.List.{List, [], ◌∷◌}
use lib.ListN.{length, get_or}
use lib.Dec.{ltb}
use borrow.Author.Tests.{ltb-true, ltb-false, lt-ltb, le-ltb}
use Rattle.refusals.specs.Limits.{most_bytes}
use Rattle.grammar.specs.Input.{Bytes}
use Rattle.grammar.specs.Reading.{gives}
use Rattle.grammar.specs.Room.{Rooms, run}
use Rattle.grammar.specs.State.{State, start}
use Rattle.grammar.specs.Answer.{plain}
use Rattle.nodespan.specs.Header.{header_of}
use Rattle.alone.specs.Question.{start_of, end_of, reserved_at, reserved_before, slots_before}
use Rattle.alone.proofs.Kin.{header_at}
use Rattle.alone.proofs.Made.{Inside, Made}
use Rattle.alone.proofs.Inside.{value_made, all_made, node-inside}

-- the first b of these slots were reserved before a place, and no others
pub reserved_first : (st : State) (p b : ℕ) (ss : List ℕ) → b ≤ length ss → ((j : ℕ) → j < b → reserved_at st (get_or ss j 0) < p)
    → ((j : ℕ) → b ≤ j → j < length ss → p ≤ reserved_at st (get_or ss j 0)) → reserved_before st p ss ≡ b
unfolding reserved_before
reserved_first st p b [] l f g = omega arith
reserved_first st p zero (x ∷ xs) l f g =
    rw (le-ltb (reserved_at st x) p (g 0 (omega arith) (omega arith)))
    (reserved_first st p zero xs (omega arith) (λ j q. absurd (omega arith)) (λ j lo hi. g (suc j) (omega arith) (omega arith)))
reserved_first st p (suc b) (x ∷ xs) l f g =
    rw (lt-ltb (reserved_at st x) p (f 0 (omega arith)))
    (ap suc (reserved_first st p b xs (omega arith) (λ j q. f (suc j) (omega arith)) (λ j lo hi. g (suc j) (omega arith) (omega arith))))

module _ (s : List ℕ) (R : Rooms) (small : length s ≤ most_bytes) (bytes : Bytes s) (v : ℕ) (fin : State) (read : run R (plain s) ≡ gives (v, fin)) where
  pub everything : Made s R start (v, fin)
  everything = all_made s R small bytes v fin read

  module _ (n : ℕ) (used : n < length fin.nodes) where
    abbrev pub own : Inside s R start n fin
    own = node-inside s R small bytes v fin read n used

    pub own_made : Made s R own.st (n, own.end)
    own_made = value_made s R small bytes own.fuel own.depth own.st.at own.enough own.need own.st (n, own.end) own.holds own.spaced (omega arith) own.gave

    pub starts : start_of fin n ≡ own.st.at
    unfolding start_of
    starts = ap header_of (own.stands.nodes n (omega (arith, own.first)) own.named) ∙ own.header

    pub ends : end_of fin n ≡ own.end.at
    unfolding end_of
    ends = ap (λ z. z.end) (own.stands.nodes n (omega (arith, own.first)) own.named) ∙ own.ended

    pub some_bytes : own.st.at < own.end.at
    some_bytes = own_made.on.0

    -- a node made in the span
    made_header : (m : ℕ) → n ≤ m → m < length own.end.nodes → start_of fin m ≡ header_at own.end m
    unfolding start_of
    made_header m lo hi = ap header_of (own.stands.nodes m (omega (arith, own.first)) hi)

    pub made_from : (m : ℕ) → n ≤ m → m < length own.end.nodes → own.st.at + m ≤ start_of fin m + n
    made_from m lo hi = omega (arith, made_header m lo hi, own.first, (own_made.kin.headed m (omega (arith, own.first)) hi).from)

    pub made_to : (m : ℕ) → n ≤ m → m < length own.end.nodes → start_of fin m < own.end.at
    made_to m lo hi = omega (arith, made_header m lo hi, (own_made.kin.headed m (omega (arith, own.first)) hi).to)

    -- and one made later
    pub made_later : (m : ℕ) → length own.end.nodes ≤ m → m < length fin.nodes → own.end.at ≤ start_of fin m
    unfolding start_of
    made_later m lo hi = own.stands.later m lo hi

  -- Headers ascend.
  pub ascends : (m n : ℕ) → m < n → (used : n < length fin.nodes) → start_of fin m < start_of fin n
  ascends m n lo used = go (ltb n (length (own m below).end.nodes)) refl
    where
      below : m < length fin.nodes
      below = omega arith

      go : (b : Bool) → ltb n (length (own m below).end.nodes) ≡ b → start_of fin m < start_of fin n
      go true e = omega (arith, starts m below, made_from m below n (omega arith) (ltb-true n (length (own m below).end.nodes) e))
      go false e = omega (arith, starts m below, some_bytes m below, made_later m below n (ltb-false n (length (own m below).end.nodes) e) used)

  pub ascends_or_same : (m n : ℕ) → m ≤ n → n < length fin.nodes → start_of fin m ≤ start_of fin n
  ascends_or_same m n le used = go (ltb m n) refl
    where
      go : (b : Bool) → ltb m n ≡ b → start_of fin m ≤ start_of fin n
      go true e = omega (arith, ascends m n (ltb-true m n e) used)
      go false e = let z : m ≡ n = omega (arith, ltb-false m n e) in rw z (omega arith)

  -- every slot is filled, with a node that there is
  pub slot_filled : (j : ℕ) → j < length fin.slots → 0 < get_or fin.slots j 0
  slot_filled j l = everything.filled j (omega arith) l

  pub slot_in : (j : ℕ) → get_or fin.slots j 0 ≤ length fin.nodes
  slot_in j = everything.valued.holds.slots_in j

  module _ (n : ℕ) (used : n < length fin.nodes) where
    -- the nodes whose headers stand in the span are those made in it
    pub inside-from : (m : ℕ) → m < length fin.nodes → start_of fin n ≤ start_of fin m → n ≤ m
    inside-from m l h = go (ltb m n) refl
      where
        go : (b : Bool) → ltb m n ≡ b → n ≤ m
        go true e = absurd (omega (arith, ascends m n (ltb-true m n e) used))
        go false e = ltb-false m n e

    pub inside-to : (m : ℕ) → m < length fin.nodes → start_of fin m < end_of fin n → m < length (own n used).end.nodes
    inside-to m l h = go (ltb m (length (own n used).end.nodes)) refl
      where
        go : (b : Bool) → ltb m (length (own n used).end.nodes) ≡ b → m < length (own n used).end.nodes
        go true e = ltb-true m (length (own n used).end.nodes) e
        go false e = absurd (omega (arith, ends n used, made_later n used m (ltb-false m (length (own n used).end.nodes) e) l))

    pub starts-inside : (m : ℕ) → n ≤ m → m < length (own n used).end.nodes → start_of fin n ≤ start_of fin m
    starts-inside m lo hi = omega (arith, starts n used, made_from n used m lo hi)

    pub ends-inside : (m : ℕ) → n ≤ m → m < length (own n used).end.nodes → start_of fin m < end_of fin n
    ends-inside m lo hi = omega (arith, ends n used, made_to n used m lo hi)

    -- a node before the span's end
    before_end : (m : ℕ) → m < length (own n used).end.nodes → (b : Bool) → ltb m n ≡ b → start_of fin m < end_of fin n
    before_end m hi true e = omega (arith, ascends m n (ltb-true m n e) used, starts n used, ends n used, some_bytes n used)
    before_end m hi false e = ends-inside m (ltb-false m n e) hi

    -- Slots, in the same order.
    slots-there : length (own n used).end.slots ≤ length fin.slots
    slots-there = (own n used).stands.more_slots

    early : (j : ℕ) → j < length (own n used).st.slots → get_or fin.slots j 0 - 1 < n
    early j l = omega (arith, (own n used).order.earlier j l, slot_filled j (omega (arith, (own n used).grew, slots-there)))

    pub slots_before_start : slots_before fin (start_of fin n) ≡ length (own n used).st.slots
    slots_before_start =
        reserved_first fin (start_of fin n) (length (own n used).st.slots) fin.slots (omega (arith, (own n used).grew, slots-there))
        (λ j l. ascends (get_or fin.slots j 0 - 1) n (early j l) used)
        (λ j lo hi. ascends_or_same n (get_or fin.slots j 0 - 1) (omega (arith, (own n used).order.later j lo hi)) (omega (arith, slot_in j, slot_filled j hi)))

    by_end : (j : ℕ) → j < length (own n used).end.slots → (b : Bool) → ltb j (length (own n used).st.slots) ≡ b → get_or fin.slots j 0 - 1 < length (own n used).end.nodes
    by_end j l true e = omega (arith, early j (ltb-true j (length (own n used).st.slots) e), (own n used).named)
    by_end j l false e =
        omega (arith, (own n used).stands.slots j (ltb-false j (length (own n used).st.slots) e) l, (own_made n used).valued.holds.slots_in j, slot_filled j (omega (arith, slots-there)))

    pub slots_before_end : slots_before fin (end_of fin n) ≡ length (own n used).end.slots
    slots_before_end =
        reserved_first fin (end_of fin n) (length (own n used).end.slots) fin.slots slots-there
        (λ j l. before_end (get_or fin.slots j 0 - 1) (by_end j l (ltb j (length (own n used).st.slots)) refl) (ltb (get_or fin.slots j 0 - 1) n) refl)
        (λ j lo hi. later j lo hi)
      where
        later : (j : ℕ) → length (own n used).end.slots ≤ j → j < length fin.slots → end_of fin n ≤ start_of fin (get_or fin.slots j 0 - 1)
        later j lo hi =
            omega (arith, ends n used, made_later n used (get_or fin.slots j 0 - 1) (omega (arith, (own n used).stands.filled j lo hi)) (omega (arith, slot_in j, slot_filled j hi)))
