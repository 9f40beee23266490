-- What the answer says is bounded by the input, and what the stores name is there: consequences of Keeping for the whole reading.
-- Assumes an input of 16 MiB at most.
use mathlib.Core.Path.{◌≡◌, refl, sym, ap, ◌∙◌}
use Prim.Native.Nat.{ℕ, ◌≤◌, ◌<◌}
use native.Mathlib.Omega.{arith}
use mathlib.Core.Bool.{true}
use mathlib.Core.List.{List, [], ◌∷◌, ◌++◌}
use lib.ListN.{length, get_or}
use Rattle.refusals.specs.Numbers.{too_deep}
use Rattle.refusals.specs.Limits.{most_bytes}
use Rattle.grammar.specs.Reading.{Kind, level, node, entry, slot, gives, stops}
use Rattle.grammar.specs.Letters.{among}
use Rattle.grammar.specs.Room.{Rooms, room_for, number_of, run, plainly, Claim}
use Rattle.grammar.specs.State.{State, start, unlinked, blank}
use Rattle.grammar.specs.Answer.{plain}
use Rattle.grammar.specs.Counted.{claims_of, needed, Over}
use Rattle.grammar.proofs.Fitting.{exact_where_all_fit, most-fits, need-most, Fitted, all, some-over, fitted, refused_where_one_is_over, fits-unless_of_room, gives_not_of_room}
use Rattle.grammar.proofs.Following.{Need, Follows, follows_gives, follows_stops, AllAt, follows_claims}
use Rattle.grammar.proofs.Links.{UsedOrNone, linked_first}
use Rattle.grammar.proofs.Standing.{Holds, EntryIn, Finished, Valued}
use Rattle.grammar.proofs.Fielding.{of_input, Own}
use Rattle.grammar.proofs.Keeping.{value_keeps}

-- An accepted reading. Consumed is at most the length; there are no more nodes, entries or slots than bytes consumed, and as many as were
-- claimed; every entry names a node and an entry that there is, or no entry; every node is finished: as many children as it says are linked
-- from its first entry on, and its record passes the record test, if the input is bytes. Which nodes the children are is not said here, but by
-- what the stores mean (`meaning`).
pub record Accepted (s : List ℕ) (r : ℕ × State) : Type 0 where
  pub consumed : r.1.at ≤ length s
  pub some-consumed : 0 < r.1.at
  pub few-nodes : length r.1.nodes ≤ r.1.at
  pub few-entries : length r.1.entries < r.1.at
  pub few-slots : length r.1.slots ≤ r.1.at
  pub needed-nodes : needed s node ≡ length r.1.nodes
  pub needed-entries : needed s entry ≡ length r.1.entries
  pub needed-slots : needed s slot ≡ length r.1.slots
  pub root : r.0 < length r.1.nodes
  pub entries_in_lem : (e : ℕ) → e < length r.1.entries → EntryIn (length r.1.nodes) (length r.1.entries) (get_or r.1.entries e unlinked)
  pub finished : (n : ℕ) → n < length r.1.nodes → Finished s r.1.entries (get_or r.1.nodes n blank)

-- every first-entry number is one that is used or none
pub first_used-or_none : {s : List ℕ} {r : ℕ × State} → Accepted s r → (n : ℕ) → n < length r.1.nodes → UsedOrNone (length r.1.entries) (get_or r.1.nodes n blank).first
first_used-or_none {s} {r} a n l =
    let f = a.finished n l in
    linked_first r.1.entries (get_or r.1.nodes n blank).first f.kids f.linked

abbrev pub none_claimed : Need
none_claimed = record { levels = 0; nodes = 0; entries = 0; slots = 0 }

module _ (s : List ℕ) (small : length s ≤ most_bytes) where
  abbrev Q : ℕ → ℕ → Type 0
  Q n p = Own s n p

  abbrev C : ℕ → Type 0
  C p = p ≤ length s

  pub at_start : Holds s none_claimed start
  at_start =
      record {
        within = omega arith;
        few-nodes = omega arith;
        few-entries = omega arith;
        few-slots = omega arith;
        claimed_nodes = refl;
        claimed_entries = refl;
        claimed_slots = refl;
        entries_in_lem = λ e l. absurd (omega arith);
        slots_in = λ k. omega arith;
      }

  follows : Follows Q C (Valued s start) none_claimed (plain s)
  unfolding plain
  follows = value_keeps s small (length s) 0 none_claimed start at_start

  -- the plain reading, accepted
  pub accepted : (r : ℕ × State) → plainly (plain s) ≡ gives r → Accepted s r
  accepted r e =
      let g = follows_gives Q C (Valued s start) none_claimed (plain s) r follows e in
      let v = g.holds in
      record {
        consumed = v.holds.within;
        some-consumed = v.past;
        few-nodes = v.holds.few-nodes;
        few-entries = omega (arith, v.spent);
        few-slots = v.holds.few-slots;
        needed-nodes = omega (arith, g.exact node, v.holds.claimed_nodes);
        needed-entries = omega (arith, g.exact entry, v.holds.claimed_entries);
        needed-slots = omega (arith, g.exact slot, v.holds.claimed_slots);
        root = v.named;
        entries_in_lem = v.holds.entries_in_lem;
        finished = λ n l. v.finished n (omega arith) l;
      }

  -- the plain reading, refused: for the input's own sake, at a place of the input
  pub refused_in : (n p : ℕ) → plainly (plain s) ≡ stops n p → Own s n p
  refused_in n p e = follows_stops Q C (Valued s start) none_claimed (plain s) n p follows e

  pub claimed_in : AllAt Q C (claims_of s)
  claimed_in = follows_claims Q C (Valued s start) none_claimed (plain s) follows

  place_at : (cs before : List Claim) (c : Claim) (rest : List Claim) → cs ≡ before ++ c ∷ rest → AllAt Q C cs → c.place ≤ length s
  place_at cs [] c rest e h = (rw e at h).0
  place_at cs (b ∷ bs) c rest e h = place_at (bs ++ c ∷ rest) bs c rest refl (rw e at h).1

  -- Within any room: every place is one of the input.
  pub places_in : (R : Rooms) (n p : ℕ) → run R (plain s) ≡ stops n p → p ≤ length s
  places_in R n p e = go (fitted R (claims_of s))
    where
      go : Fitted R (claims_of s) → p ≤ length s
      go (all h) = (refused_in n p (sym (exact_where_all_fit R (plain s) h) ∙ e)).1
      go (some-over o) =
          let q = sym (refused_where_one_is_over R (plain s) o) ∙ e in
          let z : o.first.place ≡ p = cc in
          rw (← z) (place_at (claims_of s) o.before o.first o.rest o.order claimed_in)

  pub accepted-within : (R : Rooms) (r : ℕ × State) → run R (plain s) ≡ gives r → Accepted s r
  accepted-within R r e =
      let fits = fits-unless_of_room R (plain s) (λ n p q. gives_not_of_room r n p (sym e ∙ q)) in
      accepted r (sym (exact_where_all_fit R (plain s) fits) ∙ e)

-- 01: "The nesting count is the least allowance that meets no refusal 10". With that allowance, or more, none is met ..
not_level : (k : Kind) → number_of k ≡ too_deep → k ≡ level
not_level level e = refl
not_level node e = absurd (omega arith)
not_level entry e = absurd (omega arith)
not_level slot e = absurd (omega arith)

deep-is_none_of_input : (n : ℕ) → n ≡ too_deep → among n of_input ≡ true → ⊥
deep-is_none_of_input n e q =
    let w : among too_deep of_input ≡ true = rw e at q in
    let z : ◌≡◌ {A = ℕ} 0 1 = cc in
    omega arith

pub enough-levels : (s : List ℕ) → length s ≤ most_bytes → (R : Rooms) → needed s level ≤ R.levels → (p : ℕ) → run R (plain s) ≡ stops too_deep p → ⊥
enough-levels s small R l p e = go (fitted R (claims_of s))
  where
    go : Fitted R (claims_of s) → ⊥
    go (all h) = deep-is_none_of_input too_deep refl (refused_in s small too_deep p (sym (exact_where_all_fit R (plain s) h) ∙ e)).0
    go (some-over o) =
        let q = sym (refused_where_one_is_over R (plain s) o) ∙ e in
        let z : number_of o.first.kind ≡ too_deep = cc in
        let k : o.first.kind ≡ level = not_level o.first.kind z in
        let m = need-most level (claims_of s) o.before o.first o.rest o.order k in
        let w : R.levels < o.first.need = rw k at o.over in
        omega arith

-- .. and with any smaller one refusal 10 is met, if nothing else is short.
pub too_few-levels : (s : List ℕ) (R : Rooms) → R.levels < needed s level → needed s node ≤ R.nodes → needed s entry ≤ R.entries → needed s slot ≤ R.slots
    → (p : ℕ) × (run R (plain s) ≡ stops too_deep p)
too_few-levels s R l n e k = go (fitted R (claims_of s))
  where
    at_level : (j : Kind) → needed s j ≤ room_for R j → (o : Over R (claims_of s)) → o.first.kind ≡ j → ⊥
    at_level j f o q =
        let m = need-most j (claims_of s) o.before o.first o.rest o.order q in
        let w : room_for R j < o.first.need = rw q at o.over in
        omega arith

    only : (j : Kind) (o : Over R (claims_of s)) → o.first.kind ≡ j → number_of j ≡ too_deep
    only level o q = refl
    only node o q = absurd (at_level node n o q)
    only entry o q = absurd (at_level entry e o q)
    only slot o q = absurd (at_level slot k o q)

    go : Fitted R (claims_of s) → (p : ℕ) × (run R (plain s) ≡ stops too_deep p)
    go (all h) = absurd (omega (arith, most-fits R (claims_of s) h level))
    go (some-over o) = (o.first.place, refused_where_one_is_over R (plain s) o ∙ ap (λ m. stops m o.first.place) (only o.first.kind o refl))
