-- The span of a value read alone (02, K7: "the span read alone gives the same value once each index in it is lowered by the slots reserved before
-- the node"): both laws together, for a value read on the way. Assumes that the input is bytes, 16 MiB of them at most.
use mathlib.Core.Path.{◌≡◌, refl, sym, ap, ◌∙◌}
use Prim.Native.Nat.{ℕ, ◌+◌, ◌≤◌}
use native.Mathlib.Omega.{arith}
use mathlib.Core.List.{List, [], ◌++◌, append-nil}
use lib.ListN.{length, take, drop, length-append, length-drop, take-append-drop}
use lib.Seq.{get_or-append-add, take-append-add, drop-append-add, length-take-le}
use Rattle.refusals.specs.Limits.{most_bytes}
use Rattle.grammar.specs.Reading.{Reading, done, refused, claim, gives}
use Rattle.grammar.specs.Room.{plainly}
use Rattle.grammar.specs.Fields.{contents}
use Rattle.grammar.specs.State.{State, start}
use Rattle.grammar.specs.Steps.{value}
use Rattle.grammar.specs.Answer.{plain}
use Rattle.grammar.proofs.Appended.{plain_with_any_fuel}
use Rattle.grammar.proofs.Following.{Need, follows_gives}
use Rattle.grammar.proofs.Standing.{Holds, Valued}
use Rattle.grammar.proofs.Keeping.{value_keeps}
use Rattle.grammar.proofs.Fielding as fielding
use Rattle.grammar.specs.Input.{Bytes}
use Rattle.grammar.proofs.Bounded.{at_start, none_claimed}
use Rattle.shifts.specs.Shift.{Shift, raised, raised_value, lifted, Further}
use Rattle.shifts.proofs.Shifting.{value-shift}
use Rattle.shifts.proofs.Onward.{Ends, OnValue, Spaced, value-ends}
use Rattle.shifts.specs.Lower.{fronted, fronted_value, slotted, lowered, between, alone_of, Own}
use Rattle.shifts.proofs.Lowering.{Fin, Good, value_less}
use Rattle.shifts.proofs.Lowered.{lowered_lowers, length-low, spaced_behind}
use Rattle.shifts.proofs.Agreeing.{this, Acc}

-- how a value that is read from a state differs from the same read alone: so deep, so far on, behind so many nodes and entries
abbrev pub shift_of : ℕ → State → Shift
shift_of depth st = record { levels = depth; places = st.at; nodes = st.nodes; entries = st.entries; met = st.met }

-- the state without its slots
abbrev bare : State → State
bare st = record { at = st.at; nodes = st.nodes; entries = st.entries; slots = []; met = st.met }

further_append : (k : Shift) (before u : List ℕ) → length before ≡ k.places → Further k u (before ++ u)
further_append k before u e =
    record { long = length-append before u ∙ ap (λ n. n + length u) e; byte = λ i. rw (← e) (get_or-append-add before u i 0); part = λ i n. rw (← e) (part i n) }
  where
    part : (i n : ℕ) → contents (before ++ u) (length before + i) n ≡ contents u i n
    part i n =
        let z : length before + i + n ≡ length before + (i + n) = omega arith in
        rw (z, take-append-add before u (i + n)) (drop-append-add before (take (i + n) u) i)

further_drop : (k : Shift) (t : List ℕ) → k.places ≤ length t → Further k (drop k.places t) t
further_drop k t l =
    let f = further_append k (take k.places t) (drop k.places t) (length-take-le k.places t l) in
    rw (take-append-drop k.places t) at f

raised_start : (depth : ℕ) (st : State) → raised (shift_of depth st) start ≡ bare st
unfolding raised
raised_start depth st =
    let z : st.at + 0 ≡ st.at = omega arith in
    rw (append-nil st.nodes, append-nil st.entries, z) refl

fronted_bare : (st : State) → fronted st.slots (bare st) ≡ st
fronted_bare st = ap (λ z. record { at = st.at; nodes = st.nodes; entries = st.entries; slots = z; met = st.met }) (append-nil st.slots)

plainly_acc : {A : Type 0} (F : A → Type 0) (m : Reading A) (a : A) → plainly m ≡ gives a → F a → Acc F m
unfolding plainly
plainly_acc F (done x) a e f =
    let z : x ≡ a = cc in
    rw z f
plainly_acc F (refused n p) a e f = let z : ◌≡◌ {A = ℕ} 0 1 = cc in absurd (omega arith)
plainly_acc F (claim k need p m) a e f = plainly_acc F m a e f

pub plainly-ends : {A : Type 0} (P : A → Type 0) (m : Reading A) (a : A) → plainly m ≡ gives a → Ends P m → P a
unfolding plainly
plainly-ends P (done x) a e f =
    let z : x ≡ a = cc in
    rw (← z) f
plainly-ends P (refused n p) a e f = let z : ◌≡◌ {A = ℕ} 0 1 = cc in absurd (omega arith)
plainly-ends P (claim k need p m) a e f = plainly-ends P m a e f

-- A value read on the way, at some depth, and accepted; every reference in its span names a slot reserved in the span. Then its reading is the
-- plain reading of its span alone, lowered, with levels, places, nodes, entries and slots raised by what stood before it: every claim in order,
-- and what it gives.
pub span_alone_lem : (s : List ℕ) → length s ≤ most_bytes → Bytes s → (fuel depth : ℕ) (t : Need) (st : State) → Holds s t st → Spaced st.at st.met → length s ≤ st.at + fuel
    → (v : ℕ) (end : State) → plainly (value fuel s depth st) ≡ gives (v, end) → Own s (length st.slots) st.at end.at end.met
    → value fuel s depth st
    ≡ slotted (length st.slots) (fronted_value st.slots) (lifted (shift_of depth st) (raised_value (shift_of depth st)) (plain (alone_of s (length st.slots) st.at end.at end.met)))
span_alone_lem s small bytes fuel depth t st h sp enough v end gave own =
    let went : OnValue st (v, end) = plainly-ends (OnValue st) (value fuel s depth st) (v, end) gave (value-ends fuel s depth st) in
    let valued = follows_gives (λ n p. fielding.Own s n p) (λ p. p ≤ length s) (Valued s st) t (value fuel s depth st) (v, end) (value_keeps s small fuel depth t st h) gave in
    let inside = valued.holds.holds.within in
    let b = length st.slots in
    let low = take end.at (lowered b (between st.at end.at end.met) s) in
    let long = length-low s b st.at end.at end.met inside in
    let l = lowered_lowers s bytes b st.at end.at end.met (went.1.spaced sp) inside own in
    let fin : Fin st.slots end.met s low st.at l end = record { within = omega arith; still = λ r m. m; rest = λ r m. this m } in
    let good : Good st.slots end.met s low st.at l (bare st) = record { begun = omega arith; behind = λ r m. spaced_behind st.at st.met sp r m } in
    let acc = plainly_acc (λ r. Fin st.slots end.met s low st.at l r.1) (value fuel s depth (fronted st.slots (bare st))) (v, end)
    (ap (λ z. plainly (value fuel s depth z)) (fronted_bare st) ∙ gave) fin in
    let less = value_less st.slots end.met s low st.at l fuel depth (bare st) good acc in
    let k = shift_of depth st in
    let span = drop st.at low in
    let shift = value-shift k span low (further_drop k low (omega (arith, went.0))) (omega (arith, length-drop st.at low))
    fuel 0 depth (omega arith) none_claimed start (at_start span (omega (arith, length-drop st.at low))) (λ i q e. absurd (omega arith)) in
    ap (value fuel s depth) (sym (fronted_bare st)) ∙ less
    ∙ ap (slotted b (fronted_value st.slots))
    (ap (value fuel low depth) (sym (raised_start depth st)) ∙ shift ∙ ap (lifted k (raised_value k)) (plain_with_any_fuel span fuel (omega (arith, length-drop st.at low))))
