-- What 02's K11 promises of a new read behind kept nodes and entries. Assumes nothing.
use mathlib.Core.Path.{◌≡◌, refl, sym, ap, ◌∙◌}
use Prim.Native.Nat.{ℕ}
use native.Mathlib.Omega.{arith}
use mathlib.Core.List.{List}
use Rattle.grammar.specs.Reading.{Answer, gives, stops}
use Rattle.grammar.specs.State.{State}
use Rattle.readmore.specs.More.{Kept, appending}
use Rattle.appended.specs.Promised.{more_by, lent_room, Refused, Promised}
use Rattle.appended.proofs.Counting.{more-is, exact_or_first, too_long, no_node_lem, no_entry_lem, goes_on}
use Rattle.appended.proofs.Nothing.{nothing-kept}
use Rattle.appended.proofs.Accepted.{append-accepted}
use Rattle.appended.proofs.Continued.{reading-continued}
use Rattle.appended.proofs.Freed.{free_is_left}

append-refused : (s nodes entries : List ℕ) (slots nesting : ℕ) (k : Kept) (number place : ℕ) → (more_by s nodes entries slots nesting k).answer ≡ stops number place
    → Refused nodes entries slots k (more_by s nodes entries slots nesting k)
append-refused s nodes entries slots nesting k number place e = go (appending s (lent_room nodes entries slots nesting) k) refl
  where
    go : (a : Answer (ℕ × State)) → appending s (lent_room nodes entries slots nesting) k ≡ a → Refused nodes entries slots k (more_by s nodes entries slots nesting k)
    go (gives r) q =
        let w = sym (ap (λ o. o.answer) (more-is s nodes entries slots nesting k q)) ∙ e in
        absurd (let z : ◌≡◌ {A = ℕ} 0 1 = cc in omega arith)
    go (stops n p) q =
        let w = more-is s nodes entries slots nesting k q in
        record { kept-nodes = ap (λ o. o.nodes) w; kept-entries = ap (λ o. o.entries) w; no_slots = ap (λ o. o.slots) w }

pub appends_keep_their_promises : Promised
appends_keep_their_promises =
    record {
      nothing-kept = nothing-kept;
      too_long = too_long;
      no_node_lem = no_node_lem;
      no_entry_lem = no_entry_lem;
      exact_or_first = exact_or_first;
      goes_on = goes_on;
      continued = reading-continued;
      appended = append-accepted;
      refused = append-refused;
      freed = free_is_left;
    }
