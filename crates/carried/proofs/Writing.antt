-- A node whose value is found within the nesting is written by its value alone: the bytes that are written of it, or the refusal of room. So
-- a kept node is written as it was. From meaning's theorem C of any stores. Assumes that the input is bytes.
use mathlib.Core.Path.{◌≡◌, refl, sym, ◌∙◌}
use Prim.Native.Nat.{ℕ, ◌≤◌, min}
use mathlib.Core.Bool.{Bool, true, false, cond}
use mathlib.Core.Option.{some}
use mathlib.Core.List.{List}
use lib.ListN.{length}
use lib.Dec.{ltb}
use borrow.Author.Tests.{ltb-true, ltb-false}
use Rattle.refusals.specs.Limits.{most_bytes, most_nesting}
use Rattle.refusals.specs.Numbers.{no_room}
use Rattle.grammar.specs.Input.{Bytes}
use Rattle.grammar.specs.Reading.{Answer, gives, stops}
use Rattle.grammar.specs.Record.{Tables}
use Rattle.writing.specs.Answer.{most_output, written}
use Rattle.meaning.specs.Value.{Value}
use Rattle.meaning.specs.Meaning.{value_of}
use Rattle.meaning.specs.Written.{written_as}
use Rattle.meaning.proofs.AnyStores.{found_is_known}
use Rattle.meaning.proofs.RoundTrip.{written_as_lem, written_over}

abbrev answer_for : Value → (room : ℕ) → Answer (List ℕ)
answer_for v room = cond (ltb (min room most_output) (length (written_as v))) (stops no_room (min room most_output)) (gives (written_as v))

by_value : (t : Tables) → Bytes t.input → length t.input ≤ most_bytes → (n nesting room : ℕ) (v : Value) → value_of (min nesting most_nesting) t n ≡ some v
    → written t n nesting room ≡ answer_for v room
by_value t bytes small n nesting room v e = go (ltb (min room most_output) (length (written_as v))) refl
  where
    go : (b : Bool) → ltb (min room most_output) (length (written_as v)) ≡ b → written t n nesting room ≡ cond b (stops no_room (min room most_output)) (gives (written_as v))
    go true p =
        let k = found_is_known t bytes small (min nesting most_nesting) n v e in
        written_over t n v small k.means k.proper nesting k.deep room (ltb-true (min room most_output) (length (written_as v)) p)
    go false p =
        let k = found_is_known t bytes small (min nesting most_nesting) n v e in
        written_as_lem t n v small k.means k.proper nesting k.deep room (ltb-false (min room most_output) (length (written_as v)) p)

pub written-alike : (t t' : Tables) → Bytes t.input → Bytes t'.input → length t.input ≤ most_bytes → length t'.input ≤ most_bytes → (n n' nesting room : ℕ) (v : Value)
    → value_of (min nesting most_nesting) t n ≡ some v → value_of (min nesting most_nesting) t' n' ≡ some v → written t n nesting room ≡ written t' n' nesting room
written-alike t t' bytes bytes' small small' n n' nesting room v e e' = by_value t bytes small n nesting room v e ∙ sym (by_value t' bytes' small' n' nesting room v e')
