-- Theorem A: the stores that an accepted reading leaves mean a proper value at every node, whatever the allowance once it is enough; and
-- what a node means stays while later values are read. Assumes that the input is bytes.
use mathlib.Core.Path.{◌≡◌, refl, sym, subst, ◌∙◌}
use Prim.Native.Nat.{ℕ, ◌≤◌, ◌<◌}
use native.Mathlib.Omega.{arith}
use mathlib.Core.Option.{some}
use mathlib.Core.List.{List}
use lib.ListN.{length}
use Rattle.refusals.specs.Limits.{most_bytes}
use Rattle.grammar.specs.Reading.{Answer, gives, stops}
use Rattle.grammar.specs.Room.{plainly}
use Rattle.grammar.specs.State.{State, start}
use Rattle.grammar.specs.Steps.{value}
use Rattle.grammar.specs.Answer.{plain, rooms_of, reading, Counts, counts_of, answered, read_of}
use Rattle.grammar.specs.Input.{Bytes}
use Rattle.grammar.proofs.Contents.{gives-within}
use Rattle.grammar.proofs.Fitting.{exact_where_all_fit, fits-unless_of_room, gives_not_of_room}
use Rattle.grammar.proofs.Fielding.{Own}
use Rattle.grammar.proofs.Following.{Need, Follows, follows_map, follows_gives}
use Rattle.grammar.proofs.Keeping.{value_keeps}
use Rattle.grammar.proofs.ReadBack.{tables_read}
use Rattle.grammar.proofs.Root.{root_is_node_0}
use Rattle.grammar.proofs.Standing.{Holds, Valued}
use Rattle.meaning.specs.Value.{Value}
use Rattle.meaning.specs.Extent.{depth_of}
use Rattle.meaning.specs.Proper.{Proper}
use Rattle.meaning.specs.Meaning.{value_of, tables_after}
use Rattle.meaning.proofs.Means.{Means}
use Rattle.meaning.proofs.Standing.{InState, means_on, since_on}
use Rattle.meaning.proofs.Goes.{Anywhere}
use Rattle.meaning.proofs.Emits.{InTables}
use Rattle.meaning.proofs.Sense.{Sense}
use Rattle.meaning.proofs.Kept.{Always}
use Rattle.meaning.proofs.Sensible.{Told, value_tells}
use Rattle.meaning.proofs.Stores.{in_tables}
use Rattle.meaning.proofs.TheoremB.{none_claimed, at_start}
use Rattle.meaning.proofs.Unique.{means-value, by_tables}

-- What a node means before a value is read, it still means when that value is complete.
pub meaning_stays : (s : List ℕ) (small : length s ≤ most_bytes) (bytes : Bytes s) (fuel depth : ℕ) (t : Need) (st : State) → Holds s t st
    → Follows (Own s) (λ p. p ≤ length s) (λ t' r. (n : ℕ) (v : Value) → Means (InState s st) n v → Means (InState s r.1) n v) t (value fuel s depth st)
meaning_stays s small bytes fuel depth t st h =
    follows_map (Own s) (λ p. p ≤ length s) (Valued s st) (λ t' r. (n : ℕ) (v : Value) → Means (InState s st) n v → Means (InState s r.1) n v) t (value fuel s depth st)
    (value_keeps s small fuel depth t st h) (λ t' r k n v m. means_on (since_on small h k.since) v n m)

-- A node's value in the stores.
pub record Meant (s : List ℕ) (nodes entries : ℕ) (r : ℕ × State) (n : ℕ) : Type 0 where
  pub value : Value
  pub proper : Proper value
  pub means : Means (InTables (tables_read s nodes entries r)) n value
  pub found : (allowance : ℕ) → depth_of value ≤ allowance → value_of allowance (tables_read s nodes entries r) n ≡ some value

module _ (s : List ℕ) (bytes : Bytes s) (nodes entries slots nesting : ℕ) (r : ℕ × State) (e : reading s nodes entries slots nesting ≡ gives r) where
  small : length s ≤ most_bytes
  small = (gives-within s nodes entries slots nesting r e).0

  plain-gives : plainly (plain s) ≡ gives r
  plain-gives =
      let w = (gives-within s nodes entries slots nesting r e).1 in
      let R = rooms_of nodes entries slots nesting in
      sym (exact_where_all_fit R (plain s) (fits-unless_of_room R (plain s) (λ n p q. gives_not_of_room r n p (sym w ∙ q)))) ∙ w

  told : (need : Need) × Told s small bytes start need r
  unfolding plain
  told =
      let g = follows_gives Always Anywhere (Told s small bytes start) none_claimed (plain s) r (value_tells s small bytes (length s) 0 none_claimed start (at_start s) (λ k n q. absurd (omega (arith, q)))) plain-gives in
      (g.need, g.holds)

  meant_by : (n : ℕ) → Sense (InState s r.1) n → Meant s nodes entries r n
  meant_by n x =
      let m = in_tables s bytes nodes entries slots nesting r e x.value n x.means x.proper in
      record {
        value = x.value;
        proper = x.proper;
        means = m;
        found = λ a h. means-value (InTables (tables_read s nodes entries r)) (λ a n. value_of a (tables_read s nodes entries r) n) (by_tables (tables_read s nodes entries r)) x.value n a m h;
      }

  -- every node ..
  pub every_node-means : (n : ℕ) → n < length r.1.nodes → Meant s nodes entries r n
  every_node-means n l = meant_by n (told.1.every n (omega arith) l)

  -- .. and the root, which is node 0
  pub root-means : Meant s nodes entries r 0
  root-means = meant_by 0 (subst (Sense (InState s r.1)) (root_is_node_0 s r plain-gives) told.1.sense)

-- The same of the reading's whole answer.
pub record Answered (s : List ℕ) (nodes entries slots nesting : ℕ) (c : Counts) : Type 0 where
  pub read : ℕ × State
  pub is : reading s nodes entries slots nesting ≡ gives read
  pub counts : c ≡ counts_of read.1
  pub tables : tables_after s (read_of s nodes entries slots nesting) c ≡ tables_read s nodes entries read

pub answer-gives : (s : List ℕ) (nodes entries slots nesting : ℕ) (c : Counts) → (read_of s nodes entries slots nesting).answer ≡ gives c → Answered s nodes entries slots nesting c
unfolding read_of
answer-gives s nodes entries slots nesting c e = go (reading s nodes entries slots nesting) refl e
  where
    same : (c d : Counts) → gives c ≡ gives d → d ≡ c
    same c d e = cc

    go : (a : Answer (ℕ × State)) → reading s nodes entries slots nesting ≡ a → answered a ≡ gives c → Answered s nodes entries slots nesting c
    go (gives r) q e =
        let z = same (counts_of r.1) c e in
        record { read = r; is = q; counts = z; tables = rw (q, z) refl }
    go (stops n p) q e = let z : ◌≡◌ {A = ℕ} 0 1 = cc in absurd (omega arith)
