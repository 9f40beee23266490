-- 01, 'What a green run has to mean': "Demand 3, read over demand 2's grammar, shuts out a reader that refuses everything, one with a constant
-- answer, and made-up counts. .. demand 2's child sequence, one that reads the first child and invents the rest." What such readers are, by
-- their calls, and that none of them meets the demands.
use Rattle.std.specs.Prelude.{◌≡◌, ℕ, ◌≤◌, ◌<◌, ◌^◌, List, length}
use Rattle.refusals.specs.Limits.{most_bytes}
use Rattle.grammar.specs.Input.{Bytes}
use Rattle.grammar.specs.Reading.{Answer, gives, stops}
use Rattle.grammar.specs.Answer.{Counts}
use Rattle.meaning.specs.Value.{Value, Values, nil, more, sequence}
use Rattle.meaning.specs.Canonical.{canonical}
use Rattle.meaning.specs.Proper.{Proper}
use Rattle.promises.specs.Calls.{Reader, Writer}
use Rattle.promises.specs.Demand2.{ReadFits, Demand2, root_read}
use Rattle.promises.specs.Demand3.{Demand3}

-- A call with this input, stores of these lengths and this nesting; and that a reader can be called with any bytes up to 16 MiB, and any
-- lengths and nesting of 32 bits. Of a reader that is never called the demands say nothing.
pub record CallWith (R : Reader) (s : List ℕ) (nodes entries slots nesting : ℕ) : Type 0 where
  pub call : R.Calls
  pub input : R.input call ≡ s
  pub nodes-lent : R.nodes call ≡ nodes
  pub entries-lent : R.entries call ≡ entries
  pub slots_lent : R.slots call ≡ slots
  pub allowed : R.nesting call ≡ nesting

abbrev pub Callable : Reader → Type 0
Callable R =
    (s : List ℕ) → Bytes s → length s ≤ most_bytes → (nodes entries slots nesting : ℕ) → nodes < 2 ^ 32 → entries < 2 ^ 32 → slots < 2 ^ 32 → nesting < 2 ^ 32
    → CallWith R s nodes entries slots nesting

-- "a reader that refuses everything"
abbrev pub RefusesAll : Reader → Type 0
RefusesAll R = (c : R.Calls) → (number : ℕ) × (place : ℕ) × ((R.ends c).answer ≡ stops number place)

-- "one with a constant answer"
abbrev pub Constant : Reader → Type 0
Constant R = (always : Answer Counts) × ((c : R.Calls) → (R.ends c).answer ≡ always)

-- "made-up counts": other counts of the same input, at some other room
pub record MadeUp (R : Reader) : Type 0 where
  pub one : R.Calls
  pub other : R.Calls
  pub same : R.input one ≡ R.input other
  pub counts : Counts
  pub counts' : Counts
  pub counted : (R.ends one).answer ≡ gives counts
  pub counted' : (R.ends other).answer ≡ gives counts'
  pub apart : counts ≡ counts' → ⊥

-- "one that reads the first child and invents the rest": what a tuple of two is read as depends on its first child alone.
abbrev pub tuple : Value → Values → Value
tuple first rest = sequence 0x28 (more first rest)

abbrev pub Invents : (R : Reader) (W : Writer) → Demand2 R W → Type 0
Invents R W d =
    (rest : Value → Values)
    × ((c : R.Calls) (counts : Counts) (e : (R.ends c).answer ≡ gives counts) (first second : Value) → R.input c ≡ canonical (tuple first (more second nil))
    → d.value (root_read d c counts e) ≡ tuple first (rest first))

-- Demand 2's child sequence: from the bytes of a value, whatever its children are, that value is read, with these children in this order.
abbrev pub ReadsChildren : (R : Reader) (W : Writer) → Demand2 R W → Type 0
ReadsChildren R W d =
    (v : Value) → Proper v → (c : R.Calls) → R.input c ≡ canonical v → ReadFits v R c
    → (counts : Counts) × (e : (R.ends c).answer ≡ gives counts) × (d.value (root_read d c counts e) ≡ v)

pub record ShutOut : Type 1 where
  pub refusing_everything : (R : Reader) → Demand3 R → Callable R → RefusesAll R → ⊥
  pub constant_answer : (R : Reader) → Demand3 R → Callable R → Constant R → ⊥
  pub made_up_counts : (R : Reader) → Demand3 R → MadeUp R → ⊥
  pub children-read : (R : Reader) (W : Writer) (d : Demand2 R W) → Demand3 R → ReadsChildren R W d
  pub inventing_the_rest : (R : Reader) (W : Writer) (d : Demand2 R W) → Demand3 R → Callable R → Invents R W d → ⊥
