-- The leaf question, over its calls, by the value that a node means. 01, 'What is lent and what is kept': "A leaf question names a node and
-- answers none, a truth value, ellipsis, stop, a 64-bit whole number, one float, two floats, "wide" (a long outside signed 64 bits), or for
-- every other letter "not a leaf". Floats carry the stored bits." What a value is and what stores mean stands in `meaning`.
use Rattle.std.specs.Prelude.{◌≡◌, ℕ, ◌≤◌, ◌<◌, Bool, true, false, cond, List, [], ◌∷◌, length, ℤ, pos, neg_ℤ, leb, ltb, eqb, Result, Ok}
use Rattle.std.proofs.Math.Option.{Option, none, some}
use Rattle.std.specs.Float.{binary64}
use Rattle.std.specs.Float.Ieee.{of_bits}
use Rattle.refusals.specs.Faults.{refused}
use Rattle.refusals.specs.declared.Fault.{Fault}
use Rattle.refusals.specs.declared.Refusal.TheVariants.{InputTooLong, BadTable}
use Rattle.refusals.specs.Limits.{most_bytes}
use Rattle.grammar.specs.Letters.{among}
use Rattle.grammar.specs.State.{Node, node_at}
use Rattle.grammar.specs.Record.{Tables, sound_at}
use Rattle.grammar.specs.Input.{Bytes}
use Rattle.grammar.specs.Numbered.{numbered}
use Rattle.leaf.specs.declared.Leaf.{Leaf}
use Rattle.leaf.specs.declared.Leaf.TheVariants.{None, Truth, Ellipsis, Stop, Whole, Float, Complex, Wide, NotLeaf}
use Rattle.leaf.specs.declared.Told.{Told as LeafTold}
use Rattle.leaf.proofs as leaf
use Rattle.leaf.specs.contracts as leaf_contracts
use Rattle.writing.specs.Canonical.{Integer, bits_of}
use Rattle.meaning.specs.Value.{Value, single, integer, float, complex, bytes, text, sequence, slice, dict, code}
use Rattle.meaning.specs.Meaning.{value_of}
use Rattle.sillgarland.specs.Leaves.{leaf_struct}
use Rattle.sillgarland.specs.declared.leaves.SillLeaf.{SillLeaf}
use Rattle.sillgarland.proofs as sillgarland
use Rattle.sillgarland.specs.contracts as sillgarland_contracts
use Rattle.promises.specs.Calls.{Call, OfBytes, Reader, Writer}
use Rattle.promises.specs.Demand2.{NodeRead, Demand2}

-- What is told of a value: its case, and the one or two numbers beside it.

abbrev pub told : Leaf → (first second : ℕ) → LeafTold
told l first second = record { leaf = l; first = first; second = second }

-- N F T . S: a truth value is 0 or 1
abbrev pub single_told : (letter : ℕ) → LeafTold
single_told letter =
    cond (eqb letter 0x4E) (told None 0 0)
    (cond (eqb letter 0x46) (told (Truth false) 0 0)
    (cond (eqb letter 0x54) (told (Truth true) 1 0)
    (cond (eqb letter 0x2E) (told Ellipsis 0 0)
    (cond (eqb letter 0x53) (told Stop 0 0)
    (told NotLeaf 0 0)))))

-- the integer of a sign and a magnitude
abbrev pub number_of : Integer → ℤ
number_of z = cond z.negative (neg_ℤ (pos z.magnitude)) (pos z.magnitude)

-- "signed 64 bits": from -2^63 up to, and without, 2^63
abbrev pub half64 : ℕ
half64 = 9223372036854775808

abbrev pub in_signed64 : Integer → Bool
in_signed64 z = cond z.negative (leb z.magnitude half64) (ltb z.magnitude half64)

-- "a 64-bit whole number", with its bits in two's complement; or "wide"
abbrev pub whole_told : Integer → LeafTold
whole_told z = cond (in_signed64 z) (told (Whole (number_of z)) (bits_of 18446744073709551616 z) 0) (told Wide 0 0)

abbrev pub told_of : Value → LeafTold
told_of (single letter) = single_told letter
told_of (integer z) = whole_told z
-- "Floats carry the stored bits."
told_of (float bits) = told (Float (of_bits binary64 bits)) bits 0
told_of (complex real imaginary) = told (Complex (of_bits binary64 real) (of_bits binary64 imaginary)) real imaginary
-- "for every other letter "not a leaf""
told_of (bytes contents) = told NotLeaf 0 0
told_of (text contents) = told NotLeaf 0 0
told_of (sequence letter vs) = told NotLeaf 0 0
told_of (slice vs) = told NotLeaf 0 0
told_of (dict vs) = told NotLeaf 0 0
told_of (code numbers parts line tables) = told NotLeaf 0 0

-- A node that means no value has children, of which the chain, the nesting or another record is at fault: it is no leaf either.
abbrev pub told_for : Option Value → LeafTold
told_for none = told NotLeaf 0 0
told_for (some v) = told_of v

-- A leaf question, by its calls: the input, the node store and what is used of it, the node; and the end, as it is shown to the caller.
pub record Question : Type 1 where
  pub Shown : Type 0
  pub shown : Result LeafTold Fault → Shown
  pub Calls : Type 0
  pub input : Calls → List ℕ
  pub bytes : (c : Calls) → Bytes (input c)
  pub nodes : Calls → List ℕ
  pub used : Calls → ℕ
  pub node : Calls → ℕ
  pub end : Calls → Shown

-- `leaf_of`, whose answer is the result
abbrev pub AskLeaf : Type 0
AskLeaf = Call leaf_contracts.leaf_of.ended leaf.leaf_of.Reads.Asked leaf.leaf_of.Reads.Learnt

abbrev pub leaf_question : Question
leaf_question =
    record {
      Shown = Result LeafTold Fault;
      shown = λ answer. answer;
      Calls = OfBytes AskLeaf (λ c. c.args.0.now);
      input = λ c. c.call.args.0.now;
      bytes = λ c. c.bytes;
      nodes = λ c. c.call.args.1.0.now;
      used = λ c. c.call.args.1.1.0;
      node = λ c. c.call.args.1.1.1.0;
      end = λ c. c.call.result;
    }

-- `sill_leaf`, whose answer is the struct of numbers
abbrev pub AskSill : Type 0
AskSill = Call sillgarland_contracts.leaves.sill_leaf.ended sillgarland.leaves.sill_leaf.Reads.Asked sillgarland.leaves.sill_leaf.Reads.Learnt

abbrev pub sill_question : Question
sill_question =
    record {
      Shown = SillLeaf;
      shown = λ answer. leaf_struct (numbered answer);
      Calls = OfBytes AskSill (λ c. c.args.0.now);
      input = λ c. c.call.args.0.now;
      bytes = λ c. c.bytes;
      nodes = λ c. c.call.args.1.0.now;
      used = λ c. c.call.args.1.1.0;
      node = λ c. c.call.args.1.1.1.0;
      end = λ c. c.call.result;
    }

-- the stores of a call, with any entries beside them: "A leaf question tests no chain and no parts."
abbrev pub stores_in : (Q : Question) → Q.Calls → (entries : List ℕ) → (used_entries : ℕ) → Tables
stores_in Q c entries used_entries =
    record { input = Q.input c; nodes = Q.nodes c; entries = entries; used_nodes = Q.used c; used_entries = used_entries }

abbrev pub node_in : (Q : Question) → Q.Calls → Node
node_in Q c = node_at (Q.nodes c) (Q.node c)

-- "tested before all"; then the record of the node, as the question itself tests it
abbrev pub Short : (Q : Question) → Q.Calls → Type 0
Short Q c = length (Q.input c) ≤ most_bytes

abbrev pub is_sound : (Q : Question) → Q.Calls → Bool
is_sound Q c = sound_at (Q.input c) (Q.nodes c) (Q.used c) (Q.node c)

-- N F T . S i I g y l
abbrev pub leaf_letters : List ℕ
leaf_letters = 0x4E ∷ 0x46 ∷ 0x54 ∷ 0x2E ∷ 0x53 ∷ 0x69 ∷ 0x49 ∷ 0x67 ∷ 0x79 ∷ 0x6C ∷ []

-- Each call ends in what is told of the value that its node means, or in the refusal.
pub record LeafByValue (Q : Question) : Type 0 where
  pub told_of-value : (c : Q.Calls) → Short Q c → is_sound Q c ≡ true
      → (entries : List ℕ) (used_entries allowance : ℕ) → 0 < allowance
      → Q.end c ≡ Q.shown (Ok (told_for (value_of allowance (stores_in Q c entries used_entries) (Q.node c))))
  -- a leaf's letter means a value whatever stands beside it, and every other letter is no leaf
  pub leaf_means : (c : Q.Calls) → Short Q c → is_sound Q c ≡ true → among (node_in Q c).letter leaf_letters ≡ true
      → (entries : List ℕ) (used_entries allowance : ℕ) → 0 < allowance
      → (v : Value) × (value_of allowance (stores_in Q c entries used_entries) (Q.node c) ≡ some v)
  pub other-letter : (c : Q.Calls) → Short Q c → is_sound Q c ≡ true → among (node_in Q c).letter leaf_letters ≡ false
      → Q.end c ≡ Q.shown (Ok (told NotLeaf 0 0))
  pub bad_record : (c : Q.Calls) → Short Q c → is_sound Q c ≡ false → Q.end c ≡ Q.shown (refused BadTable (Q.node c))
  pub too_long : (c : Q.Calls) → most_bytes < length (Q.input c) → Q.end c ≡ Q.shown (refused InputTooLong 0)

-- The call is given what a call of the reader left, its input, its nodes and how many there are, and one of them.
pub record Handed (R : Reader) (r : NodeRead R) (Q : Question) (q : Q.Calls) : Type 0 where
  pub input : Q.input q ≡ R.input r.call
  pub nodes : Q.nodes q ≡ (R.ends r.call).nodes
  pub used : Q.used q ≡ r.counts.nodes
  pub node : Q.node q ≡ r.node

-- Of a node that was read, the answer is what is told of the value that demand 2 writes back.
abbrev pub LeafOfRead : (R : Reader) → (W : Writer) → Demand2 R W → Question → Type 0
LeafOfRead R W D Q = (r : NodeRead R) (q : Q.Calls) → Handed R r Q q → Q.end q ≡ Q.shown (Ok (told_of (D.value r)))
