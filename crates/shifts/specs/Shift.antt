-- Two readings that differ by a shift: the second stands deeper, further on in its input, and behind nodes and entries that are there
-- already. What it makes of each number that the first gives: definitions only, by which the law of Shifting is read.
use Rattle.std.specs.Prelude.{◌≡◌, ℕ, zero, suc, ◌+◌, cond, List, ◌++◌, map, length, get_or, eqb}
use Rattle.std.proofs.Math.Option.{Option, none, some}
use Rattle.refusals.specs.Limits.{nothing}
use Rattle.grammar.specs.Reading.{Kind, level, node, entry, slot, Reading, done, refused, claim, Answer, gives, stops}
use Rattle.grammar.specs.Fields.{Fields, contents}
use Rattle.grammar.specs.State.{Node, Entry, State}
use Rattle.grammar.specs.Steps.{Front, known, opens, Chain}

-- how many levels above, how many bytes in front, the nodes and entries in front, and the references met there
pub record Shift : Type 0 where
  pub levels : ℕ
  pub places : ℕ
  pub nodes : List Node
  pub entries : List Entry
  pub met : List ℕ

-- an entry's number; none stays none
abbrev pub raised_link : Shift → ℕ → ℕ
raised_link k e = cond (eqb e nothing) e (length k.entries + e)

-- a node's number
abbrev pub raised_number : Shift → ℕ → ℕ
raised_number k v = length k.nodes + v

-- a node; one that is claimed and not complete is blank, and has no number to raise
abbrev pub raised_node : Shift → Node → Node
raised_node k n =
    cond (eqb n.letter 0) n
    (record {
      letter = n.letter;
      place = k.places + n.place;
      size = n.size;
      first = raised_link k n.first;
      count = n.count;
      end = k.places + n.end;
      input = n.input;
    })

abbrev pub raised_entry : Shift → Entry → Entry
raised_entry k e = record { child = raised_number k e.child; next = raised_link k e.next }

-- a slot: 0 while open, else node + 1
abbrev pub raised_slot : Shift → ℕ → ℕ
raised_slot k zero = zero
raised_slot k (suc v) = suc (raised_number k v)

unfoldable pub raised : Shift → State → State
raised k st =
    record {
      at = k.places + st.at;
      nodes = k.nodes ++ map (raised_node k) st.nodes;
      entries = k.entries ++ map (raised_entry k) st.entries;
      slots = map (raised_slot k) st.slots;
      met = map (λ p. k.places + p) st.met ++ k.met;
    }

-- a value read, and its node
abbrev pub raised_value : Shift → ℕ × State → ℕ × State
raised_value k r = (raised_number k r.0, raised k r.1)

-- what a reading needs of each kind
abbrev pub raised_need : Shift → Kind → ℕ → ℕ
raised_need k level n = k.levels + n
raised_need k node n = length k.nodes + n
raised_need k entry n = length k.entries + n
raised_need k slot n = n

-- the whole reading: each claim, the refusal's place, what it gives
unfoldable pub lifted : Shift → {A B : Type 0} → (A → B) → Reading A → Reading B
lifted k g (done a) = done (g a)
lifted k g (refused n p) = refused n (k.places + p)
lifted k g (claim kind need p m) = claim kind (raised_need k kind need) (k.places + p) (lifted k g m)

unfoldable pub lifted_a : Shift → {A B : Type 0} → (A → B) → Answer A → Answer B
lifted_a k g (gives a) = gives (g a)
lifted_a k g (stops n p) = stops n (k.places + p)

-- Within a value: its fields, its front and its children.
abbrev pub raised_fields : Shift → Fields → Fields
raised_fields k f = record { place = k.places + f.place; size = f.size; children = f.children }

abbrev pub raised_front : Shift → Front → Front
raised_front k (known v at) = known (raised_number k v) (k.places + at)
raised_front k (opens l g f) = opens l g (raised_fields k f)

abbrev pub raised_last : Shift → Option ℕ → Option ℕ
raised_last k none = none
raised_last k (some l) = some (length k.entries + l)

-- the first line's place, 0 while it is not read
abbrev pub raised_line : Shift → ℕ → ℕ
raised_line k l = cond (eqb l 0) 0 (k.places + l)

unfoldable pub raised_chain : Shift → Chain → Chain
raised_chain k c =
    record {
      kids = map (raised_number k) c.kids;
      first = raised_link k c.first;
      last = raised_last k c.last;
      line = raised_line k c.line;
      st = raised k c.st;
    }

-- the second input has the first at its end
pub record Further (k : Shift) (s s' : List ℕ) : Type 0 where
  pub long : length s' ≡ k.places + length s
  pub byte : (i : ℕ) → get_or s' (k.places + i) 0 ≡ get_or s i 0
  pub part : (i n : ℕ) → contents s' (k.places + i) n ≡ contents s i n
