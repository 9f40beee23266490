-- The record test behind refusal 16, for any stores, also those that no reading made: one definition for the leaf question and the writer.
-- 01, 'Writing it back': "16 is given exactly when ..".
use Rattle.std.specs.Prelude.{ℕ, zero, suc, ◌+◌, ◌%◌, min, Bool, true, false, cond, ◌&&◌, List, [], ◌∷◌, length, get_or, leb, ltb, eqb}
use Rattle.std.proofs.Math.Option.{Option, none, some}
use Rattle.refusals.specs.Numbers.{accepted}
use Rattle.wtf8.specs.Forms.{well_formed}
use Rattle.grammar.specs.Reading.{Answer, gives, stops}
use Rattle.grammar.specs.Letters as letter
use Rattle.grammar.specs.Letters.{Sort, Class, refers, keeps, contains, codes, refuses, class_of, is_bytes, is_tuple, is_string}
use Rattle.grammar.specs.Fields.{Fields, Children, items, pairs, parts, fields, contents, code_numbers, sum_at, code_fault}
use Rattle.grammar.specs.State.{Node, node_at, entry_at, node_capacity, entry_capacity}
use Rattle.grammar.specs.Steps.{Rule, whatever, as_bytes, as_tuple, as_names, as_string, rules, code_parts, code_part, locals_part, kinds_part}

-- One node's own numbers.

-- "the count is wrong (leaf 0, slice 3, dict even, code 10, else the length field ..)"
abbrev pub counted : Children → ℕ → Bool
counted (items k) count = eqb count k
counted pairs count = eqb (count % 2) 0
counted parts count = eqb count code_parts

-- the fields, read again from the node's place, give its size and its count
abbrev pub reads_as : Answer Fields → Node → Bool
reads_as (gives f) n = eqb n.size f.size && counted f.children n.count
reads_as (stops number place) n = false

-- "size or contents break the rules above (.. `z Z` at most 255)". Strings and bytes have their contents at their place, so that their
-- length field is not read again: "bytes before the place are not read".
abbrev pub containing : List ℕ → Node → Sort → Bool
containing s n letter.bytes = true
containing s n letter.text = well_formed (contents s n.place n.size)
containing s n letter.short = leb n.size 255 && well_formed (contents s n.place n.size)

-- "the letter is not one kept"; "the span (with a code's first line) is outside the input"; "code size at least 20"; a code's argument
-- sum is the split's, in 32 bits.
abbrev pub ruled : List ℕ → Node → Class → Bool
ruled s n refers = false
ruled s n (refuses number) = false
ruled s n (keeps form) = reads_as (fields s form n.place) n
ruled s n (contains sort) = eqb n.count 0 && containing s n sort
ruled s n codes =
    leb code_numbers n.size && leb (n.place + n.size + 4) (length s) && eqb n.count code_parts && ltb (sum_at s n.place) 4294967296

-- "the span .. is outside the input"
unfoldable pub sound : List ℕ → Node → Bool
sound s n = leb (n.place + n.size) (length s) && ruled s n (class_of n.letter)

-- "a node or entry number is beyond those used or the store"
abbrev pub nodes_in : List ℕ → ℕ → ℕ
nodes_in store used = min used (node_capacity (length store))

abbrev pub entries_in : List ℕ → ℕ → ℕ
entries_in store used = min used (entry_capacity (length store))

-- "A leaf question tests no chain and no parts."
unfoldable pub sound_at : List ℕ → List ℕ → (used n : ℕ) → Bool
sound_at s nodes used n = ltb n (nodes_in nodes used) && sound s (node_at nodes n)

-- A node with its chain, and a code with its parts.

-- the stores that the writer is lent, and how many of each record are used
pub record Tables : Type 0 where
  pub input : List ℕ
  pub nodes : List ℕ
  pub entries : List ℕ
  pub used_nodes : ℕ
  pub used_entries : ℕ

abbrev pub tables_of : (input nodes entries : List ℕ) → (used_nodes used_entries : ℕ) → Tables
tables_of input nodes entries used_nodes used_entries =
    record { input = input; nodes = nodes; entries = entries; used_nodes = used_nodes; used_entries = used_entries }

abbrev pub put : ℕ → Option (List ℕ) → Option (List ℕ)
put v none = none
put v (some vs) = some (v ∷ vs)

-- "or a chain shorter than its count": the children of so many entries, linked from one on; "Links past the count .. are not read."
unfoldable pub chain : Tables → (count e : ℕ) → Option (List ℕ)
chain t zero e = some []
chain t (suc more) e =
    cond (ltb e (entries_in t.entries t.used_entries))
    (put (entry_at t.entries e).child (chain t more (entry_at t.entries e).next)) none

-- the children of a node whose own record and chain are sound
unfoldable pub whole : Tables → ℕ → Option (List ℕ)
whole t n =
    cond (sound_at t.input t.nodes t.used_nodes n) (chain t (node_at t.nodes n).count (node_at t.nodes n).first) none

-- the first of these nodes that is no sound string, if there is one
abbrev pub node_of : Tables → ℕ → Node
node_of t n = node_at t.nodes n

unfoldable pub bad_string : Tables → List ℕ → Option ℕ
bad_string t [] = none
bad_string t (v ∷ vs) =
    cond (sound_at t.input t.nodes t.used_nodes v && is_string (node_of t v).letter) (bad_string t vs) (some v)

-- "A code tests .. the whole records of its parts and all name strings": the number at fault in a part, if there is one
abbrev pub unless : Bool → ℕ → Option ℕ
unless good v = cond good none (some v)

abbrev pub names : Tables → ℕ → Bool → List ℕ → Option ℕ
names t v true kids = bad_string t kids
names t v false kids = some v

abbrev pub suited : Tables → Rule → ℕ → Option (List ℕ) → Option ℕ
suited t rule v none = some v
suited t whatever v (some kids) = none
suited t as_bytes v (some kids) = unless (is_bytes (node_of t v).letter) v
suited t as_tuple v (some kids) = unless (is_tuple (node_of t v).letter) v
suited t as_names v (some kids) = names t v (is_tuple (node_of t v).letter) kids
suited t as_string v (some kids) = unless (is_string (node_of t v).letter) v

abbrev pub or_else : Option ℕ → Option ℕ → Option ℕ
or_else none other = other
or_else (some v) other = some v

unfoldable pub bad_part : Tables → List Rule → List ℕ → Option ℕ
bad_part t [] vs = none
bad_part t (r ∷ rs) [] = none
bad_part t (r ∷ rs) (v ∷ vs) = or_else (suited t r v (whole t v)) (bad_part t rs vs)

-- "or a code's parts break its checks": the checks at the end of reading a code, whose number is at fault
unfoldable pub bad_end : Tables → ℕ → List ℕ → Option ℕ
bad_end t n vs =
    unless
    (eqb
    (code_fault (sum_at t.input (node_of t n).place) (node_of t (get_or vs code_part 0)).size (node_of t (get_or vs locals_part 0)).count
    (node_of t (get_or vs kinds_part 0)).size)
    accepted)
    n

-- "A code tests .. at itself": what is wrong with a part, or with a name in it, is placed at the code's number.
abbrev pub placed_at : (code fault : ℕ) → ℕ
placed_at code fault = code

-- The record test: the node's children, or the number at which 16 is given.
pub data Looked : Type 0 where
  holds : List ℕ → Looked
  faulty : (place : ℕ) → Looked

abbrev pub judged : ℕ → List ℕ → Option ℕ → Looked
judged n vs none = holds vs
judged n vs (some fault) = faulty (placed_at n fault)

abbrev pub looked_as : Tables → ℕ → List ℕ → Class → Looked
looked_as t n vs refers = faulty n
looked_as t n vs (refuses number) = faulty n
looked_as t n vs (keeps form) = holds vs
looked_as t n vs (contains which) = holds vs
looked_as t n vs codes = judged n vs (or_else (bad_part t rules vs) (bad_end t n vs))

abbrev pub looked_of : Tables → ℕ → Option (List ℕ) → Looked
looked_of t n none = faulty n
looked_of t n (some vs) = looked_as t n vs (class_of (node_of t n).letter)

unfoldable pub look : Tables → ℕ → Looked
look t n = looked_of t n (whole t n)
