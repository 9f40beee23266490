-- The definitions, run on small values: what 01's sheets P4 and P6 mean, how a shared child is written out, and a small code object both
-- ways. They catch a misreading early; the demands rest on the theorems. Assumes nothing.
use mathlib.Core.Path.{◌≡◌, refl}
use Prim.Native.Nat.{ℕ}
use mathlib.Core.Bool.{true, false}
use mathlib.Core.Option.{Option, none, some}
use mathlib.Core.List.{List, [], ◌∷◌}
use lib.ListN.{length}
use Rattle.refusals.specs.Numbers.{invalid_bytecode}
use Rattle.clearing.specs.Lent.{padded}
use Rattle.wtf8.specs.Forms.{after_lead, after as after_byte, allows}
use Rattle.localsplus.specs.Kind.{has}
use Rattle.grammar.specs.Reading.{Answer, gives, stops, bind}
use Rattle.grammar.specs.Room.{run}
use Rattle.grammar.specs.Letters.{letters, found, class_of}
use Rattle.grammar.specs.Fields.{digits, pylong, numbers, fields, contained, code_fields}
use Rattle.grammar.specs.Steps.{reference, header, front, attach, strings, suits, child, kids, couples, rules, first_line_of, parts_from, ended, body, enter, close, after, one, value}
use Rattle.grammar.specs.Answer.{plain, reading, Counts, Outcome, read_of}
use Rattle.grammar.specs.Record.{sound, sound_at, chain, whole, bad_string, bad_part, bad_end, look}
use Rattle.grammar.specs.Leaf.{magnitude}
use Rattle.writing.specs.Writing.{then, each, into}
use Rattle.writing.specs.Canonical.{words, digits_from, digit_bytes, integer_bytes, ascii, code_string}
use Rattle.writing.specs.Shape.{shape_of}
use Rattle.writing.specs.Names.{same_bytes, having, named_in, apart_from, in_groups}
use Rattle.writing.specs.Steps.{manners, parts_as, parted, writing}
use Rattle.writing.specs.Answer.{written}
use Rattle.meaning.specs.Value.{Value, nil, more, single, integer, bytes, text, sequence, code, count_of, contents_of, members_of}
use Rattle.meaning.specs.Canonical.{canonical, code_strings}
use Rattle.meaning.specs.Extent.{depth_of, nodes_of, entries_of}
use Rattle.meaning.specs.Order.{frees, cells_then_frees, local_names, grouped, name_order}
use Rattle.meaning.specs.Meaning.{all_of, value_of, tables_after}
use Rattle.meaning.specs.Written.{with_bit, apart, groups}

abbrev number : ℕ → Value
number n = integer (record { negative = false; magnitude = n })

abbrev meant_as : List ℕ → Outcome → Answer Counts → Option Value
meant_as s o (gives c) = value_of 9 (tables_after s o c) 0
meant_as s o (stops n p) = none

-- what an input is read as, with room enough
abbrev meant : List ℕ → Option Value
meant s = meant_as s (read_of s 140 40 5 9) (read_of s 140 40 5 9).answer

abbrev back_as : List ℕ → Outcome → Answer Counts → Answer (List ℕ)
back_as s o (gives c) = written (tables_after s o c) 0 9 200
back_as s o (stops n p) = stops n p

-- and what it is written back as
abbrev back : List ℕ → Answer (List ℕ)
back s = back_as s (read_of s 140 40 5 9) (read_of s 140 40 5 9).answer

-- P4 and P6 of 01: (1, true); and the shared 5 means what it means twice. A tuple's children are its own and none of theirs: ((none,), true)
pub sheets :
    (meant (0x29 ∷ 2 ∷ 0x69 ∷ 1 ∷ 0 ∷ 0 ∷ 0 ∷ 0x54 ∷ []) ≡ some (sequence 0x28 (more (number 1) (more (single 0x54) nil))))
    × (meant (0x29 ∷ 2 ∷ 0xE9 ∷ 5 ∷ 0 ∷ 0 ∷ 0 ∷ 0x72 ∷ 0 ∷ 0 ∷ 0 ∷ 0 ∷ []) ≡ some (sequence 0x28 (more (number 5) (more (number 5) nil))))
    × (meant (0x29 ∷ 2 ∷ 0x29 ∷ 1 ∷ 0x4E ∷ 0x54 ∷ []) ≡ some (sequence 0x28 (more (sequence 0x28 (more (single 0x4E) nil)) (more (single 0x54) nil))))
    × (back (0x29 ∷ 2 ∷ 0xE9 ∷ 5 ∷ 0 ∷ 0 ∷ 0 ∷ 0x72 ∷ 0 ∷ 0 ∷ 0 ∷ 0 ∷ []) ≡ gives (0x28 ∷ 2 ∷ 0 ∷ 0 ∷ 0 ∷ 0x69 ∷ 5 ∷ 0 ∷ 0 ∷ 0 ∷ 0x69 ∷ 5 ∷ 0 ∷ 0 ∷ 0 ∷ []))
unfolding after_lead after_byte allows bind run letters found class_of digits pylong numbers fields contained code_fields reference header front attach strings suits child kids couples rules first_line_of parts_from ended body enter close after one value plain reading read_of padded sound sound_at chain whole bad_string bad_part bad_end look magnitude then each into words digits_from digit_bytes integer_bytes ascii code_string shape_of same_bytes having named_in apart_from in_groups manners parts_as parted writing written all_of value_of has
sheets = (refl, refl, refl, refl)

-- A code with one constant, one local name and first line -3, its code bytes shared with its last table; and the value that it is.
abbrev short_code : List ℕ
short_code =
    0x63 ∷ 1 ∷ 0 ∷ 0 ∷ 0 ∷ 0 ∷ 0 ∷ 0 ∷ 0 ∷ 0 ∷ 0 ∷ 0 ∷ 0 ∷ 2 ∷ 0 ∷ 0 ∷ 0 ∷ 3 ∷ 0 ∷ 0 ∷ 0
    ∷ 0xF3 ∷ 2 ∷ 0 ∷ 0 ∷ 0 ∷ 0x97 ∷ 0 ∷ 0x29 ∷ 1 ∷ 0x4E ∷ 0x29 ∷ 0 ∷ 0x29 ∷ 1 ∷ 0xDA ∷ 1 ∷ 0x78 ∷ 0x73 ∷ 1 ∷ 0 ∷ 0 ∷ 0 ∷ 0x20
    ∷ 0x7A ∷ 1 ∷ 0x66 ∷ 0x75 ∷ 1 ∷ 0 ∷ 0 ∷ 0 ∷ 0x67 ∷ 0x72 ∷ 1 ∷ 0 ∷ 0 ∷ 0
    ∷ 0xFD ∷ 0xFF ∷ 0xFF ∷ 0xFF ∷ 0x73 ∷ 0 ∷ 0 ∷ 0 ∷ 0 ∷ 0x72 ∷ 0 ∷ 0 ∷ 0 ∷ 0 ∷ []

abbrev code_value : Value
code_value =
    code (1 ∷ 0 ∷ 0 ∷ 2 ∷ 3 ∷ [])
    (more (bytes (0x97 ∷ 0 ∷ [])) (more (sequence 0x28 (more (single 0x4E) nil)) (more (sequence 0x28 nil)
    (more (sequence 0x28 (more (text (0x78 ∷ [])) nil)) (more (bytes (0x20 ∷ []))
    (more (text (0x66 ∷ [])) (more (text (0x67 ∷ [])) (more (text (0x78 ∷ [])) nil))))))))
    0
    (more (bytes []) (more (bytes (0x97 ∷ 0 ∷ [])) nil))

abbrev code_written : List ℕ
code_written =
    0x63 ∷ 1 ∷ 0 ∷ 0 ∷ 0 ∷ 0 ∷ 0 ∷ 0 ∷ 0 ∷ 0 ∷ 0 ∷ 0 ∷ 0 ∷ 2 ∷ 0 ∷ 0 ∷ 0 ∷ 3 ∷ 0 ∷ 0 ∷ 0
    ∷ 0x73 ∷ 2 ∷ 0 ∷ 0 ∷ 0 ∷ 0x97 ∷ 0 ∷ 0x28 ∷ 1 ∷ 0 ∷ 0 ∷ 0 ∷ 0x4E ∷ 0x28 ∷ 0 ∷ 0 ∷ 0 ∷ 0
    ∷ 0x28 ∷ 1 ∷ 0 ∷ 0 ∷ 0 ∷ 0x7A ∷ 1 ∷ 0x78 ∷ 0x73 ∷ 1 ∷ 0 ∷ 0 ∷ 0 ∷ 0x20 ∷ 0x7A ∷ 1 ∷ 0x66 ∷ 0x7A ∷ 1 ∷ 0x67 ∷ 0x7A ∷ 1 ∷ 0x78
    ∷ 0 ∷ 0 ∷ 0 ∷ 0 ∷ 0x73 ∷ 0 ∷ 0 ∷ 0 ∷ 0 ∷ 0x73 ∷ 2 ∷ 0 ∷ 0 ∷ 0 ∷ 0x97 ∷ 0 ∷ []

pub code-both_ways :
    (meant short_code ≡ some code_value) × (back short_code ≡ gives code_written) × (canonical code_value ≡ code_written) × (meant code_written ≡ some code_value)
    × (depth_of code_value ≡ 4) × (nodes_of code_value ≡ 13) × (entries_of code_value ≡ 12)
unfolding after_lead after_byte allows bind run letters found class_of digits pylong numbers fields contained code_fields reference header front attach strings suits child kids couples rules first_line_of parts_from ended body enter close after one value plain reading read_of padded sound sound_at chain whole bad_string bad_part bad_end look magnitude then each into words digits_from digit_bytes integer_bytes ascii code_string shape_of same_bytes having named_in apart_from in_groups manners parts_as parted writing written all_of value_of has canonical code_strings count_of contents_of members_of depth_of nodes_of entries_of
code-both_ways = (refl, refl, refl, refl, refl, refl, refl)

-- A code whose one local name has kind 0, in no group: out of name order, so that its name is not written, nor its nesting asked for. With
-- nesting 3 it is written, though the value is 4 deep; the round trip does not speak of it, and its bytes are refused when read.
abbrev groupless : List ℕ
groupless =
    0x63 ∷ 1 ∷ 0 ∷ 0 ∷ 0 ∷ 0 ∷ 0 ∷ 0 ∷ 0 ∷ 0 ∷ 0 ∷ 0 ∷ 0 ∷ 2 ∷ 0 ∷ 0 ∷ 0 ∷ 3 ∷ 0 ∷ 0 ∷ 0
    ∷ 0x73 ∷ 0 ∷ 0 ∷ 0 ∷ 0 ∷ 0x29 ∷ 0 ∷ 0x29 ∷ 0 ∷ 0x29 ∷ 1 ∷ 0x7A ∷ 1 ∷ 0x78 ∷ 0x73 ∷ 1 ∷ 0 ∷ 0 ∷ 0 ∷ 0 ∷ 0x7A ∷ 0 ∷ 0x7A ∷ 0 ∷ 0x7A ∷ 0
    ∷ 0 ∷ 0 ∷ 0 ∷ 0 ∷ 0x73 ∷ 0 ∷ 0 ∷ 0 ∷ 0 ∷ 0x73 ∷ 0 ∷ 0 ∷ 0 ∷ 0 ∷ []

abbrev read_again : Answer (List ℕ) → Answer Counts
read_again (gives bs) = (read_of bs 140 40 5 9).answer
read_again (stops n p) = stops n p

abbrev length_of : Answer (List ℕ) → Answer ℕ
length_of (gives bs) = gives (length bs)
length_of (stops n p) = stops n p

abbrev shallow_as : List ℕ → Outcome → Answer Counts → Option Value × Answer ℕ × Answer Counts
shallow_as s o (gives c) = (value_of 3 (tables_after s o c) 0, length_of (written (tables_after s o c) 0 3 200), read_again (written (tables_after s o c) 0 3 200))
shallow_as s o (stops n p) = (none, stops n p, stops n p)

pub out_of_order : shallow_as groupless (read_of groupless 140 40 5 9) (read_of groupless 140 40 5 9).answer ≡ (none, gives 67, stops invalid_bytecode 0)
unfolding after_lead after_byte allows bind run letters found class_of digits pylong numbers fields contained code_fields reference header front attach strings suits child kids couples rules first_line_of parts_from ended body enter close after one value plain reading read_of padded sound sound_at chain whole bad_string bad_part bad_end look magnitude then each into words digits_from digit_bytes integer_bytes ascii code_string shape_of same_bytes having named_in apart_from in_groups manners parts_as parted writing written all_of value_of has
out_of_order = refl

-- The name order: x Local, c Cell, f Free keep it; a cell before a local, and a cell named like a local, do not.
pub orders :
    (name_order (0x20 ∷ 0x60 ∷ 0x40 ∷ 0x80 ∷ []) ((1 ∷ []) ∷ (2 ∷ []) ∷ (3 ∷ []) ∷ (1 ∷ []) ∷ []) ≡ true)
    × (name_order (0x40 ∷ 0x20 ∷ []) ((1 ∷ []) ∷ (2 ∷ []) ∷ []) ≡ false)
    × (name_order (0x20 ∷ 0x40 ∷ []) ((1 ∷ []) ∷ (1 ∷ []) ∷ []) ≡ false)
    × (name_order (0xA0 ∷ []) ((1 ∷ []) ∷ []) ≡ false)
unfolding frees cells_then_frees local_names grouped name_order has same_bytes
orders = (refl, refl, refl, refl)

-- Out of name order two codes can be written alike: a Cell named like a Local is not written, so that where it stood does not show.
pub alike_out_of_order :
    groups (0x20 ∷ 0x40 ∷ 0x40 ∷ []) ((1 ∷ []) ∷ (1 ∷ []) ∷ (2 ∷ []) ∷ []) ≡ groups (0x20 ∷ 0x40 ∷ 0x40 ∷ []) ((1 ∷ []) ∷ (2 ∷ []) ∷ (1 ∷ []) ∷ [])
unfolding groups with_bit apart has same_bytes
alike_out_of_order = refl
