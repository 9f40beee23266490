-- The plain reading of a value, step by step. 01, 'Reading a value': "A reader of values and a reader of containers call one another".
-- marshal.c: r_object. A reading is given the input, the depth above it (0 for the whole value) and the state so far.
use Rattle.std.specs.Prelude.{ℕ, zero, suc, ◌+◌, ◌-◌, Bool, true, cond, ◌&&◌, List, [], ◌∷◌, ◌++◌, length, get_or, set, ltb, eqb}
use Rattle.std.proofs.Math.Option.{Option, none, some}
use Rattle.refusals.specs.Numbers.{accepted, eof_object, invalid_ref, bad_type}
use Rattle.refusals.specs.Limits.{nothing}
use Rattle.grammar.specs.Reading.{level, node, entry, slot, Reading, done, refused, claim, bind, reads, Answer, gives, stops}
use Rattle.grammar.specs.Letters.{Class, refers, keeps, contains, codes, refuses, flag_of, letter_of, class_of, is_bytes, is_tuple, is_string, ends_dict}
use Rattle.grammar.specs.Fields.{Fields, Children, items, pairs, parts, field, fields, contained, code_fields, le32, sum_at, code_fault}
use Rattle.grammar.specs.State.{Node, Entry, State, blank, unlinked, moved_to, referred}

-- Before the children: the header and the fields behind it.

-- A value that is known already, with the place after it; or a node, its letter and flag, and what its fields say.
pub data Front : Type 0 where
  known : (node at : ℕ) → Front
  opens : (letter flag : ℕ) → Fields → Front

-- "`r` (flagged or not) reads a 32-bit index; an index not yet reserved, or still open, is 5; otherwise the stored node itself is the
-- value." marshal.c: TYPE_REF. A slot that is not reserved reads as 0.
abbrev pub stored : ℕ → ℕ → Answer Front
stored at zero = stops invalid_ref at
stored at (suc v) = gives (known v (at + 4))

unfoldable pub reference : List ℕ → List ℕ → ℕ → Answer Front
reference s slots at = field s at 4 (stored at (get_or slots (le32 s at) 0))

-- "If flagged, reserve a slot (13)."
abbrev pub reserving : {A : Type 0} → (flag used at : ℕ) → Reading A → Reading A
reserving zero used at rest = rest
reserving (suc f) used at rest = claim slot (used + 1) at rest

abbrev pub opened : (letter flag : ℕ) → Answer Fields → Reading Front
opened letter flag (gives f) = done (opens letter flag f)
opened letter flag (stops n p) = refused n p

-- "Then unknown letter 3, `0` 4, `f` or `x` 15, then claim a node (11), then the fields." "Code spends two levels: the code body has the
-- allowance less one (0: refusal 10, before any field)", where the code body stands. The header stands at `at`; there are so many nodes,
-- and so many slots reserved, which hold `slots`.
unfoldable pub header : List ℕ → (depth at nodes used : ℕ) → List ℕ → (letter flag : ℕ) → Class → Reading Front
header s depth at nodes used slots letter flag refers = reads (reference s slots (at + 1))
header s depth at nodes used slots letter flag (refuses number) = reserving flag used at (refused number at)
header s depth at nodes used slots letter flag (keeps form) =
    reserving flag used at (claim node (nodes + 1) at (opened letter flag (fields s form (at + 1))))
header s depth at nodes used slots letter flag (contains sort) =
    reserving flag used at (claim node (nodes + 1) at (opened letter flag (contained s sort (at + 1))))
header s depth at nodes used slots letter flag codes =
    reserving flag used at (claim node (nodes + 1) at (claim level (depth + 2) (at + 1) (opened letter flag (code_fields s (at + 1)))))

-- "Allowance 0: refusal 10. None left to read: refusal 1."
unfoldable pub front : List ℕ → (depth at nodes used : ℕ) → List ℕ → Reading Front
front s depth at nodes used slots =
    claim level (depth + 1) at
    (cond (ltb at (length s))
    (header s depth at nodes used slots (letter_of (get_or s at 0)) (flag_of (get_or s at 0)) (class_of (letter_of (get_or s at 0))))
    (refused eof_object (length s)))

-- The children, linked in reading order.

-- The children read so far: their nodes, the first and the last of their entries, where a code's first line stands, and the state.
pub record Chain : Type 0 where
  pub kids : List ℕ
  pub first : ℕ
  pub last : Option ℕ
  pub line : ℕ
  pub st : State

-- before the first child: "No entry and no next entry are 4,294,967,295."
abbrev pub fresh : State → Chain
fresh st = record { kids = []; first = nothing; last = none; line = 0; st = st }

abbrev pub first_of : Option ℕ → ℕ → ℕ → ℕ
first_of none e first = e
first_of (some l) e first = first

-- the last entry is followed by a new one
abbrev pub follow : Option ℕ → ℕ → List Entry → List Entry
follow none e es = es
follow (some l) e es = set es l (record { child = (get_or es l unlinked).child; next = e })

-- a child's entry, at the end of the chain
unfoldable pub attach : Chain → ℕ → State → Chain
attach c v st =
    record {
      kids = c.kids ++ v ∷ [];
      first = first_of c.last (length st.entries) c.first;
      last = some (length st.entries);
      line = c.line;
      st = record {
        at = st.at;
        nodes = st.nodes;
        entries = follow c.last (length st.entries) (st.entries ++ record { child = v; next = nothing } ∷ []);
        slots = st.slots;
        met = st.met;
      };
    }

-- "Each part is checked when read: bytes, tuple, tuple of strings, or string, else 7"; any other child may be any value.
pub data Rule : Type 0 where
  whatever as_bytes as_tuple as_names as_string : Rule

abbrev pub letter_in : List Node → ℕ → ℕ
letter_in ns v = (get_or ns v blank).letter

-- whether so many children, linked from an entry on, are all strings
unfoldable pub strings : List Node → List Entry → ℕ → ℕ → Bool
strings ns es zero e = true
strings ns es (suc more) e = is_string (letter_in ns (get_or es e unlinked).child) && strings ns es more (get_or es e unlinked).next

unfoldable pub suits : Rule → List Node → List Entry → ℕ → Bool
suits whatever ns es v = true
suits as_bytes ns es v = is_bytes (letter_in ns v)
suits as_tuple ns es v = is_tuple (letter_in ns v)
suits as_names ns es v = is_tuple (letter_in ns v) && strings ns es (get_or ns v blank).count (get_or ns v blank).first
suits as_string ns es v = is_string (letter_in ns v)

abbrev pub Reader : Type 0
Reader = State → Reading (ℕ × State)

-- One child more, read by f: "Each claims an entry (12) after it is complete." Both refusals stand at the child's header.
unfoldable pub child : Rule → Reader → Chain → Reading Chain
child rule f c =
    bind (f c.st)
    (λ r. cond (suits rule r.1.nodes r.1.entries r.0)
    (claim entry (length r.1.entries + 1) c.st.at (done (attach c r.0 r.1)))
    (refused bad_type c.st.at))

-- so many children more
unfoldable pub kids : Reader → ℕ → Chain → Reading Chain
kids f zero c = done c
kids f (suc more) c = bind (child whatever f c) (kids f more)

-- the same chain, with bytes passed
abbrev pub passed : ℕ → Chain → Chain
passed size c = record { kids = c.kids; first = c.first; last = c.last; line = c.line; st = moved_to (c.st.at + size) c.st }

-- "Dict: before each key one byte is read (none: 1). 0x30 or 0xB0 ends it and reserves nothing. Otherwise that byte is the key's header,
-- and only then is the allowance tested."
abbrev pub key_or : List ℕ → Chain → Reading Chain → Reading Chain
key_or s c rest =
    cond (ltb c.st.at (length s))
    (cond (ends_dict (get_or s c.st.at 0)) (done (passed 1 c)) rest)
    (refused eof_object (length s))

unfoldable pub couples : Reader → List ℕ → ℕ → Chain → Reading Chain
couples f s zero c = refused eof_object (length s)
couples f s (suc fuel) c = key_or s c (bind (child whatever f c) (λ d. bind (child whatever f d) (couples f s fuel)))

-- "then bytes, constants tuple, names, local names, kinds bytes, file, name, qualified name, the 32-bit first line, line table,
-- exception table." marshal.c: TYPE_CODE.
abbrev pub code_parts : ℕ
code_parts = 10

-- the one table of a code's parts: what each must be to be read and to be tested, and with it how it is written
unfoldable pub rules : List Rule
rules =
    as_bytes ∷ as_tuple ∷ as_names ∷ as_names ∷ as_bytes
    ∷ as_string ∷ as_string ∷ as_string ∷ as_bytes ∷ as_bytes ∷ []

-- the parts that the checks at the end look at
abbrev pub code_part : ℕ
code_part = 0

abbrev pub locals_part : ℕ
locals_part = 3

abbrev pub kinds_part : ℕ
kinds_part = 4

-- The first line stands before the ninth part.
abbrev pub line_part : ℕ
line_part = 8

abbrev pub lined : Chain → Chain
lined c = record { kids = c.kids; first = c.first; last = c.last; line = c.st.at; st = moved_to (c.st.at + 4) c.st }

unfoldable pub first_line_of : List ℕ → ℕ → Chain → Reading Chain
first_line_of s i c = cond (eqb i line_part) (reads (field s c.st.at 4 (gives (lined c)))) (done c)

-- so many parts more, from the ith on
unfoldable pub parts_from : Reader → List ℕ → (more i : ℕ) → Chain → Reading Chain
parts_from f s zero i c = done c
parts_from f s (suc more) i c = bind (first_line_of s i c) (λ d. bind (child (get_or rules i whatever) f d) (parts_from f s more (i + 1)))

-- The checks at a code's end, at the code's header; the five numbers stand behind it.
abbrev pub fault_of : List ℕ → ℕ → Chain → ℕ
fault_of s at c =
    code_fault (sum_at s (at + 1))
    (get_or c.st.nodes (get_or c.kids code_part 0) blank).size
    (get_or c.st.nodes (get_or c.kids locals_part 0) blank).count
    (get_or c.st.nodes (get_or c.kids kinds_part 0) blank).size

unfoldable pub ended : List ℕ → ℕ → Chain → Reading Chain
ended s at c = cond (eqb (fault_of s at c) accepted) (done c) (refused (fault_of s at c) at)

-- What a node holds, the header at `at`, its children read by g at their depth: "Children get the allowance less one"; of a code
-- "the code body has the allowance less one .., its parts less two".
unfoldable pub body : (ℕ → Reader) → List ℕ → (fuel depth at : ℕ) → Children → Chain → Reading Chain
body g s fuel depth at (items count) c = kids (g (depth + 1)) count c
body g s fuel depth at pairs c = couples (g (depth + 1)) s fuel c
body g s fuel depth at parts c = bind (parts_from (g (depth + 2)) s code_parts 0 c) (ended s at)

-- A value, whole.

abbrev pub reserve : ℕ → List ℕ → List ℕ
reserve zero slots = slots
reserve (suc f) slots = slots ++ 0 ∷ []

-- "The slot is filled when the value is complete."
abbrev pub fill : (flag slot node : ℕ) → List ℕ → List ℕ
fill zero k v slots = slots
fill (suc f) k v slots = set slots k (v + 1)

-- in front of the first child: the slot open, the node blank
unfoldable pub enter : State → (at flag : ℕ) → State
enter st at flag = record { at = at; nodes = st.nodes ++ blank ∷ []; entries = st.entries; slots = reserve flag st.slots; met = st.met }

-- "code, place of the argument count and distance to the first line number".
abbrev pub size_of : Children → (place size line : ℕ) → ℕ
size_of (items count) place size line = size
size_of pairs place size line = size
size_of parts place size line = line - place

-- after the last child: the node written and the slot filled; the number of its input (02, K11) is 0 here, an append gives its own
unfoldable pub close : State → (letter flag : ℕ) → Fields → Chain → State
close st letter flag f c =
    record {
      at = c.st.at;
      nodes =
          set c.st.nodes (length st.nodes)
          (record { letter = letter; place = f.place; size = size_of f.children f.place f.size c.line; first = c.first; count = length c.kids; end = c.st.at; input = 0 });
      entries = c.st.entries;
      slots = fill flag (length st.slots) (length st.nodes) c.st.slots;
      met = c.st.met;
    }

unfoldable pub after : (ℕ → Reader) → List ℕ → (fuel depth : ℕ) → State → Front → Reading (ℕ × State)
after g s fuel depth st (known v at) = done (v, referred at st)
after g s fuel depth st (opens letter flag f) =
    bind (body g s fuel depth st.at f.children (fresh (enter st (f.place + f.size) flag)))
    (λ c. done (length st.nodes, close st letter flag f c))

-- a value whose children are read by g
unfoldable pub one : (ℕ → Reader) → List ℕ → (fuel depth : ℕ) → Reader
one g s fuel depth st =
    bind (front s depth st.at (length st.nodes) (length st.slots) st.slots) (after g s fuel depth st)

-- Every level reads its header, so with as much fuel as there are bytes left the fuel never ends first; without fuel nothing is left.
unfoldable pub value : (fuel : ℕ) → List ℕ → (depth : ℕ) → Reader
value zero s depth st = claim level (depth + 1) st.at (refused eof_object (length s))
value (suc fuel) s depth st = one (value fuel s) s fuel depth st
