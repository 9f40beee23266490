-- No export and no promise rests on this page.
-- What the code makes of a line when a child is complete, of a part by its rule, of the first line, and of a code's end.
-- 01, 'Reading a value': from "Children get the allowance less one" on, as grammar's Steps says it.
use Rattle.std.specs.Prelude.{◌≡◌, ℕ, zero, suc, ◌+◌, ◌-◌, ◌%◌, ◌≤◌, ◌<◌, Bool, true, cond, ◌&&◌, List, length, get_or, leb, ltb, eqb, Result, Ok, Err}
use Rattle.refusals.specs.Numbers.{accepted, eof_object}
use Rattle.refusals.specs.Faults.{number_of, refused}
use Rattle.refusals.specs.declared.Refusal.{Refusal}
use Rattle.refusals.specs.declared.Refusal.TheVariants.{DataTooShort, NoEntry}
use Rattle.refusals.specs.declared.Fault.{Fault}
use Rattle.refusals.specs.Limits.{nothing}
use Rattle.grammar.specs.LetterNames.{null_letter}
use Rattle.grammar.specs.Letters.{is_bytes, is_tuple, is_string}
use Rattle.grammar.specs.Fields.{sum_at, code_fault}
use Rattle.grammar.specs.State.{node_at, entry_at}
use Rattle.grammar.specs.Steps.{Rule, whatever, as_bytes, as_tuple, as_names, as_string, rules, code_parts, code_part, locals_part, kinds_part, line_part}
use Rattle.fields.specs.declared.Kids.{Kids}
use Rattle.fields.specs.declared.Kids.TheVariants as kind
use Rattle.stores.specs.Written.{entry_written, entry_linked}
use Rattle.readsteps.specs.declared.Walk.{Walk}
use Rattle.readsteps.specs.declared.Line.{Line}
use Rattle.readsteps.specs.declared.Next.{Next}
use Rattle.readsteps.specs.declared.Next.TheVariants as next

-- A child with its entry.

-- the node of one part of a code, once there are so many children before it
abbrev pub kept : (part count child before : ℕ) → ℕ
kept part count child before = cond (eqb count part) child before

-- `last` is the last entry before, and the child was read up to `a`
abbrev pub line_next : Line → ℕ → Walk → Line
line_next l v a =
    record {
      first = cond (eqb l.last nothing) a.entries l.first;
      last = a.entries;
      count = l.count + 1;
      line = l.line;
      code = kept code_part l.count v l.code;
      locals = kept locals_part l.count v l.locals;
      kinds = kept kinds_part l.count v l.kinds;
      walk = record { at = a.at; nodes = a.nodes; entries = a.entries + 1; slots = a.slots };
    }

abbrev pub entries_next : List ℕ → Line → ℕ → Walk → List ℕ
entries_next es l v a =
    cond (eqb l.last nothing)
    (entry_written es a.entries (record { child = v; next = nothing }))
    (entry_linked (entry_written es a.entries (record { child = v; next = nothing })) l.last a.entries)

-- the entries that are left: where there is no room for one more, as they were
abbrev pub entries_after : (room : ℕ) → List ℕ → Line → ℕ → Walk → List ℕ
entries_after room es l v a = cond (ltb a.entries room) (entries_next es l v a) es

abbrev pub attached : (room : ℕ) → Line → (place child : ℕ) → Walk → Result Line Fault
attached room l place v a = cond (ltb a.entries room) (Ok (line_next l v a)) (refused NoEntry place)

pub record Attaches (room : ℕ) (l : Line) (place v : ℕ) (a : Walk) (es : List ℕ) (r : Result Line Fault) (es' : List ℕ) : Type 0 where
  pub answer : r ≡ attached room l place v a
  pub entries : es' ≡ entries_after room es l v a

-- A part and its rule.

-- the rules by number, and the number of each
abbrev pub rule_of : ℕ → Rule
rule_of zero = whatever
rule_of (suc zero) = as_bytes
rule_of (suc (suc zero)) = as_tuple
rule_of (suc (suc (suc zero))) = as_names
rule_of (suc (suc (suc (suc n)))) = as_string

abbrev pub rule_number : Rule → ℕ
rule_number whatever = 0
rule_number as_bytes = 1
rule_number as_tuple = 2
rule_number as_names = 3
rule_number as_string = 4

-- `strings` and `suits` of the definitions, over the stores
unfoldable pub strings_in : (ns es : List ℕ) → (more e : ℕ) → Bool
strings_in ns es zero e = true
strings_in ns es (suc more) e = is_string (node_at ns (entry_at es e).child).letter && strings_in ns es more (entry_at es e).next

abbrev pub suits_in : Rule → (ns es : List ℕ) → ℕ → Bool
suits_in whatever ns es v = true
suits_in as_bytes ns es v = is_bytes (node_at ns v).letter
suits_in as_tuple ns es v = is_tuple (node_at ns v).letter
suits_in as_names ns es v = is_tuple (node_at ns v).letter && strings_in ns es (node_at ns v).count (node_at ns v).first
suits_in as_string ns es v = is_string (node_at ns v).letter

-- The first line and the end of a code.

-- bytes passed
abbrev pub line_on : ℕ → Line → Line
line_on size l =
    record {
      first = l.first;
      last = l.last;
      count = l.count;
      line = l.line;
      code = l.code;
      locals = l.locals;
      kinds = l.kinds;
      walk = record { at = l.walk.at + size; nodes = l.walk.nodes; entries = l.walk.entries; slots = l.walk.slots };
    }

abbrev pub line_lined : Line → Line
line_lined l =
    record {
      first = l.first;
      last = l.last;
      count = l.count;
      line = l.walk.at;
      code = l.code;
      locals = l.locals;
      kinds = l.kinds;
      walk = record { at = l.walk.at + 4; nodes = l.walk.nodes; entries = l.walk.entries; slots = l.walk.slots };
    }

abbrev pub first_lined : List ℕ → ℕ → Line → Result Line Fault
first_lined s i l =
    cond (eqb i line_part)
    (cond (leb (l.walk.at + 4) (length s)) (Ok (line_lined l)) (refused DataTooShort l.walk.at))
    (Ok l)

-- the refusal's number at the end of a code whose numbers stand at a place, or none
abbrev pub fault_in : List ℕ → List ℕ → ℕ → Line → ℕ
fault_in s ns place l =
    code_fault (sum_at s place) (node_at ns l.code).size (node_at ns l.locals).count (node_at ns l.kinds).size

-- what the code answers of a code's end, as that number
abbrev pub fault_number : Result (Unit {0}) Refusal → ℕ
fault_number (Ok sound) = accepted
fault_number (Err why) = number_of why

-- What comes next among the children of a node, by the kind of these.
abbrev pub ItemNext : ℕ → Line → Result Next Fault → Type 0
ItemNext count l (Ok (next.Child m rule)) = (m ≡ l) × (rule ≡ 0) × (l.count < count)
ItemNext count l (Ok (next.Done m)) = (m ≡ l) × (count ≤ l.count)
ItemNext count l (Err f) = ⊥

-- a key stands where as many keys as values are read
abbrev pub PairNext : List ℕ → Line → Result Next Fault → Type 0
PairNext s l (Ok (next.Child m rule)) =
    (m ≡ l) × (rule ≡ 0) × (l.count % 2 ≡ 0 → (l.walk.at < length s) × (get_or s l.walk.at 0 % 128 ≡ null_letter → ⊥))
PairNext s l (Ok (next.Done m)) = (m ≡ line_on 1 l) × (l.count % 2 ≡ 0) × (l.walk.at < length s) × (get_or s l.walk.at 0 % 128 ≡ null_letter)
PairNext s l (Err f) = (number_of f.refusal ≡ eof_object) × (f.place ≡ l.walk.at) × (l.count % 2 ≡ 0) × (length s ≤ l.walk.at)

abbrev pub PartNext : (s ns : List ℕ) → ℕ → Line → Result Next Fault → Type 0
PartNext s ns at l (Ok (next.Child m rule)) =
    (first_lined s l.count l ≡ Ok m) × (rule ≡ rule_number (get_or rules l.count whatever)) × (l.count < code_parts)
PartNext s ns at l (Ok (next.Done m)) = (m ≡ l) × (code_parts ≤ l.count) × (fault_in s ns (at + 1) l ≡ accepted)
PartNext s ns at l (Err f) =
    (l.count < code_parts → first_lined s l.count l ≡ Err f)
    × (code_parts ≤ l.count → (f.place ≡ at) × (number_of f.refusal ≡ fault_in s ns (at + 1) l) × (number_of f.refusal ≡ accepted → ⊥))

abbrev pub NextOf : (s ns : List ℕ) → Kids → ℕ → Line → Result Next Fault → Type 0
NextOf s ns (kind.Items count) at l r = ItemNext count l r
NextOf s ns kind.Pairs at l r = PairNext s l r
NextOf s ns kind.Parts at l r = PartNext s ns at l r

pub record Nexts (s ns : List ℕ) (kids : Kids) (at : ℕ) (l : Line) (r : Result Next Fault) : Type 0 where
  pub is : NextOf s ns kids at l r

-- the allowance of a node's children, of what the container or the code's body has
abbrev pub below_of : Kids → ℕ → ℕ
below_of (kind.Items count) allowance = allowance
below_of kind.Pairs allowance = allowance
below_of kind.Parts allowance = allowance - 1
