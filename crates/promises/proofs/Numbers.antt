-- Every refusal that a definition gives has a number of 01's table, so that no refusal can be taken for an answer. Of the reading by what
-- grammar proves of its refusals, of the others by going through their definitions. Assumes nothing.
use mathlib.Core.Path.{◌≡◌, refl, sym, ap, ◌∙◌}
use Prim.Native.Nat.{ℕ, zero, suc, ◌≤◌, ◌-◌, ◌+◌, ◌^◌, min}
use native.Mathlib.Omega.{arith}
use mathlib.Core.Logic.{◌⊎◌, inl, inr}
use mathlib.Core.Bool.{Bool, true, false, cond, not, ◌&&◌}
use mathlib.Core.List.{List, [], ◌∷◌, ◌++◌}
use lib.ListN.{length, get_or, take, drop, replicate}
use lib.Dec.{leb, ltb, eqb}
use borrow.Author.Tests.{eqb-true, leb-true, ltb-true, ltb-false}
use Rattle.refusals.specs.Numbers.{accepted, data_too_short, too_deep, number_range, last_number}
use Rattle.refusals.specs.Limits.{most_bytes, most_nesting}
use Rattle.clearing.specs.Lent.{zeros}
use Rattle.grammar.specs.Reading.{Kind, level, node, entry, slot, Answer, gives, stops}
use Rattle.grammar.specs.Letters.{among}
use Rattle.grammar.specs.Room.{Rooms, number_of, run}
use Rattle.grammar.specs.Steps.{kinds_part, line_part}
use Rattle.grammar.specs.Answer.{plain, rooms_of, reading}
use Rattle.grammar.specs.Counted.{claims_of}
use Rattle.grammar.specs.Leaf.{leaf_of}
use Rattle.grammar.specs.Record.{Tables, Looked, holds, faulty, look, sound_at}
use Rattle.grammar.proofs.Bounded.{refused_in}
use Rattle.grammar.proofs.Exactness.{too_long, within-room}
use Rattle.grammar.proofs.Fielding.{of_input}
use Rattle.grammar.proofs.Fitting.{Fitted, all, some-over, fitted, exact_where_all_fit, refused_where_one_is_over}
use Rattle.lineentry.specs.declared.Location.{Location}
use Rattle.lineentry.specs.declared.Entry.{Entry}
use Rattle.lineentry.specs.declared.Entry.TheVariants.{Covers, Stop, OutOfRange}
use Rattle.lineentry.specs.Entry.{entry_at, at_line}
use Rattle.linetable.specs.Walk as table
use Rattle.linetable.specs.Walk.{walk, after, joined}
use Rattle.linetable.specs.Answer.{located}
use Rattle.locate.specs.Part.{located_at}
use Rattle.std.specs.Prelude.{Result, Ok, Err}
use Rattle.refusals.specs.Faults as faults
use Rattle.refusals.specs.declared.Fault.{Fault}
use Rattle.refusals.proofs.Faults.{number_in_table}
use Rattle.varint.specs.Writing.{little_endian, signed_code}
use Rattle.varint.specs.Answers.{stored, stored_signed}
use Rattle.writing.specs.Writing.{Writing, ended, refused, emit, then, each, into}
use Rattle.writing.specs.Shape as shape
use Rattle.writing.specs.Shape.{Shape, shape_of}
use Rattle.writing.specs.Names.{contents_of, in_groups}
use Rattle.writing.specs.Steps.{levelled, string_part, names_part, kids_of, Manner, as_value, as_names, as_locals, as_string, manners, part, parts_as, parted, shaped, looked, is_code, no_parts, writing}
use Rattle.writing.specs.Answer.{most_output, written}
use Rattle.promises.specs.Demand1.{InTable}

-- The refusal of an answer, if it is one, is in the table.
abbrev pub Tabled : {A : Type 0} → Answer A → Type 0
Tabled (gives x) = Unit
Tabled (stops number place) = InTable number

-- what holds of both, whichever it is
pub either : {A : Type 0} (P : A → Type 0) (b : Bool) (x y : A) → P x → P y → P (cond b x y)
either P true x y h k = h
either P false x y h k = k

pub if_tabled : {A : Type 0} (b : Bool) (x y : Answer A) → Tabled x → Tabled y → Tabled (cond b x y)
if_tabled b x y h k = either Tabled b x y h k

-- The reading.
abbrev in_table : List ℕ → Bool
in_table [] = true
in_table (n ∷ ns) = (ltb accepted n && leb n last_number) && in_table ns

both : (a b : Bool) → a && b ≡ true → (a ≡ true) × (b ≡ true)
both true true e = (refl, refl)
both true false e = let z : ◌≡◌ {A = ℕ} 0 1 = cc in absurd (omega arith)
both false b e = let z : ◌≡◌ {A = ℕ} 0 1 = cc in absurd (omega arith)

among_in_table : (n : ℕ) (ns : List ℕ) → in_table ns ≡ true → among n ns ≡ true → InTable n
among_in_table n [] h e = let z : ◌≡◌ {A = ℕ} 0 1 = cc in absurd (omega arith)
among_in_table n (m ∷ ms) h e = go (eqb n m) refl e (λ k. among_in_table n ms (both (ltb accepted m && leb m last_number) (in_table ms) h).1 k)
  where
    own : (ltb accepted m ≡ true) × (leb m last_number ≡ true)
    own = both (ltb accepted m) (leb m last_number) (both (ltb accepted m && leb m last_number) (in_table ms) h).0

    go : (b : Bool) → eqb n m ≡ b → cond b true (among n ms) ≡ true → (among n ms ≡ true → InTable n) → InTable n
    go true q k more =
        let i = eqb-true n m q in
        (omega (arith, i, ltb-true accepted m own.0), omega (arith, i, leb-true m last_number own.1))
    go false q k more = more k

kind_in_table : (k : Kind) → InTable (number_of k)
kind_in_table level = (omega arith, omega arith)
kind_in_table node = (omega arith, omega arith)
kind_in_table entry = (omega arith, omega arith)
kind_in_table slot = (omega arith, omega arith)

stops-number : {A : Type 0} {n m p q : ℕ} → ◌≡◌ {A = Answer A} (stops n p) (stops m q) → InTable n → InTable m
stops-number {A} {n} {m} {p} {q} e h = let i : n ≡ m = ap number e in (omega (arith, i, h.0), omega (arith, i, h.1))
  where
    number : Answer A → ℕ
    number (gives x) = 0
    number (stops n p) = n

-- in any room, of an input that is not too long
pub run_in_table : (s : List ℕ) → length s ≤ most_bytes → (R : Rooms) (n p : ℕ) → run R (plain s) ≡ stops n p → InTable n
run_in_table s small R n p e = go (fitted R (claims_of s))
  where
    go : Fitted R (claims_of s) → InTable n
    go (all h) = among_in_table n of_input refl (refused_in s small n p (sym (exact_where_all_fit R (plain s) h) ∙ e)).0
    go (some-over o) = stops-number (sym (refused_where_one_is_over R (plain s) o) ∙ e) (kind_in_table o.first.kind)

pub reading_in_table : (s : List ℕ) (nodes entries slots nesting n p : ℕ) → reading s nodes entries slots nesting ≡ stops n p → InTable n
reading_in_table s nodes entries slots nesting n p e = go (ltb most_bytes (length s)) refl
  where
    go : (b : Bool) → ltb most_bytes (length s) ≡ b → InTable n
    go true q = stops-number (sym (too_long s nodes entries slots nesting (ltb-true most_bytes (length s) q)) ∙ e) (omega arith, omega arith)
    go false q =
        let small = ltb-false most_bytes (length s) q in
        run_in_table s small (rooms_of nodes entries slots nesting) n p (sym (within-room s nodes entries slots nesting small) ∙ e)

-- The leaf question.
pub leaf_in_table : (s nodes : List ℕ) (used n : ℕ) → Tabled (leaf_of s nodes used n)
unfolding leaf_of
leaf_in_table s nodes used n =
    if_tabled (ltb most_bytes (length s)) _ _ (omega arith, omega arith) (if_tabled (sound_at s nodes used n) _ _ tt (omega arith, omega arith))

-- The line tables.
abbrev pub TabledLines : table.Reading → Type 0
TabledLines (table.done at k whole) = Unit
TabledLines (table.refused number place) = InTable number

if_tabled_lines : (b : Bool) (x y : table.Reading) → TabledLines x → TabledLines y → TabledLines (cond b x y)
if_tabled_lines true x y h k = h
if_tabled_lines false x y h k = k

joined_in_table : (before : List Location) (n : ℕ) (missing : Bool) (r : table.Reading) → TabledLines r → TabledLines (joined before n missing r)
joined_in_table before n missing (table.done at k whole) h = tt
joined_in_table before n missing (table.refused number place) h = h

after_in_table : (on : ℕ → ℕ → ℕ → table.Reading) → ((line p left : ℕ) → TabledLines (on line p left)) → (first : Location) (p left : ℕ) (e : Entry)
    → TabledLines (after on first p left e)
after_in_table on h first p left (Covers e) =
    if_tabled_lines (leb e.instructions left) _ _
    (joined_in_table (replicate e.instructions e.location) e.instructions e.missing (on e.line e.next (left - e.instructions)) (h e.line e.next (left - e.instructions)))
    tt
after_in_table on h first p left Stop = tt
after_in_table on h first p left OutOfRange = (omega arith, omega arith)

walk_in_table : (turns : ℕ) (s : List ℕ) (first : Location) (line p left : ℕ) → TabledLines (walk turns s first line p left)
walk_in_table zero s first line p left = tt
walk_in_table (suc turns) s first line p left =
    if_tabled_lines (eqb left 0) _ _ tt (after_in_table (walk turns s first) (walk_in_table turns s first) first p left (entry_at s line p))

pub located_in_table : (s : List ℕ) (first count capacity : ℕ) → TabledLines (located s first count capacity)
unfolding located
located_in_table s first count capacity =
    if_tabled_lines (ltb most_bytes (length s)) _ _ (omega arith, omega arith)
    (if_tabled_lines (ltb capacity count) _ _ (omega arith, omega arith) (walk_in_table count s (at_line first) first 0 count))

pub located_at_in_table : (s nodes : List ℕ) (used n first count capacity : ℕ) → TabledLines (located_at s nodes used n first count capacity)
unfolding located_at
located_at_in_table s nodes used n first count capacity =
    if_tabled_lines (ltb most_bytes (length s)) _ _ (omega arith, omega arith)
    (if_tabled_lines (sound_at s nodes used n && _) _ _ (located_in_table _ first count capacity) (omega arith, omega arith))

-- where an answer is refused, its store is zero
abbrev pub Cleared : {A : Type 0} → (room : ℕ) → Result A Fault × List ℕ → Type 0
Cleared room (Ok x, xs) = Unit {0}
Cleared room (Err why, xs) = xs ≡ zeros room

-- and its number is one of the table, as every fault's is
abbrev pub TabledStore : {A : Type 0} → (room : ℕ) → Result A Fault × List ℕ → Type 0
TabledStore room (Ok x, xs) = Unit {0}
TabledStore room (Err why, xs) = InTable (faults.number_of why.refusal) × (xs ≡ zeros room)

pub tabled : {A : Type 0} (room : ℕ) (o : Result A Fault × List ℕ) → Cleared room o → TabledStore room o
tabled room (Ok x, xs) z = tt
tabled room (Err why, xs) z = (number_in_table why.refusal, z)

-- the varints
pub stored_cleared : (room : ℕ) (bytes : List ℕ) → Cleared room (stored room bytes)
unfolding stored
stored_cleared room bytes = either (Cleared room) (leb (length bytes) room) _ _ tt refl

pub stored_in_table : (room : ℕ) (bytes : List ℕ) → TabledStore room (stored room bytes)
stored_in_table room bytes = tabled room (stored room bytes) (stored_cleared room bytes)

pub signed_cleared : (room bits : ℕ) → Cleared room (stored_signed room bits)
unfolding stored_signed
signed_cleared room bits = either (Cleared room) (eqb bits (2 ^ 31)) _ _ refl (stored_cleared room (little_endian (signed_code bits)))

pub signed_in_table : (room bits : ℕ) → TabledStore room (stored_signed room bits)
signed_in_table room bits = tabled room (stored_signed room bits) (signed_cleared room bits)

-- The writing: nowhere on its way is it refused with another number.
abbrev TabledOn : Writing → Type 0
TabledOn ended = Unit
TabledOn (refused number place) = InTable number
TabledOn (emit bytes w) = TabledOn w

then_in_table : (w u : Writing) → TabledOn w → TabledOn u → TabledOn (then w u)
unfolding then
then_in_table ended u h k = k
then_in_table (refused number place) u h k = h
then_in_table (emit bytes w) u h k = then_in_table w u h k

each_in_table : (f : ℕ → Writing) → ((v : ℕ) → TabledOn (f v)) → (vs : List ℕ) → TabledOn (each f vs)
unfolding each
each_in_table f h [] = tt
each_in_table f h (v ∷ vs) = then_in_table (f v) (each f vs) (h v) (each_in_table f h vs)

levelled_in_table : (a n : ℕ) (w : Writing) → TabledOn w → TabledOn (levelled a n w)
levelled_in_table zero n w h = (omega arith, omega arith)
levelled_in_table (suc a) n w h = h

module _ (t : Tables) (a : ℕ) (f : ℕ → Writing) (h : (v : ℕ) → TabledOn (f v)) (kinds : List ℕ) where
  names_in_table : (v : ℕ) (names : List ℕ) → TabledOn (names_part t a v names)
  names_in_table v names = levelled_in_table a v _ (each_in_table (string_part t (a - 1)) (λ n. levelled_in_table (a - 1) n _ tt) names)

  part_in_table : (m : Manner) (v : ℕ) → TabledOn (part t a f kinds m v)
  part_in_table as_value v = h v
  part_in_table as_names v = names_in_table v (kids_of t v)
  part_in_table as_locals v = names_in_table v (in_groups t kinds (kids_of t v))
  part_in_table as_string v = levelled_in_table a v _ tt

  parts_in_table : (ms : List Manner) (vs : List ℕ) → TabledOn (parts_as t a f kinds ms vs)
  unfolding parts_as
  parts_in_table [] vs = tt
  parts_in_table (m ∷ ms) [] = tt
  parts_in_table (m ∷ ms) (v ∷ vs) = then_in_table (part t a f kinds m v) (parts_as t a f kinds ms vs) (part_in_table m v) (parts_in_table ms vs)

parted_in_table : (t : Tables) (a : ℕ) (f : ℕ → Writing) → ((v : ℕ) → TabledOn (f v)) → (line : ℕ) (vs : List ℕ) → TabledOn (parted t a f line vs)
unfolding parted
parted_in_table t a f h line vs =
    let kinds = contents_of t (get_or vs kinds_part 0) in
    then_in_table (parts_as t a f kinds (take line_part manners) (take line_part vs)) _
    (parts_in_table t a f h kinds (take line_part manners) (take line_part vs))
    (parts_in_table t a f h kinds (drop line_part manners) (drop line_part vs))

shaped_in_table : (f : ℕ → Writing) (g : ℕ → List ℕ → Writing) → ((v : ℕ) → TabledOn (f v)) → ((line : ℕ) (vs : List ℕ) → TabledOn (g line vs))
    → (sh : Shape) → TabledOn (shaped f g sh)
shaped_in_table f g h k (shape.single letter) = tt
shaped_in_table f g h k (shape.integer z) = tt
shaped_in_table f g h k (shape.float bits) = tt
shaped_in_table f g h k (shape.complex real imaginary) = tt
shaped_in_table f g h k (shape.bytes contents) = tt
shaped_in_table f g h k (shape.text contents) = tt
shaped_in_table f g h k (shape.sequence letter kids) = each_in_table f h kids
shaped_in_table f g h k (shape.slice kids) = each_in_table f h kids
shaped_in_table f g h k (shape.dict kids) = then_in_table (each f kids) _ (each_in_table f h kids) tt
shaped_in_table f g h k (shape.code numbers line parts) = k line parts

looked_in_table : (f : ℕ → Writing) (g : ℕ → List ℕ → Writing) → ((v : ℕ) → TabledOn (f v)) → ((line : ℕ) (vs : List ℕ) → TabledOn (g line vs))
    → (t : Tables) (n : ℕ) (l : Looked) → TabledOn (looked f g t n l)
looked_in_table f g h k t n (holds kids) = shaped_in_table f g h k (shape_of t n kids)
looked_in_table f g h k t n (faulty place) = (omega arith, omega arith)

writing_in_table : (a : ℕ) (t : Tables) (n : ℕ) → TabledOn (writing a t n)
unfolding writing
writing_in_table zero t n = (omega arith, omega arith)
writing_in_table (suc zero) t n = go (is_code t n)
  where
    go : (b : Bool) → TabledOn (cond b (refused too_deep n) (looked (writing zero t) (no_parts n) t n (look t n)))
    go true = (omega arith, omega arith)
    go false = looked_in_table (writing zero t) (no_parts n) (λ v. (omega arith, omega arith)) (λ line vs. (omega arith, omega arith)) t n (look t n)
writing_in_table (suc (suc a)) t n =
    looked_in_table (writing (suc a) t) (parted t a (writing a t)) (writing_in_table (suc a) t) (parted_in_table t a (writing a t) (writing_in_table a t)) t n (look t n)

into_in_table : (room : ℕ) (out : List ℕ) (w : Writing) → TabledOn w → Tabled (into room out w)
unfolding into
into_in_table room out ended h = tt
into_in_table room out (refused number place) h = h
into_in_table room out (emit bytes w) h = if_tabled (leb (length out + length bytes) room) _ _ (into_in_table room (out ++ bytes) w h) (omega arith, omega arith)

pub written_in_table : (t : Tables) (root nesting room : ℕ) → Tabled (written t root nesting room)
unfolding written
written_in_table t root nesting room =
    if_tabled (ltb most_bytes (length t.input)) _ _ (omega arith, omega arith)
    (into_in_table (min room most_output) [] (writing (min nesting most_nesting) t root) (writing_in_table (min nesting most_nesting) t root))
