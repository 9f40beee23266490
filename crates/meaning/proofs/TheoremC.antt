-- Theorem C: the writing of a node that means a proper value, with allowance enough, emits exactly what is written of that value. By
-- induction on the value. Assumes nothing.
use mathlib.Core.Path.{◌≡◌, refl, sym, ap, subst, ◌∙◌}
use Prim.Native.Nat.{ℕ, zero, suc, ◌+◌, ◌-◌, ◌%◌, ◌≤◌, ◌<◌}
use native.Mathlib.Omega.{arith}
use mathlib.Core.Bool.{Bool, true, false, cond}
use mathlib.Core.List.{List, [], ◌∷◌, ◌++◌, append_assoc}
use lib.ListN.{length, get_or, take, drop}
use lib.Seq.{get_or-take}
use lib.Dec.{ltb, eqb}
use borrow.Author.Tests.{eqb-true, ltb-true}
use Rattle.refusals.specs.Numbers.{accepted, invalid_bytecode, number_range}
use Rattle.localsplus.specs.Kind.{local_bit, cell_bit, free_bit}
use Rattle.grammar.specs.Fields.{code_fault}
use Rattle.grammar.specs.Record.{Tables}
use Rattle.grammar.specs.Steps.{Rule, whatever, as_bytes, as_tuple, as_names, as_string, rules, kinds_part, line_part}
use Rattle.writing.specs.Canonical.{bytes32, words, code_string, shown_line}
use Rattle.writing.specs.Writing.{ended, emit, each}
use Rattle.writing.specs.Shape as shape
use Rattle.writing.specs.Names as stores
use Rattle.writing.specs.Names.{in_groups}
use Rattle.writing.specs.Steps as writer
use Rattle.writing.specs.Steps.{Manner, as_value, as_locals, manners, string_part, names_part, part, parts_as, parted, shaped, writing}
use Rattle.meaning.specs.Value.{Value, Values, nil, more, single, integer, float, complex, bytes, text, sequence, slice, dict, code, count_of, value_at, contents_of, contents_all, members_of}
use Rattle.meaning.specs.Canonical.{code_strings}
use Rattle.meaning.specs.Extent.{depth_of, depth_all}
use Rattle.meaning.specs.Proper.{AllTexts, Suits, SuitFrom, ProperCode, Proper, ProperAll}
use Rattle.meaning.specs.Written.{with_bit, apart, groups, name_strings, part_written, written_as, written_all, written_parts}
use Rattle.meaning.proofs.Means.{Means, MeanAll, mean_at, mean_all_count}
use Rattle.meaning.proofs.Parts.{suit_at}
use Rattle.meaning.proofs.Names.{Hold, groups_hold, hold_length}
use Rattle.meaning.proofs.Emits.{Emits, emits_own, emits_then, InTables, bytes_held, text_held, plain-writing, code-writing}
use Rattle.meaning.proofs.TheoremB.{Allows, manner_allows}

-- no fault at a code's end
pub record Faultless (sum code_bytes local_names kinds : ℕ) : Type 0 where
  pub sum_fits : sum < 4294967296
  pub even : code_bytes % 2 ≡ 0
  pub alike : local_names ≡ kinds

pub faultless : (sum code_bytes local_names kinds : ℕ) → code_fault sum code_bytes local_names kinds ≡ accepted → Faultless sum code_bytes local_names kinds
faultless sum code_bytes local_names kinds e = go (eqb local_names kinds) refl (ltb sum 4294967296) refl (eqb (code_bytes % 2) 0) refl e
  where
    go : (x : Bool) → eqb local_names kinds ≡ x → (y : Bool) → ltb sum 4294967296 ≡ y → (z : Bool) → eqb (code_bytes % 2) 0 ≡ z
        → cond x (cond y (cond z accepted invalid_bytecode) number_range) invalid_bytecode ≡ accepted → Faultless sum code_bytes local_names kinds
    go true p true q true r e = record { sum_fits = ltb-true sum 4294967296 q; even = eqb-true (code_bytes % 2) 0 r; alike = eqb-true local_names kinds p }
    go true p true q false r e = absurd (omega (arith, e))
    go true p false q z r e = absurd (omega (arith, e))
    go false p y q z r e = absurd (omega (arith, e))

-- A name's strings, in groups.
pub contents-count : (vs : Values) → length (contents_all vs) ≡ count_of vs
unfolding contents_all count_of
contents-count nil = refl
contents-count (more v vs) = ap suc (contents-count vs)

pub names-strings : (vs : Values) → name_strings (contents_all vs) ≡ code_strings vs
unfolding name_strings contents_all code_strings
names-strings nil = refl
names-strings (more v vs) = ap (λ z. code_string (contents_of v) ++ z) (names-strings vs)

none_with : (bit : ℕ) (ks : List ℕ) → with_bit bit ks [] ≡ []
unfolding with_bit
none_with bit [] = refl
none_with bit (k ∷ ks) = refl

no_groups : (ks : List ℕ) → groups ks [] ≡ []
unfolding groups apart
no_groups ks = rw (none_with local_bit ks, none_with cell_bit ks, none_with free_bit ks) refl

module _ (t : Tables) where
  -- The names of a code.

  strings-emit : (ns : List ℕ) (names : List (List ℕ)) (a : ℕ) → Hold t ns names → (0 < length names → 0 < a) → Emits (each (string_part t a) ns) (name_strings names)
  unfolding each name_strings
  strings-emit [] [] a h l = refl
  strings-emit [] (x ∷ xs) a h l = absurd h
  strings-emit (n ∷ ns) [] a h l = absurd h
  strings-emit (n ∷ ns) (x ∷ xs) zero h l = absurd (omega (arith, l (omega arith)))
  strings-emit (n ∷ ns) (x ∷ xs) (suc a) h l =
      emits_then (string_part t (suc a) n) (each (string_part t (suc a)) ns) (code_string x) (name_strings xs)
      (subst (λ y. Emits (emit (code_string y) ended) (code_string x)) (sym h.0) (emits_own (code_string x)))
      (strings-emit ns xs (suc a) h.1 (λ q. omega arith))

  texts_hold : (vs : Values) → AllTexts vs → (kids : List ℕ) → MeanAll (InTables t) kids vs → Hold t kids (contents_all vs)
  unfolding contents_all contents_of Means
  texts_hold nil ts kids m = rw m tt
  texts_hold (more v vs) ts kids m =
      let q : Means (InTables t) m.0 (text ts.0) = rw ts.1 at m.3 in
      rw (m.2, ts.1) (text_held t m.0 q.0 ts.0 q.1, texts_hold vs ts.2 m.1 m.4)

  -- so many nodes that hold names, as a tuple of code strings
  tuple_emits : (n : ℕ) (ns : List ℕ) (names : List (List ℕ)) (a : ℕ) → 0 < a → Hold t ns names → (0 < length names → 1 < a)
      → Emits (names_part t a n ns) (0x28 ∷ bytes32 (length names) ++ name_strings names)
  tuple_emits n ns names zero p h l = absurd (omega arith)
  tuple_emits n ns names (suc a) p h l =
      let e : suc a - 1 ≡ a = omega arith in
      rw (e, hold_length t ns names h) (name_strings names, refl, strings-emit ns names a h (λ q. omega (arith, l q)))

  deep-enough : (vs : Values) → AllTexts vs → (a : ℕ) → suc (depth_all vs) ≤ a → 0 < length (contents_all vs) → 1 < a
  unfolding contents_all depth_of
  deep-enough nil ts a h l = absurd (omega (arith, l))
  deep-enough (more v vs) ts a h l = let d = ap depth_of ts.1 in omega (arith, d)

  groups-enough : (kinds : List ℕ) (vs : Values) → AllTexts vs → (a : ℕ) → suc (depth_all vs) ≤ a → 0 < length (groups kinds (contents_all vs)) → 1 < a
  unfolding contents_all
  groups-enough kinds nil ts a h l = absurd (omega (arith, l, ap length (no_groups kinds)))
  groups-enough kinds (more v vs) ts a h l = deep-enough (more v vs) ts a h (omega arith)

  -- A part, whose bytes as any value are known.
  part_emits : (m : Manner) (rule : Rule) (v : Value) (n a : ℕ) (kinds : List ℕ) → Allows m rule → Suits rule v → Means (InTables t) n v → depth_of v ≤ a
      → Emits (writing a t n) (written_as v) → Emits (part t a (writing a t) kinds m n) (part_written m kinds (written_as v) v)
  unfolding Means members_of contents_of depth_of
  part_emits as_value rule v n a kinds al f m h e = e
  part_emits writer.as_names as_names v n a kinds al f m h e =
      let q : Means (InTables t) n (sequence 0x28 f.0) = rw f.1 at m in
      let d = ap depth_of f.1 in
      let x = tuple_emits n q.0 (contents_all f.0) a (omega (arith, d)) (texts_hold f.0 f.2 q.0 q.2) (deep-enough f.0 f.2 a (omega (arith, d))) in
      rw (q.1.held, f.1) (rw (contents-count f.0, names-strings f.0) at x)
  part_emits as_locals as_names v n a kinds al f m h e =
      let q : Means (InTables t) n (sequence 0x28 f.0) = rw f.1 at m in
      let d = ap depth_of f.1 in
      rw (q.1.held, f.1)
      (tuple_emits n (in_groups t kinds q.0) (groups kinds (contents_all f.0)) a (omega (arith, d)) (groups_hold t kinds q.0 (contents_all f.0) (texts_hold f.0 f.2 q.0 q.2))
      (groups-enough kinds f.0 f.2 a (omega (arith, d))))
  part_emits writer.as_string as_string v n zero kinds al f m h e =
      let d = ap depth_of f.1 in
      absurd (omega (arith, d))
  part_emits writer.as_string as_string v n (suc a) kinds al f m h e =
      let q : Means (InTables t) n (text f.0) = rw f.1 at m in
      rw f.1 (subst (λ x. Emits (emit (code_string x) ended) (code_string f.0)) (sym (text_held t n q.0 f.0 q.1)) (emits_own (code_string f.0)))
  part_emits writer.as_names whatever v n a kinds al f m h e = absurd al
  part_emits writer.as_names as_bytes v n a kinds al f m h e = absurd al
  part_emits writer.as_names as_tuple v n a kinds al f m h e = absurd al
  part_emits writer.as_names as_string v n a kinds al f m h e = absurd al
  part_emits as_locals whatever v n a kinds al f m h e = absurd al
  part_emits as_locals as_bytes v n a kinds al f m h e = absurd al
  part_emits as_locals as_tuple v n a kinds al f m h e = absurd al
  part_emits as_locals as_string v n a kinds al f m h e = absurd al
  part_emits writer.as_string whatever v n a kinds al f m h e = absurd al
  part_emits writer.as_string as_bytes v n a kinds al f m h e = absurd al
  part_emits writer.as_string as_tuple v n a kinds al f m h e = absurd al
  part_emits writer.as_string as_names v n a kinds al f m h e = absurd al

  -- The parts before the first line, in their manners, and the tables after it, as any values.
  abbrev MannersAre : ℕ → List Manner → Type 0
  MannersAre i [] = Unit
  MannersAre i (m ∷ ms) = (m ≡ get_or manners i as_value) × MannersAre (i + 1) ms

  eight-manners : MannersAre 0 (take line_part manners)
  unfolding manners
  eight-manners = (refl, (refl, (refl, (refl, (refl, (refl, (refl, (refl, tt))))))))

  eight-long : length (take line_part manners) ≡ line_part
  unfolding manners
  eight-long = refl

  abbrev AllPlain : List Manner → Type 0
  AllPlain [] = Unit
  AllPlain (m ∷ ms) = (m ≡ as_value) × AllPlain ms

  two-plain : AllPlain (drop line_part manners)
  unfolding manners
  two-plain = (refl, (refl, tt))

  two-manners : length (drop line_part manners) ≡ 2
  unfolding manners
  two-manners = refl

  kinds_held : (kids : List ℕ) (parts : Values) → MeanAll (InTables t) (take line_part kids) parts → count_of parts ≡ line_part → SuitFrom 0 parts
      → stores.contents_of t (get_or kids kinds_part 0) ≡ contents_of (value_at parts kinds_part)
  unfolding Means contents_of rules
  kinds_held kids parts m e f =
      let s = suit_at 4 0 parts f (omega (arith, e)) in
      let n = mean_at (InTables t) 4 parts (take line_part kids) m (omega (arith, e)) in
      let q : Means (InTables t) (get_or (take line_part kids) 4 0) (bytes s.0) = rw s.1 at n in
      ap (stores.contents_of t) (sym (get_or-take line_part kids 4 0 (omega arith))) ∙ bytes_held t (get_or (take line_part kids) 4 0) q.0 s.0 q.1 ∙ sym (ap contents_of s.1)

  code_emits : (numbers : List ℕ) (parts : Values) (line : ℕ) (tables : Values) (kids : List ℕ) (word a : ℕ) → ProperCode numbers parts line tables → shown_line word ≡ line
      → MeanAll (InTables t) (take line_part kids) parts
      → ((kinds : List ℕ) → Emits (parts_as t a (writing a t) kinds (take line_part manners) (take line_part kids)) (written_parts kinds 0 parts))
      → ((kinds : List ℕ) → Emits (parts_as t a (writing a t) kinds (drop line_part manners) (drop line_part kids)) (written_all tables))
      → Emits (shaped (writing (suc a) t) (parted t a (writing a t)) (shape.code numbers word kids)) (written_as (code numbers parts line tables))
  unfolding written_as parted
  code_emits numbers parts line tables kids word a p sl m ps ts =
      let kinds = stores.contents_of t (get_or kids kinds_part 0) in
      let k = kinds_held kids parts m p.eight p.parts_suit in
      let P = written_parts (contents_of (value_at parts kinds_part)) 0 parts in
      let T = written_all tables in (
        P ++ (bytes32 line ++ T),
        ap (λ z. 0x63 ∷ z) (append_assoc (words numbers ++ P) (bytes32 line) T ∙ append_assoc (words numbers) P (bytes32 line ++ T)),
        emits_then (parts_as t a (writing a t) kinds (take line_part manners) (take line_part kids)) (emit (bytes32 (shown_line word)) (parts_as t a (writing a t) kinds (drop line_part manners) (drop line_part kids))) P (bytes32 line ++ T)
            (subst (λ z. Emits (parts_as t a (writing a t) kinds (take line_part manners) (take line_part kids)) (written_parts z 0 parts)) k (ps kinds))
            (T, ap (λ z. bytes32 z ++ T) (sym sl), ts kinds),
      )

  mutual
    unfolding Means written_as depth_of Proper SuitFrom count_of each parts_as

    pub emits_written : (v : Value) (n a : ℕ) → Means (InTables t) n v → Proper v → depth_of v ≤ a → Emits (writing a t n) (written_as v)
    emits_written (single letter) n zero m p h = absurd (omega arith)
    emits_written (single letter) n (suc a) m p h = rw (plain-writing t a n m.0 (shape.single letter) m.1 (omega arith)).1 (emits_own (letter ∷ []))
    emits_written (integer z) n zero m p h = absurd (omega arith)
    emits_written (integer z) n (suc a) m p h = rw (plain-writing t a n m.0 (shape.integer z) m.1 (omega arith)).1 (emits_own _)
    emits_written (float bits) n zero m p h = absurd (omega arith)
    emits_written (float bits) n (suc a) m p h = rw (plain-writing t a n m.0 (shape.float bits) m.1 (omega arith)).1 (emits_own _)
    emits_written (complex real imaginary) n zero m p h = absurd (omega arith)
    emits_written (complex real imaginary) n (suc a) m p h = rw (plain-writing t a n m.0 (shape.complex real imaginary) m.1 (omega arith)).1 (emits_own _)
    emits_written (bytes contents) n zero m p h = absurd (omega arith)
    emits_written (bytes contents) n (suc a) m p h = rw (plain-writing t a n m.0 (shape.bytes contents) m.1 (omega arith)).1 (emits_own _)
    emits_written (text contents) n zero m p h = absurd (omega arith)
    emits_written (text contents) n (suc a) m p h = rw (plain-writing t a n m.0 (shape.text contents) m.1 (omega arith)).1 (emits_own _)
    emits_written (sequence letter vs) n zero m p h = absurd (omega arith)
    emits_written (sequence letter vs) n (suc a) m p h =
        rw ((plain-writing t a n m.0 (shape.sequence letter m.0) m.1 (omega arith)).1, mean_all_count (InTables t) vs m.0 m.2)
        (written_all vs, refl, emits_all vs m.0 a m.2 p.2 (omega arith))
    emits_written (slice vs) n zero m p h = absurd (omega arith)
    emits_written (slice vs) n (suc a) m p h =
        rw (plain-writing t a n m.0 (shape.slice m.0) m.1 (omega arith)).1 (written_all vs, refl, emits_all vs m.0 a m.2 p.1 (omega arith))
    emits_written (dict vs) n zero m p h = absurd (omega arith)
    emits_written (dict vs) n (suc a) m p h =
        rw (plain-writing t a n m.0 (shape.dict m.0) m.1 (omega arith)).1 (
          written_all vs ++ 0x30 ∷ [],
          refl,
          emits_then (each (writing a t) m.0) (emit (0x30 ∷ []) ended) (written_all vs) (0x30 ∷ []) (emits_all vs m.0 a m.2 p.1 (omega arith)) (emits_own (0x30 ∷ [])),
        )
    emits_written (code numbers parts line tables) n zero m p h = absurd (omega arith)
    emits_written (code numbers parts line tables) n (suc zero) m p h = absurd (omega arith)
    emits_written (code numbers parts line tables) n (suc (suc a)) m p h =
        rw (code-writing t a n m.0 (shape.code numbers m.1 m.0) m.2)
        (code_emits numbers parts line tables m.0 m.1 a p.0 m.3 m.4
        (λ kinds. emits_parts parts 0 (take line_part manners) (take line_part m.0) a kinds m.4 p.1 p.0.parts_suit eight-manners (eight-long ∙ sym p.0.eight) (omega arith))
        (λ kinds. emits_plain tables (drop line_part manners) (drop line_part m.0) a kinds m.5 p.2 two-plain (two-manners ∙ sym p.0.two) (omega arith)))

    emits_all : (vs : Values) (kids : List ℕ) (a : ℕ) → MeanAll (InTables t) kids vs → ProperAll vs → depth_all vs ≤ a → Emits (each (writing a t) kids) (written_all vs)
    emits_all nil kids a m p h = rw m refl
    emits_all (more v vs) kids a m p h =
        rw m.2
        (emits_then (writing a t m.0) (each (writing a t) m.1) (written_as v) (written_all vs) (emits_written v m.0 a m.3 p.0 (omega arith))
        (emits_all vs m.1 a m.4 p.1 (omega arith)))

    emits_parts : (vs : Values) (i : ℕ) (ms : List Manner) (kids : List ℕ) (a : ℕ) (kinds : List ℕ) → MeanAll (InTables t) kids vs → ProperAll vs → SuitFrom i vs → MannersAre i ms → length ms ≡ count_of vs → depth_all vs ≤ a
        → Emits (parts_as t a (writing a t) kinds ms kids) (written_parts kinds i vs)
    emits_parts nil i [] kids a kinds m p f ma l h = refl
    emits_parts nil i (x ∷ ms) kids a kinds m p f ma l h = absurd (omega (arith, l))
    emits_parts (more v vs) i [] kids a kinds m p f ma l h = absurd (omega (arith, l))
    emits_parts (more v vs) i (x ∷ ms) kids a kinds m p f ma l h =
        rw (m.2, ma.0)
        (emits_then (part t a (writing a t) kinds (get_or manners i as_value) m.0) (parts_as t a (writing a t) kinds ms m.1) (part_written (get_or manners i as_value) kinds (written_as v) v) (written_parts kinds (i + 1) vs)
        (part_emits (get_or manners i as_value) (get_or rules i whatever) v m.0 a kinds (manner_allows i) f.0 m.3 (omega arith) (emits_written v m.0 a m.3 p.0 (omega arith)))
        (emits_parts vs (i + 1) ms m.1 a kinds m.4 p.1 f.1 ma.1 (omega (arith, l)) (omega arith)))

    emits_plain : (vs : Values) (ms : List Manner) (kids : List ℕ) (a : ℕ) (kinds : List ℕ) → MeanAll (InTables t) kids vs → ProperAll vs → AllPlain ms → length ms ≡ count_of vs → depth_all vs ≤ a
        → Emits (parts_as t a (writing a t) kinds ms kids) (written_all vs)
    emits_plain nil [] kids a kinds m p pl l h = refl
    emits_plain nil (x ∷ ms) kids a kinds m p pl l h = absurd (omega (arith, l))
    emits_plain (more v vs) [] kids a kinds m p pl l h = absurd (omega (arith, l))
    emits_plain (more v vs) (x ∷ ms) kids a kinds m p pl l h =
        rw (m.2, pl.0)
        (emits_then (writing a t m.0) (parts_as t a (writing a t) kinds ms m.1) (written_as v) (written_all vs) (emits_written v m.0 a m.3 p.0 (omega arith))
        (emits_plain vs ms m.1 a kinds m.4 p.1 pl.1 (omega (arith, l)) (omega arith)))
