-- Names: a code string at its level, a tuple of names, and the names of a group one after another. Assumes nothing.
use mathlib.Core.Path.{◌≡◌, refl, sym, ap, subst, ◌∙◌}
use Prim.Native.Nat.{ℕ, zero, suc, ◌+◌, ◌-◌, ◌≤◌, ◌<◌}
use native.Mathlib.Omega.{arith}
use mathlib.Core.Bool.{Bool, true, false, cond}
use mathlib.Core.Option.{Option, none, some}
use mathlib.Core.List.{List, ◌∷◌, ◌++◌}
use lib.ListN.{length, get_or, take, drop, length-append}
use lib.Seq.{slice}
use Rattle.refusals.specs.Faults.{fault}
use Rattle.refusals.specs.declared.Refusal.TheVariants.{TooDeep}
use Rattle.localsplus.specs.Kind.{local_bit, cell_bit, free_bit}
use Rattle.grammar.specs.Reading.{Answer}
use Rattle.grammar.specs.Letters.{is_tuple}
use Rattle.grammar.specs.Fields.{contents}
use Rattle.grammar.specs.State.{entry_at}
use Rattle.grammar.specs.Steps.{as_names}
use Rattle.grammar.specs.Record.{Tables, chain, bad_string, node_of, suited, names, whole, look, holds}
use Rattle.writing.specs.Writing.{Writing, ended, emit, then, each, into}
use Rattle.writing.specs.Canonical.{bytes32, code_string}
use Rattle.writing.specs.Names.{contents_of, in_groups}
use Rattle.writing.specs.Steps.{levelled, string_part, names_part, some_of, kids_of}
use Rattle.grammar.proofs.Tests.{never, none-some, same_some}
use Rattle.grammar.proofs.Passed.{whole-some, chain_length, first_string}
use Rattle.writing.proofs.Into.{each_append}
use Rattle.output.specs.Puts.{Wrote, Open, Puts}
use Rattle.cellnames.specs.declared.Locals.{Locals}
use Rattle.chains.specs.Chained.{is_some, string_at}
use Rattle.writecheck.specs.Looking.{Held}
use Rattle.cellnames.specs.Groups.{or_none, names_in, kinds_in, locals_in, in_group, group_from, group_in, Listed}
use Rattle.writecheck.proofs.Codes.{look-plain}
use Rattle.cellnames.proofs.Groups.{Along, along_none, Next, along_next, along_on, along_end, groups_are}
use Rattle.underway.specs.Onward.{Onward}
use Rattle.underway.specs.Rows.{kids_from}
use Rattle.writenames.specs.Names.{Localed}
use Rattle.writenames.specs.Groups.{wrote_of, CountedTo, Groups}
use Rattle.writenames.specs.declared.Grouped.{Grouped}
use Rattle.underway.proofs.Under.{start, left_as, done, refused_in, written_in, puts_equal, puts_open, last}
use Rattle.std.specs.Int.{from_bool}
use Rattle.std.specs.Prelude.{Result, Ok, Err}
use Rattle.refusals.specs.declared.Fault.{Fault}

-- A level.

pub no_level : (a n : ℕ) (w : Writing) {o : List ℕ} {at : ℕ} → a ≡ 0 → {stop : Fault} → stop ≡ fault TooDeep n → Puts (levelled a n w) at o (Err stop) o
unfolding into
no_level a n w {o} {at} e is = rw (e, is) (record { same = refl; exact = refl })

pub level : (a n : ℕ) (w : Writing) → 0 < a → levelled a n w ≡ w
level zero n w h = absurd (omega arith)
level (suc a) n w h = refl

-- a code string of a node whose numbers were read
pub string-put : (t : Tables) (a v : ℕ) {p m : ℕ} {at : ℕ} {o o' : List ℕ} {r : Wrote} → 0 < a → p ≡ (node_of t v).place → m ≡ (node_of t v).size
    → Puts (emit (code_string (contents t.input p m)) ended) at o r o' → Puts (string_part t a v) at o r o'
string-put t a v {p} {m} h ep em k =
    puts_equal k (level a v (emit (code_string (contents t.input (node_of t v).place (node_of t v).size)) ended) h
    ∙ ap (λ x. emit (code_string (contents t.input x (node_of t v).size)) ended) (sym ep)
    ∙ ap (λ x. emit (code_string (contents t.input p x)) ended) (sym em))

-- Names that are sound strings.

abbrev pub Texts : Tables → List ℕ → Type 0
Texts t vs = bad_string t vs ≡ none

pub text-here : (t : Tables) (v : ℕ) (vs : List ℕ) → Texts t (v ∷ vs) → string_at t.input t.nodes t.used_nodes v ≡ true
text-here t v vs e = (first_string t v vs e).0

pub texts_later : (t : Tables) (v : ℕ) (vs : List ℕ) → Texts t (v ∷ vs) → Texts t vs
texts_later t v vs e = (first_string t v vs e).1

-- What a part that must be a tuple of names is, by its count and its first entry.
pub record Tuple (t : Tables) (v count first : ℕ) : Type 0 where
  pub chained : is_some (chain t count first) ≡ true
  pub texts : Texts t (kids_from t count first)
  pub are : kids_of t v ≡ kids_from t count first
  pub long : length (kids_from t count first) ≡ count

tuple_of : (t : Tables) (v : ℕ) → suited t as_names v (whole t v) ≡ none → Tuple t v (node_of t v).count (node_of t v).first
tuple_of t v h = go (whole t v) refl h
  where
    tupled : (b : Bool) (kids : List ℕ) → names t v b kids ≡ none → (b ≡ true) × Texts t kids
    tupled true kids e = (refl, e)
    tupled false kids e = none-some (sym e)

    letter_not : (l : ℕ) → is_tuple l ≡ true → l ≡ 0x63 → ⊥
    letter_not l e f = let g : is_tuple 0x63 ≡ true = sym (ap is_tuple f) ∙ e in never g

    go : (o : Option (List ℕ)) → whole t v ≡ o → suited t as_names v o ≡ none → Tuple t v (node_of t v).count (node_of t v).first
    go none q h = none-some (sym h)
    go (some kids) q h =
        let w = whole-some t v kids q in
        let b = tupled (is_tuple (node_of t v).letter) kids h in
        let held = look-plain t v kids q (letter_not (node_of t v).letter b.0) in
        let e : kids_from t (node_of t v).count (node_of t v).first ≡ kids = ap or_none w.1 in
        record {
          chained = ap is_some w.1;
          texts = ap (bad_string t) e ∙ b.1;
          are = ap (some_of t v) (looks t v held w.1) ∙ sym e;
          long = ap length e ∙ chain_length t (node_of t v).count (node_of t v).first kids w.1;
        }
      where
        looks : (t : Tables) (v : ℕ) {kids : List ℕ} (k : Held t v) → chain t (node_of t v).count (node_of t v).first ≡ some kids → look t v ≡ holds kids
        looks t v {kids} k e = k.holds-kids ∙ ap holds (same_some (sym k.chained ∙ e))

pub tuple_at : (t : Tables) (v : ℕ) {count first : ℕ} → suited t as_names v (whole t v) ≡ none → count ≡ (node_of t v).count → first ≡ (node_of t v).first
    → Tuple t v count first
tuple_at t v {count} {first} h ec ef =
    subst (λ c. Tuple t v c first) (sym ec) (subst (λ f. Tuple t v (node_of t v).count f) (sym ef) (tuple_of t v h))

-- a tuple of so many names, its head and then its names
pub tuple-parts : (t : Tables) (a v count : ℕ) (vs : List ℕ) → 0 < a → length vs ≡ count
    → names_part t a v vs ≡ then (emit (0x28 ∷ bytes32 count) ended) (each (string_part t (a - 1)) vs)
unfolding then
tuple-parts t a v count vs h n =
    level a v (emit (0x28 ∷ bytes32 (length vs)) (each (string_part t (a - 1)) vs)) h
    ∙ ap (λ c. emit (0x28 ∷ bytes32 c) (each (string_part t (a - 1)) vs)) n

-- the tuple of a part, under way
pub tuple_way : (t : Tables) (a v : ℕ) {count first : ℕ} {o : List ℕ} {at : ℕ} → 0 < a → Tuple t v count first → at ≤ length o
    → Onward o at (names_part t a v (kids_of t v)) o at (then (emit (0x28 ∷ bytes32 count) ended) (each (string_part t (a - 1)) (kids_from t count first)))
tuple_way t a v {count} {first} h k l =
    left_as (start l) (ap (names_part t a v) k.are ∙ tuple-parts t a v count (kids_from t count first) h k.long)

-- local names, with their kinds
abbrev pub in_locals : Tables → Locals → List ℕ
in_locals t l = in_groups t (kinds_in t l) (names_in t l)

pub listed : (t : Tables) (kinds v : ℕ) {count first place : ℕ} → Localed t kinds v → count ≡ (node_of t v).count → first ≡ (node_of t v).first → place ≡ (node_of t kinds).place
    → Listed t (record { first = first; count = count; kinds = place })
listed t kinds v {count} {first} {place} k ec ef ep =
    let u = tuple_at t v k.tuple ec ef in
    record { chained = u.chained; fine = u.texts; kinds = omega (arith, k.within, k.even) }

pub locals_part_lem : (t : Tables) (a kinds v many : ℕ) {count first place : ℕ} → 0 < a → Localed t kinds v → count ≡ (node_of t v).count → first ≡ (node_of t v).first
    → place ≡ (node_of t kinds).place → many ≡ length (in_locals t (record { first = first; count = count; kinds = place }))
    → names_part t a v (in_groups t (contents_of t kinds) (kids_of t v))
    ≡ emit (0x28 ∷ bytes32 many) (each (string_part t (a - 1)) (in_locals t (record { first = first; count = count; kinds = place })))
unfolding then
locals_part_lem t a kinds v many {count} {first} {place} h k ec ef ep em =
    let u = tuple_at t v k.tuple ec ef in
    let w : Locals = record { first = first; count = count; kinds = place } in
    let e : contents_of t kinds ≡ kinds_in t w =
    sym (ap (λ p. contents t.input p count) ep ∙ ap (contents t.input (node_of t kinds).place) (ec ∙ sym k.even)) in
    ap (λ ks. names_part t a v (in_groups t ks (kids_of t v))) e ∙ ap (λ ns. names_part t a v (in_groups t (kinds_in t w) ns)) u.are
    ∙ tuple-parts t a v many (in_locals t w) h (sym em)

-- Names that are written and counted.

pub counted_as : {r : Result Grouped Fault} {many : ℕ} {names : Grouped} → CountedTo many r → r ≡ Ok names → names.counted ≡ many
counted_as k e = rw e at k

module _ (f : ℕ → Writing) (xs : List ℕ) {counted at : ℕ} {o₀ o₁ : List ℕ} {r : Result Grouped Fault} (k : Groups f xs counted at o₀ r o₁) (h : Open at o₀) where
  behind : (ys : List ℕ) → Onward o₀ at (each f (xs ++ ys)) o₀ at (then (each f xs) (each f ys))
  behind ys = left_as (start h.inside) (each_append f xs ys)

  -- refused, they are so with others behind them
  pub groups-refused : (ys : List ℕ) {stop : Fault} → r ≡ Err stop → Groups f (xs ++ ys) counted at o₀ (Err stop) o₁
  groups-refused ys is = record { puts = refused_in (each f ys) (behind ys) k.puts (ap wrote_of is); count = tt }

  module _ {names : Grouped} (is : r ≡ Ok names) where
    -- done, the output can be written on, and others can come behind them
    pub groups_open : Open names.at o₁
    groups_open = puts_open h k.puts (ap wrote_of is)

    pub groups-count : names.counted ≡ counted + length xs
    groups-count = counted_as k.count is

    pub groups-then : (ys : List ℕ) {r' : Result Grouped Fault} {o₂ : List ℕ} → Groups f ys names.counted names.at o₁ r' o₂ → Groups f (xs ++ ys) counted at o₀ r' o₂
    groups-then ys {r'} k' =
        let e : names.counted + length ys ≡ counted + length (xs ++ ys) = omega (arith, groups-count, length-append xs ys) in
        record { puts = last (written_in (behind ys) k.puts (ap wrote_of is)) k'.puts; count = subst (λ m. CountedTo m r') e k'.count }

-- the three groups are those of the local names
pub groups_all : (t : Tables) (l : Locals) (f : ℕ → Writing) {counted at : ℕ} {o o' : List ℕ} {r : Result Grouped Fault}
    → Groups f (group_in t l local_bit ++ group_in t l cell_bit ++ group_in t l free_bit) counted at o r o' → Groups f (in_locals t l) counted at o r o'
groups_all t l f {counted} {at} {o} {o'} {r} k = subst (λ ns. Groups f ns counted at o r o') (sym (groups_are t l)) k

-- The names of a group.

each_if : (f : ℕ → Writing) (b : Bool) (v : ℕ) (vs : List ℕ) → each f (cond b (v ∷ vs) vs) ≡ then (cond b (f v) ended) (each f vs)
unfolding each then
each_if f true v vs = refl
each_if f false v vs = refl

count_if : (n : ℕ) (b : Bool) (v : ℕ) (vs : List ℕ) → n + cond b 1 0 + length vs ≡ n + length (cond b (v ∷ vs) vs)
count_if n true v vs = omega arith
count_if n false v vs = omega arith

module _ (t : Tables) (l : Locals) (bit : ℕ) (f : ℕ → Writing) (counted : ℕ) (o₀ : List ℕ) (at : ℕ) where
  abbrev group : List ℕ → List ℕ → List ℕ
  group ks ns = group_from t (locals_in t l) bit ks ns

  abbrev pub whole_group : Writing
  whole_group = each f (group_in t l bit)

  -- what those that are left come to: the answer, and the count
  abbrev pub comes_to : List ℕ → (p n : ℕ) → List ℕ → List ℕ → Answer (List ℕ) × ℕ
  comes_to o p n ks ns = (into (length o₀) (take p o) (each f (group ks ns)), n + length (group ks ns))

  abbrev pub goal : Answer (List ℕ) × ℕ
  goal = comes_to o₀ at counted (kinds_in t l) (names_in t l)

  pub record Grouping (o : List ℕ) (i e p n : ℕ) : Type 0 where
    pub same : length o ≡ length o₀
    pub ahead : at ≤ p
    pub inside : p ≤ length o₀
    pub kept : drop p o ≡ drop p o₀
    pub most : n ≤ counted + i
    pub way : Along t l (comes_to o p n) goal i e

  pub grouping_none : Listed t l → at ≤ length o₀ → Grouping o₀ 0 l.first at counted
  grouping_none k h =
      record { same = refl; ahead = omega arith; inside = h; kept = refl; most = omega arith; way = along_none t l (comes_to o₀ at counted) k }

  pub member_next : {o : List ℕ} {i e p n : ℕ} (v : ℕ) → Listed t l → Grouping o i e p n → i < l.count → v ≡ (entry_at t.entries e).child
      → Next t l (comes_to o p n) goal i e v
  member_next {o} {i} {e} {p} {n} v k g h is = along_next t l (comes_to o p n) v k g.way h is

  module _ {o : List ℕ} {i e p n v : ℕ} (g : Grouping o i e p n) (x : Next t l (comes_to o p n) goal i e v) {b : Bool}
      (tells : b ≡ in_group t (locals_in t l) bit (get_or t.input (l.kinds + i) 0) v) where
    abbrev later : List ℕ
    later = slice (l.kinds + (i + 1)) (l.kinds + l.count) t.input

    turned : Onward o₀ at whole_group o p (then (cond b (f v) ended) (each f (group later x.rest)))
    unfolding group_from
    turned =
        record {
          same = g.same;
          ahead = g.ahead;
          inside = g.inside;
          kept = g.kept;
          comes =
              ap (into (length o₀) (take p o))
              (ap (λ y. then (cond y (f v) ended) (each f (group later x.rest))) tells
              ∙ sym (each_if f (in_group t (locals_in t l) bit (get_or t.input (l.kinds + i) 0) v) v (group later x.rest)))
              ∙ ap (λ z. z.0) x.comes;
        }

    pub member-refused : {o' : List ℕ} {r : Wrote} {stop : Fault} → Puts (cond b (f v) ended) p o r o' → r ≡ Err stop
        → Groups f (group_in t l bit) counted at o₀ (Err stop) o'
    member-refused put is = record { puts = refused_in (each f (group later x.rest)) turned put is; count = tt }

    pub member_more : {o' : List ℕ} {r : Wrote} {a e' m : ℕ} → Puts (cond b (f v) ended) p o r o' → r ≡ Ok a → (m ≡ cond b 1 0) × (m ≤ 1) → i < l.count
        → e' ≡ (entry_at t.entries e).next → Grouping o' (i + 1) e' a (n + m)
    unfolding group_from
    member_more {o'} {r} {a} {e'} {m} put is one h on =
        let w = written_in turned put is in
        let Wrote-so = w.comes ∙ sym (ap (λ z. z.0) x.comes) in
        let counted_so : n + m + length (group later x.rest) ≡ n + length (group (get_or t.input (l.kinds + i) 0 ∷ later) (v ∷ x.rest)) =
        ap (λ k. n + k + length (group later x.rest)) (one.0 ∙ ap (λ y. cond y 1 0) tells)
        ∙ count_if n (in_group t (locals_in t l) bit (get_or t.input (l.kinds + i) 0) v) v (group later x.rest) in
        record {
          same = w.same;
          ahead = w.ahead;
          inside = w.inside;
          kept = w.kept;
          most = omega (arith, g.most, one.1);
          way = along_on t l (comes_to o p n) (comes_to o' a (n + m)) x h on (λ j. (Wrote-so j, counted_so j));
        }

  pub grouping_all : {o : List ℕ} {i e p n : ℕ} → Grouping o i e p n → l.count ≤ i → Groups f (group_in t l bit) counted at o₀ (Ok (record { at = p; counted = n })) o
  unfolding group_from each
  grouping_all {o} {i} {e} {p} {n} g h =
      let z = along_end t l (comes_to o p n) g.way h in
      let m : n + 0 ≡ counted + length (group_in t l bit) = ap (λ y. y.1) z in
      record {
        puts = done (record { same = g.same; ahead = g.ahead; inside = g.inside; kept = g.kept; comes = ap (λ y. y.0) z });
        count = omega (arith, m);
      }

-- a name counts one if it is
pub counts_one : {m : ℕ} (b : Bool) → m ≡ from_bool b → (m ≡ cond b 1 0) × (m ≤ 1)
counts_one true e = (e, omega (arith, e))
counts_one false e = (e, omega (arith, e))

-- a name that is in its group, or not
pub member_in : (b : Bool) {w : Writing} {at : ℕ} {o o' : List ℕ} {r : Wrote} → b ≡ true → Puts w at o r o' → Puts (cond b w ended) at o r o'
member_in b {w} f k = puts_equal k (ap (λ x. cond x w ended) f)

pub member_out : (b : Bool) (w : Writing) {at : ℕ} {o : List ℕ} → b ≡ false → at ≤ length o → Puts (cond b w ended) at o (Ok at) o
member_out b w f h = puts_equal (done (start h)) (ap (λ x. cond x w ended) f)
