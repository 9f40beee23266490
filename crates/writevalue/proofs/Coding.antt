-- The parts of a code, one after another, with the first line where it stands. Assumes nothing.
use mathlib.Core.Path.{◌≡◌, refl, sym, ap, subst, ◌∙◌}
use Prim.Native.Nat.{ℕ, zero, suc, ◌+◌, ◌-◌, ◌%◌, ◌≤◌, ◌<◌}
use native.Mathlib.Omega.{arith}
use mathlib.Core.Bool.{Bool, true, false, cond, ◌&&◌}
use mathlib.Core.Option.{none, some}
use mathlib.Core.List.{List, [], ◌∷◌}
use lib.ListN.{length, get_or}
use lib.Dec.{ltb, eqb}
use borrow.Author.Tests.{eqb-true}
use Rattle.grammar.specs.Letters.{is_string}
use Rattle.grammar.specs.Fields.{sum_at}
use Rattle.grammar.specs.State.{entry_at}
use Rattle.grammar.specs.Steps as rule
use Rattle.grammar.specs.Steps.{Rule, whatever, rules, kinds_part}
use Rattle.grammar.specs.Record.{Tables, unless, chain, whole, node_of, ruled, suited, bad_end}
use Rattle.writing.specs.Writing.{Writing, ended, emit, then}
use Rattle.writing.specs.Canonical.{bytes32, shown_line}
use Rattle.writing.specs.Names.{contents_of}
use Rattle.writing.specs.Steps as manner
use Rattle.writing.specs.Steps.{as_locals, manners, part, parts_as, parted, string_part, writing}
use Rattle.writing.proofs.Into.{then-then}
use Rattle.output.specs.Puts.{Wrote, Puts}
use Rattle.chains.specs.Chained.{string_at}
use Rattle.writecheck.specs.Looking.{after, part_of}
use Rattle.grammar.proofs.Tests.{none-some}
use Rattle.grammar.proofs.Passed as told
use Rattle.grammar.proofs.Passed.{unless_none, sound-ruled, CodeRuled, code-ruled, sound_at_lem, chain_length, fits-some, fits-sound, fits_at, looked_held}
use Rattle.chains.proofs.Chains.{onto, headed, chain_none}
use Rattle.writecheck.proofs.Codes.{part-of}
use Rattle.underway.specs.Onward.{Onward}
use Rattle.underway.specs.Rows.{row_of_node, line_of}
use Rattle.writevalue.specs.Heads.{Coded}
use Rattle.writevalue.specs.Parts.{lined_part, parts_from, PartIn}
use Rattle.writenames.specs.Names.{Localed}
use Rattle.underway.proofs.Under.{start, left_as, done, refused_in, written_in}
use Rattle.writevalue.proofs.Opening.{row_held}
use Rattle.std.specs.Prelude.{Ok, Err}
use Rattle.refusals.specs.declared.Fault.{Fault}

-- The parts in one row.

abbrev row : List Writing → Writing
row [] = ended
row (p ∷ ps) = then p (row ps)

abbrev before : List Writing → Writing → Writing
before [] w = w
before (p ∷ ps) w = then p (before ps w)

row-then : (ps : List Writing) (w : Writing) → then (row ps) w ≡ before ps w
unfolding then
row-then [] w = refl
row-then (p ∷ ps) w = then-then p (row ps) w ∙ ap (then p) (row-then ps w)

ten_parts : (t : Tables) (a line : ℕ) (vs : List ℕ) → length vs ≡ 10
    → parted t a (writing a t) line vs ≡ parts_from t a line (contents_of t (get_or vs kinds_part 0)) 0 vs
unfolding parted parts_as parts_from manners then
ten_parts t a line (v₀ ∷ v₁ ∷ v₂ ∷ v₃ ∷ v₄ ∷ v₅ ∷ v₆ ∷ v₇ ∷ v₈ ∷ v₉ ∷ []) e =
    let f = writing a t in
    let ks = contents_of t v₄ in
    row-then
    (f v₀ ∷ f v₁ ∷ part t a f ks manner.as_names v₂ ∷ part t a f ks as_locals v₃ ∷ f v₄ ∷ string_part t a v₅ ∷ string_part t a v₆ ∷ string_part t a v₇ ∷ [])
    (emit (bytes32 (shown_line line)) (then (f v₈) (then (f v₉) ended)))
ten_parts t a line [] e = absurd (omega arith)
ten_parts t a line (v₀ ∷ []) e = absurd (omega arith)
ten_parts t a line (v₀ ∷ v₁ ∷ []) e = absurd (omega arith)
ten_parts t a line (v₀ ∷ v₁ ∷ v₂ ∷ []) e = absurd (omega arith)
ten_parts t a line (v₀ ∷ v₁ ∷ v₂ ∷ v₃ ∷ []) e = absurd (omega arith)
ten_parts t a line (v₀ ∷ v₁ ∷ v₂ ∷ v₃ ∷ v₄ ∷ []) e = absurd (omega arith)
ten_parts t a line (v₀ ∷ v₁ ∷ v₂ ∷ v₃ ∷ v₄ ∷ v₅ ∷ []) e = absurd (omega arith)
ten_parts t a line (v₀ ∷ v₁ ∷ v₂ ∷ v₃ ∷ v₄ ∷ v₅ ∷ v₆ ∷ []) e = absurd (omega arith)
ten_parts t a line (v₀ ∷ v₁ ∷ v₂ ∷ v₃ ∷ v₄ ∷ v₅ ∷ v₆ ∷ v₇ ∷ []) e = absurd (omega arith)
ten_parts t a line (v₀ ∷ v₁ ∷ v₂ ∷ v₃ ∷ v₄ ∷ v₅ ∷ v₆ ∷ v₇ ∷ v₈ ∷ []) e = absurd (omega arith)
ten_parts t a line (v₀ ∷ v₁ ∷ v₂ ∷ v₃ ∷ v₄ ∷ v₅ ∷ v₆ ∷ v₇ ∷ v₈ ∷ v₉ ∷ v ∷ vs) e = absurd (omega arith)

few : (i : ℕ) → i < 10 → i < length rules
unfolding rules
few i h = h

part-within : (t : Tables) (r : Rule) (v : ℕ) → suited t r v (whole t v) ≡ none → (node_of t v).place + (node_of t v).size ≤ length t.input
part-within t r v e = (sound-ruled t.input (node_of t v) (sound_at_lem t v (fits-sound t r v e)).1).0

string_of : (t : Tables) (v : ℕ) → suited t rule.as_string v (whole t v) ≡ none → string_at t.input t.nodes t.used_nodes v ≡ true
string_of t v e =
    let w = fits-some t rule.as_string v (whole t v) e in
    ap (λ b. b && is_string (node_of t v).letter) (fits-sound t rule.as_string v e)
    ∙ unless_none (is_string (node_of t v).letter) v (sym (ap (suited t rule.as_string v) w.1) ∙ e)

after_next : (entries : List ℕ) (i e : ℕ) → after entries (i + 1) e ≡ onto entries (after entries i e)
unfolding after
after_next entries zero e = let z : 0 + 1 ≡ 1 = omega arith in refl
after_next entries (suc i) e =
    let z : suc i + 1 ≡ suc (i + 1) = omega arith in
    ap (λ k. after entries k e) z ∙ after_next entries i (onto entries e)

-- What a tested code tells.

even_end : (a b c : Bool) (n : ℕ) → unless (eqb (cond a (cond c (cond b 0 8) 18) 8) 0) n ≡ none → a ≡ true
even_end true b c n e = refl
even_end false b c n e = none-some (sym e)

abbrev pub all_parts : Tables → (node allowance : ℕ) → Writing
all_parts t n a = parted t a (writing a t) (line_of t n) (row_of_node t n)

-- the parts under way: those that are left are still to come
pub record Parting (t : Tables) (n a kinds line first : ℕ) (o₀ : List ℕ) (at : ℕ) (o : List ℕ) (i e p : ℕ) : Type 0 where
  pub within : i ≤ 10
  pub rest : List ℕ
  pub chained : chain t (10 - i) e ≡ some rest
  pub reached : e ≡ after t.entries i first
  pub way : Onward o₀ at (all_parts t n a) o p (parts_from t a line (contents_of t kinds) i rest)

module _ {t : Tables} {n : ℕ} (k : Coded t n) where
  abbrev kids : List ℕ
  kids = k.held.kids

  passed : told.Held t n kids
  passed = looked_held t n kids k.held.holds-kids

  ruled_so : CodeRuled t.input (node_of t n)
  ruled_so = code-ruled t.input (node_of t n) (sym (ap (ruled t.input (node_of t n)) k.code) ∙ (sound-ruled t.input (node_of t n) passed.own).1)

  pub line-within : (node_of t n).place + (node_of t n).size + 4 ≤ length t.input
  line-within = ruled_so.within

  ten : chain t 10 (node_of t n).first ≡ some kids
  ten = sym (ap (λ c. chain t c (node_of t n).first) ruled_so.ten) ∙ k.held.chained

  kinds-even : (node_of t (get_or kids 4 0)).size ≡ (node_of t (get_or kids 3 0)).count
  unfolding bad_end
  kinds-even =
      sym (eqb-true (node_of t (get_or kids 3 0)).count (node_of t (get_or kids 4 0)).size
      (even_end (eqb (node_of t (get_or kids 3 0)).count (node_of t (get_or kids 4 0)).size) (eqb ((node_of t (get_or kids 0 0)).size % 2) 0)
      (ltb (sum_at t.input (node_of t n).place) 4294967296) n (passed.good k.code).1))

  -- the part at each place fits its rule
  pub part-fits : (i : ℕ) → i < 10 → suited t (get_or rules i whatever) (get_or kids i 0) (whole t (get_or kids i 0)) ≡ none
  part-fits i h = fits_at t rules kids i (passed.good k.code).0 (few i h) (omega (arith, chain_length t 10 (node_of t n).first kids ten))

  pub part_is : (i e v : ℕ) {first : ℕ} → i < 10 → first ≡ (node_of t n).first → e ≡ after t.entries i first → v ≡ (entry_at t.entries e).child → v ≡ get_or kids i 0
  part_is i e v {first} h ef ee ev =
      let z : 10 ≡ i + suc (9 - i) = omega arith in
      ev ∙ ap (λ x. (entry_at t.entries x).child) (ee ∙ ap (after t.entries i) ef)
      ∙ sym (part-of t i (9 - i) (node_of t n).first kids (sym (ap (λ c. chain t c (node_of t n).first) z) ∙ ten))

  kinds-within : (node_of t (get_or kids 4 0)).place + (node_of t (get_or kids 4 0)).size ≤ length t.input
  kinds-within = part-within t (get_or rules 4 whatever) (get_or kids 4 0) (part-fits 4 (omega arith))

  pub part_in : {kinds i e v first : ℕ} → i < 10 → first ≡ (node_of t n).first → kinds ≡ part_of t.entries first 4 → e ≡ after t.entries i first
      → v ≡ (entry_at t.entries e).child → PartIn t kinds i v
  part_in {kinds} {i} {e} {v} {first} h ef ek ee ev =
      let is = part_is i e v h ef ee ev in
      let ks : kinds ≡ get_or kids 4 0 = part_is 4 (after t.entries 4 first) kinds (omega arith) ef refl ek in
      record {
        below = h;
        fits = ap (λ x. suited t (get_or rules i whatever) x (whole t x)) is ∙ part-fits i h;
        within = subst (λ x. (node_of t x).place + (node_of t x).size ≤ length t.input) (sym ks) kinds-within;
        even = λ three.
            ap (λ x. (node_of t x).size) ks ∙ kinds-even ∙ ap (λ x. (node_of t (get_or kids x 0)).count) (sym three) ∙ ap (λ x. (node_of t x).count) (sym is);
      }

  pub parting_none : {a kinds line first : ℕ} {o₀ : List ℕ} {at : ℕ} → first ≡ (node_of t n).first → kinds ≡ part_of t.entries first 4 → line ≡ line_of t n → at ≤ length o₀
      → Parting t n a kinds line first o₀ at o₀ 0 first at
  unfolding after
  parting_none {a} {kinds} {line} {first} ef ek el h =
      let ks : kinds ≡ get_or kids 4 0 = part_is 4 (after t.entries 4 first) kinds (omega arith) ef refl ek in
      record {
        within = omega arith;
        rest = kids;
        chained = ap (chain t 10) ef ∙ ten;
        reached = refl;
        way =
            left_as (start h)
            (ap (parted t a (writing a t) (line_of t n)) (row_held t n k.held) ∙ ten_parts t a (line_of t n) kids (chain_length t 10 (node_of t n).first kids ten)
            ∙ ap (λ x. parts_from t a (line_of t n) (contents_of t x) 0 kids) (sym ks) ∙ ap (λ x. parts_from t a x (contents_of t kinds) 0 kids) (sym el));
      }

-- the part that comes next
pub record PartTurn (t : Tables) (n a kinds line first : ℕ) (o₀ : List ℕ) (at : ℕ) (o : List ℕ) (i e p v : ℕ) : Type 0 where
  pub rest : List ℕ
  pub chained : chain t (10 - (i + 1)) (onto t.entries e) ≡ some rest
  pub reached : onto t.entries e ≡ after t.entries (i + 1) first
  pub way : Onward o₀ at (all_parts t n a) o p (then (lined_part t a line (contents_of t kinds) i v) (parts_from t a line (contents_of t kinds) (i + 1) rest))

module _ {t : Tables} {n a kinds line first : ℕ} {o₀ : List ℕ} {at : ℕ} where
  pub part-turn : {o : List ℕ} {i e p v : ℕ} → Parting t n a kinds line first o₀ at o i e p → i < 10 → v ≡ (entry_at t.entries e).child
      → PartTurn t n a kinds line first o₀ at o i e p v
  unfolding parts_from
  part-turn {o} {i} {e} {p} {v} w l is =
      let z : 10 - i ≡ suc (10 - (i + 1)) = omega arith in
      let d = headed t (10 - (i + 1)) e w.rest (sym (ap (λ c. chain t c e) z) ∙ w.chained) in
      let are : w.rest ≡ v ∷ d.rest = d.are ∙ ap (λ x. x ∷ d.rest) (sym is) in
      record {
        rest = d.rest;
        chained = d.more;
        reached = ap (onto t.entries) w.reached ∙ sym (after_next t.entries i first);
        way = left_as w.way (ap (parts_from t a line (contents_of t kinds) i) are);
      }

  pub part-refused : {o o' : List ℕ} {i e p v : ℕ} {stop : Fault} {r : Wrote} → PartTurn t n a kinds line first o₀ at o i e p v
      → Puts (lined_part t a line (contents_of t kinds) i v) p o r o' → r ≡ Err stop → Puts (all_parts t n a) at o₀ (Err stop) o'
  part-refused {i = i} x put is = refused_in (parts_from t a line (contents_of t kinds) (i + 1) x.rest) x.way put is

  pub part-more : {o o' : List ℕ} {i e e' p v b : ℕ} {r : Wrote} → PartTurn t n a kinds line first o₀ at o i e p v → i < 10 → e' ≡ (entry_at t.entries e).next
      → Puts (lined_part t a line (contents_of t kinds) i v) p o r o' → r ≡ Ok b → Parting t n a kinds line first o₀ at o' (i + 1) e' b
  part-more {i = i} x l on put is =
      record {
        within = omega arith;
        rest = x.rest;
        chained = ap (chain t (10 - (i + 1))) on ∙ x.chained;
        reached = on ∙ x.reached;
        way = written_in x.way put is;
      }

  pub parting_all : {o : List ℕ} {i e p : ℕ} → Parting t n a kinds line first o₀ at o i e p → 10 ≤ i → Puts (all_parts t n a) at o₀ (Ok p) o
  unfolding parts_from
  parting_all {o} {i} {e} {p} w h =
      let z : 10 - i ≡ 0 = omega arith in
      done (left_as w.way (ap (parts_from t a line (contents_of t kinds) i) (chain_none t e w.rest (sym (ap (λ c. chain t c e) z) ∙ w.chained))))

-- One part: the ninth comes behind the first line, and what no case names is written as a value.
pub line_first : (t : Tables) (a line : ℕ) (ks : List ℕ) (i v : ℕ) {x at : ℕ} {o : List ℕ} → i ≡ 8 → x ≡ shown_line line → at ≤ length o
    → Onward o at (lined_part t a line ks i v) o at (then (emit (bytes32 x) ended) (writing a t v))
unfolding manners then
line_first t a line ks i v {x} e f h = left_as (start h) (ap (λ j. lined_part t a line ks j v) e ∙ ap (λ y. emit (bytes32 y) (writing a t v)) (sym f))

pub value-part : (t : Tables) (a line : ℕ) (ks : List ℕ) (i v : ℕ) → i < 10 → (i ≡ 2 → ⊥) → (i ≡ 3 → ⊥) → (i ≡ 5 → ⊥) → (i ≡ 6 → ⊥) → (i ≡ 7 → ⊥) → (i ≡ 8 → ⊥)
    → lined_part t a line ks i v ≡ writing a t v
unfolding manners
value-part t a line ks zero v h n₂ n₃ n₅ n₆ n₇ n₈ = refl
value-part t a line ks (suc zero) v h n₂ n₃ n₅ n₆ n₇ n₈ = refl
value-part t a line ks (suc (suc zero)) v h n₂ n₃ n₅ n₆ n₇ n₈ = absurd (n₂ refl)
value-part t a line ks (suc (suc (suc zero))) v h n₂ n₃ n₅ n₆ n₇ n₈ = absurd (n₃ refl)
value-part t a line ks (suc (suc (suc (suc zero)))) v h n₂ n₃ n₅ n₆ n₇ n₈ = refl
value-part t a line ks (suc (suc (suc (suc (suc zero))))) v h n₂ n₃ n₅ n₆ n₇ n₈ = absurd (n₅ refl)
value-part t a line ks (suc (suc (suc (suc (suc (suc zero)))))) v h n₂ n₃ n₅ n₆ n₇ n₈ = absurd (n₆ refl)
value-part t a line ks (suc (suc (suc (suc (suc (suc (suc zero))))))) v h n₂ n₃ n₅ n₆ n₇ n₈ = absurd (n₇ refl)
value-part t a line ks (suc (suc (suc (suc (suc (suc (suc (suc zero)))))))) v h n₂ n₃ n₅ n₆ n₇ n₈ = absurd (n₈ refl)
value-part t a line ks (suc (suc (suc (suc (suc (suc (suc (suc (suc zero))))))))) v h n₂ n₃ n₅ n₆ n₇ n₈ = refl
value-part t a line ks (suc (suc (suc (suc (suc (suc (suc (suc (suc (suc k)))))))))) v h n₂ n₃ n₅ n₆ n₇ n₈ = absurd (omega arith)

-- what a part asks of its node
module _ {t : Tables} {kinds i v : ℕ} (k : PartIn t kinds i v) where
  fits_as : {j : ℕ} → i ≡ j → suited t (get_or rules j whatever) v (whole t v) ≡ none
  fits_as e = sym (ap (λ j. suited t (get_or rules j whatever) v (whole t v)) e) ∙ k.fits

  pub asks-bytes : {j : ℕ} → i ≡ j → get_or rules j whatever ≡ rule.as_bytes → suited t rule.as_bytes v (whole t v) ≡ none
  asks-bytes e f = ap (λ r. suited t r v (whole t v)) (sym f) ∙ fits_as e

  pub asks-names : i ≡ 2 → suited t rule.as_names v (whole t v) ≡ none
  unfolding rules
  asks-names e = fits_as e

  pub asks-locals : i ≡ 3 → Localed t kinds v
  unfolding rules
  asks-locals e = record { tuple = fits_as e; within = k.within; even = k.even e }

  pub asks-string : {j : ℕ} → i ≡ j → get_or rules j whatever ≡ rule.as_string → string_at t.input t.nodes t.used_nodes v ≡ true
  asks-string e f = string_of t v (ap (λ r. suited t r v (whole t v)) (sym f) ∙ fits_as e)

pub line-place : {p m p' m' : ℕ} → p ≡ p' → m ≡ m' → p + m ≡ p' + m'
line-place e f = omega arith
