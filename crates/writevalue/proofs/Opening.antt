-- A node up to its children: levels, record, own bytes. Assumes nothing.
use mathlib.Core.Path.{◌≡◌, refl, sym, ap, subst, ◌∙◌}
use Prim.Native.Nat.{ℕ, zero, suc, ◌-◌, ◌≤◌, ◌<◌}
use native.Mathlib.Omega.{arith}
use mathlib.Core.Bool.{Bool, true, false, ◌&&◌}
use mathlib.Core.List.{List}
use lib.ListN.{length}
use lib.Dec.{ltb, eqb}
use borrow.Author.Tests.{lt-ltb, le-ltb, eq-eqb}
use Rattle.refusals.specs.Faults.{fault}
use Rattle.refusals.specs.declared.Fault.{Fault}
use Rattle.refusals.specs.declared.Refusal.TheVariants.{TooDeep, BadTable}
use Rattle.std.specs.Prelude.{Result, Ok, Err}
use Rattle.grammar.specs.Letters.{codes, class_of}
use Rattle.grammar.specs.State.{Node, node_at}
use Rattle.grammar.specs.Record.{Tables, faulty, look, chain, node_of, nodes_in, sound, sound_at}
use Rattle.writing.specs.Writing.{Writing, then, each}
use Rattle.writing.specs.Shape.{classed}
use Rattle.writing.specs.Steps.{shaped, looked, is_code, parted, writing}
use Rattle.chains.specs.Chained.{is_some}
use Rattle.writecheck.specs.Looking.{Held, Looks}
use Rattle.cellnames.specs.Groups.{or_none}
use Rattle.grammar.proofs.Tests.{never}
use Rattle.grammar.proofs.Passed.{sound_at_lem, whole-some, chain_length, looked_held}
use Rattle.writecheck.proofs.Codes.{only_code}
use Rattle.writevalue.specs.declared.Opened.{Opened}
use Rattle.writevalue.specs.declared.Opened.TheVariants as opened
use Rattle.underway.specs.Onward.{Onward}
use Rattle.writevalue.specs.Heads.{Levels, FrontAs, Fronts, HeadAs, Heads}
use Rattle.underway.specs.Rows.{out_of_levels, closed, kids_from, row_of_node, line_of}
use Rattle.underway.proofs.Under.{start, left_as, stopped, puts_equal}
use Rattle.underway.proofs.Levels.{out_none, out_more, parts_by, writing-deep, writing-looked, writing-holds}

-- Levels.

module _ (nodes : List ℕ) (used a n : ℕ) where
  pub levels_none : a ≡ 0 → Levels nodes used a n true
  levels_none e = record { tells = λ t en eu. out_none t a n e }

  pub levels_more : (a ≡ 0 → ⊥) → (a ≡ 1 → ⊥) → Levels nodes used a n false
  levels_more h k = record { tells = λ t en eu. out_more t a n h k }

  pub levels-past : a ≡ 1 → {room : ℕ} → room ≡ nodes_in nodes used → room ≤ n → Levels nodes used a n false
  levels-past e {room} q l =
      record {
        tells = λ t en eu.
            sym (ap (λ k. out_of_levels t k n) e
            ∙ ap (λ ns. ltb n (nodes_in ns t.used_nodes) && eqb (node_of t n).letter 0x63) en
            ∙ ap (λ u. ltb n (nodes_in nodes u) && eqb (node_of t n).letter 0x63) eu
            ∙ ap (λ b. b && eqb (node_of t n).letter 0x63) (le-ltb n (nodes_in nodes used) (omega arith)));
      }

  pub levels-code : a ≡ 1 → {room l : ℕ} → room ≡ nodes_in nodes used → n < room → l ≡ (node_at nodes n).letter → Levels nodes used a n (eqb l 0x63)
  levels-code e {room} {l} q h is =
      record {
        tells = λ t en eu.
            sym (ap (λ k. out_of_levels t k n) e
            ∙ ap (λ ns. ltb n (nodes_in ns t.used_nodes) && eqb (node_at ns n).letter 0x63) en
            ∙ ap (λ u. ltb n (nodes_in nodes u) && eqb (node_at nodes n).letter 0x63) eu
            ∙ ap (λ b. b && eqb (node_at nodes n).letter 0x63) (lt-ltb n (nodes_in nodes used) (omega arith))
            ∙ ap (λ x. eqb x 0x63) (sym is));
      }

-- A node by its levels and its record.

pub open_deep : (t : Tables) (a n : ℕ) {at : ℕ} {o : List ℕ} {r : Bool} → r ≡ out_of_levels t a n → r ≡ true → at ≤ length o → {stop : Fault} → stop ≡ fault TooDeep n → Heads t a n at o (Err stop) o
open_deep t a n e f h is = record { same = refl; stands = stopped (left_as (start h) (writing-deep t a n (sym f ∙ e))) is }

pub open_bad : (t : Tables) (a n : ℕ) {at : ℕ} {o : List ℕ} {r : Bool} → r ≡ out_of_levels t a n → r ≡ false → look t n ≡ faulty n → at ≤ length o → {stop : Fault} → stop ≡ fault BadTable n
    → Heads t a n at o (Err stop) o
open_bad t a n e f bad h is =
    record {
      same = refl;
      stands = stopped (left_as (start h) (writing-looked t a n (sym f ∙ e) ∙ ap (looked (writing (a - 1) t) (parts_by t a n) t n) bad)) is;
    }

-- two levels for a code
two-levels : (t : Tables) (a n : ℕ) → false ≡ out_of_levels t a n → is_code t n ≡ true
    → (2 ≤ a) × ((line : ℕ) (kids : List ℕ) → parts_by t a n line kids ≡ parted t (a - 2) (writing (a - 2) t) line kids)
two-levels t zero n h c = never h
two-levels t (suc zero) n h c = never (h ∙ c)
two-levels t (suc (suc a)) n h c =
    let z : a ≡ suc (suc a) - 2 = omega arith in
    (omega arith, λ line kids. ap (λ k. parted t k (writing k t) line kids) z)

held_sound : (t : Tables) (n : ℕ) → Held t n → sound_at t.input t.nodes t.used_nodes n ≡ true
held_sound t n k = (whole-some t n k.kids (looked_held t n k.kids k.holds-kids).linked).0

pub held_node : (t : Tables) (n : ℕ) → Held t n → sound t.input (node_of t n) ≡ true
held_node t n k = (looked_held t n k.kids k.holds-kids).own

held_code : (t : Tables) (n : ℕ) → Held t n → class_of (node_of t n).letter ≡ codes → is_code t n ≡ true
held_code t n k e =
    ap (λ b. b && eqb (node_of t n).letter 0x63) (lt-ltb n (nodes_in t.nodes t.used_nodes) (sound_at_lem t n (held_sound t n k)).0) ∙ eq-eqb (node_of t n).letter 0x63 (only_code (node_of t n).letter e)

pub row_held : (t : Tables) (n : ℕ) (k : Held t n) → row_of_node t n ≡ k.kids
row_held t n k = ap or_none k.chained

pub open_front : (t : Tables) (a n : ℕ) {N : Node} {at : ℕ} {o o' : List ℕ} {b : Bool} {r : Result Opened Fault} → b ≡ out_of_levels t a n → b ≡ false → (k : Held t n)
    → N ≡ node_of t n → length o' ≡ length o → Fronts t.input N (class_of N.letter) at o r o' → Heads t a n at o r o'
open_front t a n {N} {at} {o} {o'} {b} {r} e f k is same front =
    record { same = same; stands = go r ((subst (λ x. Fronts t.input x (class_of x.letter) at o r o') is front).tells (writing (a - 1) t) (parts_by t a n) k.kids long) }
  where
    long : length k.kids ≡ (node_of t n).count
    long = chain_length t (node_of t n).count (node_of t n).first k.kids k.chained

    whole_is : writing a t n ≡ shaped (writing (a - 1) t) (parts_by t a n) (classed t.input (node_of t n) k.kids (class_of (node_of t n).letter))
    whole_is = writing-holds t a n (sym f ∙ e) k.kids k.holds-kids

    on : {p : ℕ} {w w' : Writing} → Onward o at (shaped (writing (a - 1) t) (parts_by t a n) (classed t.input (node_of t n) k.kids (class_of (node_of t n).letter))) o' p w
        → w ≡ w' → Onward o at (writing a t n) o' p w'
    on {p} {w} {w'} h q = left_as (subst (λ x. Onward o at x o' p w) (sym whole_is) h) q

    some_level : (a : ℕ) → false ≡ out_of_levels t a n → 1 ≤ a
    some_level zero h = never h
    some_level (suc a) h = omega arith

    go : (r : Result Opened Fault) → FrontAs (writing (a - 1) t) (parts_by t a n) t.input (node_of t n) k.kids (class_of (node_of t n).letter) at o r o' → HeadAs t a n at o r o'
    go (Err stop) h = puts_equal h whole_is
    go (Ok (opened.Done p)) h = puts_equal h whole_is
    go (Ok (opened.Row p pairs)) h = (on h (ap (λ vs. then (each (writing (a - 1) t) vs) (closed pairs)) (sym (row_held t n k))), some_level a (sym f ∙ e), k)
    go (Ok (opened.Parts p)) h =
        let c = held_code t n k h.1 in
        let two = two-levels t a n (sym f ∙ e) c in (
          on h.0 (two.1 (line_of t n) k.kids ∙ ap (parted t (a - 2) (writing (a - 2) t) (line_of t n)) (sym (row_held t n k))),
          two.0,
          record { code = h.1; held = k },
        )

pub head_as : {t : Tables} {a n at : ℕ} {o o' : List ℕ} {r r' : Result Opened Fault} → Heads t a n at o r o' → r ≡ r' → HeadAs t a n at o r' o'
head_as {t} {a} {n} {at} {o} {o'} k e = subst (λ x. HeadAs t a n at o x o') e k.stands

pub looks_bad : (t : Tables) (n : ℕ) (r : Bool) → Looks t n r → r ≡ false → look t n ≡ faulty n
looks_bad t n r k e = subst (Looks t n) e k

pub looks_held : (t : Tables) (n : ℕ) (r : Bool) → Looks t n r → r ≡ true → Held t n
looks_held t n r k e = subst (Looks t n) e k

-- a node's row, by the count and the first entry that were read
pub chain_at : (t : Tables) (n : ℕ) {count first : ℕ} → Held t n → count ≡ (node_of t n).count → first ≡ (node_of t n).first → is_some (chain t count first) ≡ true
chain_at t n {count} {first} k ec ef = ap is_some (ap (λ c. chain t c first) ec ∙ ap (chain t (node_of t n).count) ef ∙ k.chained)

pub row_at : (t : Tables) (f : ℕ → Writing) (n : ℕ) {count first : ℕ} → count ≡ (node_of t n).count → first ≡ (node_of t n).first
    → each f (row_of_node t n) ≡ each f (kids_from t count first)
row_at t f n {count} {first} ec ef =
    ap (λ c. each f (kids_from t c (node_of t n).first)) (sym ec) ∙ ap (λ x. each f (kids_from t count x)) (sym ef)
