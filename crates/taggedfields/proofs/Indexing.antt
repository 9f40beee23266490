-- The walk of `index_fields`: what the reading from here on comes to, with the places that are noted, is what the whole reading comes to.
-- That a place fits in 32 bits: no two fields have one tag, so there are at most 256. Assumes nothing.
use mathlib.Core.Path.{◌≡◌, refl, sym, ap, ◌∙◌, subst}
use mathlib.Core.Bool.{Bool, true, false, cond, not}
use mathlib.Core.List.{List, [], ◌∷◌}
use mathlib.Core.Option.{some}
use Prim.Native.Nat.{ℕ, zero, suc, ◌+◌, ◌-◌, ◌*◌, ◌≤◌, ◌<◌}
use native.Mathlib.Omega.{arith}
use lib.Dec.{eqb}
use lib.ListN.{length, get_or, set, length-set, get_or-replicate}
use lib.Seq.{get_or-set_same, get_or-set_other}
use borrow.Author.Tests.{eq-eqb, ne_eqb, eqb-true, eqb-false}
use Rattle.refusals.specs.declared.Refusal.TheVariants.{DataTooShort, RepeatedTag}
use Rattle.refusals.specs.declared.Fault.{Fault}
use Rattle.refusals.specs.Faults.{refused}
use Rattle.std.specs.Prelude.{Result, Ok}
use Rattle.clearing.specs.Lent.{zeros}
use Rattle.taggedfields.specs.Fields.{Reading, ended, stopped, with_field, among, read_from, reading, find, field_in}
use Rattle.taggedfields.specs.Looking.{told, fault_of, placed}
use Rattle.taggedfields.specs.Looking.{size_in, field_at}
use Rattle.taggedfields.proofs.Steps.{from, from_end, from_repeated, from-cut-header, from_cut, from_field}

-- how many tags have a place
unfoldable pub used : List ℕ → ℕ
used [] = 0
used (zero ∷ l) = used l
used (suc n ∷ l) = suc (used l)

pub used_le : (l : List ℕ) → used l ≤ length l
unfolding used
used_le [] = omega arith
used_le (zero ∷ l) = omega (arith, used_le l)
used_le (suc n ∷ l) = omega (arith, used_le l)

pub used-set : (l : List ℕ) (i v : ℕ) → i < length l → get_or l i 0 ≡ 0 → used (set l i (v + 1)) ≡ suc (used l)
unfolding used
used-set [] i v h e = absurd (omega arith)
used-set (x ∷ l) zero v h e = rw (e, one v)
  where
    one : (n : ℕ) → n + 1 ≡ suc n
    one n = omega arith
used-set (zero ∷ l) (suc i) v h e = used-set l i v (omega arith) e
used-set (suc x ∷ l) (suc i) v h e = ap suc (used-set l i v (omega arith) e)

-- a place that is noted goes before one that is still to come
abbrev pub or_else : ℕ → ℕ → ℕ
or_else zero b = b
or_else (suc a) b = suc a

pub record Indexing (file places : List ℕ) (at : ℕ) : Type 0 where
  pub bound : ℕ
  pub tags : List ℕ
  pub enough : length file ≤ at + bound
  pub within : at ≤ length file
  pub full : length places ≡ 256
  pub few : at ≤ 65538 * used places
  pub small : at ≤ 16777728
  pub low : (t : ℕ) → t < 256 → get_or places t 0 ≤ 16777729
  pub known : (t : ℕ) → t < 256 → eqb (get_or places t 0) 0 ≡ not (among t tags)
  pub comes : told (from bound file tags at).fault ≡ fault_of file
  pub notes : (t : ℕ) → t < 256 → or_else (get_or places t 0) (placed (find t (from bound file tags at).fields)) ≡ placed (field_in file t)

pub indexing_start : (file : List ℕ) {places : List ℕ} → places ≡ zeros 256 → Indexing file places 0
unfolding used reading among
indexing_start file {places} e =
    let clear : (t : ℕ) → t < 256 → get_or places t 0 ≡ 0 = λ t h. ap (λ l. get_or l t 0) e ∙ get_or-replicate 256 t 0 0 h in
    record {
      bound = length file;
      tags = [];
      enough = omega arith;
      within = omega arith;
      full = ap length e;
      few = omega arith;
      small = omega arith;
      low = λ t h. omega (arith, clear t h);
      known = λ t h. ap (λ n. eqb n 0) (clear t h);
      comes = refl;
      notes = λ t h. ap (λ n. or_else n (placed (find t (read_from (length file) [] 0 file).fields))) (clear t h);
    }

module _ {file places : List ℕ} {at : ℕ} (g : Indexing file places at) where
  some-bound : at < length file → (b : ℕ) × (g.bound ≡ suc b)
  some-bound h = go g.bound refl
    where
      go : (n : ℕ) → g.bound ≡ n → (b : ℕ) × (g.bound ≡ suc b)
      go zero e = absurd (omega (arith, g.enough))
      go (suc b) e = (b, e)

  tag_new : (t : ℕ) → t < 256 → get_or places t 0 ≡ 0 → among t g.tags ≡ false
  tag_new t h e = go (among t g.tags) (sym (g.known t h) ∙ eq-eqb (get_or places t 0) 0 e)
    where
      go : (b : Bool) → not b ≡ true → b ≡ false
      go true q = sym q
      go false q = refl

  tag-met : (t : ℕ) → t < 256 → (get_or places t 0 ≡ 0 → ⊥) → among t g.tags ≡ true
  tag-met t h e = go (among t g.tags) (sym (g.known t h) ∙ ne_eqb (get_or places t 0) 0 e)
    where
      go : (b : Bool) → not b ≡ false → b ≡ true
      go true q = refl
      go false q = sym q

  -- the answer where nothing is read from here on: the fault, if there is one, and the places that are noted
  abbrev pub Answers : Result (Unit {0}) Fault → Type 0
  Answers r = (r ≡ fault_of file) × ((t : ℕ) → t < 256 → get_or places t 0 ≡ placed (field_in file t)) × ((t : ℕ) → t < 256 → get_or places t 0 ≤ 16777729) × (length places ≡ 256)

  ends : (r : Reading) → from g.bound file g.tags at ≡ r → r.fields ≡ [] → Answers (told r.fault)
  unfolding find
  ends r e q = (
    sym (ap (λ x. told x.fault) e) ∙ g.comes,
    λ t h. sym (nothing (get_or places t 0)) ∙ ap (λ l. or_else (get_or places t 0) (placed (find t l))) (sym (ap (λ x. x.fields) e ∙ q)) ∙ g.notes t h,
    g.low,
    g.full,
  )
    where
      nothing : (n : ℕ) → or_else n 0 ≡ n
      nothing zero = refl
      nothing (suc n) = refl

  -- a reading from here on that takes one step
  stepped : at < length file → {r : Reading} → ((b : ℕ) → from (suc b) file g.tags at ≡ r) → from g.bound file g.tags at ≡ r
  stepped h {r} e = let b = some-bound h in ap (λ n. from n file g.tags at) b.1 ∙ e b.0

  pub indexing_end : length file ≤ at → Answers (Ok tt)
  indexing_end h = ends ended (from_end file g.tags at g.bound h) refl

  pub indexing_repeated : {tag : ℕ} → at < length file → tag ≡ get_or file at 0 → tag < 256 → (get_or places tag 0 ≡ 0 → ⊥) → Answers (refused RepeatedTag at)
  indexing_repeated h s k' e' =
      let k : get_or file at 0 < 256 = omega arith in
      let e : get_or places (get_or file at 0) 0 ≡ 0 → ⊥ = λ z. e' (ap (λ i. get_or places i 0) s ∙ z) in
      ends (stopped RepeatedTag at) (stepped h (λ b. from_repeated file g.tags at b h (tag-met (get_or file at 0) k e))) refl

  module _ (k : get_or file at 0 < 256) (e : get_or places (get_or file at 0) 0 ≡ 0) where
    pub indexing_cut-header : at < length file → length file - at < 3 → Answers (refused DataTooShort at)
    indexing_cut-header h q = ends (stopped DataTooShort at) (stepped h (λ b. from-cut-header file g.tags at b h q (tag_new (get_or file at 0) k e))) refl

    pub indexing_cut : at + 3 ≤ length file → length file - at - 3 < size_in file at → Answers (refused DataTooShort at)
    indexing_cut h q = ends (stopped DataTooShort at) (stepped (omega arith) (λ b. from_cut file g.tags at b h q (tag_new (get_or file at 0) k e))) refl

    pub indexing_more : size_in file at < 65536 → at + 3 + size_in file at ≤ length file → Indexing file (set places (get_or file at 0) (at + 1)) (at + 3 + size_in file at)
    unfolding among find
    indexing_more w h =
        let tag = get_or file at 0 in
        let b = some-bound (omega arith) in
        let u = used-set places tag at (omega (arith, g.full)) e in
        let l = used_le (set places tag (at + 1)) in
        let step : from g.bound file g.tags at ≡ with_field (field_at file at) (from b.0 file (tag ∷ g.tags) (at + 3 + size_in file at)) =
        ap (λ n. from n file g.tags at) b.1 ∙ from_field file g.tags at b.0 h (tag_new tag k e) in
        record {
          bound = b.0;
          tags = tag ∷ g.tags;
          enough = omega (arith, g.enough, b.1);
          within = h;
          full = length-set places tag (at + 1) ∙ g.full;
          few = omega (arith, g.few, u);
          small = omega (arith, g.few, u, l, length-set places tag (at + 1), g.full);
          low = λ t q. lows t q (eqb t tag) refl;
          known = λ t q. knows t q (eqb t tag) refl;
          comes = sym (ap (λ x. told x.fault) step) ∙ g.comes;
          notes = λ t q. noted t q (from b.0 file (tag ∷ g.tags) (at + 3 + size_in file at)) step (eqb t tag) refl;
        }
      where
        lower : get_or file at 0 < length places
        lower = omega (arith, g.full)

        lows : (t : ℕ) → t < 256 → (c : Bool) → eqb t (get_or file at 0) ≡ c → get_or (set places (get_or file at 0) (at + 1)) t 0 ≤ 16777729
        lows t q true d =
            let new = ap (λ i. get_or (set places (get_or file at 0) (at + 1)) i 0) (eqb-true t (get_or file at 0) d) ∙ get_or-set_same places (get_or file at 0) (at + 1) 0 lower in
            omega (arith, new, g.small)
        lows t q false d = omega (arith, get_or-set_other places (get_or file at 0) t (at + 1) 0 (eqb-false t (get_or file at 0) d), g.low t q)

        knows : (t : ℕ) → t < 256 → (c : Bool) → eqb t (get_or file at 0) ≡ c → eqb (get_or (set places (get_or file at 0) (at + 1)) t 0) 0 ≡ not (cond c true (among t g.tags))
        knows t q true d =
            let s : t ≡ get_or file at 0 = eqb-true t (get_or file at 0) d in
            ne_eqb (get_or (set places (get_or file at 0) (at + 1)) t 0) 0 (λ z. let y = get_or-set_same places (get_or file at 0)
            (at + 1) 0 lower in let x : get_or (set places (get_or file at 0) (at + 1)) (get_or file at 0) 0 ≡ 0 = subst (λ i. get_or (set places (get_or file at 0)
            (at + 1)) i 0 ≡ 0) s z in omega (arith, y, x))
        knows t q false d = ap (λ n. eqb n 0) (get_or-set_other places (get_or file at 0) t (at + 1) 0 (eqb-false t (get_or file at 0) d)) ∙ g.known t q

        noted : (t : ℕ) → t < 256 → (r : Reading) → from g.bound file g.tags at ≡ with_field (field_at file at) r → (c : Bool) → eqb t (get_or file at 0) ≡ c
            → or_else (get_or (set places (get_or file at 0) (at + 1)) t 0) (placed (find t r.fields)) ≡ placed (field_in file t)
        noted t q r step c d = go c d
          where
            was : or_else (get_or places t 0) (placed (find t (field_at file at ∷ r.fields))) ≡ placed (field_in file t)
            was = subst (λ l. or_else (get_or places t 0) (placed (find t l)) ≡ placed (field_in file t)) (ap (λ x. x.fields) step) (g.notes t q)

            first : (c : Bool) → ℕ
            first c = or_else (get_or places t 0) (placed (cond c (some (field_at file at)) (find t r.fields)))

            go : (c : Bool) → eqb t (get_or file at 0) ≡ c → or_else (get_or (set places (get_or file at 0) (at + 1)) t 0) (placed (find t r.fields)) ≡ placed (field_in file t)
            go true d =
                let s : t ≡ get_or file at 0 = eqb-true t (get_or file at 0) d in
                let one : at + 1 ≡ suc at = omega arith in
                let new : get_or (set places (get_or file at 0) (at + 1)) t 0 ≡ suc at =
                ap (λ i. get_or (set places (get_or file at 0) (at + 1)) i 0) s ∙ get_or-set_same places (get_or file at 0) (at + 1) 0 lower ∙ one in
                ap (λ n. or_else n (placed (find t r.fields))) new ∙ sym one
                ∙ sym (ap (λ n. or_else n (at + 1)) (ap (λ i. get_or places i 0) s ∙ e)) ∙ sym (ap first d) ∙ was
            go false d =
                ap (λ n. or_else n (placed (find t r.fields))) (get_or-set_other places (get_or file at 0) t (at + 1) 0 (eqb-false t (get_or file at 0) d))
                ∙ sym (ap first d) ∙ was

-- ---- the same, of a tag and a length that the code has read
module _ {file places : List ℕ} {at tag : ℕ} (g : Indexing file places at) where
  met : tag ≡ get_or file at 0 → get_or places tag 0 ≡ 0 → get_or places (get_or file at 0) 0 ≡ 0
  met s e = sym (ap (λ i. get_or places i 0) s) ∙ e

  pub cut-header : at < length file → tag ≡ get_or file at 0 → tag < 256 → get_or places tag 0 ≡ 0 → length file - at < 3 → Answers g (refused DataTooShort at)
  cut-header h s k e q = indexing_cut-header g (omega arith) (met s e) h q

  pub cut : {size : ℕ} → tag ≡ get_or file at 0 → tag < 256 → get_or places tag 0 ≡ 0 → size ≡ size_in file at → at + 3 ≤ length file → length file - at - 3 < size
      → Answers g (refused DataTooShort at)
  cut s k e z h q = indexing_cut g (omega arith) (met s e) h (omega arith)

  pub more : {size : ℕ} → tag ≡ get_or file at 0 → tag < 256 → get_or places tag 0 ≡ 0 → size ≡ size_in file at → size < 65536 → at + 3 + size ≤ length file
      → Indexing file (set places tag (at + 1)) (at + 3 + size)
  more s k e z w h = subst (λ n. Indexing file (set places tag (at + 1)) (at + 3 + n)) (sym z) (subst (λ t. Indexing file (set places t (at + 1)) (at + 3 + size_in file at))
      (sym s) (indexing_more g (omega arith) (met s e) (omega arith) (omega arith)))
