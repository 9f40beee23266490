-- The walk of `exact_fields` over a file without a fault: at each way out, whether its fields are exactly the three of a golden.
-- Assumes nothing.
use mathlib.Core.Path.{◌≡◌, refl, sym, ap, subst, ◌∙◌}
use mathlib.Core.Bool.{Bool, true, false, cond, ◌&&◌}
use mathlib.Core.List.{List, [], ◌∷◌}
use mathlib.Core.Option.{none, some}
use Prim.Native.Nat.{ℕ, ◌+◌, ◌-◌, ◌≤◌, ◌<◌}
use native.Mathlib.Omega.{arith}
use lib.Dec.{ltb, eqb}
use lib.ListN.{length, get_or, take, drop}
use lib.Seq.{drop-cons}
use borrow.Author.Tests.{lt-ltb, le-ltb, eq-eqb, ne_eqb, ltb-true, ltb-false, eqb-true, eqb-false}
use Rattle.std.specs.Prelude as rust
use Rattle.taggedfields.specs.Fields.{Field, reading}
use Rattle.taggedfields.specs.Looking.{size_in, field_at}
use Rattle.taggedfields.proofs.Parts.{field_at-in}
use Rattle.taggedfields.proofs.Unread.{Unread, rest, unread_start, unread_end, unread_next}
use Rattle.goldenparts.specs.declared.Spans.{Spans}
use Rattle.goldenparts.specs.Forms.{only_one, is_edition, part_of, golden_fields}
use Rattle.goldenparts.specs.Spans.{spans_if, Standing, behind_field}

-- ---- the place behind a field
module _ (file : List ℕ) (at tag : ℕ) where
  pub behind_none : length file ≤ at → rust.None ≡ behind_field file at tag
  behind_none h = rw (le-ltb at (length file) h) refl

  pub behind-other : at < length file → (get_or file at 0 ≡ tag → ⊥) → rust.None ≡ behind_field file at tag
  behind-other h k = rw (lt-ltb at (length file) h, ne_eqb (get_or file at 0) tag k) refl

  pub behind-here : at < length file → get_or file at 0 ≡ tag → {n : ℕ} → n ≡ size_in file at → rust.Some (at + 3 + n) ≡ behind_field file at tag
  behind-here h k {n} e = rw (lt-ltb at (length file) h, eq-eqb (get_or file at 0) tag k) (ap (λ i. rust.Some (at + 3 + i)) e)

  -- a field of this tag stands there, or there is none, or one of another tag
  pub data Stands (r : rust.Option ℕ) : Type 0 where
    here : at < length file → get_or file at 0 ≡ tag → r ≡ rust.Some (at + 3 + size_in file at) → Stands r
    other : at < length file → (get_or file at 0 ≡ tag → ⊥) → r ≡ rust.None → Stands r
    away : length file ≤ at → r ≡ rust.None → Stands r

  pub stands : {r : rust.Option ℕ} → r ≡ behind_field file at tag → Stands r
  stands {r} e = go (ltb at (length file)) refl e
    where
      tagged : at < length file → (b : Bool) → eqb (get_or file at 0) tag ≡ b → r ≡ cond b (rust.Some (at + 3 + size_in file at)) rust.None → Stands r
      tagged h true q z = here h (eqb-true (get_or file at 0) tag q) z
      tagged h false q z = other h (eqb-false (get_or file at 0) tag q) z

      go : (b : Bool) → ltb at (length file) ≡ b → r ≡ cond b (cond (eqb (get_or file at 0) tag) (rust.Some (at + 3 + size_in file at)) rust.None) rust.None → Stands r
      go true q z = tagged (ltb-true at (length file) q) (eqb (get_or file at 0) tag) refl z
      go false q z = away (ltb-false at (length file) q) z

  -- a place that was found, and what was found nowhere
  pub found : {r : ℕ} → rust.Some r ≡ behind_field file at tag → (at < length file) × (get_or file at 0 ≡ tag) × (r ≡ at + 3 + size_in file at)
  found {r} e = go (stands e)
    where
      go : Stands (rust.Some r) → (at < length file) × (get_or file at 0 ≡ tag) × (r ≡ at + 3 + size_in file at)
      go (here h t z) = (h, t, cc)
      go (other h t z) = absurd (cc)
      go (away h z) = absurd (cc)

pub behind_within : (file : List ℕ) (at : ℕ) → at + 3 + size_in file at ≤ length file → {n : ℕ} → n ≡ size_in file at → n < 65536
    → {end : ℕ} → rust.Some (at + 3 + n) ≡ rust.Some end → (end < at + 65539) × (end ≤ length file)
behind_within file at w {n} is small {end} e = let same : at + 3 + n ≡ end = cc in (omega (arith, same, small), omega (arith, same, is, w))

-- ---- lists of fields that are not a golden's
no_edition : (e : Field) (fs : List Field) → is_edition e ≡ false → golden_fields (e ∷ fs) ≡ none
no_edition e [] q = refl
no_edition e (c ∷ []) q = refl
no_edition e (c ∷ r ∷ []) q = rw q refl
no_edition e (c ∷ r ∷ x ∷ fs) q = refl

and-false : (b : Bool) → (b && false) ≡ false
and-false true = refl
and-false false = refl

no_code : (e c : Field) (fs : List Field) → (c.tag ≡ 2 → ⊥) → golden_fields (e ∷ c ∷ fs) ≡ none
no_code e c [] k = refl
no_code e c (r ∷ []) k = rw (ne_eqb c.tag 2 k, and-false (is_edition e)) refl
no_code e c (r ∷ x ∷ fs) k = refl

no_result : (e c r : Field) (fs : List Field) → (r.tag ≡ 3 → ⊥) → golden_fields (e ∷ c ∷ r ∷ fs) ≡ none
no_result e c r [] k = rw (ne_eqb r.tag 3 k, and-false (eqb c.tag 2), and-false (is_edition e)) refl
no_result e c r (x ∷ fs) k = refl

not-one : (l : List ℕ) → (length l ≡ 1 → ⊥) → only_one l ≡ false
not-one [] k = refl
not-one (b ∷ []) k = absurd (k refl)
not-one (b ∷ c ∷ l) k = refl

below : (a b : ℕ) → a ≤ b → (a ≡ b → ⊥) → a < b
below a b h k = go (ltb a b) refl
  where
    go : (c : Bool) → ltb a b ≡ c → a < b
    go true q = ltb-true a b q
    go false q = absurd (k (omega (arith, ltb-false a b q)))

-- ---- the walk
module _ (file : List ℕ) (clean : (reading file).fault ≡ none) where
  abbrev Refuses : Type 0
  Refuses = rust.None ≡ spans_if (golden_fields (reading file).fields)

  refuses : (fs : List Field) → (reading file).fields ≡ fs → golden_fields fs ≡ none → Refuses
  refuses fs e q = sym (ap (λ l. spans_if (golden_fields l)) e ∙ ap spans_if q)

  pub whole_first : 0 < length file → 0 + 3 + size_in file 0 ≤ length file
  whole_first h = (unread_next (unread_start file clean).0 h).whole

  -- the edition's field is four bytes
  pub record First : Type 0 where
    pub behind : Unread file 4
    pub splits : (reading file).fields ≡ field_at file 0 ∷ rest behind
    pub tag : get_or file 0 0 ≡ 1
    pub size : size_in file 0 ≡ 1
    pub long : 4 ≤ length file

  pub first_field : {code : ℕ} → rust.Some code ≡ behind_field file 0 1 → code ≡ 4 → First
  first_field e four =
      let w = found file 0 1 e in
      let u = unread_start file clean in
      let n = unread_next u.0 w.0 in
      let p : 0 + 3 + size_in file 0 ≡ 4 = omega (arith, w.2, four) in
      let split : (v : Unread file 4) × ((reading file).fields ≡ field_at file 0 ∷ rest v) =
      subst (λ i. (v : Unread file i) × ((reading file).fields ≡ field_at file 0 ∷ rest v)) p (n.behind, sym u.1 ∙ n.splits) in
      record { behind = split.0; splits = split.1; tag = w.1; size = omega (arith, p); long = omega (arith, p, n.whole) }

  pub no_first : {r : rust.Option ℕ} → r ≡ behind_field file 0 1 → (r ≡ rust.Some 4 → ⊥) → Refuses
  no_first {r} e k = go (stands file 0 1 e)
    where
      start : (u : Unread file 0) × (rest u ≡ (reading file).fields)
      start = unread_start file clean

      go : Stands file 0 1 r → Refuses
      go (away h z) = refuses [] (sym start.1 ∙ unread_end start.0 h) refl
      go (other h t z) =
          let n = unread_next start.0 h in
          refuses (field_at file 0 ∷ rest n.behind) (sym start.1 ∙ n.splits) (no_edition (field_at file 0) (rest n.behind) (rw (ne_eqb (get_or file 0 0) 1 t) refl))
      go (here h t z) =
          let n = unread_next start.0 h in
          let l = (field_at-in file 0 n.whole).size in
          let no : only_one (field_at file 0).contents ≡ false = not-one (field_at file 0).contents
          (λ q. let four : 0 + 3 + size_in file 0 ≡ 4 = omega (arith, l, q) in k (z ∙ ap rust.Some four)) in
          refuses (field_at file 0 ∷ rest n.behind) (sym start.1 ∙ n.splits)
          (no_edition (field_at file 0) (rest n.behind) (rw (no, and-false (eqb (get_or file 0 0) 1)) refl))

  module _ (f : First) where
    edition_byte : (field_at file 0).contents ≡ get_or file 3 0 ∷ []
    edition_byte = ap (λ n. take n (drop 3 file)) f.size ∙ ap (take 1) (drop-cons file 3 0 (omega (arith, f.long)))

    edition_is : is_edition (field_at file 0) ≡ eqb (get_or file 3 0) 1
    edition_is = rw f.tag (ap only_one edition_byte)

    pub wrong_edition : (get_or file 3 0 ≡ 1 → ⊥) → Refuses
    wrong_edition k = refuses (field_at file 0 ∷ rest f.behind) f.splits (no_edition (field_at file 0) (rest f.behind) (edition_is ∙ ne_eqb (get_or file 3 0) 1 k))

    pub whole-second : 4 < length file → 4 + 3 + size_in file 4 ≤ length file
    whole-second h = (unread_next f.behind h).whole

    pub no_second : rust.None ≡ behind_field file 4 2 → Refuses
    no_second e = go (stands file 4 2 e)
      where
        go : Stands file 4 2 rust.None → Refuses
        go (away h z) = refuses (field_at file 0 ∷ []) (f.splits ∙ ap (λ l. field_at file 0 ∷ l) (unread_end f.behind h)) refl
        go (other h t z) =
            let n = unread_next f.behind h in
            refuses (field_at file 0 ∷ field_at file 4 ∷ rest n.behind) (f.splits ∙ ap (λ l. field_at file 0 ∷ l) n.splits) (no_code (field_at file 0) (field_at file 4) (rest n.behind) t)
        go (here h t z) = absurd (cc)

    pub record Second (result : ℕ) : Type 0 where
      pub behind : Unread file result
      pub splits : (reading file).fields ≡ field_at file 0 ∷ field_at file 4 ∷ rest behind
      pub tag : get_or file 4 0 ≡ 2
      pub size : result ≡ 7 + size_in file 4
      pub whole : result ≤ length file

    pub second-field : {result : ℕ} → rust.Some result ≡ behind_field file 4 2 → Second result
    second-field {result} e =
        let w = found file 4 2 e in
        let n = unread_next f.behind w.0 in
        let split : (v : Unread file result) × ((reading file).fields ≡ field_at file 0 ∷ field_at file 4 ∷ rest v) =
        subst (λ i. (v : Unread file i) × ((reading file).fields ≡ field_at file 0 ∷ field_at file 4 ∷ rest v)) (sym w.2) (n.behind, f.splits ∙ ap (λ l. field_at file 0 ∷ l) n.splits) in
        record { behind = split.0; splits = split.1; tag = w.1; size = omega (arith, w.2); whole = omega (arith, w.2, n.whole) }

    module _ {result : ℕ} (g : Second result) where
      pub whole-third : result < length file → result + 3 + size_in file result ≤ length file
      whole-third h = (unread_next g.behind h).whole

      front : {fs : List Field} → rest g.behind ≡ fs → (reading file).fields ≡ field_at file 0 ∷ field_at file 4 ∷ fs
      front e = g.splits ∙ ap (λ l. field_at file 0 ∷ field_at file 4 ∷ l) e

      pub not_third : {r : rust.Option ℕ} → r ≡ behind_field file result 3 → (r ≡ rust.Some (length file) → ⊥) → Refuses
      not_third {r} e k = go (stands file result 3 e)
        where
          go : Stands file result 3 r → Refuses
          go (away h z) = refuses (field_at file 0 ∷ field_at file 4 ∷ []) (front (unread_end g.behind h)) refl
          go (other h t z) =
              let n = unread_next g.behind h in
              refuses (field_at file 0 ∷ field_at file 4 ∷ field_at file result ∷ rest n.behind) (front n.splits)
              (no_result (field_at file 0) (field_at file 4) (field_at file result) (rest n.behind) t)
          go (here h t z) =
              let n = unread_next g.behind h in
              let at = result + 3 + size_in file result in
              let m = unread_next n.behind (below at (length file) n.whole (λ q. k (z ∙ ap rust.Some q))) in
              refuses (field_at file 0 ∷ field_at file 4 ∷ field_at file result ∷ field_at file at ∷ rest m.behind)
              (front (n.splits ∙ ap (λ l. field_at file result ∷ l) m.splits)) refl

      module _ {end : ℕ} (e : rust.Some end ≡ behind_field file result 3) (q : end ≡ length file) where
        -- exactly the three
        pub third-field : get_or file 3 0 ≡ 1
            → rust.Some (record { code = record { start = 7; size = result - 7 }; result = record { start = result + 3; size = end - result - 3 } })
            ≡ spans_if (golden_fields (reading file).fields)
        third-field b =
            let w = found file result 3 e in
            let n = unread_next g.behind w.0 in
            let last : rest n.behind ≡ [] = unread_end n.behind (omega (arith, w.2, q)) in
            let c = (field_at-in file 4 (omega (arith, g.size, g.whole))).size in
            let r = (field_at-in file result n.whole).size in
            let cs : result - 7 ≡ length (field_at file 4).contents = omega (arith, c, g.size) in
            let rs : end - result - 3 ≡ length (field_at file result).contents = omega (arith, r, w.2) in
            let is : golden_fields (field_at file 0 ∷ field_at file 4 ∷ field_at file result ∷ []) ≡ some (record { code = part_of (field_at file 4); result = part_of (field_at file result) }) =
            rw (edition_is ∙ eq-eqb (get_or file 3 0) 1 b, eq-eqb (get_or file 4 0) 2 g.tag, eq-eqb (get_or file result 0) 3 w.1) refl in
            ap (λ i. named i (end - result - 3)) cs ∙ ap (named (length (field_at file 4).contents)) rs
            ∙ sym (ap (λ l. spans_if (golden_fields l)) (front (n.splits ∙ ap (λ l. field_at file result ∷ l) last)) ∙ ap spans_if is)
          where
            named : ℕ → ℕ → rust.Option Spans
            named c r = rust.Some (record { code = record { start = 7; size = c }; result = record { start = result + 3; size = r } })

        -- and its numbers name parts of the file
        pub third-after : result + 3 ≤ end
        third-after = omega (arith, (found file result 3 e).2)

        pub third_standing : result < 65543 → end < result + 65539
            → Standing (length file) (record { code = record { start = 7; size = result - 7 }; result = record { start = result + 3; size = end - result - 3 } })
        third_standing h k =
            record {
              code_in = omega (arith, g.size, g.whole);
              result_in = omega (arith, third-after, q);
              code_start = omega arith;
              code-size = omega (arith, h);
              result_start = omega (arith, h);
              result-size = omega (arith, h, k);
            }
