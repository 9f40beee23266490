-- A file that is found in an archive stands there whole, has no fault, and is of the edition. Assumes nothing.
use mathlib.Core.Path.{◌≡◌, refl, sym, ap, ◌∙◌, subst}
use mathlib.Core.Bool.{Bool, true, false, cond}
use mathlib.Core.List.{List, [], ◌∷◌}
use mathlib.Core.Option.{Option, none, some}
use Prim.Native.Nat.{ℕ, zero, suc, ◌+◌, ◌-◌, ◌≤◌, ◌<◌}
use native.Mathlib.Omega.{arith}
use lib.Dec.{ltb, eqb}
use lib.ListN.{length, take, drop, length-drop}
use lib.Seq.{length-take-le}
use borrow.Author.Tests.{ltb-true, ltb-false, eqb-true, eq-eqb}
use Rattle.refusals.specs.declared.Fault.{Fault}
use Rattle.taggedfields.specs.Fields.{Field, reading}
use Rattle.taggedfields.proofs.Parts.{none-some}
use Rattle.editions.specs.Archive.{Saved, Archive, with_file, if_sound, archive_from, archive_of, same, is_field, is_edition, find_edition}
use Rattle.editions.specs.Meeting.{length_in}
use Rattle.editions.specs.Promised.{IsOf}
use Rattle.editions.proofs.Searching.{from, saved_at, from_end, from-cut-length, from_cut, from-file}

pub record Standing (archive edition : List ℕ) (s : Saved) : Type 0 where
  pub within : s.start + length s.file ≤ length archive
  pub part : take (length s.file) (drop s.start archive) ≡ s.file
  pub clean : (reading s.file).fault ≡ none
  pub is : is_edition edition s.file ≡ true

-- one step of the walk
data Step (archive : List ℕ) (at bound : ℕ) : Type 0 where
  stops : (from (suc bound) archive at).files ≡ [] → Step archive at bound
  goes : at + 4 + length_in archive at ≤ length archive → (reading (saved_at archive at).file).fault ≡ none
      → from (suc bound) archive at ≡ with_file (saved_at archive at) (from bound archive (at + 4 + length_in archive at)) → Step archive at bound

step : (archive : List ℕ) (at bound : ℕ) → Step archive at bound
step archive at bound = bytes (ltb at (length archive)) refl
  where
    sound : at + 4 + length_in archive at ≤ length archive → (o : Option Fault) → (reading (saved_at archive at).file).fault ≡ o → Step archive at bound
    sound h none e = goes h e (from-file archive at bound h ∙ ap (λ o. if_sound (saved_at archive at) o (from bound archive (at + 4 + length_in archive at))) e)
    sound h (some y) e = stops (ap (λ r. r.files) (from-file archive at bound h ∙ ap (λ o. if_sound (saved_at archive at) o (from bound archive (at + 4 + length_in archive at))) e))

    contents : at + 4 ≤ length archive → (c : Bool) → ltb (length archive - (at + 4)) (length_in archive at) ≡ c → Step archive at bound
    contents h true e = stops (ap (λ r. r.files) (from_cut archive at bound h (ltb-true (length archive - (at + 4)) (length_in archive at) e)))
    contents h false e = sound (omega (arith, ltb-false (length archive - (at + 4)) (length_in archive at) e)) (reading (saved_at archive at).file).fault refl

    header : at < length archive → (c : Bool) → ltb (length archive - at) 4 ≡ c → Step archive at bound
    header h true e = stops (ap (λ r. r.files) (from-cut-length archive at bound h (ltb-true (length archive - at) 4 e)))
    header h false e = contents (omega (arith, ltb-false (length archive - at) 4 e)) (ltb (length archive - (at + 4)) (length_in archive at)) refl

    bytes : (c : Bool) → ltb at (length archive) ≡ c → Step archive at bound
    bytes true e = header (ltb-true at (length archive) e) (ltb (length archive - at) 4) refl
    bytes false e = stops (ap (λ r. r.files) (from_end archive at (suc bound) (ltb-false at (length archive) e)))

found_from : (bound : ℕ) (archive edition : List ℕ) (at : ℕ) (s : Saved) → find_edition edition (from bound archive at).files ≡ some s → Standing archive edition s
unfolding find_edition archive_from
found_from zero archive edition at s e = absurd (none-some e)
found_from (suc bound) archive edition at s e = go (found_from bound archive edition (at + 4 + length_in archive at) s) (step archive at bound)
  where
    next : Archive
    next = from bound archive (at + 4 + length_in archive at)

    go : (find_edition edition next.files ≡ some s → Standing archive edition s) → Step archive at bound → Standing archive edition s
    go again (stops q) = absurd (none-some (sym (ap (find_edition edition) q) ∙ e))
    go again (goes h d q) = on (is_edition edition (saved_at archive at).file) refl (sym (ap (λ r. find_edition edition r.files) q) ∙ e)
      where
        long : length (saved_at archive at).file ≡ length_in archive at
        long = length-take-le (length_in archive at) (drop (at + 4) archive) (omega (arith, length-drop (at + 4) archive))

        on : (c : Bool) → is_edition edition (saved_at archive at).file ≡ c → cond c (some (saved_at archive at)) (find_edition edition next.files) ≡ some s → Standing archive edition s
        on true i y =
            let this : saved_at archive at ≡ s = cc in
            subst (Standing archive edition) this (record { within = omega (arith, long); part = ap (λ n. take n (drop (at + 4) archive)) long; clean = d; is = i })
        on false i y = again y

pub found-stands : (archive edition : List ℕ) (s : Saved) → find_edition edition (archive_of archive).files ≡ some s → Standing archive edition s
unfolding archive_of
found-stands archive edition s e = found_from (length archive) archive edition 0 s e

-- ---- bytes that are the same
never : false ≡ true → ⊥
never e = let z : ◌≡◌ {A = ℕ} 0 1 = ap (λ b. cond b 1 0) e in absurd (omega arith)

pub same_equal : (a b : List ℕ) → same a b ≡ true → a ≡ b
unfolding same
same_equal [] [] e = refl
same_equal [] (y ∷ b) e = absurd (never e)
same_equal (x ∷ a) [] e = absurd (never e)
same_equal (x ∷ a) (y ∷ b) e = go (eqb x y) refl e (same_equal a b)
  where
    go : (c : Bool) → eqb x y ≡ c → cond c (same a b) false ≡ true → (same a b ≡ true → a ≡ b) → x ∷ a ≡ y ∷ b
    go true d q again = ap (λ i. i ∷ a) (eqb-true x y d) ∙ ap (λ l. y ∷ l) (again q)
    go false d q again = absurd (never q)

pub equal_same : (a : List ℕ) → same a a ≡ true
unfolding same
equal_same [] = refl
equal_same (x ∷ a) = ap (λ c. cond c (same a a) false) (eq-eqb x x refl) ∙ equal_same a

pub field_is : (edition : List ℕ) (o : Option Field) → is_field edition o ≡ true → IsOf edition o
field_is edition none e = absurd (never e)
field_is edition (some f) e = same_equal f.contents edition e

pub is_field_lem : (edition : List ℕ) (o : Option Field) → IsOf edition o → is_field edition o ≡ true
is_field_lem edition none e = absurd e
is_field_lem edition (some f) e = ap (λ l. same l edition) e ∙ equal_same edition
