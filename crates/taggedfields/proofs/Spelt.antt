-- Writing and reading: a field's bytes as they stand in the file are those it is written as; a file without a fault is its fields, written.
-- Assumes nothing.
use mathlib.Core.Path.{◌≡◌, sym, ap, ◌∙◌}
use mathlib.Core.List.{List, [], ◌∷◌, ◌++◌}
use mathlib.Core.Option.{none}
use Prim.Native.Nat.{ℕ, zero, suc, ◌+◌, ◌/◌, ◌%◌, ◌≤◌, ◌<◌}
use native.Mathlib.Omega.{arith}
use lib.ListN.{length, get_or, take, drop, take-append-drop, drop_of_length-le}
use lib.Seq.{drop-cons, drop-drop}
use Rattle.taggedfields.specs.Fields.{Field, Reading, read_from, reading, bytes_of, spelt}
use Rattle.taggedfields.specs.Looking.{size_in, field_at, bytes_at}
use Rattle.taggedfields.proofs.Steps.{from, behind, Step, ends, stops, goes, step}
use Rattle.taggedfields.proofs.Parts.{In, none-some, field_at-in}

-- every number is a byte
abbrev pub Bytes : List ℕ → Type 0
Bytes file = (i : ℕ) → get_or file i 0 < 256

pub bytes_at_lem : (file : List ℕ) (at : ℕ) → Bytes file → at + 3 + size_in file at ≤ length file → bytes_at file at ≡ bytes_of (field_at file at)
bytes_at_lem file at b h =
    let n = size_in file at in
    let f = field_at file at in
    let l : length f.contents ≡ n = (field_at-in file at h).size in
    let k : 3 + n ≡ suc (suc (suc n)) = omega arith in
    let low : length f.contents % 256 ≡ get_or file (at + 1) 0 = omega (arith, l, b (at + 1), b (at + 2)) in
    let high : length f.contents / 256 ≡ get_or file (at + 2) 0 = omega (arith, l, b (at + 1), b (at + 2)) in
    ap (λ i. take i (drop at file)) k ∙ ap (take (suc (suc (suc n)))) (drop-cons file at 0 (omega arith) ∙ ap (λ m. get_or file at 0 ∷ m) (behind file at (omega arith)))
    ∙ ap (λ x. get_or file at 0 ∷ x ∷ get_or file (at + 2) 0 ∷ f.contents) (sym low) ∙ ap (λ x. get_or file at 0 ∷ length f.contents % 256 ∷ x ∷ f.contents) (sym high)

-- a field that stands in a file is the one at its place
in_field : (file : List ℕ) (f : Field) → In file f → f ≡ field_at file f.place
in_field file f i =
    ap (λ (t : ℕ). record { tag = t; place = f.place; contents = f.contents }) i.tag
    ∙ ap (λ (c : List ℕ). record { tag = get_or file f.place 0; place = f.place; contents = c }) (i.part ∙ ap (λ n. take n (drop (f.place + 3) file)) i.size)

pub in_bytes : (file : List ℕ) (f : Field) → Bytes file → In file f → bytes_of f ≡ bytes_at file f.place
in_bytes file f b i = ap bytes_of (in_field file f i) ∙ sym (bytes_at_lem file f.place b (omega (arith, i.within, i.size)))

-- a file without a fault is its fields, written
spelt-from : (bound : ℕ) (file tags : List ℕ) (at : ℕ) → Bytes file → length file ≤ at + bound → (from bound file tags at).fault ≡ none
    → spelt (from bound file tags at).fields ≡ drop at file
unfolding spelt read_from
spelt-from zero file tags at b h e = sym (drop_of_length-le file {i = at} (omega arith))
spelt-from (suc bound) file tags at b h e =
    go (λ k z. spelt-from bound file (get_or file at 0 ∷ tags) (at + 3 + size_in file at) b k z) (step file tags at bound)
  where
    rest : Reading
    rest = from bound file (get_or file at 0 ∷ tags) (at + 3 + size_in file at)

    go : (length file ≤ at + 3 + size_in file at + bound → rest.fault ≡ none → spelt rest.fields ≡ drop (at + 3 + size_in file at) file)
        → Step file tags at bound → spelt (from (suc bound) file tags at).fields ≡ drop at file
    go again (ends k q) = ap (λ r. spelt r.fields) q ∙ sym (drop_of_length-le file {i = at} k)
    go again (stops why k q) = absurd (none-some (sym e ∙ ap (λ r. r.fault) q))
    go again (goes k z q) =
        let t = at + 3 + size_in file at in
        let s : at + (3 + size_in file at) ≡ t = omega arith in
        ap (λ r. spelt r.fields) q ∙ ap (λ l. bytes_of (field_at file at) ++ l) (again (omega arith) (sym (ap (λ r. r.fault) q) ∙ e))
        ∙ ap (λ l. l ++ drop t file) (sym (bytes_at_lem file at b k)) ∙ ap (λ i. bytes_at file at ++ drop i file) (sym s)
        ∙ ap (λ l. bytes_at file at ++ l) (sym (drop-drop (3 + size_in file at) at file)) ∙ take-append-drop (3 + size_in file at) (drop at file)

pub spelt-reading : (file : List ℕ) → Bytes file → (reading file).fault ≡ none → spelt (reading file).fields ≡ file
unfolding reading
spelt-reading file b e = spelt-from (length file) file [] 0 b (omega arith) e
