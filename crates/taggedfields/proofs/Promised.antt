-- THEOREM of files of fields (specs/Promised): by induction over the fields that are written, and over the bytes that are read; the rest is
-- Spelt's laws. Assumes nothing.
use mathlib.Core.Path.{◌≡◌, refl, sym, ap, ◌∙◌, subst}
use mathlib.Core.Bool.{false, cond}
use mathlib.Core.List.{List, [], ◌∷◌, ◌++◌}
use mathlib.Core.Option.{none, some}
use Prim.Native.Nat.{ℕ, zero, suc, ◌+◌, ◌*◌, ◌/◌, ◌%◌, ◌≤◌}
use native.Mathlib.Omega.{arith}
use lib.ListN.{length, get_or, take, drop, length-append}
use lib.Seq.{take-append_seam, drop-append_seam}
use borrow.Author.Tests.{le-ltb}
use Rattle.refusals.specs.declared.Refusal.TheVariants.{DataTooShort, RepeatedTag}
use Rattle.taggedfields.specs.Fields.{Field, stopped, with_field, among, sized, headed, read_from, reading, field_in, bytes_of, spelt}
use Rattle.taggedfields.specs.Looking.{size_in}
use Rattle.taggedfields.specs.Promised.{tags_of, Once, laid, Sound, Promised}
use Rattle.taggedfields.proofs.Steps.{from, Step, ends, stops, goes, step}
use Rattle.taggedfields.proofs.Parts.{field_found}
use Rattle.taggedfields.proofs.Spelt.{in_bytes, spelt-reading}

-- ---- what is written reads back
-- the reading of one field that stands in front of others
front : (bound : ℕ) (tags : List ℕ) (at : ℕ) (f : Field) (rest : List ℕ) → among f.tag tags ≡ false
    → read_from (suc bound) tags at (bytes_of f ++ rest)
    ≡ with_field (record { tag = f.tag; place = at; contents = f.contents }) (read_from bound (f.tag ∷ tags) (at + 3 + length f.contents) rest)
unfolding read_from
front bound tags at f rest e =
    let n = length f.contents in
    let size : n % 256 + 256 * (n / 256) ≡ n = omega arith in
    let k = read_from bound (f.tag ∷ tags) in
    let l : length (f.contents ++ rest) ≡ n + length rest = length-append f.contents rest in
    ap (λ c. cond c (stopped RepeatedTag at) (headed f.tag at (n % 256 ∷ n / 256 ∷ (f.contents ++ rest)) k)) e
    ∙ ap (λ i. sized f.tag at i (f.contents ++ rest) k) size
    ∙ ap (λ c. cond c (stopped DataTooShort at) (with_field (record { tag = f.tag; place = at; contents = take n (f.contents ++ rest) }) (k (at + 3 + n) (drop n (f.contents ++ rest)))))
    (le-ltb (length (f.contents ++ rest)) n (omega (arith, l)))
    ∙ ap (λ (c : List ℕ). with_field (record { tag = f.tag; place = at; contents = c }) (k (at + 3 + n) (drop n (f.contents ++ rest)))) (take-append_seam f.contents rest)
    ∙ ap (λ r. with_field (record { tag = f.tag; place = at; contents = f.contents }) (k (at + 3 + n) r)) (drop-append_seam f.contents rest)

back_from : (bound : ℕ) (tags : List ℕ) (at : ℕ) (fs : List Field) → length (spelt fs) ≤ bound → Once tags (tags_of fs)
    → read_from bound tags at (spelt fs) ≡ record { fields = laid at fs; fault = none }
unfolding read_from spelt laid tags_of
back_from zero tags at [] h w = refl
back_from (suc bound) tags at [] h w = refl
back_from zero tags at (f ∷ fs) h w = absurd (omega (arith, length-append (bytes_of f) (spelt fs)))
back_from (suc bound) tags at (f ∷ fs) h w =
    front bound tags at f (spelt fs) w.0
    ∙ ap (with_field (record { tag = f.tag; place = at; contents = f.contents }))
    (back_from bound (f.tag ∷ tags) (at + 3 + length f.contents) fs (omega (arith, length-append (bytes_of f) (spelt fs))) w.1)

reads_back : (fs : List Field) → Once [] (tags_of fs) → reading (spelt fs) ≡ record { fields = laid 0 fs; fault = none }
unfolding reading
reads_back fs w = back_from (length (spelt fs)) [] 0 fs (omega arith) w

-- ---- what is read has no two of one tag
once-from : (bound : ℕ) (file tags : List ℕ) (at : ℕ) → Once tags (tags_of (from bound file tags at).fields)
unfolding read_from tags_of
once-from zero file tags at = tt
once-from (suc bound) file tags at = go (once-from bound file (get_or file at 0 ∷ tags) (at + 3 + size_in file at)) (step file tags at bound)
  where
    go : Once (get_or file at 0 ∷ tags) (tags_of (from bound file (get_or file at 0 ∷ tags) (at + 3 + size_in file at)).fields) → Step file tags at bound
        → Once tags (tags_of (from (suc bound) file tags at).fields)
    go again (ends h q) = subst (λ r. Once tags (tags_of r.fields)) (sym q) tt
    go again (stops why h q) = subst (λ r. Once tags (tags_of r.fields)) (sym q) tt
    go again (goes h k q) = subst (λ r. Once tags (tags_of r.fields)) (sym q) (k, again)

once-read : (file : List ℕ) → Once [] (tags_of (reading file).fields)
unfolding reading
once-read file = once-from (length file) file [] 0

-- ---- where a field stands
stands-there : (file : List ℕ) → Sound file → (t : ℕ) (f : Field) → field_in file t ≡ some f → take (3 + length f.contents) (drop f.place file) ≡ bytes_of f
stands-there file s t f e =
    let i = (field_found file t f e).0 in
    ap (λ n. take (3 + n) (drop f.place file)) i.size ∙ sym (in_bytes file f s.bytes i)

pub fields_keep_their_promises : Promised
fields_keep_their_promises = record { back = reads_back; once = once-read; whole = λ file s. spelt-reading file s.bytes s.clean; stands = stands-there }
