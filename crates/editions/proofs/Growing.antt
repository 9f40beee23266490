-- An archive with one more file behind it: its files are those that it had, and this one. Assumes nothing.
use mathlib.Core.Path.{◌≡◌, refl, sym, ap, ◌∙◌}
use mathlib.Core.Bool.{Bool, true, false, cond}
use mathlib.Core.List.{List, [], ◌∷◌, ◌++◌}
use mathlib.Core.Option.{Option, none, some}
use Prim.Native.Nat.{ℕ, zero, suc, ◌+◌, ◌≤◌, ◌<◌}
use native.Mathlib.Omega.{arith}
use lib.Dec.{ltb, eqb}
use lib.ListN.{length, take, drop, length-append, length-drop, get_or-append}
use lib.Seq.{take-append-le, drop-append-le, take-length, drop-length}
use borrow.Author.Tests.{le-ltb, ne_eqb, eqb-true, ltb-false}
use Rattle.refusals.specs.declared.Fault.{Fault}
use Rattle.refusals.specs.declared.Refusal.TheVariants.{DataTooShort}
use Rattle.taggedfields.specs.Fields.{reading}
use Rattle.taggedfields.proofs.Parts.{none-some}
use Rattle.editions.specs.Archive.{Saved, Archive, ended, stopped, with_file, if_sound, le32, archive_from, archive_of, bytes32, record_of}

-- a whole record in front: its file, and what is behind it
front : (bound at : ℕ) (bytes : List ℕ) → 4 ≤ length bytes → le32 bytes ≤ length (drop 4 bytes)
    → archive_from (suc bound) at bytes
    ≡ if_sound (record { start = at + 4; file = take (le32 bytes) (drop 4 bytes) }) (reading (take (le32 bytes) (drop 4 bytes))).fault (archive_from bound (at + 4 + le32 bytes)
    (drop (le32 bytes) (drop 4 bytes)))
unfolding archive_from
front bound at bytes h k =
    let behind = archive_from bound (at + 4 + le32 bytes) (drop (le32 bytes) (drop 4 bytes)) in
    let this = if_sound (record { start = at + 4; file = take (le32 bytes) (drop 4 bytes) }) (reading (take (le32 bytes) (drop 4 bytes))).fault behind in
    ap (λ t. cond t ended (cond (ltb (length bytes) 4) (stopped DataTooShort at) (cond (ltb (length (drop 4 bytes)) (le32 bytes)) (stopped DataTooShort at) this)))
    (ne_eqb (length bytes) 0 (λ z. omega arith))
    ∙ ap (λ t. cond t (stopped DataTooShort at) (cond (ltb (length (drop 4 bytes)) (le32 bytes)) (stopped DataTooShort at) this)) (le-ltb (length bytes) 4 h)
    ∙ ap (λ t. cond t (stopped DataTooShort at) this) (le-ltb (length (drop 4 bytes)) (le32 bytes) k)

-- the archive of one file
one_file : (bound at : ℕ) (file : List ℕ) → length (record_of file) ≤ bound → length file < 4294967296 → (reading file).fault ≡ none
    → archive_from bound at (record_of file) ≡ record { files = record { start = at + 4; file = file } ∷ []; fault = none }
unfolding archive_from
one_file zero at file h w e = absurd (omega (arith, length-append (bytes32 (length file)) file))
one_file (suc bound) at file h w e =
    let n : le32 (record_of file) ≡ length file = omega arith in
    let l : length (record_of file) ≡ 4 + length file = length-append (bytes32 (length file)) file in
    front bound at (record_of file) (omega arith) (omega arith)
    ∙ ap (λ i. if_sound (record { start = at + 4; file = take i file }) (reading (take i file)).fault (archive_from bound (at + 4 + i) (drop i file))) n
    ∙ ap (λ (f : List ℕ). if_sound (record { start = at + 4; file = f }) (reading f).fault (archive_from bound (at + 4 + length file) (drop (length file) file))) (take-length file)
    ∙ ap (λ o. if_sound (record { start = at + 4; file = file }) o (archive_from bound (at + 4 + length file) (drop (length file) file))) e
    ∙ ap (λ r. with_file (record { start = at + 4; file = file }) (archive_from bound (at + 4 + length file) r)) (drop-length file)
    ∙ ap (with_file (record { start = at + 4; file = file })) (empty bound (at + 4 + length file))
  where
    empty : (b i : ℕ) → archive_from b i [] ≡ ended
    empty zero i = refl
    empty (suc b) i = refl

-- what stands in front of more bytes is read as before
module _ (bytes more : List ℕ) (h : 4 ≤ length bytes) where
  le32-append : le32 (bytes ++ more) ≡ le32 bytes
  le32-append = rw (
    get_or-append bytes more 0 0 (omega arith),
    get_or-append bytes more 0 1 (omega arith),
    get_or-append bytes more 0 2
        (omega arith),
    get_or-append bytes more 0 3 (omega arith),
  ) refl

  front-append : (bound at : ℕ) → le32 bytes ≤ length (drop 4 bytes)
      → archive_from (suc bound) at (bytes ++ more)
      ≡ if_sound (record { start = at + 4; file = take (le32 bytes) (drop 4 bytes) }) (reading (take (le32 bytes) (drop 4 bytes))).fault
      (archive_from bound (at + 4 + le32 bytes) (drop (le32 bytes) (drop 4 bytes) ++ more))
  front-append bound at k =
      let n = le32 bytes in
      let d : drop 4 (bytes ++ more) ≡ drop 4 bytes ++ more = drop-append-le 4 bytes more h in
      let turn : ℕ → List ℕ → Archive = λ i l. if_sound (record { start = at + 4; file = take i l }) (reading (take i l)).fault (archive_from bound (at + 4 + i) (drop i l)) in
      let t : take n (drop 4 bytes ++ more) ≡ take n (drop 4 bytes) = take-append-le n (drop 4 bytes) more k in
      front bound at (bytes ++ more) (omega (arith, length-append bytes more)) (omega (arith, le32-append, length-append (drop 4 bytes) more, ap length d))
      ∙ ap (λ i. turn i (drop 4 (bytes ++ more))) le32-append ∙ ap (turn n) d
      ∙ ap (λ (f : List ℕ). if_sound (record { start = at + 4; file = f }) (reading f).fault (archive_from bound (at + 4 + n) (drop n (drop 4 bytes ++ more)))) t
      ∙ ap (λ r. if_sound (record { start = at + 4; file = take n (drop 4 bytes) }) (reading (take n (drop 4 bytes))).fault (archive_from bound (at + 4 + n) r))
      (drop-append-le n (drop 4 bytes) more k)

-- an archive without a fault that is not empty has a whole record in front
no_cut : (bound at : ℕ) (bytes : List ℕ) → 0 < length bytes → (archive_from (suc bound) at bytes).fault ≡ none → (4 ≤ length bytes) × (le32 bytes ≤ length (drop 4 bytes))
unfolding archive_from
no_cut bound at bytes h z = go (eqb (length bytes) 0) refl (ltb (length bytes) 4) refl (ltb (length (drop 4 bytes)) (le32 bytes)) refl z
  where
    this : Archive
    this = if_sound (record { start = at + 4; file = take (le32 bytes) (drop 4 bytes) }) (reading (take (le32 bytes) (drop 4 bytes))).fault
        (archive_from bound (at + 4 + le32 bytes) (drop (le32 bytes) (drop 4 bytes)))

    go : (p : Bool) → eqb (length bytes) 0 ≡ p → (q : Bool) → ltb (length bytes) 4 ≡ q → (r : Bool) → ltb (length (drop 4 bytes)) (le32 bytes) ≡ r
        → (cond p ended (cond q (stopped DataTooShort at) (cond r (stopped DataTooShort at) this))).fault ≡ none → (4 ≤ length bytes) × (le32 bytes ≤ length (drop 4 bytes))
    go true d q c r k e = absurd (omega (arith, eqb-true (length bytes) 0 d))
    go false d true c r k e = absurd (none-some (sym e))
    go false d false c true k e = absurd (none-some (sym e))
    go false d false c false k e = (ltb-false (length bytes) 4 c, ltb-false (length (drop 4 bytes)) (le32 bytes) k)

-- one more file, where it comes to stand
abbrev pub with : List Saved → ℕ → List ℕ → Archive
with files start file = record { files = files ++ (record { start = start; file = file } ∷ []); fault = none }

grown-from : (b b' at : ℕ) (bytes file : List ℕ) → length bytes ≤ b → length bytes + length (record_of file) ≤ b' → length file < 4294967296 → (reading file).fault ≡ none
    → (archive_from b at bytes).fault ≡ none → archive_from b' at (bytes ++ record_of file) ≡ with (archive_from b at bytes).files (at + length bytes + 4) file
unfolding archive_from
grown-from zero b' at [] file h k w e z =
    let a : at + 4 ≡ at + 0 + 4 = omega arith in
    one_file b' at file (omega arith) w e ∙ ap (λ i. with [] i file) a
grown-from zero b' at (x ∷ bytes) file h k w e z = absurd (omega arith)
grown-from (suc b) b' at [] file h k w e z =
    let a : at + 4 ≡ at + 0 + 4 = omega arith in
    one_file b' at file (omega arith) w e ∙ ap (λ i. with [] i file) a
grown-from (suc b) zero at (x ∷ bytes) file h k w e z = absurd (omega arith)
grown-from (suc b) (suc b') at (x ∷ bytes) file h k w e z =
    let n = no_cut b at (x ∷ bytes) (omega arith) z in
    whole n.0 n.1
    (λ q. grown-from b b' (at + 4 + le32 all) (drop (le32 all) (drop 4 all)) file
    (omega (arith, length-drop 4 all, length-drop (le32 all) (drop 4 all))) (omega (arith, length-drop 4 all, length-drop (le32 all) (drop 4 all))) w e q)
  where
    all : List ℕ
    all = x ∷ bytes

    this : Saved
    this = record { start = at + 4; file = take (le32 all) (drop 4 all) }

    behind : Archive
    behind = archive_from b (at + 4 + le32 all) (drop (le32 all) (drop 4 all))

    Behind : Type 0
    Behind = behind.fault ≡ none
        → archive_from b' (at + 4 + le32 all) (drop (le32 all) (drop 4 all) ++ record_of file) ≡ with behind.files (at + 4 + le32 all + length (drop (le32 all) (drop 4 all)) + 4) file

    whole : 4 ≤ length all → le32 all ≤ length (drop 4 all) → Behind → archive_from (suc b') at (all ++ record_of file) ≡ with (archive_from (suc b) at all).files (at + length all + 4) file
    whole p q again = on (reading this.file).fault refl
      where
        on : (o : Option Fault) → (reading this.file).fault ≡ o → archive_from (suc b') at (all ++ record_of file) ≡ with (archive_from (suc b) at all).files (at + length all + 4) file
        on (some y) d = absurd (none-some (sym z ∙ ap (λ r. r.fault) (front b at all p q ∙ ap (λ o. if_sound this o behind) d)))
        on none d =
            let was : archive_from (suc b) at all ≡ with_file this behind = front b at all p q ∙ ap (λ o. if_sound this o behind) d in
            let n : at + 4 + le32 all + length (drop (le32 all) (drop 4 all)) + 4 ≡ at + length all + 4 = omega (arith, length-drop 4 all, length-drop (le32 all) (drop 4 all)) in
            front-append all (record_of file) p b' at q
            ∙ ap (λ o. if_sound this o (archive_from b' (at + 4 + le32 all) (drop (le32 all) (drop 4 all) ++ record_of file))) d
            ∙ ap (with_file this) (again (sym (ap (λ r. r.fault) was) ∙ z)) ∙ ap (λ i. with (this ∷ behind.files) i file) n
            ∙ ap (λ r. with r.files (at + length all + 4) file) (sym was)

pub grown_archive : (archive file : List ℕ) → length file < 4294967296 → (reading file).fault ≡ none → (archive_of archive).fault ≡ none
    → archive_of (archive ++ record_of file) ≡ with (archive_of archive).files (length archive + 4) file
unfolding archive_of
grown_archive archive file w e z =
    let n : 0 + length archive + 4 ≡ length archive + 4 = omega arith in
    grown-from (length archive) (length (archive ++ record_of file)) 0 archive file (omega arith) (omega (arith, length-append archive (record_of file))) w e z
    ∙ ap (λ i. with (archive_from (length archive) 0 archive).files i file) n
