-- THEOREM of 02's K8, of editions (specs/Promised): an archive that grew has the files that it had and the new one (Growing), and what is
-- found in it stands there whole (Standing). Assumes nothing.
use mathlib.Core.Path.{◌≡◌, refl, sym, ap, ◌∙◌, subst}
use mathlib.Core.Bool.{Bool, true, false, cond}
use mathlib.Core.List.{List, [], ◌∷◌, ◌++◌}
use mathlib.Core.Option.{Option, none, some}
use Prim.Native.Nat.{ℕ, ◌+◌, ◌-◌, ◌≤◌, min}
use native.Mathlib.Omega.{arith}
use lib.Dec.{ltb}
use lib.ListN.{length, take, drop, length-append, length-drop}
use lib.Seq.{take-length, take-append-le, take-append_seam, drop-append-le, drop-append-add}
use borrow.Author.Tests.{le-ltb, ltb-false}
use Rattle.std.specs.Prelude.{Result, Ok, Err}
use Rattle.refusals.specs.declared.Fault.{Fault}
use Rattle.refusals.specs.declared.Refusal.TheVariants.{InputTooLong, NoRoom, NoSuchField}
use Rattle.refusals.specs.Faults.{fault, refused}
use Rattle.taggedfields.specs.declared.Span.{Span}
use Rattle.refusals.specs.Limits.{nothing}
use Rattle.clearing.specs.Lent.{zeros, padded}
use Rattle.taggedfields.specs.Fields.{Field, reading, field_in}
use Rattle.editions.specs.Archive.{Saved, archive_of, same, is_field, is_edition, find_edition, record_of}
use Rattle.editions.specs.Answers.{span_of, edition_from, edition_of, refused_as, in_room, if_new, saved_from, saved_of}
use Rattle.editions.specs.Promised.{file_at, IsOf, grown, Saves, Promised}
use Rattle.editions.proofs.Saving.{short-enough}
use Rattle.editions.proofs.Growing.{with, grown_archive}
use Rattle.editions.proofs.Standing.{found-stands, same_equal, equal_same, field_is}

-- ---- what an accepted save says
record Accepted (archive file : List ℕ) (room : ℕ) : Type 0 where
  short : length archive ≤ nothing
  clean : (archive_of archive).fault ≡ none
  sound : (reading file).fault ≡ none
  field : Field
  has : field_in file 1 ≡ some field
  new : find_edition field.contents (archive_of archive).files ≡ none
  fits : length (grown archive file) ≤ min room nothing
  gives : saved_of archive file room ≡ (Ok (length (grown archive file)), padded room (grown archive file))

-- what is known of the two files gives the answer
module _ (archive file : List ℕ) (room : ℕ) (l : length archive ≤ nothing) (a : (archive_of archive).fault ≡ none) (s : (reading file).fault ≡ none)
    (f : Field) (h : field_in file 1 ≡ some f) where
  known : saved_of archive file room ≡ if_new (find_edition f.contents (archive_of archive).files) (grown archive file) room
  known =
      short-enough archive file room l ∙ ap (λ o. saved_from (archive_of archive).files o (reading file).fault (field_in file 1) (grown archive file) room) a
      ∙ ap (λ o. saved_from (archive_of archive).files none o (field_in file 1) (grown archive file) room) s
      ∙ ap (λ o. saved_from (archive_of archive).files none none o (grown archive file) room) h

  put : (n : ℕ) → find_edition f.contents (archive_of archive).files ≡ none → (in_room (grown archive file) room).0 ≡ Ok n → Accepted archive file room
  put m n z = go (ltb (min room nothing) (length (grown archive file))) refl z
    where
      go : (c : Bool) → ltb (min room nothing) (length (grown archive file)) ≡ c
          → (cond {A = Result ℕ Fault × List ℕ} c (refused_as (fault NoRoom (min room nothing)) room)
          (Ok (length (grown archive file)), padded room (grown archive file))).0 ≡ Ok m
          → Accepted archive file room
      go true e q = absurd (cc)
      go false e q =
          record {
            short = l;
            clean = a;
            sound = s;
            field = f;
            has = h;
            new = n;
            fits = ltb-false (min room nothing) (length (grown archive file)) e;
            gives =
                known ∙ ap (λ o. if_new o (grown archive file) room) n
                ∙ ap (λ c. cond {A = Result ℕ Fault × List ℕ} c (refused_as (fault NoRoom (min room nothing)) room)
                (Ok (length (grown archive file)), padded room (grown archive file))) e;
          }

  new_only : (m : ℕ) (o : Option Saved) → find_edition f.contents (archive_of archive).files ≡ o → (if_new o (grown archive file) room).0 ≡ Ok m → Accepted archive file room
  new_only m (some x) n z = absurd (cc)
  new_only m none n z = put m n z

accepted : (archive file : List ℕ) (room m : ℕ) → (saved_of archive file room).0 ≡ Ok m → Accepted archive file room
unfolding saved_of
accepted archive file room m z = long (ltb nothing (length archive)) refl z
  where
    on : length archive ≤ nothing → (a c : Option Fault) (f : Option Field) → (archive_of archive).fault ≡ a → (reading file).fault ≡ c → field_in file 1 ≡ f
        → (saved_from (archive_of archive).files a c f (grown archive file) room).0 ≡ Ok m → Accepted archive file room
    on l (some x) c f p q h z = absurd (cc)
    on l none (some x) f p q h z = absurd (cc)
    on l none none none p q h z = absurd (cc)
    on l none none (some f) p q h z = new_only archive file room l p q f h m (find_edition f.contents (archive_of archive).files) refl z

    long : (c : Bool) → ltb nothing (length archive) ≡ c
        → (cond {A = Result ℕ Fault × List ℕ} c (refused_as (fault InputTooLong 0) room) (saved_from (archive_of archive).files (archive_of archive).fault (reading file).fault (field_in file 1)
        (grown archive file) room)).0 ≡ Ok m
        → Accepted archive file room
    long true l q = absurd (cc)
    long false l q = on (ltb-false nothing (length archive) l) (archive_of archive).fault (reading file).fault (field_in file 1) refl refl refl q

-- ---- the file of an edition, in an archive that is short enough
short_edition : (archive edition : List ℕ) → length archive ≤ nothing → edition_of archive edition ≡ edition_from (archive_of archive).fault (find_edition edition (archive_of archive).files)
unfolding edition_of
short_edition archive edition h =
    ap (λ t. cond t (refused InputTooLong 0) (edition_from (archive_of archive).fault (find_edition edition (archive_of archive).files))) (le-ltb nothing (length archive) h)

-- the first of an edition, or else the last file
abbrev or_last : Option Saved → Option Saved → Option Saved
or_last (some s) o = some s
or_last none o = o

find_last : (edition : List ℕ) (files : List Saved) (s : Saved) → find_edition edition (files ++ (s ∷ [])) ≡ or_last (find_edition edition files)
    (cond (is_edition edition s.file) (some s) none)
unfolding find_edition
find_last edition [] s = refl
find_last edition (x ∷ files) s = go (is_edition edition x.file) (find_last edition files s)
  where
    go : (c : Bool) → find_edition edition (files ++ (s ∷ [])) ≡ or_last (find_edition edition files) (cond (is_edition edition s.file) (some s) none)
        → cond c (some x) (find_edition edition (files ++ (s ∷ []))) ≡ or_last (cond c (some x) (find_edition edition files)) (cond (is_edition edition s.file) (some s) none)
    go true again = refl
    go false again = again

-- an answer that is accepted has found a file
record Found (archive edition : List ℕ) : Type 0 where
  short : length archive ≤ nothing
  clean : (archive_of archive).fault ≡ none
  saved : Saved
  is : find_edition edition (archive_of archive).files ≡ some saved
  gives : edition_of archive edition ≡ Ok (span_of saved)

found : (archive edition : List ℕ) (x : Span) → edition_of archive edition ≡ Ok x → Found archive edition
unfolding edition_of
found archive edition x z = long (ltb nothing (length archive)) refl z
  where
    on : length archive ≤ nothing → (o : Option Fault) (s : Option Saved) → (archive_of archive).fault ≡ o → find_edition edition (archive_of archive).files ≡ s
        → edition_from o s ≡ Ok x → Found archive edition
    on l (some y) s a e q = absurd (cc)
    on l none none a e q = absurd (cc)
    on l none (some s) a e q =
        record {
          short = l;
          clean = a;
          saved = s;
          is = e;
          gives = short_edition archive edition l ∙ ap (λ o. edition_from o (find_edition edition (archive_of archive).files)) a
              ∙ ap (edition_from none) e;
        }

    long : (c : Bool) → ltb nothing (length archive) ≡ c → cond c (refused InputTooLong 0) (edition_from (archive_of archive).fault
        (find_edition edition (archive_of archive).files)) ≡ Ok x → Found archive edition
    long true l q = absurd (cc)
    long false l q = on (ltb-false nothing (length archive) l) (archive_of archive).fault (find_edition edition (archive_of archive).files) refl refl q

-- ---- the archive that grew
module _ (archive file : List ℕ) (room : ℕ) (A : Accepted archive file room) where
  abbrev last : Saved
  last = record { start = length archive + 4; file = file }

  grown-short : length (grown archive file) ≤ nothing
  grown-short = omega (arith, A.fits)

  grows : archive_of (grown archive file) ≡ with (archive_of archive).files (length archive + 4) file
  grows = grown_archive archive file (omega (arith, A.fits, length-append archive (record_of file))) A.sound A.clean

  finds : (edition : List ℕ) → find_edition edition (archive_of (grown archive file)).files ≡ or_last (find_edition edition (archive_of archive).files)
      (cond (is_edition edition file) (some last) none)
  finds edition = ap (λ a. find_edition edition a.files) grows ∙ find_last edition (archive_of archive).files last

  answers : (edition : List ℕ) → edition_of (grown archive file) edition ≡ edition_from none (or_last (find_edition edition (archive_of archive).files)
      (cond (is_edition edition file) (some last) none))
  answers edition =
      short_edition (grown archive file) edition grown-short ∙ ap (λ a. edition_from a.fault (find_edition edition (archive_of (grown archive file)).files)) grows
      ∙ ap (edition_from none) (finds edition)

  abbrev own : List ℕ
  own = A.field.contents

  own_is : is_edition own file ≡ true
  own_is = ap (is_field own) A.has ∙ equal_same own

  finds_own : find_edition own (archive_of (grown archive file)).files ≡ some last
  finds_own = finds own ∙ ap (λ o. or_last o (cond (is_edition own file) (some last) none)) A.new ∙ ap (λ c. cond c (some last) none) own_is

  new_edition : edition_of (grown archive file) own ≡ Ok (record { start = length archive + 4; size = length file })
  new_edition =
      answers own ∙ ap (λ o. edition_from none (or_last o (cond (is_edition own file) (some last) none))) A.new ∙ ap (λ c. edition_from none (cond c (some last) none)) own_is

  new_whole : file_at (grown archive file) (edition_of (grown archive file) own) ≡ file
  new_whole =
      ap (file_at (grown archive file)) new_edition ∙ ap (take (length file)) (drop-append-add archive (record_of file) 4) ∙ take-length file

  same_answer : (other : List ℕ) (x : Span) → edition_of archive other ≡ Ok x → edition_of (grown archive file) other ≡ edition_of archive other
  same_answer other x z =
      let f = found archive other x z in
      answers other ∙ ap (λ o. edition_from none (or_last o (cond (is_edition other file) (some last) none))) f.is ∙ sym f.gives

  kept-bytes : (other : List ℕ) (x : Span) → edition_of archive other ≡ Ok x → file_at (grown archive file) (edition_of (grown archive file) other) ≡ file_at archive (edition_of archive other)
  kept-bytes other x z =
      let f = found archive other x z in
      let s = f.saved in
      let w = (found-stands archive other s f.is).within in
      ap (file_at (grown archive file)) (same_answer other x z ∙ f.gives)
      ∙ ap (take (length s.file)) (drop-append-le s.start archive (record_of file) (omega arith))
      ∙ take-append-le (length s.file) (drop s.start archive) (record_of file) (omega (arith, length-drop s.start archive))
      ∙ sym (ap (file_at archive) f.gives)

  no_other : (other : List ℕ) → edition_of archive other ≡ refused NoSuchField 0 → (own ≡ other → ⊥) → edition_of (grown archive file) other ≡ refused NoSuchField 0
  no_other other e k = answers other ∙ ap (λ o. edition_from none (or_last o (cond (is_edition other file) (some last) none))) (absent (find_edition other (archive_of archive).files) refl)
      ∙ go (same own other) refl
    where
      absent : (o : Option Saved) → find_edition other (archive_of archive).files ≡ o → o ≡ none
      absent none q = refl
      absent (some s) q =
          let no : refused NoSuchField 0 ≡ Ok (span_of s) = sym e ∙ short_edition archive other A.short
          ∙ ap (λ o. edition_from o (find_edition other (archive_of archive).files)) A.clean ∙ ap (edition_from none) q in
          absurd (cc)

      go : (c : Bool) → same own other ≡ c → edition_from none (cond (is_edition other file) (some last) none) ≡ refused NoSuchField 0
      go true q = absurd (k (same_equal own other q))
      go false q = ap (λ c. edition_from none (cond c (some last) none)) (ap (is_field other) A.has ∙ q)

  not_again : (again : List ℕ) → (reading again).fault ≡ none → IsOf own (field_in again 1) → (len : ℕ) → saved_of (grown archive file) again len ≡ refused_as (fault NoSuchField 0) len
  not_again again e i len = go (field_in again 1) refl i
    where
      go : (o : Option Field) → field_in again 1 ≡ o → IsOf own o → saved_of (grown archive file) again len ≡ refused_as (fault NoSuchField 0) len
      go none h n = absurd n
      go (some f) h n =
          known (grown archive file) again len grown-short (ap (λ r. r.fault) grows) e f h
          ∙ ap (λ c. if_new (find_edition c (archive_of (grown archive file)).files) (grown (grown archive file) again) len) n
          ∙ ap (λ o. if_new o (grown (grown archive file) again) len) finds_own

  saves_so : Saves archive file own
  saves_so = record { new = new_edition; whole = new_whole; same = same_answer; kept = kept-bytes; none_else = no_other; once = not_again }

-- ---- the promises
front_of : (len : ℕ) (bytes : List ℕ) → take (length bytes) (padded len bytes) ≡ bytes
unfolding padded
front_of len bytes = take-append_seam bytes (zeros (len - length bytes))

is_written : (archive file : List ℕ) (room n : ℕ) → (saved_of archive file room).0 ≡ Ok n
    → (n ≡ length (grown archive file)) × (take (length (grown archive file)) (saved_of archive file room).1 ≡ grown archive file)
is_written archive file room n z =
    let A = accepted archive file room n z in
    let told : Ok n ≡ Ok (length (grown archive file)) = sym z ∙ ap (λ p. p.0) A.gives in
    (cc, ap (λ p. take (length (grown archive file)) p.1) A.gives ∙ front_of room (grown archive file))

rolled_back : (archive edition : List ℕ) (x : Span) → edition_of archive edition ≡ Ok x
    → ((reading (file_at archive (edition_of archive edition))).fault ≡ none) × IsOf edition (field_in (file_at archive (edition_of archive edition)) 1)
rolled_back archive edition x z =
    let f = found archive edition x z in
    let s = f.saved in
    let w = found-stands archive edition s f.is in
    let bytes : file_at archive (edition_of archive edition) ≡ s.file = ap (file_at archive) f.gives ∙ w.part in
    (ap (λ l. (reading l).fault) bytes ∙ w.clean, field_is edition (field_in (file_at archive (edition_of archive edition)) 1) (ap (is_edition edition) bytes ∙ w.is))

pub editions_keep_their_promises : Promised
editions_keep_their_promises =
    record {
      written = is_written;
      saves = λ archive file room n z. let A = accepted archive file room n z in (A.field.contents, subst (IsOf A.field.contents) (sym A.has) refl, saves_so archive file room A);
      rolled = rolled_back;
    }
