-- The walk over an archive: what is found from here on, behind what was found before, is what the whole archive has. Assumes nothing.
use mathlib.Core.Path.{◌≡◌, refl, sym, ap, ◌∙◌, subst}
use mathlib.Core.Bool.{Bool, true, false, cond}
use mathlib.Core.List.{List}
use mathlib.Core.Option.{Option, none, some}
use Prim.Native.Nat.{ℕ, zero, suc, ◌+◌, ◌-◌, ◌≤◌, ◌<◌}
use native.Mathlib.Omega.{arith}
use lib.Dec.{ltb, eqb}
use lib.ListN.{length, take, drop, length-drop, drop_of_length-le}
use lib.Seq.{drop-drop, get_or-drop, length-take-le}
use borrow.Author.Tests.{lt-ltb, le-ltb, eq-eqb, ne_eqb, eqb-true}
use Rattle.std.specs.Prelude.{Ok, Err}
use Rattle.std.specs.Prelude as rust
use Rattle.refusals.specs.declared.Fault.{Fault}
use Rattle.refusals.specs.declared.Refusal.{Refusal}
use Rattle.refusals.specs.declared.Refusal.TheVariants.{DataTooShort}
use Rattle.refusals.specs.Faults.{fault, refused}
use Rattle.taggedfields.specs.declared.Span.{Span}
use Rattle.taggedfields.specs.Fields.{reading, field_in}
use Rattle.taggedfields.specs.Looking.{part_of, looked}
use Rattle.taggedfields.proofs.Parts.{fault-within}
use Rattle.taggedfields.proofs.Answers.{says-fault, says_none, says_absent, says-found, shown_within, shown_part}
use Rattle.editions.specs.Archive.{Saved, Archive, ended, stopped, with_file, if_sound, le32, sized, archive_from, archive_of, same, is_edition, find_edition}
use Rattle.editions.specs.Meeting.{length_in, met_from, met_as, found_as, or_this, searched_from, searched}

-- ---- one saved file
module _ (file edition : List ℕ) where
  pub met-fault : {x : Fault} → Err x ≡ looked file 1 → Err x ≡ met_as file edition
  unfolding met_as
  met-fault e = rw (says-fault file 1 e) refl

  pub met_none : Ok rust.None ≡ looked file 1 → Ok false ≡ met_as file edition
  unfolding met_as
  met_none e = rw (says_none file 1 e, says_absent file 1 e) refl

  pub found_within : {s : Span} → Ok (rust.Some s) ≡ looked file 1 → s.start + s.size ≤ length file
  found_within e = shown_within (says-found file 1 e)

  pub met-found : {s : Span} → Ok (rust.Some s) ≡ looked file 1 → Ok (same (part_of file s) edition) ≡ met_as file edition
  unfolding met_as
  met-found {s} e =
      let w = says-found file 1 e in
      let all : met_from edition (reading file).fault (field_in file 1) ≡ Ok (same w.field.contents edition) = rw (says_none file 1 e, w.is) refl in
      ap (λ l. Ok (same l edition)) (shown_part w) ∙ sym all

-- ---- the steps of the walk
abbrev pub from : ℕ → List ℕ → ℕ → Archive
from bound archive at = archive_from bound at (drop at archive)

-- the saved file of the record at a place
abbrev pub saved_at : List ℕ → ℕ → Saved
saved_at archive at = record { start = at + 4; file = take (length_in archive at) (drop (at + 4) archive) }

pub from_end : (archive : List ℕ) (at bound : ℕ) → length archive ≤ at → from bound archive at ≡ ended
unfolding archive_from
from_end archive at zero h = refl
from_end archive at (suc bound) h = ap (archive_from (suc bound) at) (drop_of_length-le archive {i = at} h)

module _ (archive : List ℕ) (at bound : ℕ) where
  opened : at < length archive
      → from (suc bound) archive at ≡ cond (ltb (length (drop at archive)) 4) (stopped DataTooShort at) (sized at (le32 (drop at archive)) (drop 4 (drop at archive)) (archive_from bound))
  unfolding archive_from
  opened h = ap (λ t. cond t ended (cond (ltb (length (drop at archive)) 4) (stopped DataTooShort at) (sized at (le32 (drop at archive)) (drop 4 (drop at archive)) (archive_from bound))))
      (ne_eqb (length (drop at archive)) 0 (λ z. omega (arith, z, length-drop at archive)))

  pub from-cut-length : at < length archive → length archive - at < 4 → from (suc bound) archive at ≡ stopped DataTooShort at
  from-cut-length h k =
      opened h
      ∙ ap (λ t. cond t (stopped DataTooShort at) (sized at (le32 (drop at archive)) (drop 4 (drop at archive)) (archive_from bound)))
      (lt-ltb (length (drop at archive)) 4 (omega (arith, length-drop at archive)))

  length_is : le32 (drop at archive) ≡ length_in archive at
  length_is = rw (get_or-drop at archive 0 0, get_or-drop at archive 1 0, get_or-drop at archive 2 0, get_or-drop at archive 3 0) refl

  whole_length : at + 4 ≤ length archive → from (suc bound) archive at ≡ sized at (length_in archive at) (drop (at + 4) archive) (archive_from bound)
  whole_length h =
      opened (omega arith)
      ∙ ap (λ t. cond t (stopped DataTooShort at) (sized at (le32 (drop at archive)) (drop 4 (drop at archive)) (archive_from bound)))
      (le-ltb (length (drop at archive)) 4 (omega (arith, length-drop at archive)))
      ∙ ap (λ n. sized at n (drop 4 (drop at archive)) (archive_from bound)) length_is ∙ ap (λ l. sized at (length_in archive at) l (archive_from bound)) (drop-drop 4 at archive)

  pub from_cut : at + 4 ≤ length archive → length archive - (at + 4) < length_in archive at → from (suc bound) archive at ≡ stopped DataTooShort at
  from_cut h k =
      whole_length h
      ∙ ap (λ t. cond t (stopped DataTooShort at) (if_sound (saved_at archive at) (reading (saved_at archive at).file).fault (archive_from bound (at + 4 + length_in archive at)
      (drop (length_in archive at) (drop (at + 4) archive)))))
      (lt-ltb (length (drop (at + 4) archive)) (length_in archive at) (omega (arith, length-drop (at + 4) archive)))

  pub from-file : at + 4 + length_in archive at ≤ length archive
      → from (suc bound) archive at ≡ if_sound (saved_at archive at) (reading (saved_at archive at).file).fault (from bound archive (at + 4 + length_in archive at))
  from-file h =
      whole_length (omega arith)
      ∙ ap (λ t. cond t (stopped DataTooShort at) (if_sound (saved_at archive at) (reading (saved_at archive at).file).fault (archive_from bound (at + 4 + length_in archive at)
      (drop (length_in archive at) (drop (at + 4) archive)))))
      (le-ltb (length (drop (at + 4) archive)) (length_in archive at) (omega (arith, length-drop (at + 4) archive)))
      ∙ ap (λ l. if_sound (saved_at archive at) (reading (saved_at archive at).file).fault (archive_from bound (at + 4 + length_in archive at) l)) (drop-drop (length_in archive at)
      (at + 4) archive)

-- ---- the walk
-- what was found before, or else what is found from here on
abbrev pub or_found : rust.Option Span → Option Saved → rust.Option Span
or_found (rust.Some f) o = rust.Some f
or_found rust.None o = found_as o

pub record Searching (archive edition : List ℕ) (at : ℕ) (found : rust.Option Span) : Type 0 where
  pub bound : ℕ
  pub enough : length archive ≤ at + bound
  pub within : at ≤ length archive
  pub faults : (from bound archive at).fault ≡ (archive_of archive).fault
  pub comes : or_found found (find_edition edition (from bound archive at).files) ≡ found_as (find_edition edition (archive_of archive).files)

pub search_start : {archive edition : List ℕ} → Searching archive edition 0 rust.None
unfolding archive_of
search_start {archive} = record { bound = length archive; enough = omega arith; within = omega arith; faults = refl; comes = refl }

-- of one saved file
met-says-fault : (file edition : List ℕ) {x : Fault} → Err x ≡ met_as file edition → (reading file).fault ≡ some x
unfolding met_as
met-says-fault file edition {x} e = go (reading file).fault e
  where
    go : (o : Option Fault) → Err x ≡ met_from edition o (field_in file 1) → o ≡ some x
    go none q = absurd (cc)
    go (some y) q = cc

met-says_none : (file edition : List ℕ) {is : Bool} → Ok is ≡ met_as file edition → (reading file).fault ≡ none
unfolding met_as
met-says_none file edition {is} e = go (reading file).fault e
  where
    go : (o : Option Fault) → Ok is ≡ met_from edition o (field_in file 1) → o ≡ none
    go none q = refl
    go (some y) q = absurd (cc)

met-says_is : (file edition : List ℕ) {is : Bool} → Ok is ≡ met_as file edition → is ≡ is_edition edition file
unfolding met_as
met-says_is file edition {is} e = go (reading file).fault e
  where
    go : (o : Option Fault) → Ok is ≡ met_from edition o (field_in file 1) → is ≡ is_edition edition file
    go none q = cc
    go (some y) q = absurd (cc)

module _ {archive edition : List ℕ} {at : ℕ} {found : rust.Option Span} (g : Searching archive edition at found) where
  unblank : or_found found none ≡ found
  unblank = go found
    where
      go : (f : rust.Option Span) → or_found f none ≡ f
      go rust.None = refl
      go (rust.Some f) = refl

  pub search_end : length archive ≤ at → Ok found ≡ searched archive edition
  unfolding searched find_edition
  search_end h =
      let e = from_end archive at g.bound h in
      let n : (archive_of archive).fault ≡ none = sym g.faults ∙ ap (λ a. a.fault) e in
      let f : found_as (find_edition edition (archive_of archive).files) ≡ found = sym g.comes ∙ ap (λ a. or_found found (find_edition edition a.files)) e ∙ unblank in
      ap Ok (sym f) ∙ sym (ap (λ o. searched_from o (found_as (find_edition edition (archive_of archive).files))) n)

  some-bound : at < length archive → (b : ℕ) × (g.bound ≡ suc b)
  some-bound h = go g.bound refl
    where
      go : (n : ℕ) → g.bound ≡ n → (b : ℕ) × (g.bound ≡ suc b)
      go zero e = absurd (omega (arith, g.enough))
      go (suc b) e = (b, e)

  search_stops : (why : Refusal) (place : ℕ) → at < length archive → ((b : ℕ) → from (suc b) archive at ≡ stopped why place) → refused why place ≡ searched archive edition
  unfolding searched
  search_stops why place h f =
      let b = some-bound h in
      let n : (archive_of archive).fault ≡ some (fault why place) = sym g.faults ∙ ap (λ i. (from i archive at).fault) b.1 ∙ ap (λ a. a.fault) (f b.0) in
      sym (ap (λ o. searched_from o (found_as (find_edition edition (archive_of archive).files))) n)

  pub search_cut-length : at < length archive → length archive - at < 4 → refused DataTooShort at ≡ searched archive edition
  search_cut-length h k = search_stops DataTooShort at h (λ b. from-cut-length archive at b h k)

  pub search_cut : at + 4 ≤ length archive → {size : ℕ} → size ≡ length_in archive at → length archive - (at + 4) < size → refused DataTooShort at ≡ searched archive edition
  search_cut h s k = search_stops DataTooShort at (omega arith) (λ b. from_cut archive at b h (omega arith))

  module _ {size end : ℕ} (s : size ≡ length_in archive at) (n : end ≡ at + 4 + size) (w : end ≤ length archive) where
    this_file : met_as (take (end - (at + 4)) (drop (at + 4) archive)) edition ≡ met_as (saved_at archive at).file edition
    this_file = let k : end - (at + 4) ≡ length_in archive at = omega arith in ap (λ i. met_as (take i (drop (at + 4) archive)) edition) k

    file-length : length (saved_at archive at).file ≡ size
    file-length = length-take-le (length_in archive at) (drop (at + 4) archive) (omega (arith, length-drop (at + 4) archive)) ∙ sym s

    module _ {x : Fault} (e : Err x ≡ met_as (take (end - (at + 4)) (drop (at + 4) archive)) edition) where
      its : (reading (saved_at archive at).file).fault ≡ some x
      its = met-says-fault (saved_at archive at).file edition (e ∙ this_file)

      pub met-place : at + 4 + x.place < length archive
      met-place = omega (arith, file-length, fault-within (saved_at archive at).file x its)

      pub search_fault : refused x.refusal (at + 4 + x.place) ≡ searched archive edition
      search_fault =
          search_stops x.refusal (at + 4 + x.place) (omega arith)
          (λ b. from-file archive at b (omega arith) ∙ ap (λ o. if_sound (saved_at archive at) o (from b archive (at + 4 + length_in archive at))) its)

    pub search_more : {is : Bool} → Ok is ≡ met_as (take (end - (at + 4)) (drop (at + 4) archive)) edition → {found' : rust.Option Span}
        → found' ≡ or_this found is (record { start = at + 4; size = size }) → Searching archive edition end found'
    unfolding find_edition
    search_more {is} e {found'} q =
        let b = some-bound (omega arith) in
        let t : at + 4 + length_in archive at ≡ end = omega arith in
        let e' : Ok is ≡ met_as (saved_at archive at).file edition = e ∙ this_file in
        let step : from g.bound archive at ≡ with_file (saved_at archive at) (from b.0 archive end) =
        ap (λ i. from i archive at) b.1 ∙ from-file archive at b.0 (omega arith)
        ∙ ap (λ o. if_sound (saved_at archive at) o (from b.0 archive (at + 4 + length_in archive at))) (met-says_none (saved_at archive at).file edition e')
        ∙ ap (λ i. with_file (saved_at archive at) (from b.0 archive i)) t in
        record {
          bound = b.0;
          enough = omega (arith, g.enough, b.1);
          within = w;
          faults = sym (ap (λ a. a.fault) step) ∙ g.faults;
          comes =
              ap (λ f. or_found f (find_edition edition (from b.0 archive end).files)) q
              ∙ sym (passes is found (find_edition edition (from b.0 archive end).files))
              ∙ ap (λ c. or_found found (cond c (some (saved_at archive at)) (find_edition edition (from b.0 archive end).files))) (met-says_is (saved_at archive at).file edition e')
              ∙ sym (ap (λ a. or_found found (find_edition edition a.files)) step) ∙ g.comes;
        }
      where
        this : ℕ → rust.Option Span
        this i = rust.Some (record { start = at + 4; size = i })

        -- what this file adds goes before what is behind it
        passes : (c : Bool) (f : rust.Option Span) (o : Option Saved)
            → or_found f (cond c (some (saved_at archive at)) o) ≡ or_found (or_this f c (record { start = at + 4; size = size })) o
        passes c (rust.Some f) o = refl
        passes true rust.None o = ap this file-length
        passes false rust.None o = refl
