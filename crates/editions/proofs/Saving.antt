-- Saving a file: what is put into the output, and each way out of `save_edition`. Assumes nothing.
use mathlib.Core.Path.{◌≡◌, refl, sym, ap, ◌∙◌}
use mathlib.Core.Bool.{Bool, true, false, cond}
use mathlib.Core.List.{List, ◌++◌}
use mathlib.Core.Option.{Option, none, some}
use Prim.Native.Nat.{ℕ, ◌+◌, ◌-◌, ◌≤◌, ◌<◌, min}
use native.Mathlib.Omega.{arith}
use lib.Dec.{ltb}
use lib.ListN.{length, take, drop, length-append}
use lib.Seq.{sets, take-length}
use borrow.Author.Tests.{lt-ltb, le-ltb}
use Rattle.std.specs.Prelude.{Result, Ok, Err}
use Rattle.std.specs.Prelude as rust
use Rattle.std.specs.Int.{w32, to_le_bytes}
use Rattle.std.proofs.Math.Nat.{div-div-eq-div-mul}
use Rattle.refusals.specs.declared.Fault.{Fault}
use Rattle.refusals.specs.declared.Refusal.{Refusal}
use Rattle.refusals.specs.declared.Refusal.TheVariants.{InputTooLong, NoRoom, NoSuchField}
use Rattle.refusals.specs.Faults.{fault}
use Rattle.refusals.specs.Limits.{nothing}
use Rattle.clearing.specs.Lent.{zeros, padded}
use Rattle.clearing.proofs.Laws.{sets-padded}
use Rattle.taggedfields.proofs.Stored.{put_mid-sets, sets-append}
use borrow.Rule.Slice.PartMut.{put_mid}
use Rattle.taggedfields.specs.declared.Span.{Span}
use Rattle.taggedfields.specs.Fields.{Field, reading, field_in}
use Rattle.taggedfields.specs.Looking.{part_of, looked}
use Rattle.taggedfields.specs.Fitting.{fitting}
use Rattle.taggedfields.proofs.Fitted.{short, fits}
use Rattle.taggedfields.proofs.Answers.{says-fault, says_none, says_absent, says-found, shown_part}
use Rattle.editions.specs.Archive.{Saved, archive_of, find_edition, bytes32, record_of}
use Rattle.editions.specs.Answers.{refused_as, in_room, if_new, saved_from, saved_of}
use Rattle.editions.specs.Meeting.{found_as, searched_from, searched}

abbrev pub Answer : Type 0
Answer = Result ℕ Fault × List ℕ

-- ---- what is put
-- std's four bytes of a number are the archive's
pub four-bytes : (n : ℕ) → to_le_bytes w32 n ≡ bytes32 n
four-bytes n = rw (div-div-eq-div-mul n 256 256, div-div-eq-div-mul n 65536 256) refl

pub record_put : (archive file out₀ : List ℕ) {out₁ out₂ out₃ : List ℕ} → out₁ ≡ sets out₀ 0 archive → out₂ ≡ sets out₁ (length archive) (bytes32 (length file))
    → out₃ ≡ sets out₂ (length archive + 4) file → out₃ ≡ sets out₀ 0 (archive ++ record_of file)
record_put archive file out₀ {out₁} {out₂} {out₃} p q r =
    let z : 0 + length archive ≡ length archive = omega arith in
    r ∙ ap (λ o. sets o (length archive + 4) file) q
    ∙ sym (sets-append out₁ (length archive) (bytes32 (length file)) file)
    ∙ ap (λ o. sets o (length archive) (record_of file)) p
    ∙ ap (λ i. sets (sets out₀ 0 archive) i (record_of file)) (sym z) ∙ sym (sets-append out₀ 0 archive (record_of file))

pub record_length : (archive file : List ℕ) → length (archive ++ record_of file) ≡ length archive + 4 + length file
record_length archive file = omega (arith, length-append archive (record_of file))

-- bytes are put where there is room for them
module _ (bytes : List ℕ) (len : ℕ) {size : ℕ} (all : size ≡ length bytes) where
  pub no_room_lem : {x : Fault} → Err x ≡ fitting len size → {out : List ℕ} → out ≡ zeros len → ◌≡◌ {A = Answer} (Err x, out) (in_room bytes len)
  no_room_lem e z = let w = short len size e in rw (z, w.is, sym all, w.test) refl

  pub in_room_lem : {n : ℕ} → Ok n ≡ fitting len size → {out : List ℕ} → out ≡ sets (zeros len) 0 bytes → ◌≡◌ {A = Answer} (Ok n, out) (in_room bytes len)
  in_room_lem e z = let w = fits len size e in rw (z, sets-padded len bytes (omega (arith, w.within, all)), w.is, sym all, w.test) refl

-- ---- the ways out
module _ (archive file : List ℕ) (len : ℕ) where
  pub save_long : nothing < length archive → refused_as (fault InputTooLong 0) len ≡ saved_of archive file len
  unfolding saved_of
  save_long h = sym (ap (λ t. cond {A = Answer} t (refused_as (fault InputTooLong 0) len) (saved_from (archive_of archive).files (archive_of archive).fault (reading file).fault
      (field_in file 1) (archive ++ record_of file) len)) (lt-ltb nothing (length archive) h))

  module _ (l : length archive ≤ nothing) where
    pub short-enough : saved_of archive file len ≡ saved_from (archive_of archive).files (archive_of archive).fault (reading file).fault (field_in file 1) (archive ++ record_of file) len
    unfolding saved_of
    short-enough = ap (λ t. cond {A = Answer} t (refused_as (fault InputTooLong 0) len) (saved_from (archive_of archive).files (archive_of archive).fault (reading file).fault
        (field_in file 1) (archive ++ record_of file) len)) (le-ltb nothing (length archive) l)

    -- the walk's answer, of the archive's fault and of the file of an edition
    module _ (edition : List ℕ) where
      pub save_archive_fault : {x : Fault} → Err x ≡ searched archive edition → refused_as x len ≡ saved_of archive file len
      unfolding searched
      save_archive_fault {x} e = go (archive_of archive).fault e ∙ sym short-enough
        where
          go : (o : Option Fault) → Err x ≡ searched_from o (found_as (find_edition edition (archive_of archive).files))
              → refused_as x len ≡ saved_from (archive_of archive).files o (reading file).fault (field_in file 1) (archive ++ record_of file) len
          go none d = absurd (cc)
          go (some y) d = let same : x ≡ y = cc in ap (λ f. refused_as f len) same

      module _ {s : rust.Option Span} (e : Ok s ≡ searched archive edition) where
        sound : (archive_of archive).fault ≡ none
        unfolding searched
        sound = go (archive_of archive).fault e
          where
            go : (o : Option Fault) → Ok s ≡ searched_from o (found_as (find_edition edition (archive_of archive).files)) → o ≡ none
            go none d = refl
            go (some y) d = absurd (cc)

        past_archive : saved_of archive file len ≡ saved_from (archive_of archive).files none (reading file).fault (field_in file 1) (archive ++ record_of file) len
        past_archive = short-enough ∙ ap (λ o. saved_from (archive_of archive).files o (reading file).fault (field_in file 1) (archive ++ record_of file) len) sound

        found-is : s ≡ found_as (find_edition edition (archive_of archive).files)
        unfolding searched
        found-is = let q : Ok s ≡ Ok (found_as (find_edition edition (archive_of archive).files)) =
            e ∙ ap (λ o. searched_from o (found_as (find_edition edition (archive_of archive).files))) sound in cc

        pub save_file-fault : {x : Fault} → Err x ≡ looked file 1 → refused_as x len ≡ saved_of archive file len
        save_file-fault d = sym (past_archive ∙ ap (λ o. saved_from (archive_of archive).files none o (field_in file 1) (archive ++ record_of file) len) (says-fault file 1 d))

        pub save_missing : Ok rust.None ≡ looked file 1 → refused_as (fault NoSuchField 0) len ≡ saved_of archive file len
        save_missing d = sym (past_archive ∙ ap (λ o. saved_from (archive_of archive).files none o (field_in file 1) (archive ++ record_of file) len) (says_none file 1 d)
            ∙ ap (λ o. saved_from (archive_of archive).files none none o (archive ++ record_of file) len) (says_absent file 1 d))

        module _ {a : Span} (d : Ok (rust.Some a) ≡ looked file 1) (part : edition ≡ part_of file a) where
          past_edition : saved_of archive file len ≡ if_new (find_edition edition (archive_of archive).files) (archive ++ record_of file) len
          past_edition =
              let w = says-found file 1 d in
              past_archive ∙ ap (λ o. saved_from (archive_of archive).files none o (field_in file 1) (archive ++ record_of file) len) (says_none file 1 d)
              ∙ ap (λ o. saved_from (archive_of archive).files none none o (archive ++ record_of file) len) w.is
              ∙ ap (λ c. if_new (find_edition c (archive_of archive).files) (archive ++ record_of file) len) (sym (part ∙ shown_part w))

          pub save_already : {x : Span} → s ≡ rust.Some x → refused_as (fault NoSuchField 0) len ≡ saved_of archive file len
          save_already {x} n = go (find_edition edition (archive_of archive).files) (sym n ∙ found-is) ∙ sym past_edition
            where
              go : (o : Option Saved) → rust.Some x ≡ found_as o → refused_as (fault NoSuchField 0) len ≡ if_new o (archive ++ record_of file) len
              go none p = absurd (cc)
              go (some y) p = refl

          pub save_new : s ≡ rust.None → {x : Answer} → x ≡ in_room (archive ++ record_of file) len → x ≡ saved_of archive file len
          save_new n {x} q = q ∙ go (find_edition edition (archive_of archive).files) (sym n ∙ found-is) ∙ sym past_edition
            where
              go : (o : Option Saved) → rust.None ≡ found_as o → in_room (archive ++ record_of file) len ≡ if_new o (archive ++ record_of file) len
              go none p = refl
              go (some y) p = absurd (cc)
