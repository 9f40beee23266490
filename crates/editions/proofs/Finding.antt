-- The file of an edition: each way out of `find_edition`; and an archive's fault has a number of at most a repeated tag's. Assumes nothing.
use mathlib.Core.Path.{◌≡◌, refl, sym, ap, ◌∙◌}
use mathlib.Core.Bool.{Bool, true, false, cond}
use mathlib.Core.List.{List}
use mathlib.Core.Option.{Option, none, some}
use Prim.Native.Nat.{ℕ, zero, suc, ◌+◌, ◌≤◌, ◌<◌}
use native.Mathlib.Omega.{arith}
use lib.Dec.{ltb, eqb}
use lib.ListN.{length, take, drop}
use borrow.Author.Tests.{lt-ltb, le-ltb}
use Rattle.std.specs.Prelude.{Result, Ok, Err}
use Rattle.std.specs.Prelude as rust
use Rattle.refusals.specs.declared.Fault.{Fault}
use Rattle.refusals.specs.declared.Refusal.TheVariants.{DataTooShort, InputTooLong, NoSuchField}
use Rattle.refusals.specs.Numbers.{repeated_tag}
use Rattle.std.specs.Option.{ok_or}
use Rattle.refusals.specs.Faults.{fault, refused, number_of}
use Rattle.refusals.specs.Limits.{nothing}
use Rattle.taggedfields.specs.declared.Span.{Span}
use Rattle.taggedfields.specs.Fields.{reading}
use Rattle.taggedfields.proofs.Parts.{none-some, stop-most, fault-most}
use Rattle.editions.specs.Archive.{Saved, Archive, ended, stopped, if_sound, le32, archive_from, archive_of, find_edition}
use Rattle.editions.specs.Answers.{edition_from, edition_of}
use Rattle.editions.specs.Meeting.{found_as, searched_from, searched}

-- a fault's number is at most a repeated tag's, as a file's is
number_in : (bound at : ℕ) (bytes : List ℕ) (x : Fault) → (archive_from bound at bytes).fault ≡ some x → number_of x.refusal ≤ repeated_tag
unfolding archive_from
number_in zero at bytes x e = absurd (none-some e)
number_in (suc bound) at bytes x e =
    go (number_in bound (at + 4 + le32 bytes) (drop (le32 bytes) (drop 4 bytes)) x) (eqb (length bytes) 0) (ltb (length bytes) 4) (ltb (length (drop 4 bytes)) (le32 bytes))
    (reading (take (le32 bytes) (drop 4 bytes))).fault refl e
  where
    behind : Archive
    behind = archive_from bound (at + 4 + le32 bytes) (drop (le32 bytes) (drop 4 bytes))

    this : Saved
    this = record { start = at + 4; file = take (le32 bytes) (drop 4 bytes) }

    go : (behind.fault ≡ some x → number_of x.refusal ≤ repeated_tag) → (p q r : Bool) (o : Option Fault) → (reading (take (le32 bytes) (drop 4 bytes))).fault ≡ o
        → (cond p ended (cond q (stopped DataTooShort at) (cond r (stopped DataTooShort at) (if_sound this o behind)))).fault ≡ some x → number_of x.refusal ≤ repeated_tag
    go again true q r o d z = absurd (none-some z)
    go again false true r o d z = stop-most DataTooShort at (omega arith) z
    go again false false true o d z = stop-most DataTooShort at (omega arith) z
    go again false false false none d z = again z
    go again false false false (some y) d z = stop-most y.refusal (at + 4 + y.place) (fault-most (take (le32 bytes) (drop 4 bytes)) y d) z

pub archive_most : (archive : List ℕ) (x : Fault) → (archive_of archive).fault ≡ some x → number_of x.refusal ≤ repeated_tag
unfolding archive_of
archive_most archive x e = number_in (length archive) 0 archive x e

pub edition_long : (archive edition : List ℕ) → nothing < length archive → refused InputTooLong 0 ≡ edition_of archive edition
unfolding edition_of
edition_long archive edition h = sym (ap (λ t. cond t (refused InputTooLong 0) (edition_from (archive_of archive).fault (find_edition edition (archive_of archive).files)))
    (lt-ltb nothing (length archive) h))

module _ (archive edition : List ℕ) (l : length archive ≤ nothing) {s : Result (rust.Option Span) Fault} (e : s ≡ searched archive edition) where
  -- an answer that agrees with the archive's fault and what was found
  agrees : (r : Result Span Fault) → ((o : Option Fault) (f : Option Saved) → s ≡ searched_from o (found_as f) → r ≡ edition_from o f) → r ≡ edition_of archive edition
  unfolding edition_of searched
  agrees r f =
      f (archive_of archive).fault (find_edition edition (archive_of archive).files) e
      ∙ sym (ap (λ t. cond t (refused InputTooLong 0) (edition_from (archive_of archive).fault (find_edition edition (archive_of archive).files))) (le-ltb nothing (length archive) l))

  pub edition_fault : {x : Fault} → s ≡ Err x → Err x ≡ edition_of archive edition
  edition_fault {x} k = agrees (Err x) go
    where
      go : (o : Option Fault) (f : Option Saved) → s ≡ searched_from o (found_as f) → Err x ≡ edition_from o f
      go none f q = absurd (cc)
      go (some y) f q = cc

  pub edition_found : {f : rust.Option Span} → s ≡ Ok f → ok_or f (fault NoSuchField 0) ≡ edition_of archive edition
  edition_found {f} k = agrees (ok_or f (fault NoSuchField 0)) (go f k)
    where
      go : (f : rust.Option Span) → s ≡ Ok f → (o : Option Fault) (g : Option Saved) → s ≡ searched_from o (found_as g) → ok_or f (fault NoSuchField 0) ≡ edition_from o g
      go rust.None k none none q = refl
      go rust.None k none (some g) q = absurd (cc)
      go (rust.Some x) k none none q = absurd (cc)
      go (rust.Some x) k none (some g) q = cc
      go f k (some y) g q = absurd (cc)
