-- The ends of the calls over settings files, for demand 1: an answer, or 2 and 22 of a file's first fault, 23, 14 of a long archive, and 17;
-- a refused writing leaves its output zero. By cases of the definitions. Assumes nothing.
use mathlib.Core.Path.{◌≡◌, refl}
use mathlib.Core.Bool.{Bool, true, false, cond}
use mathlib.Core.List.{List, ◌++◌}
use mathlib.Core.Option.{Option, none, some}
use Prim.Native.Nat.{ℕ, ◌+◌, min}
use native.Mathlib.Omega.{arith}
use lib.Dec.{ltb}
use lib.ListN.{length}
use Rattle.std.specs.Prelude.{Result, Ok}
use Rattle.refusals.specs.declared.Fault.{Fault}
use Rattle.refusals.specs.declared.Refusal.TheVariants.{InputTooLong, NoRoom}
use Rattle.refusals.specs.Faults.{number_of, fault, refused}
use Rattle.refusals.specs.Numbers.{input_too_long, no_room, no_such_field}
use Rattle.refusals.proofs.Faults.{number_in_table}
use Rattle.refusals.specs.Limits.{nothing}
use Rattle.clearing.specs.Lent.{zeros, padded}
use Rattle.taggedfields.specs.Fields.{Field, reading, field_in}
use Rattle.settings.specs.Setting.{setting_from, setting_of}
use Rattle.settings.specs.Rewriting as rewriting
use Rattle.settings.specs.Rewriting.{rewritten, rewrite_from, rewrite_of}
use Rattle.editions.specs.Archive.{Saved, archive_of, find_edition, record_of}
use Rattle.editions.specs.Answers as archived
use Rattle.editions.specs.Answers.{edition_from, edition_of, if_new, saved_from, saved_of}
use Rattle.sillgarland.specs.Settingfiles.{setting_struct, rewritten_struct, kept_struct, edition_struct}
use Rattle.sillgarland.specs.declared.settingfiles.SillSetting.{SillSetting}
use Rattle.sillgarland.specs.declared.settingfiles.SillRewritten.{SillRewritten}
use Rattle.sillgarland.specs.declared.settingfiles.SillSaved.{SillSaved}
use Rattle.sillgarland.specs.declared.settingfiles.SillEdition.{SillEdition}
use Rattle.promises.specs.Demand1.{InTable, Ends, answers, refuses, Zero, SettingEnds, RewriteEnds, SaveEnds, EditionEnds}

-- a fault's number is one of the table
pub fault_in_table : (x : Fault) → InTable (number_of x.refusal)
fault_in_table x = number_in_table x.refusal

pub setting_ends : (own fallback : List ℕ) (t : ℕ) (r : SillSetting) → r ≡ setting_struct (setting_of own fallback t) → SettingEnds r
unfolding setting_of
setting_ends own fallback t r e = go (reading own).fault (reading fallback).fault (field_in own t) (field_in fallback t) refl refl e
  where
    go : (o d : Option Fault) (f g : Option Field) → (reading own).fault ≡ o → (reading fallback).fault ≡ d → r ≡ setting_struct (setting_from o d f g) → SettingEnds r
    go (some x) d f g p q e = refuses (number_of x.refusal) x.place (fault_in_table x) e tt
    go none (some x) f g p q e = refuses (number_of x.refusal) x.place (fault_in_table x) e tt
    go none none (some f) g p q e = answers (0, f.place + 3, length f.contents) e
    go none none none (some g) p q e = answers (1, g.place + 3, length g.contents) e
    go none none none none p q e = refuses no_such_field 0 (omega arith, omega arith) e tt

pub rewrite_ends : (file changes lent left : List ℕ) (r : SillRewritten) → r ≡ rewritten_struct (rewrite_of file changes (length lent)).0 → left ≡ (rewrite_of file changes (length lent)).1
    → RewriteEnds r (Zero lent left)
unfolding rewrite_of
rewrite_ends file changes lent left r e h = go (reading file).fault (reading changes).fault refl refl e h
  where
    bytes : List ℕ
    bytes = rewritten file changes

    room : (c : Bool)
        → r ≡ rewritten_struct (cond {A = Result ℕ Fault × List ℕ} c (rewriting.refused_as (fault NoRoom (min (length lent) nothing)) (length lent))
        (Ok (length bytes), padded (length lent) bytes)).0
        → left ≡ (cond {A = Result ℕ Fault × List ℕ} c (rewriting.refused_as (fault NoRoom (min (length lent) nothing)) (length lent))
        (Ok (length bytes), padded (length lent) bytes)).1
        → RewriteEnds r (Zero lent left)
    room true e h = refuses no_room (min (length lent) nothing) (omega arith, omega arith) e h
    room false e h = answers (length bytes) e

    go : (o d : Option Fault) → (reading file).fault ≡ o → (reading changes).fault ≡ d → r ≡ rewritten_struct (rewrite_from o d bytes (length lent)).0
        → left ≡ (rewrite_from o d bytes (length lent)).1
        → RewriteEnds r (Zero lent left)
    go (some x) d p q e h = refuses (number_of x.refusal) x.place (fault_in_table x) e h
    go none (some x) p q e h = refuses (number_of x.refusal) x.place (fault_in_table x) e h
    go none none p q e h = room (ltb (min (length lent) nothing) (length bytes)) e h

pub save_ends : (archive file lent left : List ℕ) (r : SillSaved) → r ≡ kept_struct (saved_of archive file (length lent)).0 → left ≡ (saved_of archive file (length lent)).1
    → SaveEnds r (Zero lent left)
unfolding saved_of
save_ends archive file lent left r e h = long (ltb nothing (length archive)) e h
  where
    bytes : List ℕ
    bytes = archive ++ record_of file

    files : List Saved
    files = (archive_of archive).files

    Ended : Result ℕ Fault × List ℕ → Type 0
    Ended x = r ≡ kept_struct x.0 → left ≡ x.1 → SaveEnds r (Zero lent left)

    room : (c : Bool) → Ended (cond {A = Result ℕ Fault × List ℕ} c (archived.refused_as (fault NoRoom (min (length lent) nothing)) (length lent))
        (Ok (length bytes), padded (length lent) bytes))
    room true e h = refuses no_room (min (length lent) nothing) (omega arith, omega arith) e h
    room false e h = answers (length bytes) e

    new : (o : Option Saved) → Ended (if_new o bytes (length lent))
    new (some s) e h = refuses no_such_field 0 (omega arith, omega arith) e h
    new none e h = room (ltb (min (length lent) nothing) (length bytes)) e h

    go : (a c : Option Fault) (f : Option Field) → (archive_of archive).fault ≡ a → (reading file).fault ≡ c → Ended (saved_from files a c f bytes (length lent))
    go (some x) c f p q e h = refuses (number_of x.refusal) x.place (fault_in_table x) e h
    go none (some x) f p q e h = refuses (number_of x.refusal) x.place (fault_in_table x) e h
    go none none none p q e h = refuses no_such_field 0 (omega arith, omega arith) e h
    go none none (some f) p q e h = new (find_edition f.contents files) e h

    long : (c : Bool) → Ended (cond {A = Result ℕ Fault × List ℕ} c (archived.refused_as (fault InputTooLong 0) (length lent)) (saved_from files (archive_of archive).fault (reading file).fault
        (field_in file 1) bytes (length lent)))
    long true e h = refuses input_too_long 0 (omega arith, omega arith) e h
    long false e h = go (archive_of archive).fault (reading file).fault (field_in file 1) refl refl e h

pub edition_ends : (archive edition : List ℕ) (r : SillEdition) → r ≡ edition_struct (edition_of archive edition) → EditionEnds r
unfolding edition_of
edition_ends archive edition r e = long (ltb nothing (length archive)) e
  where
    go : (a : Option Fault) (s : Option Saved) → (archive_of archive).fault ≡ a → r ≡ edition_struct (edition_from a s) → EditionEnds r
    go (some x) s p e = refuses (number_of x.refusal) x.place (fault_in_table x) e tt
    go none none p e = refuses no_such_field 0 (omega arith, omega arith) e tt
    go none (some s) p e = answers (s.start, length s.file) e

    long : (c : Bool) → r ≡ edition_struct (cond c (refused InputTooLong 0) (edition_from (archive_of archive).fault
        (find_edition edition (archive_of archive).files))) → EditionEnds r
    long true e = refuses input_too_long 0 (omega arith, omega arith) e tt
    long false e = go (archive_of archive).fault (find_edition edition (archive_of archive).files) refl e
