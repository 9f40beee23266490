-- THEOREM of 02's K8, of settings (specs/Promised): the rewritten file is fields, written, of which no two have one tag, so it reads back as
-- they are; the rest is what these fields have for a tag (Tags). Assumes nothing.
use mathlib.Core.Path.{◌≡◌, refl, sym, ap, ◌∙◌}
use mathlib.Core.Bool.{Bool, true, false, cond}
use mathlib.Core.List.{List, [], ◌∷◌, ◌++◌, append_assoc, append-nil}
use mathlib.Core.Option.{none}
use Prim.Native.Nat.{ℕ, ◌≤◌, min}
use lib.Dec.{eqb}
use lib.ListN.{length, take, drop}
use borrow.Author.Tests.{le-ltb, eqb-true, eqb-false}
use Rattle.std.specs.Prelude.{Result, Ok}
use Rattle.refusals.specs.declared.Fault.{Fault}
use Rattle.refusals.specs.declared.Refusal.TheVariants.{NoRoom}
use Rattle.refusals.specs.Faults.{fault}
use Rattle.refusals.specs.Limits.{nothing}
use Rattle.clearing.specs.Lent.{padded}
use Rattle.taggedfields.specs.Fields.{Field, read_from, reading, find, spelt, bytes_of}
use Rattle.taggedfields.specs.Promised.{tags_of, laid, Sound}
use Rattle.taggedfields.proofs.Promised.{fields_keep_their_promises}
use Rattle.settings.specs.declared.Setting.{Setting}
use Rattle.settings.specs.Setting.{setting_of}
use Rattle.settings.specs.Rewriting.{changed, added, rewritten, refused_as, in_room, rewrite_from, rewrite_of}
use Rattle.settings.specs.Promised.{contents_in, Rewrites, Promised}
use Rattle.settings.proofs.Lookups.{says}
use Rattle.settings.proofs.Tags.{changed_tags, tags_append, laid_tags, laid-find, laid-others, find-both, added-append, others-changed, others-added, once-both}

spelt-append : (xs ys : List Field) → spelt (xs ++ ys) ≡ spelt xs ++ spelt ys
unfolding spelt
spelt-append [] ys = refl
spelt-append (x ∷ xs) ys = ap (λ l. bytes_of x ++ l) (spelt-append xs ys) ∙ sym (append_assoc (bytes_of x) (spelt xs) (spelt ys))

-- ---- the rewritten file reads as its fields
module _ (file changes : List ℕ) where
  abbrev new : List Field
  new = changed (reading changes).fields (reading file).fields ++ added (reading file).fields (reading changes).fields

  rewritten-reads : reading (rewritten file changes) ≡ record { fields = laid 0 new; fault = none }
  unfolding rewritten
  rewritten-reads =
      ap reading (sym (spelt-append (changed (reading changes).fields (reading file).fields) (added (reading file).fields (reading changes).fields)))
      ∙ fields_keep_their_promises.back new
      (once-both (reading changes).fields (reading file).fields (fields_keep_their_promises.once file) (fields_keep_their_promises.once changes))

  fields_are : (reading (rewritten file changes)).fields ≡ laid 0 new
  fields_are = ap (λ r. r.fields) rewritten-reads

  rewrites_so : Rewrites file changes
  rewrites_so =
      let C = (reading changes).fields in
      let F = (reading file).fields in
      record {
        clean = ap (λ r. r.fault) rewritten-reads;
        others =
            ap (λ l. spelt (added C l)) fields_are ∙ laid-others C 0 new ∙ ap spelt (added-append C (changed C F) (added F C))
            ∙ ap (λ l. spelt (added C (changed C F) ++ l)) (others-added C F) ∙ ap spelt (append-nil (added C (changed C F))) ∙ ap spelt (others-changed C F);
        says = λ t. ap (λ l. contents_in (find t l)) fields_are ∙ laid-find 0 t new ∙ find-both t C F;
        order = ap tags_of fields_are ∙ laid_tags 0 new ∙ tags_append (changed C F) (added F C) ∙ ap (λ l. l ++ tags_of (added F C)) (changed_tags C F);
      }

-- ---- no changes
changed_none : (fs : List Field) → changed [] fs ≡ fs
unfolding changed find
changed_none [] = refl
changed_none (f ∷ fs) = ap (λ l. f ∷ l) (changed_none fs)

no_fields : (reading []).fields ≡ []
unfolding reading read_from
no_fields = refl

nothing-changed : (file : List ℕ) → Sound file → rewritten file [] ≡ file
unfolding rewritten added spelt
nothing-changed file s =
    ap (λ l. spelt (changed l (reading file).fields) ++ spelt (added (reading file).fields l)) no_fields
    ∙ append-nil (spelt (changed [] (reading file).fields)) ∙ ap spelt (changed_none (reading file).fields) ∙ fields_keep_their_promises.whole file s

-- ---- the call
in_room_lem : (bytes : List ℕ) (room : ℕ) → length bytes ≤ min room nothing → in_room bytes room ≡ (Ok (length bytes), padded room bytes)
in_room_lem bytes room h =
    ap (λ t. cond {A = Result ℕ Fault × List ℕ} t (refused_as (fault NoRoom (min room nothing)) room) (Ok (length bytes), padded room bytes))
    (le-ltb (min room nothing) (length bytes) h)

is_written : (file changes : List ℕ) (room : ℕ) → (reading file).fault ≡ none → (reading changes).fault ≡ none → length (rewritten file changes) ≤ min room nothing
    → rewrite_of file changes room ≡ (Ok (length (rewritten file changes)), padded room (rewritten file changes))
unfolding rewrite_of
is_written file changes room a b h =
    ap (λ o. rewrite_from o (reading changes).fault (rewritten file changes) room) a ∙ ap (λ o. rewrite_from none o (rewritten file changes) room) b
    ∙ in_room_lem (rewritten file changes) room h

pub settings_keep_their_promises : Promised
settings_keep_their_promises =
    record { part = λ own fallback t s e. (says own fallback t (sym e)).same; rewrites = rewrites_so; unchanged = nothing-changed; written = is_written }
