-- The ends of the moves of golden files, for demand 1: so many bytes, or a number of the table: a file's first fault, 23, the reader's own,
-- 7, 25, 26 and 17; output and stores are zero then. By cases of the definitions. Assumes nothing.
use mathlib.Core.Path.{◌≡◌, refl}
use mathlib.Core.Bool.{Bool, true, false, cond}
use mathlib.Core.List.{List}
use mathlib.Core.Option.{Option, none, some}
use Prim.Native.Nat.{ℕ, ◌+◌, min}
use native.Mathlib.Omega.{arith}
use lib.Dec.{ltb}
use lib.ListN.{length}
use Rattle.refusals.specs.declared.Fault.{Fault}
use Rattle.refusals.specs.Numbers.{bad_type, no_room, no_such_field, trailing_bytes, value_too_long}
use Rattle.refusals.specs.Limits.{nothing}
use Rattle.clearing.specs.Lent.{padded}
use Rattle.taggedfields.specs.Fields.{reading}
use Rattle.grammar.specs.Reading.{Answer, gives, stops}
use Rattle.grammar.specs.State.{State}
use Rattle.readalone.specs.Alone.{Room, within, placed_from, alone}
use Rattle.goldenparts.specs.Forms.{Golden, next, is_code, judged, result_read, cut_at, old_parts, golden_fields, or_other, or_fault, in_fields, both_read, new_parts}
use Rattle.goldens.specs.Moving.{new_form, old_form, most_contents, fielded, to_fields, to_plain, refused_as, moved_as}
use Rattle.sillgarland.specs.declared.goldenfiles.SillMoved.{SillMoved}
use Rattle.sillgarland.specs.Goldenfiles.{moved_struct, Moves}
use Rattle.promises.specs.Demand1.{InTable, Ends, answers, refuses, Zero, MoveEnds}
use Rattle.promises.proofs.Numbers.{Tabled, either, reading_in_table}
use Rattle.promises.proofs.Settings.{fault_in_table}

-- ---- every refusal on the way
next_tabled : {A B : Type 0} (a : Answer A) (f : A → Answer B) → Tabled a → ((x : A) → Tabled (f x)) → Tabled (next a f)
next_tabled (gives x) f t h = h x
next_tabled (stops number place) f t h = t

alone_tabled : (R : Room) (start : ℕ) (part : List ℕ) → Tabled (alone R start part)
unfolding alone
alone_tabled R start part = go (within R part) refl
  where
    go : (a : Answer (ℕ × State)) → within R part ≡ a → Tabled (placed_from start a)
    go (gives r) e = tt
    go (stops number place) e = reading_in_table part R.nodes R.entries R.slots R.nesting number place e

judged_tabled : (g : Golden) (a b : ℕ) → Tabled (judged g a b)
unfolding judged
judged_tabled g a b =
    either Tabled (is_code g.code.bytes) _ _
    (either Tabled (ltb a (length g.code.bytes)) _ _ (omega arith, omega arith) (either Tabled (ltb b (length g.result.bytes)) _ _ (omega arith, omega arith) tt))
    (omega arith, omega arith)

result_tabled : (R : Room) (g : Golden) (a : ℕ) → Tabled (result_read R g a)
unfolding result_read
result_tabled R g a = next_tabled (alone R g.result.start g.result.bytes) (judged g a) (alone_tabled R g.result.start g.result.bytes) (judged_tabled g a)

old_tabled : (R : Room) (file : List ℕ) → Tabled (old_parts R file)
unfolding old_parts
old_tabled R file = next_tabled (alone R 0 file) (λ size. result_read R (cut_at file size) size) (alone_tabled R 0 file) (λ size. result_tabled R (cut_at file size) size)

fields_tabled : (file : List ℕ) → Tabled (in_fields file)
unfolding in_fields
fields_tabled file = go (reading file).fault (golden_fields (reading file).fields) refl
  where
    go : (o : Option Fault) (g : Option Golden) → (reading file).fault ≡ o → Tabled (or_fault o (or_other g))
    go (some x) g e = fault_in_table x
    go none none e = (omega arith, omega arith)
    go none (some g) e = tt

new_tabled : (R : Room) (file : List ℕ) → Tabled (new_parts R file)
unfolding new_parts both_read
new_tabled R file =
    next_tabled (in_fields file) (both_read R) (fields_tabled file)
    (λ g. next_tabled (alone R g.code.start g.code.bytes) (result_read R g) (alone_tabled R g.code.start g.code.bytes) (result_tabled R g))

fielded_tabled : (g : Golden) → Tabled (fielded g)
unfolding fielded
fielded_tabled g =
    either Tabled (ltb most_contents (length g.code.bytes)) _ _ (omega arith, omega arith)
    (either Tabled (ltb most_contents (length g.result.bytes)) _ _ (omega arith, omega arith) tt)

pub to_fields_tabled : (R : Room) (plain : List ℕ) → Tabled (to_fields R plain)
unfolding to_fields
to_fields_tabled R plain = next_tabled (old_parts R plain) fielded (old_tabled R plain) fielded_tabled

pub to_plain_tabled : (R : Room) (fields : List ℕ) → Tabled (to_plain R fields)
unfolding to_plain
to_plain_tabled R fields = next_tabled (new_parts R fields) (λ g. gives (old_form g)) (new_tabled R fields) (λ g. tt)

-- ---- the end of a move
pub move_ends : (a : Answer (List ℕ)) → Tabled a → (r : SillMoved) (lent left nodes ns entries es slots ss : List ℕ) → Moves (moved_as a (length lent)) r left nodes ns entries es slots ss
    → MoveEnds r (Zero lent left × Zero nodes ns × Zero entries es × Zero slots ss)
unfolding moved_as
move_ends (stops number place) t r lent left nodes ns entries es slots ss m = refuses number place t m.numbers (m.holds, m.clear_nodes, m.clear_entries, m.clear_slots)
move_ends (gives bytes) t r lent left nodes ns entries es slots ss m = room (ltb (min (length lent) nothing) (length bytes)) m
  where
    room : (c : Bool)
        → Moves (cond {A = Answer ℕ × List ℕ} c (refused_as no_room (min (length lent) nothing) (length lent))
        (gives (length bytes), padded (length lent) bytes)) r left nodes ns entries es slots ss
        → MoveEnds r (Zero lent left × Zero nodes ns × Zero entries es × Zero slots ss)
    room true m = refuses no_room (min (length lent) nothing) (omega arith, omega arith) m.numbers (m.holds, m.clear_nodes, m.clear_entries, m.clear_slots)
    room false m = answers (length bytes) m.numbers
