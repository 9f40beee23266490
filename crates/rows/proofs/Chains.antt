-- Complete entries one behind another: where they end, where else they stand, and what a row is by them: `rowed` and `row_is`, after which
-- nothing looks at turns. Inductions over the list of entries.
use mathlib.Core.Path.{◌≡◌, refl, sym, ap, subst, ◌∙◌}
use mathlib.Core.Bool.{Bool, true, false, cond}
use mathlib.Core.List.{List, [], ◌∷◌, ◌++◌, map, append_assoc, append-nil}
use Prim.Native.Nat.{ℕ, zero, suc, ◌+◌, ◌-◌, ◌≤◌, ◌<◌}
use native.Mathlib.Omega.{arith}
use lib.ListN.{length, replicate}
use lib.Dec.{leb, ltb, eqb}
use borrow.Author.Tests.{leb-true, leb-false, eqb-true, eqb-false, ltb-true, ltb-false, lt-ltb, le-ltb}
use Rattle.lineentry.specs.declared.Span.{Span}
use Rattle.lineentry.specs.declared.Entry.{Entry}
use Rattle.lineentry.specs.declared.Entry.TheVariants.{Covers, Stop, OutOfRange}
use Rattle.lineentry.specs.Entry.{entry_at}
use Rattle.lineentry.proofs.Entries.{entry-places, entry_past}
use Rattle.rows.proofs.Local.{Same, narrow}
use Rattle.rows.proofs.Extent.{entry_runs, entry_local}
use Rattle.rows.proofs.Shift.{shift_entry, entry-shift}
use Rattle.rows.proofs.Turns.{from_cut, from_on, from_past, row-none, row-entry}
use Rattle.rows.specs.Row.{shift_span, Ending, placed_all, table_end, stop_byte, cut_short, out_of_range, past_count, Row, alone, before, from_entry, row, Chain, Ends, Rowed, total, locations, line_after, place_after}

-- ---- where they end
pub chain-from : (s : List ℕ) (line p : ℕ) (es : List Span) → Chain s line p es → p ≤ place_after p es
chain-from s line p [] c = omega arith
chain-from s line p (e ∷ es) c = omega (arith, (entry_runs s line p e c.0).from, chain-from s e.line e.next es c.2)

pub chain-upto : (s : List ℕ) (line p : ℕ) (es : List Span) → p ≤ length s → Chain s line p es → place_after p es ≤ length s
chain-upto s line p [] h c = h
chain-upto s line p (e ∷ es) h c = chain-upto s e.line e.next es (entry_runs s line p e c.0).upto c.2

-- ---- elsewhere
pub chain_local : (s t : List ℕ) (line p : ℕ) (es : List Span) → Chain s line p es → Same s t p (place_after p es) → Chain t line p es
chain_local s t line p [] c k = tt
chain_local s t line p (e ∷ es) c k =
    let r = entry_runs s line p e c.0 in
    let f = chain-from s e.line e.next es c.2 in
    (entry_local s t line p e c.0 c.1 (narrow p e.next (omega arith) f k), c.1, chain_local s t e.line e.next es c.2 (narrow e.next (place_after e.next es) (omega (arith, r.from)) (omega arith) k))

pub chain-shift : (xs s : List ℕ) (line p : ℕ) (es : List Span) → Chain s line p es → Chain (xs ++ s) line (length xs + p) (map (shift_span (length xs)) es)
chain-shift xs s line p [] c = tt
chain-shift xs s line p (e ∷ es) c = (entry-shift xs s line p ∙ ap (shift_entry (length xs)) c.0, c.1, chain-shift xs s e.line e.next es c.2)

pub place-shift : (k p : ℕ) (es : List Span) → place_after (k + p) (map (shift_span k) es) ≡ k + place_after p es
place-shift k p [] = refl
place-shift k p (e ∷ es) = place-shift k e.next es

pub line_shifted : (k line : ℕ) (es : List Span) → line_after line (map (shift_span k) es) ≡ line_after line es
line_shifted k line [] = refl
line_shifted k line (e ∷ es) = line_shifted k e.line es

pub total-shift : (k : ℕ) (es : List Span) → total (map (shift_span k) es) ≡ total es
total-shift k [] = refl
total-shift k (e ∷ es) = ap (λ n. e.instructions + n) (total-shift k es)

pub locations-shift : (k : ℕ) (es : List Span) → locations (map (shift_span k) es) ≡ locations es
locations-shift k [] = refl
locations-shift k (e ∷ es) = ap (λ ls. replicate e.instructions e.location ++ ls) (locations-shift k es)

-- ---- one chain behind another
pub chain-append : (s : List ℕ) (line p : ℕ) (es fs : List Span) → Chain s line p es → Chain s (line_after line es) (place_after p es) fs → Chain s line p (es ++ fs)
chain-append s line p [] fs c d = d
chain-append s line p (e ∷ es) fs c d = (c.0, c.1, chain-append s e.line e.next es fs c.2 d)

pub place-append : (p : ℕ) (es fs : List Span) → place_after p (es ++ fs) ≡ place_after (place_after p es) fs
place-append p [] fs = refl
place-append p (e ∷ es) fs = place-append e.next es fs

pub line-append : (line : ℕ) (es fs : List Span) → line_after line (es ++ fs) ≡ line_after (line_after line es) fs
line-append line [] fs = refl
line-append line (e ∷ es) fs = line-append e.line es fs

pub total-append : (es fs : List Span) → total (es ++ fs) ≡ total es + total fs
total-append [] fs = omega arith
total-append (e ∷ es) fs = omega (arith, total-append es fs)

pub locations-append : (es fs : List Span) → locations (es ++ fs) ≡ locations es ++ locations fs
locations-append [] fs = refl
locations-append (e ∷ es) fs =
    let r = replicate e.instructions e.location in
    ap (λ ls. r ++ ls) (locations-append es fs) ∙ sym (append_assoc r (locations es) (locations fs))

-- ---- a row by its chain
-- A row begins with every chain that the count has room for.
pub row-chain : (s : List ℕ) (line p left : ℕ) (es : List Span) → Chain s line p es → total es ≤ left
    → row s line p left ≡ before es (row s (line_after line es) (place_after p es) (left - total es))
row-chain s line p left [] c h = let z : left - 0 ≡ left = omega arith in rw z
row-chain s line p left (e ∷ es) c h =
    let n = entry-places s line p e c.0 in
    let z : left - (e.instructions + total es) ≡ left - e.instructions - total es = omega arith in
    row-entry s line p left (omega arith) ∙ ap (from_entry (row s) s p left) c.0 ∙ from_on (row s) s p left e c.1 (omega arith)
    ∙ rw z (ap (before (e ∷ [])) (row-chain s e.line e.next (left - e.instructions) es c.2 (omega arith)))

-- and ends where there is no other entry to place.
pub row_ends : (s : List ℕ) (line p left : ℕ) (x : Ending) → Ends s line p left x → row s line p left ≡ alone x
row_ends s line p left placed_all h = row-none s line p left h
row_ends s line p left table_end h =
    row-entry s line p left h.0 ∙ ap (from_entry (row s) s p left) (entry_past s line p h.1) ∙ rw (le-ltb p (length s) h.1)
row_ends s line p left stop_byte h =
    row-entry s line p left h.0 ∙ ap (from_entry (row s) s p left) h.2 ∙ rw (lt-ltb p (length s) h.1)
row_ends s line p left (cut_short e) h =
    row-entry s line p left h.0 ∙ ap (from_entry (row s) s p left) h.1 ∙ from_cut (row s) s p left e h.2
row_ends s line p left out_of_range h = row-entry s line p left h.0 ∙ ap (from_entry (row s) s p left) h.1
row_ends s line p left (past_count e) h =
    row-entry s line p left h.0 ∙ ap (from_entry (row s) s p left) h.1 ∙ from_past (row s) s p left e h.2 h.3

-- THEOREM: what is a row in this sense is the row.
pub row_is : (s : List ℕ) (line p left : ℕ) (r : Row) → Rowed s line p left r → row s line p left ≡ r
row_is s line p left r h =
    row-chain s line p left r.entries h.chain h.within
    ∙ ap (before r.entries) (row_ends s (line_after line r.entries) (place_after p r.entries) (left - total r.entries) r.ending h.ends)
    ∙ ap (λ es. record { entries = es; ending = r.ending }) (append-nil r.entries)

-- THEOREM: and the row is one in this sense.
rowed_alone : (s : List ℕ) (line p left : ℕ) (x : Ending) → Ends s line p left x → Rowed s line p left (alone x)
rowed_alone s line p left x h = let z : left - 0 ≡ left = omega arith in record { chain = tt; within = omega arith; ends = rw z h }

rowed_before : (s : List ℕ) (line p left : ℕ) (e : Span) (r : Row) → entry_at s line p ≡ Covers e → e.missing ≡ false → e.instructions ≤ left
    → Rowed s e.line e.next (left - e.instructions) r → Rowed s line p left (before (e ∷ []) r)
rowed_before s line p left e r q m h k =
    let z : left - (e.instructions + total r.entries) ≡ left - e.instructions - total r.entries = omega arith in
    record { chain = (q, m, k.chain); within = omega (arith, k.within); ends = rw z k.ends }

rowed_entry : (s : List ℕ) (line p left : ℕ) (a : Entry) → 0 < left → entry_at s line p ≡ a
    → ((e : Span) → a ≡ Covers e → e.instructions ≤ left → Rowed s e.line e.next (left - e.instructions) (row s e.line e.next (left - e.instructions)))
    → Rowed s line p left (from_entry (row s) s p left a)
rowed_entry s line p left (Covers e) h q f = go e.missing refl (leb e.instructions left) refl where
  go : (a : Bool) → e.missing ≡ a → (b : Bool) → leb e.instructions left ≡ b → Rowed s line p left (from_entry (row s) s p left (Covers e))
  go true a b c = subst (Rowed s line p left) (sym (from_cut (row s) s p left e a)) (rowed_alone s line p left (cut_short e) (h, q, a))
  go false a true c =
      let k = leb-true e.instructions left c in
      subst (Rowed s line p left) (sym (from_on (row s) s p left e a k)) (rowed_before s line p left e _ q a k (f e refl k))
  go false a false c =
      let k = leb-false e.instructions left c in
      subst (Rowed s line p left) (sym (from_past (row s) s p left e a k)) (rowed_alone s line p left (past_count e) (h, q, a, k))
rowed_entry s line p left Stop h q f = go (ltb p (length s)) refl where
  go : (t : Bool) → ltb p (length s) ≡ t → Rowed s line p left (alone (cond t stop_byte table_end))
  go true e = rowed_alone s line p left stop_byte (h, ltb-true p (length s) e, q)
  go false e = rowed_alone s line p left table_end (h, ltb-false p (length s) e)
rowed_entry s line p left OutOfRange h q f = rowed_alone s line p left out_of_range (h, q)

rowed_turn : (s : List ℕ) (line p left : ℕ) (t : Bool) → eqb left 0 ≡ t
    → ((e : Span) → entry_at s line p ≡ Covers e → e.instructions ≤ left → Rowed s e.line e.next (left - e.instructions) (row s e.line e.next (left - e.instructions)))
    → Rowed s line p left (row s line p left)
rowed_turn s line p left true e f =
    let z = eqb-true left 0 e in
    subst (Rowed s line p left) (sym (row-none s line p left z)) (rowed_alone s line p left placed_all z)
rowed_turn s line p left false e f =
    let z : 0 < left = omega (arith, eqb-false left 0 e) in
    subst (Rowed s line p left) (sym (row-entry s line p left z)) (rowed_entry s line p left (entry_at s line p) z refl f)

rowed_within : (n : ℕ) (s : List ℕ) (line p left : ℕ) → left ≤ n → Rowed s line p left (row s line p left)
rowed_within zero s line p left h = subst (Rowed s line p left) (sym (row-none s line p left (omega arith))) (rowed_alone s line p left placed_all (omega arith))
rowed_within (suc n) s line p left h =
    rowed_turn s line p left (eqb left 0) refl
    (λ e q k. let z = entry-places s line p e q in rowed_within n s e.line e.next (left - e.instructions) (omega arith))

pub rowed : (s : List ℕ) (line p left : ℕ) → Rowed s line p left (row s line p left)
rowed s line p left = rowed_within left s line p left (omega arith)

-- no more entries than instructions
pub chain-many : (s : List ℕ) (line p : ℕ) (es : List Span) → Chain s line p es → length es ≤ total es
chain-many s line p [] c = omega arith
chain-many s line p (e ∷ es) c = omega (arith, entry-places s line p e c.0, chain-many s e.line e.next es c.2)
