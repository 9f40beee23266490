-- THEOREM of 02's K6: "An 18 comes in the call whose bytes first show it." The test on what is kept says so exactly when every table
-- that goes on from these bytes is refused 18.
use mathlib.Core.Path.{◌≡◌, refl, sym, ap, subst, ◌∙◌}
use mathlib.Core.Bool.{Bool, true, false, cond, ◌&&◌}
use mathlib.Core.List.{List, [], ◌∷◌, ◌++◌, append-nil}
use Prim.Native.Nat.{ℕ, ◌+◌, ◌-◌, ◌/◌, ◌%◌, ◌≤◌, ◌<◌}
use native.Mathlib.Omega.{arith}
use lib.ListN.{length, drop}
use lib.Dec.{ltb, eqb}
use Rattle.std.specs.Prelude.{Option, Some, None}
use Rattle.refusals.specs.Numbers.{number_range}
use Rattle.lineentry.specs.declared.Varint.{Varint}
use Rattle.lineentry.specs.declared.Location.{Location}
use Rattle.lineentry.specs.declared.Span.{Span}
use Rattle.lineentry.specs.declared.Entry.{Entry}
use Rattle.lineentry.specs.declared.Entry.TheVariants.{Covers, Stop, OutOfRange}
use Rattle.lineentry.specs.Varint.{byte_at, varint_at, signed_at}
use Rattle.lineentry.specs.Line.{origin, moved, as_signed}
use Rattle.lineentry.specs.Entry.{with_number, with_line, short_form, one_line, no_columns, long_columns, long_form, by_code, entry_of, entry_at}
use Rattle.linetable.specs.Walk.{Reading, done, refused, joined, walk}
use Rattle.rows.proofs.Local.{never}
use Rattle.rows.proofs.Shift.{shift_entry}
use Rattle.rows.proofs.Chains.{chain-upto, row_ends, rowed}
use Rattle.rows.proofs.Walks.{walk-row}
use Rattle.pieces.proofs.Fold.{row_feed}
use Rattle.lostentry.proofs.Grows.{to_lt}
use Rattle.lostentry.proofs.Losing.{and_split, lost-refuses}
use Rattle.lostentry.proofs.Heals.{not_lost_heals}
use Rattle.pieces.proofs.Settled.{entry-drop, lost-walk}
use Rattle.rows.specs.Row.{Ending, placed_all, table_end, stop_byte, cut_short, out_of_range, past_count, Row, alone, before, row, shift_row, Chain, Ends, total, locations, line_after, place_after, ending_reads}
use Rattle.lostentry.specs.Lost.{lost}

-- ---- lines stay within 32 bits
abbrev Within : Entry → Type 0
Within (Covers e) = e.line < 4294967296
Within Stop = Unit {0}
Within OutOfRange = Unit {0}

within-number : (v : Option Varint) (go : ℕ → ℕ → Bool → Entry) → ((x q : ℕ) (m : Bool) → Within (go x q m)) → Within (with_number v go)
within-number (Some v) go f = f v.value v.next v.missing
within-number None go f = tt

within-line : (line step : ℕ) (go : ℕ → Entry) → ((x : ℕ) → x < 4294967296 → Within (go x)) → Within (with_line (moved line step) go)
within-line line step go f = on (moved line step) refl where
  on : (m : Option ℕ) → moved line step ≡ m → Within (with_line m go)
  on (Some x) e = f x (to_lt line step x e)
  on None e = tt

within-any : (m : Option ℕ) (go : ℕ → Entry) → ((x : ℕ) → Within (go x)) → Within (with_line m go)
within-any (Some x) go f = f x
within-any None go f = tt

within-cond : (t : Bool) (a b : Entry) → Within a → Within b → Within (cond t a b)
within-cond true a b x y = x
within-cond false a b x y = y

within-code : (s : List ℕ) (line code n p : ℕ) → line < 4294967296 → Within (by_code s line code n p)
unfolding by_code short_form one_line no_columns long_form long_columns
within-code s line code n p h =
    within-cond (ltb code 10) _ _ h
    (within-cond (ltb code 13) _ _ (within-line line (origin + (code - 10)) _ λ x l. l)
    (within-cond (eqb code 13) _ _ (within-number (signed_at s p) _ λ x q m. within-line line x _ λ y l. l)
    (within-cond (eqb code 14) _ _
    (within-number (signed_at s p) _ λ x q m. within-number (varint_at s q) _ λ y q₁ m₁. within-line line x _ λ to l.
    within-any (moved to (as_signed y)) _ λ end. within-number (varint_at s q₁) _ λ c q₂ m₂. within-number (varint_at s q₂) _ λ d q₃ m₃. l)
    h)))

within-entry : (s : List ℕ) (line p : ℕ) (e : Span) → line < 4294967296 → entry_at s line p ≡ Covers e → e.line < 4294967296
unfolding entry_of
within-entry s line p e h q =
    let b = (byte_at s p).value in
    subst Within q (within-cond (ltb b 128) _ _ tt (within-code s line (b / 8 % 16) (b % 8 + 1) (byte_at s p).next h))

pub chain-line : (s : List ℕ) (line p : ℕ) (es : List Span) → line < 4294967296 → Chain s line p es → line_after line es < 4294967296
chain-line s line p [] h c = h
chain-line s line p (e ∷ es) h c = chain-line s e.line e.next es (within-entry s line p e h c.0) c.2

-- ---- the test
abbrev pub is_out : Ending → Bool
is_out placed_all = false
is_out table_end = false
is_out stop_byte = false
is_out (cut_short e) = false
is_out out_of_range = true
is_out (past_count e) = false

-- on the row of what has come: its entry is refused, and lost
abbrev pub shown_by : List ℕ → ℕ → Row → Bool
shown_by u first r = is_out r.ending && lost (drop (place_after 0 r.entries) u) (line_after first r.entries)

abbrev pub shown : List ℕ → ℕ → ℕ → Bool
shown u first count = shown_by u first (row u first 0 count)

is_out_lem : (x : Ending) → is_out x ≡ true → x ≡ out_of_range
is_out_lem placed_all e = never (sym e)
is_out_lem table_end e = never (sym e)
is_out_lem stop_byte e = never (sym e)
is_out_lem (cut_short x) e = never (sym e)
is_out_lem out_of_range e = refl
is_out_lem (past_count x) e = never (sym e)

-- THEOREM: once shown, every table that goes on from these bytes is refused, at the entry.
pub shown-refuses : (u v : List ℕ) (at : Location) (first count : ℕ) → first < 4294967296 → shown u first count ≡ true
    → walk count (u ++ v) at first 0 count ≡ refused number_range (place_after 0 (row u first 0 count).entries)
shown-refuses u v at first count b h =
    let r = row u first 0 count in
    let s = and_split (is_out r.ending) (lost (drop (place_after 0 r.entries) u) (line_after first r.entries)) h in
    lost-walk u v at first count (is_out_lem r.ending s.0)
    (lost-refuses (drop (place_after 0 r.entries) u) (line_after first r.entries) (chain-line u first 0 r.entries b (rowed u first 0 count).chain) s.1)

-- THEOREM: and where it is not shown, some table that goes on from these bytes is read.
pub record Readable (u : List ℕ) (at : Location) (first count : ℕ) : Type 0 where
  pub bytes : List ℕ
  pub locations : List Location
  pub placed : ℕ
  pub whole : Bool
  pub reads : walk count (u ++ bytes) at first 0 count ≡ done locations placed whole

record IsDone (x : Reading) : Type 0 where
  ls : List Location
  k : ℕ
  w : Bool
  is : x ≡ done ls k w

done-joined : (bs : List Location) (n : ℕ) (x : Reading) → IsDone x → IsDone (joined bs n false x)
done-joined bs n x d = record { ls = bs ++ d.ls; k = n + d.k; w = d.w; is = rw d.is }

done-ending : (s : List ℕ) (at : Location) (p left : ℕ) (x : Ending) → is_out x ≡ false → IsDone (ending_reads s at p left x)
done-ending s at p left placed_all e = record { ls = _; k = _; w = _; is = refl }
done-ending s at p left table_end e = record { ls = _; k = _; w = _; is = refl }
done-ending s at p left stop_byte e = record { ls = _; k = _; w = _; is = refl }
done-ending s at p left (cut_short x) e = record { ls = _; k = _; w = _; is = refl }
done-ending s at p left out_of_range e = never e
done-ending s at p left (past_count x) e = record { ls = _; k = _; w = _; is = refl }

readable : (u v : List ℕ) (at : Location) (first count : ℕ) → is_out (row (u ++ v) first 0 count).ending ≡ false → Readable u at first count
readable u v at first count e =
    let r = row (u ++ v) first 0 count in
    let d = done-joined (locations r.entries) (total r.entries) _ (done-ending (u ++ v) at (place_after 0 r.entries) (count - total r.entries) r.ending e) in
    record { bytes = v; locations = d.ls; placed = d.k; whole = d.w; reads = walk-row (u ++ v) at first 0 count ∙ d.is }

unshift : (k : ℕ) (x : Entry) → shift_entry k x ≡ OutOfRange → x ≡ OutOfRange
unshift k (Covers e) h = let z : ◌≡◌ {A = ℕ} 0 1 = cc in absurd (omega arith)
unshift k Stop h = let z : ◌≡◌ {A = ℕ} 0 1 = cc in absurd (omega arith)
unshift k OutOfRange h = refl

-- the refused entry is refused in the held bytes
pub held_out : (u : List ℕ) (line p left : ℕ) (x : Ending) → p ≤ length u → Ends u line p left x → x ≡ out_of_range → (0 < left) × (entry_at (drop p u) line 0 ≡ OutOfRange)
held_out u line p left placed_all h d e = let z : ◌≡◌ {A = ℕ} 0 1 = cc in absurd (omega arith)
held_out u line p left table_end h d e = let z : ◌≡◌ {A = ℕ} 0 1 = cc in absurd (omega arith)
held_out u line p left stop_byte h d e = let z : ◌≡◌ {A = ℕ} 0 1 = cc in absurd (omega arith)
held_out u line p left (cut_short x) h d e = let z : ◌≡◌ {A = ℕ} 0 1 = cc in absurd (omega arith)
held_out u line p left (past_count x) h d e = let z : ◌≡◌ {A = ℕ} 0 1 = cc in absurd (omega arith)
held_out u line p left out_of_range h d e =
    let f : entry_at u line p ≡ shift_entry p (entry_at (drop p u) line 0) = rw (append-nil u, append-nil (drop p u)) at (entry-drop u [] line p h) in
    (d.0, unshift p (entry_at (drop p u) line 0) (sym f ∙ d.1))

healed_reads : (u : List ℕ) (at : Location) (first count : ℕ) → (row u first 0 count).ending ≡ out_of_range
    → lost (drop (place_after 0 (row u first 0 count).entries) u) (line_after first (row u first 0 count).entries) ≡ false → Readable u at first count
healed_reads u at first count e l =
    let r = row u first 0 count in
    let d = rowed u first 0 count in
    let es = r.entries in
    let p = place_after 0 es in
    let k = chain-upto u first 0 es (omega arith) d.chain in
    let o = held_out u (line_after first es) p (count - total es) r.ending k d.ends e in
    let h = not_lost_heals (drop p u) (line_after first es) o.1 l in
    let c : row (drop p u ++ h.bytes) (line_after first es) 0 (count - total es) ≡ alone (cut_short h.span) =
    row_ends (drop p u ++ h.bytes) (line_after first es) 0 (count - total es) (cut_short h.span) (o.0, h.covers, h.missing) in
    let f = row_feed u h.bytes first count es d.chain d.within in
    readable u h.bytes at first count (ap (λ z. is_out z.ending) (f ∙ ap (λ z. before es (shift_row p z)) c))

pub not_shown-reads : (u : List ℕ) (at : Location) (first count : ℕ) → shown u first count ≡ false → Readable u at first count
not_shown-reads u at first count h = on (is_out (row u first 0 count).ending) refl h where
  on : (t : Bool) → is_out (row u first 0 count).ending ≡ t → (t && lost (drop (place_after 0 (row u first 0 count).entries) u) (line_after first (row u first 0 count).entries)) ≡ false → Readable u at first count
  on true t k = healed_reads u at first count (is_out_lem (row u first 0 count).ending t) k
  on false t k = readable u [] at first count (rw (append-nil u) t)

-- THEOREM: so it is shown exactly when every table that goes on from these bytes is refused.
pub refuses-shown : (u : List ℕ) (at : Location) (first count : ℕ) → ((v : List ℕ) → (n : ℕ) × (p : ℕ) × (walk count (u ++ v) at first 0 count ≡ refused n p)) → shown u first count ≡ true
refuses-shown u at first count f = on (shown u first count) refl where
  on : (t : Bool) → shown u first count ≡ t → t ≡ true
  on true h = refl
  on false h =
      let r = not_shown-reads u at first count h in
      let w = f r.bytes in
      let k : done r.locations r.placed r.whole ≡ refused w.0 w.1 = sym r.reads ∙ w.2 in
      let z : ◌≡◌ {A = ℕ} 0 1 = cc in
      absurd (omega arith)
