-- THEOREM of 02's K6: every state that a call leaves is one that the next call takes: what it holds begins an entry that is neither complete nor
-- lost. By cases of how a row ends.
use mathlib.Core.Path.{◌≡◌, refl, sym, ap, subst, ◌∙◌}
use mathlib.Core.Bool.{Bool, true, false, cond, not}
use mathlib.Core.List.{List, [], ◌∷◌, ◌++◌, map, append-nil}
use Prim.Native.Nat.{ℕ, zero, suc, ◌+◌, ◌-◌, ◌≤◌, ◌<◌}
use native.Mathlib.Omega.{arith}
use lib.ListN.{length, get_or, take, drop, length-drop, get_or-append, get_or-eq_default}
use lib.Seq.{sets, get_or-drop, get_or-append-add}
use lib.Dec.{ltb, eqb}
use borrow.Author.Tests.{le-ltb, le-leb, ltb-true, ltb-false, eqb-false}
use Rattle.refusals.specs.Faults.{fault}
use Rattle.refusals.specs.declared.Refusal.TheVariants.{NumberRange}
use Rattle.refusals.specs.Numbers.{number_range}
use Rattle.refusals.specs.Limits.{most_bytes}
use Rattle.grammar.specs.Input.{Bytes}
use Rattle.lineentry.specs.declared.Span.{Span}
use Rattle.lineentry.specs.declared.Entry.{Entry}
use Rattle.lineentry.specs.declared.Entry.TheVariants.{Covers, Stop, OutOfRange}
use Rattle.lineentry.specs.Entry.{entry_at}
use Rattle.rows.specs.Row.{Ending, placed_all, table_end, stop_byte, cut_short, out_of_range, past_count, row, shift_span, Ends, total, line_after, place_after}
use Rattle.rows.proofs.Shift.{shift_entry}
use Rattle.rows.proofs.Chains.{rowed, chain-upto}
use Rattle.lostentry.specs.Lost.{lost}
use Rattle.piecestate.specs.State.{going, over, ended, kept_at, low, held_in, held_at, open_as, open_entry, counted, sound_going, kept_refusal, sound_by, sound, refused_state, advanced}
use Rattle.piecestate.specs.Answers.{stuck}
use Rattle.pieces.specs.Piece.{onward, by_ending, after, walked}
use Rattle.pieces.proofs.Settled.{entry-drop}
use Rattle.pieces.proofs.Shown.{held_out}
use Rattle.pieces.proofs.Short.{Goes, incomplete, unsure, held_short}
use Rattle.pieces.specs.Calls.{fresh}
use Rattle.cuttings.proofs.Spelled.{front, advanced_is, refused_is, counted_is, ended_is, fresh-is, stored_held, same_bytes}

-- ---- bytes
pub bytes_drop : (t : List ℕ) (p : ℕ) → Bytes t → Bytes (drop p t)
bytes_drop t p b i = subst (λ x. x < 256) (sym (get_or-drop p t i 0)) (b (p + i))

pub bytes-append : (a b : List ℕ) → Bytes a → Bytes b → Bytes (a ++ b)
bytes-append a b p q i = on (ltb i (length a)) refl where
  on : (t : Bool) → ltb i (length a) ≡ t → get_or (a ++ b) i 0 < 256
  on true e = subst (λ x. x < 256) (sym (get_or-append a b 0 i (ltb-true i (length a) e))) (p i)
  on false e =
      let z : length a + (i - length a) ≡ i = let k = ltb-false i (length a) e in omega arith in
      subst (λ x. x < 256) (sym (get_or-append-add a b (i - length a) 0) ∙ ap (λ j. get_or (a ++ b) j 0) z) (q (i - length a))

pub bytes-front : (a b : List ℕ) → Bytes (a ++ b) → Bytes a
bytes-front a b p i = on (ltb i (length a)) refl where
  on : (t : Bool) → ltb i (length a) ≡ t → get_or a i 0 < 256
  on true e = subst (λ x. x < 256) (get_or-append a b 0 i (ltb-true i (length a) e)) (p i)
  on false e = subst (λ x. x < 256) (sym (get_or-eq_default a 0 (ltb-false i (length a) e))) (omega arith)

bytes_low : (xs : List ℕ) → Bytes (map low xs)
bytes_low [] i = omega arith
bytes_low (x ∷ xs) zero = omega arith
bytes_low (x ∷ xs) (suc i) = bytes_low xs i

pub bytes_held : (s : List ℕ) → Bytes (held_at s)
unfolding held_at
bytes_held s = bytes_low (take (get_or s 9 0) (drop 10 s))

-- ---- the entry that held bytes begin
pub record Unshifted (k : ℕ) (x : Entry) (e : Span) : Type 0 where
  pub span : Span
  pub covers : x ≡ Covers span
  pub same : shift_span k span ≡ e

unshift : (k : ℕ) (x : Entry) (e : Span) → shift_entry k x ≡ Covers e → Unshifted k x e
unshift k (Covers y) e h = record { span = y; covers = refl; same = cc }
unshift k Stop e h = let z : ◌≡◌ {A = ℕ} 0 1 = cc in absurd (omega arith)
unshift k OutOfRange e h = let z : ◌≡◌ {A = ℕ} 0 1 = cc in absurd (omega arith)

pub held_covers : (t : List ℕ) (line p : ℕ) (e : Span) → p ≤ length t → entry_at t line p ≡ Covers e → Unshifted p (entry_at (drop p t) line 0) e
held_covers t line p e h c =
    let f : entry_at t line p ≡ shift_entry p (entry_at (drop p t) line 0) = rw (append-nil t, append-nil (drop p t)) at (entry-drop t [] line p h) in
    unshift p (entry_at (drop p t) line 0) e (sym f ∙ c)

-- it is not complete and not lost
pub goes_open : (t : List ℕ) (line p n : ℕ) (x : Ending) → p ≤ length t → Ends t line p n x → Goes t line p x → 0 < length (drop p t) → open_entry (drop p t) line ≡ true
unfolding open_entry
goes_open t line p n placed_all h d g k = elim g [ ]
goes_open t line p n stop_byte h d g k = elim g [ ]
goes_open t line p n (past_count _) h d g k = elim g [ ]
goes_open t line p n table_end h d g k = absurd (omega (arith, length-drop p t, d.1))
goes_open t line p n (cut_short e) h d g k =
    let u = held_covers t line p e h d.1 in
    ap (open_as (drop p t) line) u.covers ∙ ap (λ y. y.missing) u.same ∙ d.2
goes_open t line p n out_of_range h d (unsure l) k =
    let o = held_out t line p n out_of_range h d refl in
    ap (open_as (drop p t) line) o.1 ∙ ap not l

-- ---- states that are stored
module _ (a b line placed start bytes h i : ℕ) (held t : List ℕ) (few : placed ≤ b) (small : bytes ≤ most_bytes) (within : start + length held ≤ bytes) (short : length held ≤ 25)
    (stands : held_in (front a b line placed start bytes going h i (length held) t) (length held) ≡ held) (opens : 0 < length held → open_entry held line ≡ true) where
  abbrev state : List ℕ
  state = front a b line placed start bytes going h i (length held) t

  opened : (c : Bool) → eqb (length held) 0 ≡ c → cond c true (open_entry (held_in state (length held)) line) ≡ true
  opened true e = refl
  opened false e = ap (λ z. open_entry z line) stands ∙ opens (let k = eqb-false (length held) 0 e in omega (arith, k))

  front-going : sound_going state (kept_at state) ≡ true
  unfolding sound_going counted
  front-going =
      rw (le-ltb b placed few, le-leb bytes most_bytes small, le-ltb 25 (length held) short, le-ltb bytes start (omega arith), le-ltb (bytes - start) (length held) (omega arith))
      (opened (eqb (length held) 0) refl)

  front-sound : sound state ≡ true
  unfolding sound_by
  front-sound = front-going

module _ (s : List ℕ) (long : 40 ≤ length s) where
  pub going-sound : (line placed start bytes : ℕ) (held : List ℕ) → placed ≤ get_or s 1 0 → bytes ≤ most_bytes → start + length held ≤ bytes → length held ≤ 25 → Bytes held
      → (0 < length held → open_entry held line ≡ true) → sound (advanced s line placed start bytes going held) ≡ true
  going-sound line placed start bytes held few small within short b opens =
      ap sound (advanced_is s long line placed start bytes going held)
      ∙ front-sound (get_or s 0 0) (get_or s 1 0) line placed start bytes (get_or s 7 0) (get_or s 8 0) held (sets (drop 10 s) 0 held) few small within short (ap (map low) (stored_held s long held short) ∙ same_bytes held b) opens

  pub over-sound : (line placed start bytes : ℕ) → placed ≤ get_or s 1 0 → bytes ≤ most_bytes → sound (advanced s line placed start bytes over []) ≡ true
  unfolding sound_by counted
  over-sound line placed start bytes few small =
      ap sound (advanced_is s long line placed start bytes over []) ∙ rw (le-ltb (get_or s 1 0) placed few, le-leb bytes most_bytes small)

  pub refused-sound : (number place : ℕ) → kept_refusal number ≡ true → sound (refused_state s number place) ≡ true
  unfolding sound_by
  refused-sound number place e = ap sound (refused_is s long number place) ∙ e

  pub ended-sound : sound (sets s 6 (ended ∷ [])) ≡ true
  unfolding sound_by
  ended-sound = ap sound (ended_is s long)

  pub counted-sound : (bytes : ℕ) → get_or s 6 0 ≡ over → get_or s 3 0 ≤ get_or s 1 0 → bytes ≤ most_bytes → sound (sets s 5 (bytes ∷ [])) ≡ true
  unfolding sound_by counted
  counted-sound bytes o few small =
      ap sound (counted_is s long bytes)
      ∙ ap (λ z. sound (front (get_or s 0 0) (get_or s 1 0) (get_or s 2 0) (get_or s 3 0) (get_or s 4 0) bytes z (get_or s 7 0) (get_or s 8 0) (get_or s 9 0) (drop 10 s))) o
      ∙ rw (le-ltb (get_or s 1 0) (get_or s 3 0) few, le-leb bytes most_bytes small)

  pub fresh-sound : (first count : ℕ) → sound (fresh first count s) ≡ true
  unfolding sound_by sound_going counted
  fresh-sound first count = ap sound (fresh-is s long first count) ∙ rw (le-ltb count 0 (omega arith))

  -- ---- after a piece
  by_sound : (t : List ℕ) (start bytes count : ℕ) (ys : List ℕ) (line p n : ℕ) (x : Ending) → count ≡ get_or s 1 0 → bytes ≤ most_bytes → start + length t ≤ bytes → Bytes t → p ≤ length t → Ends t line p n x
      → (Goes t line p x → length (drop p t) ≤ 25) → sound (by_ending t start bytes count s ys line p n x).state ≡ true
  by_sound t start bytes count ys line p n placed_all e small within b h d short = going-sound line (count - n) (start + p) bytes [] (omega arith) small (omega arith) (omega arith) (λ i. omega arith) (λ k. absurd (omega arith))
  by_sound t start bytes count ys line p n table_end e small within b h d short = going-sound line (count - n) (start + p) bytes [] (omega arith) small (omega arith) (omega arith) (λ i. omega arith) (λ k. absurd (omega arith))
  by_sound t start bytes count ys line p n stop_byte e small within b h d short = over-sound line (count - n) (start + p) bytes (omega arith) small
  by_sound t start bytes count ys line p n (past_count x) e small within b h d short = over-sound line count (start + p) bytes (omega arith) small
  by_sound t start bytes count ys line p n (cut_short x) e small within b h d short =
      going-sound line (count - n) (start + p) bytes (drop p t) (omega arith) small (omega (arith, length-drop p t)) (short incomplete) (bytes_drop t p b) (goes_open t line p n (cut_short x) h d incomplete)
  by_sound t start bytes count ys line p n out_of_range e small within b h d short = on (lost (drop p t) line) refl where
    on : (c : Bool) → lost (drop p t) line ≡ c → sound (cond c (stuck s ys (fault NumberRange (start + p))) (onward s ys line (count - n) (start + p) bytes going (drop p t))).state ≡ true
    on true l = refused-sound number_range (start + p) refl
    on false l =
        going-sound line (count - n) (start + p) bytes (drop p t) (omega arith) small (omega (arith, length-drop p t)) (short (unsure l)) (bytes_drop t p b) (goes_open t line p n out_of_range h d (unsure l))

  pub walked-sound : (t : List ℕ) (start bytes line placed count : ℕ) (rs : List ℕ) → count ≡ get_or s 1 0 → bytes ≤ most_bytes → start + length t ≤ bytes → Bytes t
      → sound (walked t start bytes line placed count s rs).state ≡ true
  unfolding walked after
  walked-sound t start bytes line placed count rs e small within b =
      let n = count - placed in
      let r = row t line 0 n in
      let d = rowed t line 0 n in
      by_sound t start bytes count _ (line_after line r.entries) (place_after 0 r.entries) (n - total r.entries) r.ending e small within b (chain-upto t line 0 r.entries (omega arith) d.chain) d.ends
      (held_short t line n)
