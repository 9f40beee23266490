-- THEOREM of 02's K6: what the test calls lost is refused with every continuation, and nothing else is.
use mathlib.Core.Path.{◌≡◌, refl, sym, ap, ◌∙◌}
use mathlib.Core.Bool.{Bool, true, false, cond, not, ◌&&◌}
use mathlib.Core.List.{List, [], ◌∷◌, ◌++◌, append-nil}
use Prim.Native.Nat.{ℕ, ◌+◌, ◌-◌, ◌/◌, ◌%◌, ◌≤◌, ◌<◌}
use native.Mathlib.Omega.{arith}
use lib.ListN.{length, get_or, length-append, get_or-append}
use lib.Dec.{ltb, eqb}
use borrow.Author.Tests.{ltb-false, not-true}
use Rattle.std.specs.Prelude.{Option, Some, None}
use Rattle.lineentry.specs.declared.Varint.{Varint}
use Rattle.lineentry.specs.declared.Span.{Span}
use Rattle.lineentry.specs.declared.Entry.{Entry}
use Rattle.lineentry.specs.declared.Entry.TheVariants.{Covers, Stop, OutOfRange}
use Rattle.lineentry.specs.Varint.{read_as, varint_at, signed_of}
use Rattle.lineentry.specs.Line.{origin, moved, as_signed}
use Rattle.lineentry.specs.Entry.{with_number, with_line, at_line, covers, short_form, one_line, no_columns, long_columns, long_form, by_code, entry_at}
use Rattle.lineentry.proofs.Entries.{refused-inside}
use Rattle.lineentry.proofs.Varints.{varint_end}
use Rattle.rows.proofs.Local.{never}
use Rattle.rows.proofs.Extent.{ran, signed_at_lem, entry-code}
use Rattle.lostentry.proofs.Grows.{long_stays, whole_stays, Grown, cut_grows, full_long, moved_to, to_lt, out_stays}
use Rattle.lostentry.specs.Lost.{Lost, refuses, in_range, cut_early, end_open, may_heal, lost}

pub covered : {A : Type 0} {e : Span} → Covers e ≡ OutOfRange → A
covered q = let z : ◌≡◌ {A = ℕ} 0 1 = cc in absurd (omega arith)

-- ---- a number that is all there, or refused
number-keeps : (u v : List ℕ) (p : ℕ) (go go' : ℕ → ℕ → Bool → Entry) → p ≤ length u
    → ((x q : ℕ) → q ≤ length u → go x q false ≡ OutOfRange → go' x q false ≡ OutOfRange)
    → ((x q : ℕ) → q ≡ length u → go x q true ≡ OutOfRange → with_number (varint_at (u ++ v) p) go' ≡ OutOfRange)
    → with_number (varint_at u p) go ≡ OutOfRange → with_number (varint_at (u ++ v) p) go' ≡ OutOfRange
number-keeps u v p go go' h f g e = on (varint_at u p) refl e where
  on : (w : Option Varint) → varint_at u p ≡ w → with_number w go ≡ OutOfRange → with_number (varint_at (u ++ v) p) go' ≡ OutOfRange
  on None q k = rw (long_stays u v p h q)
  on (Some w) q k = of w.value w.next w.missing q k where
    of : (x i : ℕ) (m : Bool) → varint_at u p ≡ read_as x i m → go x i m ≡ OutOfRange → with_number (varint_at (u ++ v) p) go' ≡ OutOfRange
    of x i false q k = rw (whole_stays u v p x i h q) (f x i (ran u p x i false h q).upto k)
    of x i true q k = g x i ((ran u p x i true h q).late refl) k

-- where nothing is left, columns are none and refuse nothing
pub columns_end : {A : Type 0} (u : List ℕ) (to end n p : ℕ) → p ≡ length u → long_columns u to end n p ≡ OutOfRange → A
unfolding long_columns
columns_end u to end n p h e = covered (rw (varint_end 6 u p (omega arith), varint_end 6 u p (omega arith)) at e)

columns_keep : (u v : List ℕ) (to end n p : ℕ) → p ≤ length u → long_columns u to end n p ≡ OutOfRange → long_columns (u ++ v) to end n p ≡ OutOfRange
unfolding long_columns
columns_keep u v to end n p h e =
    number-keeps u v p _ _ h
    (λ x q l. number-keeps u v q _ _ l (λ y i m k. covered k) (λ y i m k. covered k))
    (λ x q l k. covered (rw (varint_end 6 u q (omega arith)) at k)) e

-- ---- code 13
pub line_out : (l : Option ℕ) (go : ℕ → Entry) → ((x : ℕ) → l ≡ Some x → go x ≡ OutOfRange → ⊥) → with_line l go ≡ OutOfRange → l ≡ None
line_out (Some x) go f e = absurd (f x refl e)
line_out None go f e = refl

step_out : (line x : ℕ) (w : Option Varint) (go : ℕ → ℕ → ℕ → Bool → Entry) → line < 4294967296 → moved line (signed_of x) ≡ None → Grown x w
    → with_number w (λ y q m. with_line (moved line (signed_of y)) λ to. go to y q m) ≡ OutOfRange
step_out line x (Some v) go h o g = rw (out_stays line x v.value h g.0 g.1 g.2 o)
step_out line x None go h o g = refl

pub step_keeps : (u v : List ℕ) (line n p : ℕ) → line < 4294967296 → p ≤ length u → no_columns u line n p ≡ OutOfRange → no_columns (u ++ v) line n p ≡ OutOfRange
unfolding no_columns
step_keeps u v line n p b h e = rw (signed_at_lem (u ++ v) p) (on (varint_at u p) refl (rw (signed_at_lem u p) at e)) where
  on : (w : Option Varint) → varint_at u p ≡ w → with_number w (λ x q m. with_line (moved line (signed_of x)) λ to. covers n to (at_line to) q m) ≡ OutOfRange
      → with_number (varint_at (u ++ v) p) (λ x q m. with_line (moved line (signed_of x)) λ to. covers n to (at_line to) q m) ≡ OutOfRange
  on None q k = rw (long_stays u v p h q)
  on (Some w) q k = of w.value w.next w.missing q k where
    of : (x i : ℕ) (m : Bool) → varint_at u p ≡ read_as x i m → with_line (moved line (signed_of x)) (λ to. covers n to (at_line to) i m) ≡ OutOfRange
        → with_number (varint_at (u ++ v) p) (λ x q m. with_line (moved line (signed_of x)) λ to. covers n to (at_line to) q m) ≡ OutOfRange
    of x i false q k = rw (whole_stays u v p x i h q) k
    of x i true q k =
        let o = line_out (moved line (signed_of x)) (λ to. covers n to (at_line to) i true) (λ to t r. covered r) k in
        step_out line x (varint_at (u ++ v) p) (λ to y q₁ m. covers n to (at_line to) q₁ m) b o (cut_grows u v p x i h q (varint_at (u ++ v) p) refl)

-- ---- code 14
-- what stands behind the two steps
abbrev pub ends : List ℕ → ℕ → ℕ → ℕ → ℕ → ℕ → Entry
ends s line n x y q₁ = with_line (moved line (signed_of x)) λ to. with_line (moved to (as_signed y)) λ end. long_columns s to end n q₁

abbrev pub steps : List ℕ → ℕ → ℕ → ℕ → ℕ → Entry
steps s line n x q = with_number (varint_at s q) λ y q₁ _. ends s line n x y q₁

out_anyhow : (s : List ℕ) (line n x : ℕ) (w : Option Varint) → moved line (signed_of x) ≡ None → with_number w (λ y q₁ _. ends s line n x y q₁) ≡ OutOfRange
out_anyhow s line n x (Some v) o = rw o
out_anyhow s line n x None o = refl

-- a line moved by 0 stays
stays : (to : ℕ) → to < 4294967296 → moved to (as_signed 0) ≡ Some to
unfolding as_signed
stays to h = let z : to + origin - origin ≡ to = omega arith in moved_to to origin (omega arith) (omega arith) ∙ ap Some z

-- the line step is cut
cut_step : (u v : List ℕ) (line n p x q : ℕ) → line < 4294967296 → p ≤ length u → varint_at u p ≡ read_as x q true → steps u line n x q ≡ OutOfRange
    → with_number (varint_at (u ++ v) p) (λ x q _. steps (u ++ v) line n x q) ≡ OutOfRange
cut_step u v line n p x q b h e k = on (varint_at (u ++ v) p) (cut_grows u v p x q h e (varint_at (u ++ v) p) refl) where
  l : q ≡ length u
  l = (ran u p x q true h e).late refl

  o : moved line (signed_of x) ≡ None
  o = line_out (moved line (signed_of x)) _ (λ to t r. columns_end u to to n q l (rw (stays to (to_lt line (signed_of x) to t)) at r)) (rw (varint_end 6 u q (omega (arith, l))) at k)

  on : (w : Option Varint) → Grown x w → with_number w (λ x q _. steps (u ++ v) line n x q) ≡ OutOfRange
  on None g = refl
  on (Some w) g = out_anyhow (u ++ v) line n w.value (varint_at (u ++ v) w.next) (out_stays line x w.value b g.0 g.1 g.2 o)

-- the end-line step is cut, in six bytes
cut_end_step : (u v : List ℕ) (to n x y q q₁ line : ℕ) → q ≤ length u → varint_at u q ≡ read_as y q₁ true → 6 ≤ q₁ - q → moved line (signed_of x) ≡ Some to
    → ends u line n x y q₁ ≡ OutOfRange → steps (u ++ v) line n x q ≡ OutOfRange
cut_end_step u [] to n x y q q₁ line h e k t r = rw (append-nil u, e) r
cut_end_step u (b ∷ v) to n x y q q₁ line h e k t r = rw (full_long u b v q y q₁ h e k)

whole_step : (u v : List ℕ) (line n x q : ℕ) → q ≤ length u → (in_range (moved line (signed_of x)) && cut_early q (varint_at u q)) ≡ false
    → steps u line n x q ≡ OutOfRange → steps (u ++ v) line n x q ≡ OutOfRange
whole_step u v line n x q h f e = on (moved line (signed_of x)) refl f e where
  on : (l : Option ℕ) → moved line (signed_of x) ≡ l → (in_range l && cut_early q (varint_at u q)) ≡ false → steps u line n x q ≡ OutOfRange → steps (u ++ v) line n x q ≡ OutOfRange
  on None o f k = out_anyhow (u ++ v) line n x (varint_at (u ++ v) q) o
  on (Some to) o f k = at (varint_at u q) refl f k where
    at : (w : Option Varint) → varint_at u q ≡ w → cut_early q w ≡ false → with_number w (λ y q₁ _. ends u line n x y q₁) ≡ OutOfRange → steps (u ++ v) line n x q ≡ OutOfRange
    at None d c r = rw (long_stays u v q h d)
    at (Some w) d c r = of w.value w.next w.missing d c r where
      of : (y q₁ : ℕ) (m : Bool) → varint_at u q ≡ read_as y q₁ m → cut_early q (read_as y q₁ m) ≡ false → ends u line n x y q₁ ≡ OutOfRange → steps (u ++ v) line n x q ≡ OutOfRange
      of y q₁ true d c r = cut_end_step u v to n x y q q₁ line h d (ltb-false (q₁ - q) 6 c) o r
      of y q₁ false d c r = rw (whole_stays u v q y q₁ h d, o) (last (moved to (as_signed y)) (rw o at r)) where
        last : (m : Option ℕ) → with_line m (λ end. long_columns u to end n q₁) ≡ OutOfRange → with_line m (λ end. long_columns (u ++ v) to end n q₁) ≡ OutOfRange
        last (Some end) z = columns_keep u v to end n q₁ (ran u q y q₁ false h d).upto z
        last None z = refl

pub long-keeps : (u v : List ℕ) (line n p : ℕ) → line < 4294967296 → p ≤ length u → end_open u line (varint_at u p) ≡ false → long_form u line n p ≡ OutOfRange → long_form (u ++ v) line n p ≡ OutOfRange
unfolding long_form
long-keeps u v line n p b h f e = rw (signed_at_lem (u ++ v) p) (on (varint_at u p) refl f (rw (signed_at_lem u p) at e)) where
  on : (w : Option Varint) → varint_at u p ≡ w → end_open u line w ≡ false → with_number w (λ x q _. steps u line n x q) ≡ OutOfRange
      → with_number (varint_at (u ++ v) p) (λ x q _. steps (u ++ v) line n x q) ≡ OutOfRange
  on None q f k = rw (long_stays u v p h q)
  on (Some w) q f k = of w.value w.next w.missing q f k where
    of : (x i : ℕ) (m : Bool) → varint_at u p ≡ read_as x i m → end_open u line (read_as x i m) ≡ false → steps u line n x i ≡ OutOfRange
        → with_number (varint_at (u ++ v) p) (λ x q _. steps (u ++ v) line n x q) ≡ OutOfRange
    of x i false q f k = rw (whole_stays u v p x i h q) (whole_step u v line n x i (ran u p x i false h q).upto f k)
    of x i true q f k = cut_step u v line n p x i b h q k

-- ---- all codes
one_keeps : (u v : List ℕ) (line code n p : ℕ) → one_line u line code n p ≡ OutOfRange → one_line (u ++ v) line code n p ≡ OutOfRange
unfolding one_line
one_keeps u v line code n p e = rw (line_out (moved line (origin + (code - 10))) _ (λ to t r. covered r) e)

pub code-keeps : (u v : List ℕ) (line code n p : ℕ) → line < 4294967296 → p ≤ length u → (eqb code 14 && end_open u line (varint_at u p)) ≡ false
    → by_code u line code n p ≡ OutOfRange → by_code (u ++ v) line code n p ≡ OutOfRange
unfolding by_code short_form
code-keeps u v line code n p b h f e = c10 (ltb code 10) e where
  c14 : (t : Bool) → (t && end_open u line (varint_at u p)) ≡ false → cond t (long_form u line n p) (covers n line (at_line line) p false) ≡ OutOfRange → cond t (long_form (u ++ v) line n p) (covers n line (at_line line) p false) ≡ OutOfRange
  c14 true f k = long-keeps u v line n p b h f k
  c14 false f k = covered k

  c13 : (t : Bool) → cond t (no_columns u line n p) (cond (eqb code 14) (long_form u line n p) (covers n line (at_line line) p false)) ≡ OutOfRange
      → cond t (no_columns (u ++ v) line n p) (cond (eqb code 14) (long_form (u ++ v) line n p) (covers n line (at_line line) p false)) ≡ OutOfRange
  c13 true k = step_keeps u v line n p b h k
  c13 false k = c14 (eqb code 14) f k

  c12 : (t : Bool) → cond t (one_line u line code n p) (cond (eqb code 13) (no_columns u line n p) (cond (eqb code 14) (long_form u line n p) (covers n line (at_line line) p false))) ≡ OutOfRange
      → cond t (one_line (u ++ v) line code n p) (cond (eqb code 13) (no_columns (u ++ v) line n p) (cond (eqb code 14) (long_form (u ++ v) line n p) (covers n line (at_line line) p false))) ≡ OutOfRange
  c12 true k = one_keeps u v line code n p k
  c12 false k = c13 (eqb code 13) k

  c10 : (t : Bool) → cond t (short_form u line code n p) (cond (ltb code 13) (one_line u line code n p) (cond (eqb code 13) (no_columns u line n p) (cond (eqb code 14) (long_form u line n p) (covers n line (at_line line) p false)))) ≡ OutOfRange
      → cond t (short_form (u ++ v) line code n p) (cond (ltb code 13) (one_line (u ++ v) line code n p) (cond (eqb code 13) (no_columns (u ++ v) line n p) (cond (eqb code 14) (long_form (u ++ v) line n p) (covers n line (at_line line) p false)))) ≡ OutOfRange
  c10 true k = covered k
  c10 false k = c12 (ltb code 13) k

pub stopped : {A : Type 0} → Stop ≡ OutOfRange → A
stopped q = let z : ◌≡◌ {A = ℕ} 0 1 = cc in absurd (omega arith)

-- the same first byte, and other bytes behind
pub entry-keeps : (u v : List ℕ) (line : ℕ) → line < 4294967296 → may_heal u line ≡ false → entry_at u line 0 ≡ OutOfRange → entry_at (u ++ v) line 0 ≡ OutOfRange
entry-keeps u v line b f e = on (ltb (get_or u 0 0) 128) refl (sym (entry-code u line 0 h) ∙ e) where
  h : 0 < length u
  h = refused-inside u line 0 e

  on : (t : Bool) → ltb (get_or u 0 0) 128 ≡ t → cond t Stop (by_code u line (get_or u 0 0 / 8 % 16) (get_or u 0 0 % 8 + 1) 1) ≡ OutOfRange → entry_at (u ++ v) line 0 ≡ OutOfRange
  on true t k = stopped k
  on false t k =
      let l : 0 < length (u ++ v) = omega (arith, h, length-append u v) in
      let z = h in
      entry-code (u ++ v) line 0 l
      ∙ rw (get_or-append u v 0 0 h, t) (code-keeps u v line (get_or u 0 0 / 8 % 16) (get_or u 0 0 % 8 + 1) 1 b (omega arith) f k)

refuses_is : (e : Entry) → refuses e ≡ true → e ≡ OutOfRange
refuses_is (Covers e) h = never (sym h)
refuses_is Stop h = never (sym h)
refuses_is OutOfRange h = refl

pub and_split : (a b : Bool) → (a && b) ≡ true → (a ≡ true) × (b ≡ true)
and_split true b h = (refl, h)
and_split false b h = never (sym h)

-- THEOREM: what the test calls lost refuses with every continuation.
pub lost-refuses : (u : List ℕ) (line : ℕ) → line < 4294967296 → lost u line ≡ true → Lost u line
unfolding lost
lost-refuses u line b e v =
    let s = and_split (refuses (entry_at u line 0)) (not (may_heal u line)) e in
    entry-keeps u v line b (not-true (may_heal u line) s.1) (refuses_is (entry_at u line 0) s.0)

-- and where the code is not 14 the test is just that the entry refuses as it stands
pub lost_now : (u : List ℕ) (line : ℕ) → line < 4294967296 → eqb (get_or u 0 0 / 8 % 16) 14 ≡ false → (entry_at u line 0 ≡ OutOfRange → Lost u line) × (Lost u line → entry_at u line 0 ≡ OutOfRange)
lost_now u line b c = ((λ e v. entry-keeps u v line b (rw c) e), (λ l. rw (append-nil u) at (l [])))
