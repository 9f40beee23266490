-- THEOREM of 02's K6, the other way: an entry of which every continuation refuses is lost by the test. An end-line step that is cut
-- within five bytes is healed by a high digit.
use mathlib.Core.Path.{◌≡◌, refl, sym, ap, ◌∙◌}
use mathlib.Core.Bool.{Bool, true, false, cond, not, ◌&&◌}
use mathlib.Core.List.{List, [], ◌∷◌, ◌++◌, append-nil}
use Prim.Native.Nat.{ℕ, zero, suc, ◌+◌, ◌-◌, ◌*◌, ◌/◌, ◌%◌, ◌≤◌, ◌<◌}
use native.Mathlib.Omega.{arith}
use lib.ListN.{length, drop, get_or, length-append, get_or-append}
use lib.Seq.{drop-append-le}
use lib.Dec.{ltb, eqb}
use borrow.Author.Tests.{lt-ltb, le-ltb, ltb-true, eqb-true}
use Rattle.std.specs.Prelude.{Option, Some, None}
use Rattle.lineentry.specs.declared.Varint.{Varint}
use Rattle.lineentry.specs.declared.Span.{Span}
use Rattle.lineentry.specs.declared.Entry.TheVariants.{Covers, Stop, OutOfRange}
use Rattle.lineentry.specs.Varint.{read_as, digits, number, cut, varint_at, signed_of}
use Rattle.lineentry.specs.Line.{origin, moved, as_signed, shown}
use Rattle.lineentry.specs.Entry.{location, long_columns, long_form, by_code, entry_at}
use Rattle.lineentry.proofs.Entries.{refused-inside}
use Rattle.lineentry.proofs.Varints.{varint_end}
use Rattle.rows.proofs.Local.{never, parsed, parses}
use Rattle.rows.proofs.Extent.{ran, signed_at_lem, entry-code}
use Rattle.lostentry.proofs.Grows.{digits_onto, whole_stays, outside_above, moved_to, to_lt}
use Rattle.lostentry.proofs.Losing.{covered, stopped, columns_end, line_out, ends, and_split}
use Rattle.lostentry.specs.Lost.{Lost, in_range, cut_early, end_open, may_heal, lost}

-- ---- digits that fill a number up to six: zeros, and 3 as the sixth
abbrev pad : ℕ → List ℕ
pad zero = 3 ∷ []
pad (suc j) = 64 ∷ pad j

abbrev scale : ℕ → ℕ
scale zero = 3
scale (suc j) = 64 * scale j

abbrev most : ℕ → ℕ
most zero = 1
most (suc j) = 64 * most j

pad_digits : (j : ℕ) → (digits (pad j) ≡ pad j) × (cut (pad j) ≡ false)
pad_digits zero = (refl, refl)
pad_digits (suc j) = let r = pad_digits j in (ap {B = List ℕ} (λ x. 64 ∷ x) r.0, r.1)

pad_length : (j : ℕ) → length (pad j) ≡ suc j
pad_length zero = refl
pad_length (suc j) = ap suc (pad_length j)

pad_number : (j : ℕ) → number (pad j) ≡ scale j
pad_number zero = refl
pad_number (suc j) = omega (arith, pad_number j)

padded-number : (d : List ℕ) (j : ℕ) → length d ≤ j → number (d ++ pad (j - length d)) ≡ number d + scale j
padded-number [] j h = let z : j - 0 ≡ j = omega arith in rw z (pad_number j ∙ omega arith)
padded-number (b ∷ d) zero h = absurd (omega arith)
padded-number (b ∷ d) (suc j) h =
    let z : suc j - suc (length d) ≡ j - length d = omega arith in
    let r = padded-number d j (omega arith) in
    rw z (omega (arith, r))

number_lt : (d : List ℕ) (j : ℕ) → length d ≤ j → number d < most j
number_lt [] zero h = omega arith
number_lt [] (suc j) h = omega (arith, number_lt [] j (omega arith))
number_lt (b ∷ d) zero h = absurd (omega arith)
number_lt (b ∷ d) (suc j) h = omega (arith, number_lt d j (omega arith))

-- the number with its digits filled up
healed : (u : List ℕ) (q y q₁ : ℕ) → q ≤ length u → varint_at u q ≡ read_as y q₁ true → q₁ - q < 6
    → varint_at (u ++ pad (5 - (q₁ - q))) q ≡ read_as (y + 3221225472) (q + 6) false
healed u q y q₁ h e k =
    let a = parsed u q y q₁ true e in
    let d = drop q u in
    let v = pad (5 - (q₁ - q)) in
    let r = digits_onto d v a.cuts in
    let p = pad_digits (5 - (q₁ - q)) in
    let j = drop-append-le q u v h in
    let ld : length d ≡ q₁ - q = omega (arith, a.wide, ap length r.1) in
    let w : digits (d ++ v) ≡ d ++ v = r.0 ∙ ap (λ x. d ++ x) p.0 in
    let l : length (d ++ v) ≡ 6 = omega (arith, length-append d v, pad_length (5 - (q₁ - q))) in
    let y' : number d ≡ y = rw r.1 at a.value in
    let n : number (d ++ v) ≡ y + 3221225472 = ap (λ i. number (d ++ pad (5 - i))) (sym ld) ∙ padded-number d 5 (omega arith) ∙ omega arith in
    let s : number d < 1073741824 = number_lt d 5 (omega arith) in
    parses (u ++ v) q (y + 3221225472) (q + 6) false
    (record { wide = rw (j, w, l); few = rw (j, w, l) (omega arith); value = rw (j, w) n; small = rw (j, w, n) (omega arith); cuts = rw j (r.2 ∙ p.1) })

-- ---- the entry
code_14 : (s : List ℕ) (line code n p : ℕ) → code ≡ 14 → by_code s line code n p ≡ long_form s line n p
unfolding by_code
code_14 s line code n p e = rw e

-- an entry of code 14 that refuses is refused by its numbers
record Marked (s : List ℕ) (line : ℕ) : Type 0 where
  inside : 0 < length s
  high : ltb (get_or s 0 0) 128 ≡ false
  long : long_form s line (get_or s 0 0 % 8 + 1) 1 ≡ OutOfRange

long_of : (s : List ℕ) (line : ℕ) → get_or s 0 0 / 8 % 16 ≡ 14 → entry_at s line 0 ≡ OutOfRange → Marked s line
long_of s line c e = on (ltb (get_or s 0 0) 128) refl (sym (entry-code s line 0 (refused-inside s line 0 e)) ∙ e) where
  on : (t : Bool) → ltb (get_or s 0 0) 128 ≡ t → cond t Stop (by_code s line (get_or s 0 0 / 8 % 16) (get_or s 0 0 % 8 + 1) 1) ≡ OutOfRange → Marked s line
  on true z k = stopped k
  on false z k = record { inside = refused-inside s line 0 e; high = z; long = sym (code_14 s line (get_or s 0 0 / 8 % 16) (get_or s 0 0 % 8 + 1) 1 c) ∙ k }

long-ends : (s : List ℕ) (line n x q y q₁ : ℕ) (m m₁ : Bool) → varint_at s 1 ≡ read_as x q m → varint_at s q ≡ read_as y q₁ m₁ → long_form s line n 1 ≡ ends s line n x y q₁
unfolding long_form
long-ends s line n x q y q₁ m m₁ a b = signed_at_lem s 1 _ ∙ rw (a, b)

-- where nothing is left the entry covers, and bytes are missing
columns_none : (s : List ℕ) (to end n p : ℕ) → p ≡ length s → (e : Span) × (long_columns s to end n p ≡ Covers e) × (e.missing ≡ true)
unfolding long_columns
columns_none s to end n p h =
    (record { instructions = n; line = to; location = location (shown to) 1 (shown end) 1; next = p; missing = true }, rw (varint_end 6 s p (omega arith), varint_end 6 s p (omega arith)), refl)

covers-long : (s : List ℕ) (line x q y q₁ to end : ℕ) → 0 < length s → ltb (get_or s 0 0) 128 ≡ false → get_or s 0 0 / 8 % 16 ≡ 14 → varint_at s 1 ≡ read_as x q false → varint_at s q ≡ read_as y q₁ false
    → moved line (signed_of x) ≡ Some to → moved to (as_signed y) ≡ Some end → q₁ ≡ length s → (e : Span) × (entry_at s line 0 ≡ Covers e) × (e.missing ≡ true)
covers-long s line x q y q₁ to end h b c v w t z l =
    let f = columns_none s to end (get_or s 0 0 % 8 + 1) q₁ l in
    let g : ends s line (get_or s 0 0 % 8 + 1) x y q₁ ≡ Covers f.0 = rw (t, z) f.1 in
    (f.0, entry-code s line 0 h ∙ rw b (code_14 s line (get_or s 0 0 / 8 % 16) (get_or s 0 0 % 8 + 1) 1 c ∙ long-ends s line (get_or s 0 0 % 8 + 1) x q y q₁ false false v w ∙ g), f.2)

-- the bytes that heal
abbrev pub healing : ℕ → List ℕ
healing k = pad (5 - k)

-- THEOREM: an entry of code 14 whose end-line step is cut within five bytes covers with some bytes more, and is then still cut.
heals : (u : List ℕ) (line x q to y q₁ : ℕ) → get_or u 0 0 / 8 % 16 ≡ 14 → varint_at u 1 ≡ read_as x q false → moved line (signed_of x) ≡ Some to → varint_at u q ≡ read_as y q₁ true → q₁ - q < 6
    → entry_at u line 0 ≡ OutOfRange → (e : Span) × (entry_at (u ++ healing (q₁ - q)) line 0 ≡ Covers e) × (e.missing ≡ true)
unfolding as_signed
heals u line x q to y q₁ c a t b k now =
    let w = long_of u line c now in
    let h = w.inside in
    let r₀ = ran u 1 x q false (omega arith) a in
    let r = ran u q y q₁ true r₀.upto b in
    let n = get_or u 0 0 % 8 + 1 in
    let v = pad (5 - (q₁ - q)) in
    let p = parsed u q y q₁ true b in
    let d = digits_onto (drop q u) [] p.cuts in
    let vy : number (drop q u) ≡ y = rw d.1 at p.value in
    let ly : number (drop q u) < 1073741824 = number_lt (drop q u) 5 (omega (arith, p.wide, ap length d.1)) in
    let low : ltb y origin ≡ true = lt-ltb y origin (omega arith) in
    let o : moved to (as_signed y) ≡ None =
    line_out (moved to (as_signed y)) (λ end. long_columns u to end n q₁) (λ end _ z. columns_end u to end n q₁ (r.late refl) z)
    (rw t at (sym (long-ends u line n x q y q₁ false true a b) ∙ w.long)) in
    let o' : moved to (y + origin) ≡ None = rw low at o in
    let above = outside_above to (y + origin) o' (omega arith) in
    let below = to_lt line (signed_of x) to t in
    let high : ltb (y + 3221225472) origin ≡ false = le-ltb (y + 3221225472) origin (omega arith) in
    let g : y + 3221225472 - origin ≡ y + 1073741824 = omega arith in
    let end = to + (y + 1073741824) - origin in
    let z : moved to (as_signed (y + 3221225472)) ≡ Some end = rw (high, g) (moved_to to (y + 1073741824) (omega arith) (omega arith)) in
    let lu = length-append u v in
    let lv = pad_length (5 - (q₁ - q)) in
    let i : get_or (u ++ v) 0 0 ≡ get_or u 0 0 = get_or-append u v 0 0 h in
    covers-long (u ++ v) line x q (y + 3221225472) (q + 6) to end (omega arith) (rw i w.high) (rw i c) (whole_stays u v 1 x q (omega arith) a) (healed u q y q₁ r₀.upto b k) t z
    (omega (arith, r.late refl, r.from))

pub record Healed (u : List ℕ) (line : ℕ) : Type 0 where
  pub bytes : List ℕ
  pub span : Span
  pub covers : entry_at (u ++ bytes) line 0 ≡ Covers span
  pub missing : span.missing ≡ true

open_heals : (u : List ℕ) (line : ℕ) → get_or u 0 0 / 8 % 16 ≡ 14 → entry_at u line 0 ≡ OutOfRange → end_open u line (varint_at u 1) ≡ true → Healed u line
open_heals u line c l e = on (varint_at u 1) refl e where
  on : (w : Option Varint) → varint_at u 1 ≡ w → end_open u line w ≡ true → Healed u line
  on None a h = never (sym h)
  on (Some v) a h = of v.value v.next v.missing a h where
    of : (x q : ℕ) (m : Bool) → varint_at u 1 ≡ read_as x q m → end_open u line (read_as x q m) ≡ true → Healed u line
    of x q true a h = never (sym h)
    of x q false a h = at (moved line (signed_of x)) refl h where
      at : (m : Option ℕ) → moved line (signed_of x) ≡ m → (in_range m && cut_early q (varint_at u q)) ≡ true → Healed u line
      at None t k = never (sym k)
      at (Some to) t k = last (varint_at u q) refl k where
        ended : (y q₁ : ℕ) (m : Bool) → varint_at u q ≡ read_as y q₁ m → cut_early q (read_as y q₁ m) ≡ true → Healed u line
        ended y q₁ false b j = never (sym j)
        ended y q₁ true b j =
            let r = heals u line x q to y q₁ c a t b (ltb-true (q₁ - q) 6 j) l in
            record { bytes = healing (q₁ - q); span = r.0; covers = r.1; missing = r.2 }

        last : (w : Option Varint) → varint_at u q ≡ w → cut_early q w ≡ true → Healed u line
        last None b j = never (sym j)
        last (Some w) b j = ended w.value w.next w.missing b j

-- THEOREM: what refuses as it stands and is not lost by the test covers with some bytes more.
pub not_lost_heals : (u : List ℕ) (line : ℕ) → entry_at u line 0 ≡ OutOfRange → lost u line ≡ false → Healed u line
unfolding lost
not_lost_heals u line e h = on (may_heal u line) refl (rw e at h) where
  on : (t : Bool) → may_heal u line ≡ t → not t ≡ false → Healed u line
  on true t k =
      let s = and_split (eqb (get_or u 0 0 / 8 % 16) 14) (end_open u line (varint_at u 1)) t in
      open_heals u line (eqb-true (get_or u 0 0 / 8 % 16) 14 s.0) e s.1
  on false t k = never k

-- THEOREM: an entry of which every continuation refuses is lost by the test.
pub refuses-lost : (u : List ℕ) (line : ℕ) → Lost u line → lost u line ≡ true
refuses-lost u line l = on (lost u line) refl where
  on : (t : Bool) → lost u line ≡ t → t ≡ true
  on true e = refl
  on false e = let h = not_lost_heals u line (rw (append-nil u) at (l [])) e in covered (sym h.covers ∙ l h.bytes)
