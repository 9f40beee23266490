-- Bytes put behind bytes, how long labels and lines are, and what holds at each turn over the lines. Assumes nothing.
use mathlib.Core.Path.{◌≡◌, refl, sym, ap, ◌∙◌}
use mathlib.Core.List.{List, [], ◌∷◌, ◌++◌}
use Prim.Native.Nat.{ℕ, zero, suc, ◌+◌, ◌-◌, ◌*◌, ◌≤◌, ◌<◌}
use native.Mathlib.Omega.{arith}
use native.Mathlib.Nat.{add-zero}
use native.Mathlib.Numerals.{add-one}
use borrow.Author.Tests.{lt-ltb, le-ltb}
use lib.ListN.{length, set, get_or, length-append, length-replicate}
use lib.Seq.{sets, length-sets}
use Rattle.std.specs.Prelude.{Ok, Err}
use Rattle.refusals.specs.Faults.{fault}
use Rattle.refusals.specs.declared.Refusal.TheVariants.{NoRoom}
use Rattle.refusals.specs.declared.Fault.{Fault}
use Rattle.clearing.specs.Lent.{zeros}
use Rattle.clearing.proofs.Laws.{sets-padded}
use Rattle.decimals.specs.Decimal.{decimal}
use Rattle.totals.specs.Totals.{counters, Totals, held_in}
use Rattle.printedtotals.specs.Lines.{blank, newline, refusal_text, label, line, lines_from, lines, printed_of}

-- ---- bytes behind bytes

pub sets-append : (out : List ℕ) (at : ℕ) (xs ys : List ℕ) → sets (sets out at xs) (at + length xs) ys ≡ sets out at (xs ++ ys)
sets-append out at [] ys = rw add-zero
sets-append out at (x ∷ xs) ys =
    let e : at + suc (length xs) ≡ suc at + length xs = omega arith in
    ap (λ (n : ℕ). sets (sets (set out at x) (suc at) xs) n ys) e ∙ sets-append (set out at x) (suc at) xs ys

-- three parts: the last is a byte
pub three-put : (out : List ℕ) (at : ℕ) (xs ys : List ℕ) (b : ℕ) {one two three : List ℕ} {p q : ℕ} → one ≡ sets out at xs → p ≡ at + length xs
    → two ≡ sets one p ys → q ≡ p + length ys → three ≡ set two q b → three ≡ sets out at (xs ++ (ys ++ b ∷ []))
three-put out at xs ys b {one} {two} {three} {p} {q} e m f n g =
    g ∙ (λ i. set (f i) (n i) b) ∙ sets-append one p ys (b ∷ []) ∙ (λ i. sets (e i) (m i) (ys ++ b ∷ [])) ∙ sets-append out at xs (ys ++ b ∷ [])

length_three : (xs ys : List ℕ) (b : ℕ) → length (xs ++ (ys ++ b ∷ [])) ≡ length xs + length ys + 1
length_three xs ys b =
    let l = length-append ys (b ∷ []) in
    length-append xs (ys ++ b ∷ []) ∙ omega (arith, l)

-- ---- labels and lines

pub label_zero : label 0 ≡ 105 ∷ 110 ∷ 112 ∷ 117 ∷ 116 ∷ 115 ∷ 32 ∷ []
unfolding label
label_zero = refl

pub label_one : label 1 ≡ 97 ∷ 99 ∷ 99 ∷ 101 ∷ 112 ∷ 116 ∷ 101 ∷ 100 ∷ 32 ∷ []
unfolding label
label_one = refl

pub label-two : label 2 ≡ 114 ∷ 101 ∷ 102 ∷ 117 ∷ 115 ∷ 101 ∷ 100 ∷ 32 ∷ []
unfolding label
label-two = refl

pub label_more : (i : ℕ) → 2 < i → label i ≡ refusal_text ++ (decimal (i - 2) ++ blank ∷ [])
unfolding label
label_more zero h = absurd (omega arith)
label_more (suc zero) h = absurd (omega arith)
label_more (suc (suc zero)) h = absurd (omega arith)
label_more (suc (suc (suc n))) h =
    let e : suc n ≡ suc (suc (suc n)) - 2 = omega arith in
    ap (λ (m : ℕ). refusal_text ++ (decimal m ++ blank ∷ [])) e

pub length_more : (i : ℕ) → 2 < i → length (label i) ≡ 9 + length (decimal (i - 2))
length_more i h = ap length (label_more i h) ∙ length_three refusal_text (decimal (i - 2)) blank ∙ omega arith

-- what `label_size` answers
pub size-inputs : {i : ℕ} → i ≡ 0 → (7 ≡ length (label i)) × (7 ≤ 29)
size-inputs e = (sym (ap (λ (j : ℕ). length (label j)) e ∙ ap length label_zero), omega arith)

pub size-accepted : {i : ℕ} → i ≡ 1 → (9 ≡ length (label i)) × (9 ≤ 29)
size-accepted e = (sym (ap (λ (j : ℕ). length (label j)) e ∙ ap length label_one), omega arith)

pub size-refused : {i : ℕ} → i ≡ 2 → (8 ≡ length (label i)) × (8 ≤ 29)
size-refused e = (sym (ap (λ (j : ℕ). length (label j)) e ∙ ap length label-two), omega arith)

-- a counter that is none of the first three is a refusal's
pub past_two : (i : ℕ) → (i ≡ 0 → ⊥) → (i ≡ 1 → ⊥) → (i ≡ 2 → ⊥) → 2 < i
past_two zero a b d = absurd (a refl)
past_two (suc zero) a b d = absurd (b refl)
past_two (suc (suc zero)) a b d = absurd (d refl)
past_two (suc (suc (suc i))) a b d = omega arith

pub size-refusal : (i : ℕ) {r : ℕ} → 2 < i → (r ≡ length (decimal (i - 2))) × (1 ≤ r) × (r ≤ 20) → (9 + r ≡ length (label i)) × (9 + r ≤ 29)
size-refusal i {r} h e =
    let l = length_more i h in
    (omega (arith, l, e.0), omega (arith, e.2))

-- what `put_label` leaves
pub put_first : (out : List ℕ) (at : ℕ) {i n : ℕ} {text left : List ℕ} (c : ℕ) → label c ≡ text → i ≡ c
    → (n ≡ at + length text) × (left ≡ sets out at text) → (n ≡ at + length (label i)) × (left ≡ sets out at (label i))
put_first out at c e f g = rw (f, e) g

pub put_more : (out : List ℕ) (at i : ℕ) {one two three : List ℕ} {p q r : ℕ} → 2 < i → (p ≡ at + 8) × (one ≡ sets out at refusal_text)
    → (q ≡ p + length (decimal (i - 2))) × (two ≡ sets one p (decimal (i - 2))) → (r ≡ q + 1) × (three ≡ sets two q (blank ∷ []))
    → (r ≡ at + length (label i)) × (three ≡ sets out at (label i))
put_more out at i h e f g =
    (omega (arith, length_more i h, e.0, f.0, g.0), three-put out at refusal_text (decimal (i - 2)) blank e.1 e.0 f.1 f.0 g.1 ∙ ap (sets out at) (sym (label_more i h)))

pub length-line : (i count : ℕ) → length (line i count) ≡ length (label i) + length (decimal count) + 1
unfolding line
length-line i count = length_three (label i) (decimal count) newline

-- what `line_size` answers
pub size-line : (i count : ℕ) {a b : ℕ} → (a ≡ length (label i)) × (a ≤ 29) → (b ≡ length (decimal count)) × (1 ≤ b) × (b ≤ 20)
    → (a + b + 1 ≡ length (line i count)) × (a + b + 1 ≤ 50)
size-line i count e f = (omega (arith, length-line i count, e.0, f.0), omega (arith, e.1, f.2))

pub line-put : (out : List ℕ) (at i count : ℕ) {one two three : List ℕ} {p q : ℕ} → one ≡ sets out at (label i) → p ≡ at + length (label i)
    → two ≡ sets one p (decimal count) → q ≡ p + length (decimal count) → three ≡ set two q newline → three ≡ sets out at (line i count)
unfolding line
line-put out at i count e m f n g = three-put out at (label i) (decimal count) newline e m f n g

pub put_whole : (out : List ℕ) (at i count : ℕ) {one two three : List ℕ} {p q r : ℕ} → (p ≡ at + length (label i)) × (one ≡ sets out at (label i))
    → (q ≡ p + length (decimal count)) × (two ≡ sets one p (decimal count)) → (r ≡ q + 1) × (three ≡ sets two q (newline ∷ []))
    → (r ≡ at + length (line i count)) × (three ≡ sets out at (line i count))
put_whole out at i count e f g = (omega (arith, length-line i count, e.0, f.0, g.0), line-put out at i count e.1 e.0 f.1 f.0 g.1)

-- one line of those that are left
lines_step : (t : Totals) (i : ℕ) → i < counters → lines_from t i (counters - i) ≡ line i (t i) ++ lines_from t (i + 1) (counters - (i + 1))
unfolding lines_from
lines_step t i h =
    let e : counters - i ≡ suc (counters - (i + 1)) = omega arith in
    ap (lines_from t i) e ∙ ap (λ (j : ℕ). line i (t i) ++ lines_from t j (counters - (i + 1))) (sym (add-one i))

-- ---- lines_size

-- the lines before i are counted, at most 50 bytes each
pub record SizeSoFar (store : List ℕ) (size i : ℕ) : Type 0 where
  pub all : size + length (lines_from (held_in store) i (counters - i)) ≡ length (lines (held_in store))
  pub within : i ≤ counters
  pub most : size ≤ 50 * i

pub size_start : (store : List ℕ) → SizeSoFar store 0 0
size_start store = record { all = omega arith; within = omega arith; most = omega arith }

module _ {store : List ℕ} {size i : ℕ} (k : SizeSoFar store size i) where
  pub size-turn : {more count : ℕ} → i < counters → count ≡ get_or store i 0 → more ≡ length (line i count) → more ≤ 50 → SizeSoFar store (size + more) (i + 1)
  size-turn {more} {count} h n e m =
      let own = ap (λ (x : ℕ). length (line i x)) n in
      let l = ap length (lines_step (held_in store) i h) ∙ length-append (line i (get_or store i 0)) (lines_from (held_in store) (i + 1) (counters - (i + 1))) in
      record { all = omega (arith, k.all, l, e, own); within = omega arith; most = omega (arith, k.most) }

  pub size_low : i < counters → size ≤ 1400
  size_low h = omega (arith, k.most)

  pub size_end : counters ≤ i → (size ≡ length (lines (held_in store))) × (size ≤ 2000)
  unfolding lines_from
  size_end h =
      let e : i ≡ counters = omega (arith, k.within) in
      let none = ap (λ (j : ℕ). length (lines_from (held_in store) j (counters - j))) e in
      (omega (arith, k.all, none), omega (arith, k.most, e))

-- ---- put_lines

-- the lines from i on, put behind those that stand, make the whole
pub record LinesSoFar (store out₀ out : List ℕ) (at i : ℕ) : Type 0 where
  pub comes : sets out at (lines_from (held_in store) i (counters - i)) ≡ sets out₀ 0 (lines (held_in store))
  pub room : at + length (lines_from (held_in store) i (counters - i)) ≤ length out
  pub within : i ≤ counters
  pub same : length out ≡ length out₀

pub lines_start : (store out : List ℕ) → length (lines (held_in store)) ≤ length out → LinesSoFar store out out 0 0
lines_start store out h = record { comes = refl; room = omega (arith, h); within = omega arith; same = refl }

module _ {store out₀ out : List ℕ} {at i : ℕ} (k : LinesSoFar store out₀ out at i) where
  step_length : i < counters
      → length (lines_from (held_in store) i (counters - i)) ≡ length (line i (get_or store i 0)) + length (lines_from (held_in store) (i + 1) (counters - (i + 1)))
  step_length h = ap length (lines_step (held_in store) i h) ∙ length-append (line i (get_or store i 0)) (lines_from (held_in store) (i + 1) (counters - (i + 1)))

  pub line-room : {count : ℕ} → i < counters → count ≡ get_or store i 0 → at + length (line i count) ≤ length out
  line-room {count} h e = omega (arith, k.room, step_length h, ap (λ (n : ℕ). length (line i n)) e)

  pub lines-turn : {count next : ℕ} {left : List ℕ} → i < counters → count ≡ get_or store i 0 → next ≡ at + length (line i count) → left ≡ sets out at (line i count)
      → LinesSoFar store out₀ left next (i + 1)
  lines-turn {count} {next} {left} h e n put =
      let l = ap (λ (m : ℕ). length (line i m)) e in
      let rest = lines_from (held_in store) (i + 1) (counters - (i + 1)) in
      let kept = ap length put ∙ length-sets out at (line i count) in
      record {
        comes = (λ j. sets (put j) (n j) rest) ∙ sets-append out at (line i count) rest ∙ ap (λ (m : ℕ). sets out at (line i m ++ rest)) e ∙ ap (sets out at) (sym (lines_step (held_in store) i h)) ∙ k.comes;
        room = omega (arith, k.room, step_length h, l, n, kept);
        within = omega arith;
        same = kept ∙ k.same;
      }

  pub lines_end : counters ≤ i → out ≡ sets out₀ 0 (lines (held_in store))
  unfolding lines_from
  lines_end h =
      let e : i ≡ counters = omega (arith, k.within) in
      sym (ap (λ (j : ℕ). sets out at (lines_from (held_in store) j (counters - j))) e) ∙ k.comes

-- ---- print_totals

pub printed_short : (store : List ℕ) (room : ℕ) {out : List ℕ} {size : ℕ} {why : Fault} → out ≡ zeros room → length out < size → size ≡ length (lines (held_in store))
    → why ≡ fault NoRoom (length out) → (Err why, out) ≡ printed_of store room
unfolding printed_of
printed_short store room {out} clear h e w =
    let l : length out ≡ room = ap length clear ∙ length-replicate room 0 in
    rw (lt-ltb room (length (lines (held_in store))) (omega (arith, e, l)), w, l, clear)

pub printed_all : (store : List ℕ) (room : ℕ) {out left : List ℕ} {size : ℕ} → out ≡ zeros room → size ≤ length out → size ≡ length (lines (held_in store))
    → left ≡ sets out 0 (lines (held_in store)) → (Ok size, left) ≡ printed_of store room
unfolding printed_of
printed_all store room {out} clear h e put =
    let l : length out ≡ room = ap length clear ∙ length-replicate room 0 in
    rw (le-ltb room (length (lines (held_in store))) (omega (arith, e, l)), put, clear, e, sets-padded room (lines (held_in store)) (omega (arith, e, l)))
