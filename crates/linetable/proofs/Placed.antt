-- THEOREM: every instruction not counted from entries shows the first line and column 1; and there is one location an instruction.
-- The walk leaves as many locations as there are instructions, and past those from entries each is the first line's.
use mathlib.Core.Path.{◌≡◌, refl, sym, ◌∙◌, ap, subst}
use mathlib.Core.Bool.{Bool, true, false, cond}
use mathlib.Core.List.{List, []}
use Prim.Native.Nat.{ℕ, zero, suc, ◌+◌, ◌-◌, ◌≤◌, ◌<◌, max}
use native.Mathlib.Omega.{arith}
use lib.IntN.{pos, negsuc}
use lib.ListN.{length, replicate, get_or, drop, length-append, length-replicate, get_or-replicate, drop_of_length-le}
use lib.Seq.{drop-append-add, get_or-drop}
use lib.Dec.{leb, ltb, eqb}
use borrow.Author.Tests.{leb-true, ltb-false, eqb-true, lt-ltb, le-ltb}
use Rattle.refusals.specs.Limits.{most_bytes}
use Rattle.lineentry.specs.declared.Location.{Location}
use Rattle.lineentry.specs.declared.Span.{Span}
use Rattle.lineentry.specs.declared.Entry.{Entry}
use Rattle.lineentry.specs.declared.Entry.TheVariants.{Covers, Stop, OutOfRange}
use Rattle.lineentry.specs.Line.{origin, as_signed, shown}
use Rattle.lineentry.specs.Entry.{entry_at, at_line}
use Rattle.lineentry.proofs.Entries.{entry-places}
use Rattle.linetable.specs.Walk.{Reading, done, refused, joined, after, walk}
use Rattle.linetable.specs.Answer.{first_line_of, located, blank}

-- `left` locations, of which those past the first k are the first line's
pub record Rest (first : Location) (left : ℕ) (ls : List Location) (k : ℕ) : Type 0 where
  pub many : length ls ≡ left
  pub within : k ≤ left
  pub others : drop k ls ≡ replicate (left - k) first

abbrev Placed : Location → ℕ → Reading → Type 0
Placed first left (done ls k whole) = Rest first left ls k
Placed first left (refused number place) = Unit {0}

placed-cond : (first : Location) (left : ℕ) (t : Bool) (a b : Reading) → (t ≡ true → Placed first left a) → Placed first left b → Placed first left (cond t a b)
placed-cond first left true a b p q = p refl
placed-cond first left false a b p q = q

placed_none : (first : Location) (left : ℕ) (whole : Bool) → left ≡ 0 → Placed first left (done [] 0 whole)
placed_none first left whole e = record { many = sym e; within = omega arith; others = rw e }

placed-joined : (first : Location) (left n : ℕ) (at : Location) (missing : Bool) (r : Reading) → n ≤ left → Placed first (left - n) r → Placed first left (joined (replicate n at) n missing r)
placed-joined first left n at missing (refused number place) h x = tt
placed-joined first left n at missing (done ls k whole) h x =
    let l : length (replicate n at) ≡ n = length-replicate n at in
    let e : length (replicate n at) + k ≡ n + k = omega arith in
    let m : left - n - k ≡ left - (n + k) = omega arith in
    record {
      many = omega (arith, length-append (replicate n at) ls, x.many);
      within = omega (arith, x.within);
      others = rw e at (drop-append-add (replicate n at) ls k) ∙ x.others ∙ ap (λ j. replicate j first) m;
    }

placed-after : (s : List ℕ) (first : Location) (line p left : ℕ) (on : ℕ → ℕ → ℕ → Reading) (e : Entry)
    → ((x : Span) → e ≡ Covers x → x.instructions ≤ left → Placed first (left - x.instructions) (on x.line x.next (left - x.instructions)))
    → Placed first left (after on first p left e)
placed-after s first line p left on (Covers x) h =
    placed-cond first left (leb x.instructions left) _ _
    (λ t. placed-joined first left x.instructions x.location x.missing (on x.line x.next (left - x.instructions)) (leb-true x.instructions left t) (h x refl (leb-true x.instructions left t)))
    (record {
      many = length-replicate left x.location;
      within = omega arith;
      others =
          let z : left - left ≡ 0 = omega arith in
          rw z (drop_of_length-le (replicate left x.location) {i = left} (omega (arith, length-replicate left x.location)));
    })
placed-after s first line p left on Stop h =
    let z : left - 0 ≡ left = omega arith in
    record { many = length-replicate left first; within = omega arith; others = rw z }
placed-after s first line p left on OutOfRange h = tt

placed-turn : (s : List ℕ) (first : Location) (line p left : ℕ) (on : ℕ → ℕ → ℕ → Reading) (whole t : Bool) → eqb left 0 ≡ t
    → ((x : Span) → entry_at s line p ≡ Covers x → x.instructions ≤ left → Placed first (left - x.instructions) (on x.line x.next (left - x.instructions)))
    → Placed first left (cond t (done [] 0 whole) (after on first p left (entry_at s line p)))
placed-turn s first line p left on whole true e h = placed_none first left whole (eqb-true left 0 e)
placed-turn s first line p left on whole false e h = placed-after s first line p left on (entry_at s line p) h

pub walk-places : (turns : ℕ) (s : List ℕ) (first : Location) (line p left : ℕ) → left ≤ turns → Placed first left (walk turns s first line p left)
walk-places zero s first line p left h = placed_none first left (eqb p (length s)) (omega arith)
walk-places (suc turns) s first line p left h =
    placed-turn s first line p left (walk turns s first) (eqb p (length s)) (eqb left 0) refl
    (λ x q b.
    let z : 0 < x.instructions = entry-places s line p x q in
    walk-places turns s first x.line x.next (left - x.instructions) (omega arith))

placed-located : (s : List ℕ) (first count capacity : ℕ) → Placed (at_line first) count (located s first count capacity)
unfolding located
placed-located s first count capacity =
    placed-cond (at_line first) count (ltb most_bytes (length s)) _ _ (λ _. tt) (placed-cond (at_line first) count (ltb capacity count) _ _ (λ _. tt) (walk-places count s (at_line first) first 0 count (omega arith)))

located-rest : (s : List ℕ) (first count capacity : ℕ) {ls : List Location} {k : ℕ} {whole : Bool} → located s first count capacity ≡ done ls k whole → Rest (at_line first) count ls k
located-rest s first count capacity e = subst (Placed (at_line first) count) e (placed-located s first count capacity)

-- one location an instruction
pub one_each : (s : List ℕ) (first count capacity : ℕ) {ls : List Location} {k : ℕ} {whole : Bool} → located s first count capacity ≡ done ls k whole → length ls ≡ count
one_each s first count capacity e = (located-rest s first count capacity e).many

-- and so no more locations than there is room for
abbrev pub Fits : ℕ → Reading → Type 0
Fits room (done ls k whole) = length ls ≤ room
Fits room (refused number place) = Unit {0}

fits-cond : (room : ℕ) (t : Bool) (a b : Reading) → Fits room a → (t ≡ false → Fits room b) → Fits room (cond t a b)
fits-cond room true a b p q = p
fits-cond room false a b p q = q refl

fits-placed : (first : Location) (left room : ℕ) (r : Reading) → left ≤ room → Placed first left r → Fits room r
fits-placed first left room (done ls k whole) h x = omega (arith, x.many)
fits-placed first left room (refused number place) h x = tt

pub located_fits : (s : List ℕ) (first count capacity room : ℕ) → capacity ≤ room → Fits room (located s first count capacity)
unfolding located
located_fits s first count capacity room h =
    fits-cond room (ltb most_bytes (length s)) _ _ tt
    (λ _. fits-cond room (ltb capacity count) _ _ tt
    (λ t. fits-placed (at_line first) count room (walk count s (at_line first) first 0 count) (omega (arith, ltb-false capacity count t)) (walk-places count s (at_line first) first 0 count (omega arith))))

-- no more come from entries than there are
pub from_entries-most : (s : List ℕ) (first count capacity : ℕ) {ls : List Location} {k : ℕ} {whole : Bool} → located s first count capacity ≡ done ls k whole → k ≤ count
from_entries-most s first count capacity e = (located-rest s first count capacity e).within

-- "Instructions left over take the first line (1 if not positive) and column 1."
pub left_over_first : (s : List ℕ) (first count capacity : ℕ) {ls : List Location} {k : ℕ} {whole : Bool} → located s first count capacity ≡ done ls k whole
    → (j : ℕ) → k ≤ j → j < count → get_or ls j blank ≡ at_line first
left_over_first s first count capacity {ls} {k} e j h b =
    let x = located-rest s first count capacity e in
    let z : k + (j - k) ≡ j = omega arith in
    sym (rw z at (get_or-drop k ls (j - k) blank)) ∙ rw x.others (get_or-replicate (count - k) (j - k) (at_line first) blank (omega arith))

-- a first line that is positive shows as itself, and any other as 1
pub first_shown_lem : (n : ℕ) → n < origin → shown (first_line_of (pos n)) ≡ max 1 n
unfolding as_signed
first_shown_lem n h = rw (lt-ltb n origin h) (omega arith)

pub first_not_positive : (n : ℕ) → n < origin → shown (first_line_of (negsuc n)) ≡ 1
unfolding as_signed
first_not_positive n h =
    let b : origin ≤ 4294967296 - suc n = omega arith in
    rw (le-ltb (4294967296 - suc n) origin b) (omega arith)
