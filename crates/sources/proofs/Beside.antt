-- THEOREM: beside the places that `sill_locate` shows, the bytes say which came from entries, which of them show a 1 that was not stored, and, by
-- a table that is whole, that no entry is cut. An induction over the turns of both walks at once, clause by clause. Assumes nothing.
use mathlib.Core.Path.{◌≡◌, refl, sym, ap, subst, ◌∙◌}
use mathlib.Core.Bool.{Bool, true, false, not, ◌&&◌, cond}
use mathlib.Core.List.{List, [], ◌∷◌, ◌++◌, append_assoc, append-nil}
use Prim.Native.Nat.{ℕ, zero, suc, ◌+◌, ◌-◌, ◌≤◌, ◌<◌, min}
use native.Mathlib.Omega.{arith}
use lib.ListN.{length, replicate, length-append, length-replicate}
use lib.Dec.{leb, ltb, eqb}
use borrow.Author.Tests.{leb-true, leb-false, eqb-true}
use Rattle.refusals.specs.Limits.{most_bytes}
use Rattle.clearing.specs.Lent.{zeros}
use Rattle.lineentry.specs.declared.Location.{Location}
use Rattle.lineentry.specs.declared.Span.{Span}
use Rattle.lineentry.specs.declared.Entry.{Entry}
use Rattle.lineentry.specs.declared.Entry.TheVariants.{Covers, Stop, OutOfRange}
use Rattle.lineentry.specs.Entry.{entry_at, at_line}
use Rattle.lineentry.proofs.Entries.{entry-places}
use Rattle.linetable.specs.Walk.{Reading, done, refused, joined, after, walk}
use Rattle.linetable.specs.Answer.{located}
use Rattle.sources.specs.Source.{source_of}
use Rattle.sources.specs.Marks.{Marks, marked, denied, behind, from_entry, marks, sources, has, share, counts_of}
use Rattle.sources.specs.Beside.{Each, Shows, Pairs, Agrees, BesideLocated}
use Rattle.sources.proofs.Counting.{counts-append, counts-replicate}
use Rattle.sources.proofs.Going.{marks-ended}
use Rattle.sources.proofs.Bits.{entry-shows, source-placed, source_missing}

-- ---- lists
pub each-replicate : (P : ℕ → Type 0) (n b : ℕ) → P b → Each P (replicate n b)
each-replicate P zero b x = tt
each-replicate P (suc n) b x = (x, each-replicate P n b x)

pub each_append : (P : ℕ → Type 0) (xs ys : List ℕ) → Each P xs → Each P ys → Each P (xs ++ ys)
each_append P [] ys p q = q
each_append P (x ∷ xs) ys p q = (p.0, each_append P xs ys p.1 q)

-- from an entry; of no entry that is cut
abbrev Placed : ℕ → Type 0
Placed b = has 1 b ≡ true

abbrev Uncut : ℕ → Type 0
Uncut b = has 32 b ≡ false

pairs-replicate : (n : ℕ) (l : Location) (b : ℕ) → Shows l b → Pairs (replicate n l) (replicate n b)
pairs-replicate zero l b x = tt
pairs-replicate (suc n) l b x = (x, pairs-replicate n l b x)

pairs-append : (ls ms : List Location) (xs ys : List ℕ) → Pairs ls xs → Pairs ms ys → Pairs (ls ++ ms) (xs ++ ys)
pairs-append [] ms [] ys p q = q
pairs-append (l ∷ ls) ms (x ∷ xs) ys p q = (p.0, pairs-append ls ms xs ys p.1 q)
pairs-append [] ms (x ∷ xs) ys p q = absurd p
pairs-append (l ∷ ls) ms [] ys p q = absurd p

differ : {A : Type 0} → false ≡ true → A
differ e =
    let z : ◌≡◌ {A = ℕ} 0 1 = ap (λ t. cond t 1 0) e in
    absurd (omega arith)

-- a byte of an entry counts n times, one of what is left over not at all
placed_counts_lem : (n b : ℕ) → has 1 b ≡ true → (counts_of (replicate n b)).from_entries ≡ n
placed_counts_lem n b x = ap (λ c. c.from_entries) (counts-replicate n b) ∙ ap (share n) x

zeros-count : (n : ℕ) → (counts_of (zeros n)).from_entries ≡ 0
zeros-count n = ap (λ c. c.from_entries) (counts-replicate n 0)

-- ---- one turn
agrees-cond : (left : ℕ) (t : Bool) (a b : Reading) (x y : Marks) → (t ≡ true → Agrees left a x) → (t ≡ false → Agrees left b y) → Agrees left (cond t a b) (cond t x y)
agrees-cond left true a b x y p q = p refl
agrees-cond left false a b x y p q = q refl

agrees_none : (left : ℕ) (whole : Bool) → left ≡ 0 → Agrees left (done [] 0 whole) (marked [])
agrees_none left whole e =
    let z : left - 0 ≡ 0 = omega arith in
    record { given = []; many = refl; placed = tt; all = sym (ap zeros z); counted = refl; shows = tt; unbroken = λ _. tt }

agrees-left_over : (left : ℕ) (first : Location) → Agrees left (done (replicate left first) 0 false) (marked (replicate left 0))
agrees-left_over left first =
    let z : left - 0 ≡ left = omega arith in
    record {
      given = [];
      many = refl;
      placed = tt;
      all = sym (ap zeros z);
      counted = zeros-count left;
      shows = pairs-replicate left first 0 (λ x y w. differ x);
      unbroken = λ x. differ x;
    }

and_parts : (a b : Bool) → (not a && b) ≡ true → (a ≡ false) × (b ≡ true)
and_parts true b h = differ h
and_parts false b h = (refl, h)

agrees_joined : (left n : ℕ) (l : Location) (byte : ℕ) (missing : Bool) (r : Reading) (m : Marks) → n ≤ left → Shows l byte → has 1 byte ≡ true → has 32 byte ≡ missing
    → Agrees (left - n) r m → Agrees left (joined (replicate n l) n missing r) (behind (replicate n byte) m)
agrees_joined left n l byte missing (refused number place) (denied why place') h x o w g = g
agrees_joined left n l byte missing (done ls k whole) (denied why place) h x o w g = g
agrees_joined left n l byte missing (refused number place) (marked bytes) h x o w g = g
agrees_joined left n l byte missing (done ls k whole) (marked bytes) h x o w g =
    let these = replicate n byte in
    let rest : left - n - k ≡ left - (n + k) = omega arith in
    record {
      given = these ++ g.given;
      many = length-append these g.given ∙ omega (arith, length-replicate n byte, g.many);
      placed = each_append Placed these g.given (each-replicate Placed n byte o) g.placed;
      all = ap (λ t. these ++ t) g.all ∙ sym (append_assoc these g.given (zeros (left - n - k))) ∙ ap (λ j. (these ++ g.given) ++ zeros j) rest;
      counted = ap (λ c. c.from_entries) (counts-append these bytes) ∙ omega (arith, placed_counts_lem n byte o, g.counted);
      shows = pairs-append (replicate n l) ls these bytes (pairs-replicate n l byte x) g.shows;
      unbroken =
          λ t.
          let both = and_parts missing whole t in
          each_append Uncut these bytes (each-replicate Uncut n byte (w ∙ both.0)) (g.unbroken both.1);
    }

agrees-beyond : (left : ℕ) (l : Location) (byte : ℕ) → Shows l byte → has 1 byte ≡ true → Agrees left (done (replicate left l) left false) (marked (replicate left byte ++ []))
agrees-beyond left l byte x o =
    let z : left - left ≡ 0 = omega arith in
    record {
      given = replicate left byte;
      many = length-replicate left byte;
      placed = each-replicate Placed left byte o;
      all = ap (λ j. replicate left byte ++ zeros j) (sym z);
      counted = ap (λ t. (counts_of t).from_entries) (append-nil (replicate left byte)) ∙ placed_counts_lem left byte o;
      shows = subst (Pairs (replicate left l)) (sym (append-nil (replicate left byte))) (pairs-replicate left l byte x);
      unbroken = λ t. differ t;
    }

agrees_after : (turns : ℕ) (s : List ℕ) (first : Location) (line p left : ℕ) (e : Entry) → entry_at s line p ≡ e
    → ((x : Span) → e ≡ Covers x → x.instructions ≤ left → Agrees (left - x.instructions) (walk turns s first x.line x.next (left - x.instructions)) (marks turns s x.line x.next (left - x.instructions)))
    → Agrees left (after (walk turns s first) first p left e) (from_entry (marks turns s) s p left e)
agrees_after turns s first line p left Stop q h = agrees-left_over left first
agrees_after turns s first line p left OutOfRange q h = (refl, refl)
agrees_after turns s first line p left (Covers x) q h = go (leb x.instructions left) refl where
  byte : ℕ
  byte = source_of s p x.line x.missing

  go : (t : Bool) → leb x.instructions left ≡ t → Agrees left (after (walk turns s first) first p left (Covers x)) (from_entry (marks turns s) s p left (Covers x))
  go true t =
      let b = leb-true x.instructions left t in
      let m : min x.instructions left ≡ x.instructions = omega arith in
      rw (t, m)
      (agrees_joined left x.instructions x.location byte x.missing (walk turns s first x.line x.next (left - x.instructions)) (marks turns s x.line x.next (left - x.instructions)) b
      (entry-shows s line p x q) (source-placed s p x.line x.missing) (source_missing s p x.line x.missing) (h x refl b))
  go false t =
      let b = leb-false x.instructions left t in
      let m : min x.instructions left ≡ left = omega arith in
      let z : left - x.instructions ≡ 0 = omega arith in
      rw (t, m, marks-ended turns s x.line x.next (left - x.instructions) z)
      (agrees-beyond left x.location byte (entry-shows s line p x q) (source-placed s p x.line x.missing))

agrees-walk : (turns : ℕ) (s : List ℕ) (first : Location) (line p left : ℕ) → left ≤ turns → Agrees left (walk turns s first line p left) (marks turns s line p left)
agrees-walk zero s first line p left h = agrees_none left (eqb p (length s)) (omega arith)
agrees-walk (suc turns) s first line p left h =
    agrees-cond left (eqb left 0) _ _ _ _ (λ t. agrees_none left (eqb p (length s)) (eqb-true left 0 t))
    (λ _. agrees_after turns s first line p left (entry_at s line p) refl
    (λ x q b.
    let z : 0 < x.instructions = entry-places s line p x q in
    agrees-walk turns s first x.line x.next (left - x.instructions) (omega arith)))

agrees-located : (s : List ℕ) (first count capacity : ℕ) → Agrees count (located s first count capacity) (sources s first count capacity)
unfolding located sources
agrees-located s first count capacity =
    agrees-cond count (ltb most_bytes (length s)) _ _ _ _ (λ _. (refl, refl))
    (λ _. agrees-cond count (ltb capacity count) _ _ _ _ (λ _. (refl, refl)) (λ _. agrees-walk count s (at_line first) first 0 count (omega arith)))

pub beside_located : BesideLocated
beside_located = record { agrees = agrees-located }
