-- THEOREM: the answer says whole exactly when the table is a row of complete entries whose lengths sum to the instruction count;
-- so a table that is whole for n instructions is whole for no other count.
use mathlib.Core.Path.{◌≡◌, refl, sym, ap, subst}
use mathlib.Core.Bool.{Bool, true, false, not, cond}
use mathlib.Core.List.{List, [], ◌++◌}
use Prim.Native.Nat.{ℕ, zero, suc, ◌+◌, ◌-◌, ◌≤◌, ◌<◌}
use native.Mathlib.Omega.{arith}
use lib.ListN.{length, replicate}
use lib.Dec.{leb, ltb, eqb}
use borrow.Author.Tests.{le-leb, leb-true, eq-eqb, eqb-true}
use Rattle.refusals.specs.Limits.{most_bytes}
use Rattle.lineentry.specs.declared.Location.{Location}
use Rattle.lineentry.specs.declared.Span.{Span}
use Rattle.lineentry.specs.declared.Entry.{Entry}
use Rattle.lineentry.specs.declared.Entry.TheVariants.{Covers, Stop, OutOfRange}
use Rattle.lineentry.specs.Entry.{entry_at, at_line}
use Rattle.lineentry.proofs.Entries.{entry-places, covers-inside}
use Rattle.linetable.specs.declared.Located.{Located}
use Rattle.linetable.specs.Walk.{Reading, done, refused, joined, after, walk}
use Rattle.linetable.specs.Answer.{located, answer, tells}
use Rattle.linetable.specs.Complete.{Complete, here, entry}
use Rattle.linetable.proofs.Walking.{walk-ended, walk-entry, and-false}
use Rattle.linetable.proofs.Outcomes.{located_walks}

-- ---- whole, so complete
abbrev Wholly : List ℕ → ℕ → ℕ → ℕ → Reading → Type 0
Wholly s line p left (done ls k true) = (k ≡ left) × Complete s line p left
Wholly s line p left (done ls k false) = Unit {0}
Wholly s line p left (refused number place) = Unit {0}

wholly-cond : (s : List ℕ) (line p left : ℕ) (t : Bool) (a b : Reading) → (t ≡ true → Wholly s line p left a) → Wholly s line p left b → Wholly s line p left (cond t a b)
wholly-cond s line p left true a b x y = x refl
wholly-cond s line p left false a b x y = y

wholly_none : (s : List ℕ) (line p left : ℕ) (t : Bool) → eqb p (length s) ≡ t → left ≡ 0 → Wholly s line p left (done [] 0 t)
wholly_none s line p left true h e = (sym e, subst (λ n. Complete s line p n) (sym e) (here (eqb-true p (length s) h)))
wholly_none s line p left false h e = tt

wholly-joined : (s : List ℕ) (line p left : ℕ) (x : Span) (ls : List Location) (missing : Bool) → entry_at s line p ≡ Covers x → x.missing ≡ missing → x.instructions ≤ left
    → (r : Reading) → Wholly s x.line x.next (left - x.instructions) r → Wholly s line p left (joined ls x.instructions missing r)
wholly-joined s line p left x ls missing q m h (refused number place) w = tt
wholly-joined s line p left x ls missing q m h (done at k false) w = subst (λ b. Wholly s line p left (done (ls ++ at) (x.instructions + k) b)) (sym (and-false (not missing))) tt
wholly-joined s line p left x ls true q m h (done at k true) w = tt
wholly-joined s line p left x ls false q m h (done at k true) w =
    let e : x.instructions + (left - x.instructions) ≡ left = omega arith in
    (omega (arith, w.0), subst (λ n. Complete s line p n) e (entry x q m w.1))

wholly-after : (s : List ℕ) (first : Location) (line p left : ℕ) (on : ℕ → ℕ → ℕ → Reading) (e : Entry) → entry_at s line p ≡ e
    → ((x : Span) → e ≡ Covers x → Wholly s x.line x.next (left - x.instructions) (on x.line x.next (left - x.instructions)))
    → Wholly s line p left (after on first p left e)
wholly-after s first line p left on (Covers x) q h =
    wholly-cond s line p left (leb x.instructions left) _ _
    (λ t. wholly-joined s line p left x (replicate x.instructions x.location) x.missing q refl (leb-true x.instructions left t) (on x.line x.next (left - x.instructions)) (h x refl)) tt
wholly-after s first line p left on Stop q h = tt
wholly-after s first line p left on OutOfRange q h = tt

wholly-walk : (turns : ℕ) (s : List ℕ) (first : Location) (line p left : ℕ) → left ≤ turns → Wholly s line p left (walk turns s first line p left)
wholly-walk zero s first line p left h = wholly_none s line p left (eqb p (length s)) refl (omega arith)
wholly-walk (suc turns) s first line p left h =
    wholly-cond s line p left (eqb left 0) _ _ (λ t. wholly_none s line p left (eqb p (length s)) refl (eqb-true left 0 t))
    (wholly-after s first line p left (walk turns s first) (entry_at s line p) refl
    (λ x q.
    let z : 0 < x.instructions = entry-places s line p x q in
    wholly-walk turns s first x.line x.next (left - x.instructions) (omega arith)))

wholly-located : (s : List ℕ) (first count capacity : ℕ) → Wholly s first 0 count (located s first count capacity)
unfolding located
wholly-located s first count capacity =
    wholly-cond s first 0 count (ltb most_bytes (length s)) _ _ (λ _. tt)
    (wholly-cond s first 0 count (ltb capacity count) _ _ (λ _. tt) (wholly-walk count s (at_line first) first 0 count (omega arith)))

told_parts : {n k : ℕ} {v w : Bool} → tells n v ≡ tells k w → (n ≡ k) × (v ≡ w)
told_parts {n} {k} {v} {w} e =
    let r : ◌≡◌ {A = Located} (record { from_entries = n; whole = v }) (record { from_entries = k; whole = w }) = cc in
    (ap (λ x. x.from_entries) r, ap (λ x. x.whole) r)

answered : (s : List ℕ) (line p left k : ℕ) (r : Reading) → Wholly s line p left r → answer r ≡ tells k true → (k ≡ left) × Complete s line p left
answered s line p left k (done ls n true) w e =
    let z : n ≡ k = (told_parts e).0 in
    (omega (arith, w.0), w.1)
answered s line p left k (done ls n false) w e =
    let z : false ≡ true = (told_parts e).1 in
    let y : ◌≡◌ {A = ℕ} 0 1 = ap (λ b. cond b 1 0) z in
    absurd (omega arith)
answered s line p left k (refused number place) w e =
    let z : ◌≡◌ {A = ℕ} 0 1 = cc in
    absurd (omega arith)

-- An answer that says whole counts every instruction from entries, and the table is complete for them.
pub whole_complete : (s : List ℕ) (first count capacity k : ℕ) → answer (located s first count capacity) ≡ tells k true → (k ≡ count) × Complete s first 0 count
whole_complete s first count capacity k e = answered s first 0 count k (located s first count capacity) (wholly-located s first count capacity) e

-- ---- complete, so whole
abbrev Whole : ℕ → Reading → Type 0
Whole n (done ls k whole) = (k ≡ n) × (whole ≡ true)
Whole n (refused number place) = ⊥

whole-joined : (n i : ℕ) (ls : List Location) (missing : Bool) (r : Reading) → missing ≡ false → Whole n r → Whole (i + n) (joined ls i missing r)
whole-joined n i ls missing (done at k whole) m w = (ap (λ j. i + j) w.0, rw (m, w.1))
whole-joined n i ls missing (refused number place) m w = w

complete_walk : {s : List ℕ} {line p n : ℕ} → Complete s line p n → (first : Location) (turns : ℕ) → n ≤ turns → Whole n (walk turns s first line p n)
complete_walk {s} {line} {p} (here e) first turns h = rw (walk-ended turns s first line p 0 refl) (refl, eq-eqb p (length s) e)
complete_walk {s} {line} {p} (entry {n = n} x q m c) first turns h =
    let z : 0 < x.instructions = entry-places s line p x q in
    let t : leb x.instructions (x.instructions + n) ≡ true = le-leb x.instructions (x.instructions + n) (omega arith) in
    let l : x.instructions + n - x.instructions ≡ n = omega arith in
    rw (walk-entry turns s first line p (x.instructions + n) (omega arith) h, q, t, l)
    (whole-joined n x.instructions (replicate x.instructions x.location) x.missing (walk (turns - 1) s first x.line x.next n) m (complete_walk c first (turns - 1) (omega arith)))

says-whole : (n : ℕ) (r : Reading) → Whole n r → answer r ≡ tells n true
says-whole n (done ls k whole) w = cc (w.0, w.1)
says-whole n (refused number place) w = absurd w

-- Where the table and the records fit, a complete table is answered as whole.
pub complete_whole : (s : List ℕ) (first count capacity : ℕ) → length s ≤ most_bytes → count ≤ capacity → Complete s first 0 count → answer (located s first count capacity) ≡ tells count true
complete_whole s first count capacity h k c =
    rw (located_walks s first count capacity h k) (says-whole count (walk count s (at_line first) first 0 count) (complete_walk c (at_line first) count (omega arith)))

-- ---- one count only
complete_once : {s : List ℕ} {line p n m : ℕ} → Complete s line p n → Complete s line p m → n ≡ m
complete_once (here e) (here f) = refl
complete_once {s} {line} {p} (here e) (entry x q m c) = absurd (omega (arith, covers-inside s line p x q))
complete_once {s} {line} {p} (entry x q m c) (here e) = absurd (omega (arith, covers-inside s line p x q))
complete_once {s} {line} {p} (entry {n = n} x q m c) (entry {n = k} y r l d) =
    let e : x ≡ y = cc in
    let z : n ≡ k = complete_once (subst (λ v. Complete s v.line v.next n) e c) d in
    cc

-- A table that is whole for n instructions is whole for no other count.
pub whole-once : (s : List ℕ) (first n m c d j k : ℕ) → answer (located s first n c) ≡ tells j true → answer (located s first m d) ≡ tells k true → n ≡ m
whole-once s first n m c d j k e q = complete_once (whole_complete s first n c j e).1 (whole_complete s first m d k q).1
