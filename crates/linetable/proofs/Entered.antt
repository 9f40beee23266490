-- THEOREM: the locations of an answer are those that the table's entries give, as many as it counts from entries, and behind them the first
-- line's. An induction over the walk's turns, clause by clause.
use mathlib.Core.Path.{◌≡◌, refl, sym, ap, ◌∙◌, subst}
use mathlib.Core.Bool.{Bool, true, false, cond}
use mathlib.Core.List.{List, [], ◌++◌, append_assoc, append-nil}
use Prim.Native.Nat.{ℕ, zero, suc, ◌+◌, ◌-◌, ◌≤◌, ◌<◌}
use native.Mathlib.Omega.{arith}
use lib.ListN.{length, replicate, length-append, length-replicate}
use lib.Dec.{leb, ltb, eqb}
use borrow.Author.Tests.{leb-true, leb-false, eqb-true}
use Rattle.refusals.specs.Limits.{most_bytes}
use Rattle.lineentry.specs.declared.Location.{Location}
use Rattle.lineentry.specs.declared.Span.{Span}
use Rattle.lineentry.specs.declared.Entry.{Entry}
use Rattle.lineentry.specs.declared.Entry.TheVariants.{Covers, Stop, OutOfRange}
use Rattle.lineentry.specs.Entry.{entry_at, at_line}
use Rattle.lineentry.proofs.Entries.{entry-places}
use Rattle.linetable.specs.Walk.{Reading, done, refused, joined, after, walk}
use Rattle.linetable.specs.Answer.{located}
use Rattle.linetable.specs.FromEntries.{FromEntries, placed, stop, entry, beyond}

-- k locations from entries, and behind them the first line's
pub record Entered (s : List ℕ) (first : Location) (line p left : ℕ) (ls : List Location) (k : ℕ) : Type 0 where
  pub given : List Location
  pub from : FromEntries s line p left given
  pub many : length given ≡ k
  pub all : ls ≡ given ++ replicate (left - k) first

abbrev Gives : List ℕ → Location → ℕ → ℕ → ℕ → Reading → Type 0
Gives s first line p left (done ls k whole) = Entered s first line p left ls k
Gives s first line p left (refused number place) = Unit {0}

gives-cond : (s : List ℕ) (first : Location) (line p left : ℕ) (t : Bool) (a b : Reading)
    → (t ≡ true → Gives s first line p left a) → (t ≡ false → Gives s first line p left b) → Gives s first line p left (cond t a b)
gives-cond s first line p left true a b x y = x refl
gives-cond s first line p left false a b x y = y refl

gives_none : (s : List ℕ) (first : Location) (line p left : ℕ) (whole : Bool) → left ≡ 0 → Gives s first line p left (done [] 0 whole)
gives_none s first line p left whole e =
    rw e (record { given = []; from = placed; many = refl; all = refl })

gives-joined : (s : List ℕ) (first : Location) (line p left : ℕ) (x : Span) → entry_at s line p ≡ Covers x → x.instructions ≤ left → (r : Reading)
    → Gives s first x.line x.next (left - x.instructions) r
    → Gives s first line p left (joined (replicate x.instructions x.location) x.instructions x.missing r)
gives-joined s first line p left x q h (refused number place) g = tt
gives-joined s first line p left x q h (done ls k whole) g =
    let n = x.instructions in
    let these = replicate n x.location in
    let back : n + (left - n) ≡ left = omega arith in
    let m : left - n - k ≡ left - (n + k) = omega arith in
    record {
      given = these ++ g.given;
      from = subst (λ j. FromEntries s line p j (these ++ g.given)) back (entry x q g.from);
      many = length-append these g.given ∙ omega (arith, length-replicate n x.location, g.many);
      all = ap (λ l. these ++ l) g.all ∙ sym (append_assoc these g.given (replicate (left - n - k) first)) ∙ ap (λ j. (these ++ g.given) ++ replicate j first) m;
    }

gives_after : (s : List ℕ) (first : Location) (line p left : ℕ) (on : ℕ → ℕ → ℕ → Reading) (e : Entry) → entry_at s line p ≡ e
    → ((x : Span) → e ≡ Covers x → x.instructions ≤ left → Gives s first x.line x.next (left - x.instructions) (on x.line x.next (left - x.instructions)))
    → Gives s first line p left (after on first p left e)
gives_after s first line p left on (Covers x) q h =
    let none_behind : left - left ≡ 0 = omega arith in
    gives-cond s first line p left (leb x.instructions left) _ _
    (λ t. gives-joined s first line p left x q (leb-true _ left t) (on x.line x.next (left - x.instructions)) (h x refl (leb-true _ left t)))
    (λ t. record {
      given = replicate left x.location;
      from = beyond x q (leb-false _ left t);
      many = length-replicate left x.location;
      all = rw none_behind (sym (append-nil (replicate left x.location)));
    })
gives_after s first line p left on Stop q h =
    let z : left - 0 ≡ left = omega arith in
    record { given = []; from = stop q; many = refl; all = rw z }
gives_after s first line p left on OutOfRange q h = tt

gives-walk : (turns : ℕ) (s : List ℕ) (first : Location) (line p left : ℕ) → left ≤ turns → Gives s first line p left (walk turns s first line p left)
gives-walk zero s first line p left h = gives_none s first line p left (eqb p (length s)) (omega arith)
gives-walk (suc turns) s first line p left h =
    gives-cond s first line p left (eqb left 0) _ _ (λ t. gives_none s first line p left (eqb p (length s)) (eqb-true left 0 t))
    (λ t. gives_after s first line p left (walk turns s first) (entry_at s line p) refl
    (λ x q b.
    let z : 0 < x.instructions = entry-places s line p x q in
    gives-walk turns s first x.line x.next (left - x.instructions) (omega arith)))

gives-located : (s : List ℕ) (first count capacity : ℕ) → Gives s (at_line first) first 0 count (located s first count capacity)
unfolding located
gives-located s first count capacity =
    gives-cond s (at_line first) first 0 count (ltb most_bytes (length s)) _ _ (λ t. tt)
    (λ t. gives-cond s (at_line first) first 0 count (ltb capacity count) _ _ (λ u. tt) (λ u. gives-walk count s (at_line first) first 0 count (omega arith)))

pub from_entries : (s : List ℕ) (first count capacity : ℕ) {ls : List Location} {k : ℕ} {whole : Bool} → located s first count capacity ≡ done ls k whole
    → Entered s (at_line first) first 0 count ls k
from_entries s first count capacity e = subst (Gives s (at_line first) first 0 count) e (gives-located s first count capacity)
