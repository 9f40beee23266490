-- What the summary of a row tells of the repair: its bytes, its length, its list, and bounds for every sum; then a law for each way out.
-- Assumes nothing.
use mathlib.Core.Path.{◌≡◌, refl, sym, ap, subst, ◌∙◌}
use mathlib.Core.List.{List, ◌++◌}
use Prim.Native.Nat.{ℕ, zero, suc, ◌+◌, ◌-◌, ◌/◌, ◌≤◌, ◌<◌, min}
use native.Mathlib.Omega.{arith}
use Rattle.std.specs.Prelude.{Result, Ok}
use lib.ListN.{length, take, drop, length-append, length-replicate}
use lib.Seq.{sets, sets-eq, length-take-le}
use borrow.Author.Tests.{lt-ltb, le-ltb}
use Rattle.refusals.specs.Faults.{refused}
use Rattle.refusals.specs.declared.Fault.{Fault}
use Rattle.refusals.specs.declared.Refusal.TheVariants.{InputTooLong, NoRoom}
use Rattle.refusals.specs.Limits.{most_bytes}
use Rattle.clearing.specs.Lent.{zeros, padded}
use Rattle.lineentry.specs.declared.Span.{Span}
use Rattle.rows.specs.Row.{Ending, placed_all, table_end, stop_byte, cut_short, out_of_range, past_count, row, Rowed, line_after, place_after, total}
use Rattle.salvage.specs.Salvage.{fill, mend_row, salvaged, salvage, Account, account}
use Rattle.rows.proofs.Extent.{entry_runs}
use Rattle.rows.proofs.Chains.{rowed, chain-upto, chain-many}
use Rattle.salvage.proofs.Salvages.{entry-most}
use Rattle.salvage.proofs.Sizes.{staying, salvaged-length, length-fill}
use Rattle.rows.specs.declared.RowEnd.{RowEnd}
use Rattle.salvage.specs.declared.Salvaged.{Salvaged}
use Rattle.rows.specs.declared.How.{How}
use Rattle.rows.specs.declared.How.TheVariants as way
use Rattle.rows.proofs.Going.{number}
use Rattle.rows.specs.Summary.{how_of, row_end, summary_of, summary}
use Rattle.salvage.specs.Repair.{shortened, listed, repair}

pub record Past (s : List ℕ) (first count : ℕ) (e : RowEnd) : Type 0 where
  pub starts : e.place < e.next
  pub inside : e.next ≤ length s
  pub some : 0 < e.left
  pub few : e.left < 8
  pub counted : e.entries + 1 ≤ count
  pub bytes : salvaged s first count ≡ take e.place s ++ shortened s e.place e.next e.left
  pub size : length (salvaged s first count) ≡ e.next
  pub list : salvage s first count ≡ record { kept = e.entries + 1; dropped = length s - e.next; shortened = 1; covered = 0 }

pub record Filled (s : List ℕ) (first count : ℕ) (e : RowEnd) : Type 0 where
  pub inside : e.place ≤ length s
  pub within : e.left ≤ count
  pub counted : e.entries ≤ count
  pub bytes : salvaged s first count ≡ take e.place s ++ fill e.left
  pub size : length (salvaged s first count) ≡ e.place + (e.left + 7) / 8
  pub list : salvage s first count ≡ record { kept = e.entries; dropped = length s - e.place; shortened = 0; covered = e.left }

account_eq : {a b : ℕ} (d s c : ℕ) → a ≡ b → ◌≡◌ {A = Account} (record { kept = a; dropped = d; shortened = s; covered = c }) (record { kept = b; dropped = d; shortened = s; covered = c })
account_eq d s c e = cc

-- Either of the two, by how the row ends.
drop-zeros : (k n : ℕ) → drop k (zeros n) ≡ zeros (n - k)
drop-zeros zero n = let z : n - 0 ≡ n = omega arith in rw z
drop-zeros (suc k) zero = let z : 0 - suc k ≡ 0 = omega arith in rw z
drop-zeros (suc k) (suc n) = let z : suc n - suc k ≡ n - k = omega arith in rw z (drop-zeros k n)

abbrev Tells : List ℕ → ℕ → ℕ → Ending → RowEnd → Type 0
Tells s first count (past_count e) r = Past s first count r
Tells s first count placed_all r = Filled s first count r
Tells s first count table_end r = Filled s first count r
Tells s first count stop_byte r = Filled s first count r
Tells s first count (cut_short e) r = Filled s first count r
Tells s first count out_of_range r = Filled s first count r

filled : (s : List ℕ) (first count : ℕ) (how : How) (next : ℕ) (es : List Span) → Rowed s first 0 count (record { entries = es; ending = (row s first 0 count).ending })
    → salvaged s first count ≡ take (place_after 0 es) s ++ fill (count - total es)
    → salvage s first count ≡ record { kept = length es; dropped = length s - place_after 0 es; shortened = 0; covered = count - total es }
    → Filled s first count (row_end how (0 + length es) (line_after first es) (place_after 0 es) next (count - total es))
filled s first count how next es d b a =
    let k = chain-upto s first 0 es (omega arith) d.chain in
    let m = chain-many s first 0 es d.chain in
    record {
      inside = k;
      within = omega arith;
      counted = omega (arith, d.within);
      bytes = b;
      size = ap length b ∙ length-append (take (place_after 0 es) s) (fill (count - total es)) ∙ rw (length-take-le (place_after 0 es) s k, length-fill (count - total es));
      list = a ∙ account_eq (length s - place_after 0 es) 0 (count - total es) (omega arith);
    }

tells_row : (s : List ℕ) (first count : ℕ) (es : List Span) (x : Ending) → row s first 0 count ≡ record { entries = es; ending = x } → Rowed s first 0 count (record { entries = es; ending = x })
    → Tells s first count x (summary_of 0 first 0 count (record { entries = es; ending = x }))
unfolding salvaged salvage
tells_row s first count es placed_all e d = filled s first count _ _ es (subst (λ y. Rowed s first 0 count (record { entries = es; ending = y })) (sym (ap (λ r. r.ending) e)) d) (ap (mend_row s count) e) (ap (account s count) e)
tells_row s first count es table_end e d = filled s first count _ _ es (subst (λ y. Rowed s first 0 count (record { entries = es; ending = y })) (sym (ap (λ r. r.ending) e)) d) (ap (mend_row s count) e) (ap (account s count) e)
tells_row s first count es stop_byte e d = filled s first count _ _ es (subst (λ y. Rowed s first 0 count (record { entries = es; ending = y })) (sym (ap (λ r. r.ending) e)) d) (ap (mend_row s count) e) (ap (account s count) e)
tells_row s first count es (cut_short x) e d = filled s first count _ _ es (subst (λ y. Rowed s first 0 count (record { entries = es; ending = y })) (sym (ap (λ r. r.ending) e)) d) (ap (mend_row s count) e) (ap (account s count) e)
tells_row s first count es out_of_range e d = filled s first count _ _ es (subst (λ y. Rowed s first 0 count (record { entries = es; ending = y })) (sym (ap (λ r. r.ending) e)) d) (ap (mend_row s count) e) (ap (account s count) e)
tells_row s first count es (past_count x) e d =
    let p = place_after 0 es in
    let z = d.ends in
    let g = entry_runs s (line_after first es) p x z.1 in
    let m = chain-many s first 0 es d.chain in
    let n = entry-most s (line_after first es) p x z.1 in
    let f : length (salvaged s first count) ≡ x.next + (0 + 7) / 8 = salvaged-length s first count ∙ ap (λ r. staying r + ((account s count r).covered + 7) / 8) e in
    record {
      starts = omega (arith, g.from);
      inside = g.upto;
      some = z.0;
      few = omega (arith, z.3);
      counted = omega (arith, d.within, z.0);
      bytes = ap (mend_row s count) e;
      size = f ∙ omega arith;
      list = ap (account s count) e ∙ account_eq (length s - x.next) 1 0 (omega arith);
    }

tells : (s : List ℕ) (first count : ℕ) → Tells s first count (row s first 0 count).ending (summary_of 0 first 0 count (row s first 0 count))
tells s first count = tells_row s first count (row s first 0 count).entries (row s first 0 count).ending refl (rowed s first 0 count)

is_past : (s : List ℕ) (first count : ℕ) (x : Ending) (r : RowEnd) → how_of x ≡ way.PastCount → Tells s first count x r → Past s first count r
is_past s first count (past_count e) r h t = t
is_past s first count placed_all r h t = absurd (omega (arith, ap number h))
is_past s first count table_end r h t = absurd (omega (arith, ap number h))
is_past s first count stop_byte r h t = absurd (omega (arith, ap number h))
is_past s first count (cut_short e) r h t = absurd (omega (arith, ap number h))
is_past s first count out_of_range r h t = absurd (omega (arith, ap number h))

is_filled : (s : List ℕ) (first count : ℕ) (x : Ending) (r : RowEnd) → (how_of x ≡ way.PastCount → ⊥) → Tells s first count x r → Filled s first count r
is_filled s first count (past_count e) r h t = absurd (h refl)
is_filled s first count placed_all r h t = t
is_filled s first count table_end r h t = t
is_filled s first count stop_byte r h t = t
is_filled s first count (cut_short e) r h t = t
is_filled s first count out_of_range r h t = t

pub told-past : (s : List ℕ) (first count : ℕ) {e : RowEnd} → e ≡ summary s first count → e.how ≡ way.PastCount → Past s first count e
unfolding summary
told-past s first count {e} q h =
    subst (Past s first count) (sym q) (is_past s first count (row s first 0 count).ending _ (sym (ap (λ r. r.how) q) ∙ h) (tells s first count))

pub told_filled : (s : List ℕ) (first count : ℕ) {e : RowEnd} → e ≡ summary s first count → (e.how ≡ way.PastCount → ⊥) → Filled s first count e
unfolding summary
told_filled s first count {e} q h =
    subst (Filled s first count) (sym q) (is_filled s first count (row s first 0 count).ending _ (λ z. h (ap (λ r. r.how) q ∙ z)) (tells s first count))

-- ---- the ways out
abbrev pub Repairs : List ℕ → ℕ → ℕ → ℕ → Result Salvaged Fault → List ℕ → Type 0
Repairs s first count n r zs = (r ≡ (repair s first count n).0) × (zs ≡ (repair s first count n).1)

pub repairs_long : (s : List ℕ) (first count n : ℕ) {r : Result Salvaged Fault} {zs : List ℕ} → most_bytes < length s → r ≡ refused InputTooLong 0 → zs ≡ zeros n → Repairs s first count n r zs
unfolding repair
repairs_long s first count n h e q = rw (lt-ltb most_bytes (length s) h) (e, q)

pub repairs_large : (s : List ℕ) (first count n k : ℕ) {r : Result Salvaged Fault} {zs : List ℕ} → length s ≤ most_bytes → length (salvaged s first count) ≡ k → most_bytes < k → r ≡ refused InputTooLong 0 → zs ≡ zeros n
    → Repairs s first count n r zs
unfolding repair
repairs_large s first count n k h l m e q = rw (le-ltb most_bytes (length s) h, l, lt-ltb most_bytes k m) (e, q)

pub repairs_short : (s : List ℕ) (first count n k : ℕ) {r : Result Salvaged Fault} {zs : List ℕ} → length s ≤ most_bytes → length (salvaged s first count) ≡ k → k ≤ most_bytes → n < k → r ≡ refused NoRoom (min n 4294967295) → zs ≡ zeros n
    → Repairs s first count n r zs
unfolding repair
repairs_short s first count n k h l m o e q = rw (le-ltb most_bytes (length s) h, l, le-ltb most_bytes k m, lt-ltb n k o) (e, q)

pub over_zeros : (n : ℕ) (vs : List ℕ) → length vs ≤ n → sets (zeros n) 0 vs ≡ padded n vs
unfolding padded
over_zeros n vs h =
    let l = length-replicate {A = ℕ} n 0 in
    let z : 0 + length vs ≡ length vs = omega arith in
    sets-eq vs (zeros n) 0 (omega arith) ∙ rw z (ap (λ t. vs ++ t) (drop-zeros (length vs) n))

pub repairs_done : (s : List ℕ) (first count n k : ℕ) {r : Result Salvaged Fault} {ys zs vs : List ℕ} → length s ≤ most_bytes → length (salvaged s first count) ≡ k → k ≤ most_bytes → k ≤ n
    → salvaged s first count ≡ vs → ys ≡ zeros n → zs ≡ sets ys 0 vs → r ≡ Ok (listed k (salvage s first count)) → Repairs s first count n r zs
unfolding repair
repairs_done s first count n k {vs = vs} h l m o b y z e =
    rw (le-ltb most_bytes (length s) h, l, le-ltb most_bytes k m, le-ltb n k o)
    (e, z ∙ ap (λ t. sets t 0 vs) y ∙ over_zeros n vs (omega (arith, ap length b)) ∙ ap (padded n) (sym b))

-- the same first line by another name
pub repairs_from : (s : List ℕ) (n count : ℕ) {first first' : ℕ} {r : Result Salvaged Fault} {zs : List ℕ} → first ≡ first' → Repairs s first count n r zs → Repairs s first' count n r zs
repairs_from s n count {r = r} {zs = zs} e x = subst (λ f. Repairs s f count n r zs) e x
