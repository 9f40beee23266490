-- Whole tables one behind another are a whole table, and what is whole by its entries is linetable's `Complete`.
use mathlib.Core.Path.{◌≡◌, refl, sym, ap, subst, ◌∙◌}
use mathlib.Core.List.{List, [], ◌∷◌, ◌++◌, map}
use Prim.Native.Nat.{ℕ, ◌+◌, ◌≤◌}
use native.Mathlib.Omega.{arith}
use lib.ListN.{length, length-append, get_or-append}
use Rattle.lineentry.specs.declared.Location.{Location}
use Rattle.lineentry.specs.declared.Span.{Span}
use Rattle.linetable.specs.Complete.{Complete, here, entry}
use Rattle.rows.proofs.Local.{Same}
use Rattle.rows.proofs.Chains.{chain_local, chain-shift, chain-append, place-shift, line_shifted, total-shift, locations-shift, place-append, line-append, total-append, locations-append, row_is}
use Rattle.rows.specs.Row.{shift_span, placed_all, row, Chain, total, locations, line_after, place_after}
use Rattle.rows.specs.Spells.{Spells}

pub same_append : (s t : List ℕ) (k : ℕ) → k ≤ length s → Same s (s ++ t) 0 k
same_append s t k h =
    record { inside = h; within = omega (arith, length-append s t); bytes = λ i a b. sym (get_or-append s t 0 i (omega arith)) }

-- THEOREM: a whole table behind another one.
pub spells_join : {a b : List ℕ} {f n g m h : ℕ} {ls ms : List Location} → Spells a f n g ls → Spells b g m h ms → Spells (a ++ b) f (n + m) h (ls ++ ms)
spells_join {a} {b} {f} {n} {g} {m} {h} {ls} {ms} A B =
    let k = length a in
    let es = A.entries in
    let fs = map (shift_span k) B.entries in
    let z : k + 0 ≡ k = omega arith in
    let p : place_after (k + 0) fs ≡ k + length b = place-shift k 0 B.entries ∙ ap (λ j. k + j) B.ends in
    let c : Chain (a ++ b) g (k + 0) fs = chain-shift a b g 0 B.entries B.chain in
    record {
      entries = es ++ fs;
      chain = chain-append (a ++ b) f 0 es fs (chain_local a (a ++ b) f 0 es A.chain (same_append a b (place_after 0 es) (omega (arith, A.ends)))) (rw (A.line, A.ends) (rw z at c));
      ends = place-append 0 es fs ∙ rw A.ends (rw z at p ∙ sym (length-append a b));
      sum = total-append es fs ∙ rw (A.sum, total-shift k B.entries, B.sum);
      line = line-append f es fs ∙ rw A.line (line_shifted k g B.entries ∙ B.line);
      shows = locations-append es fs ∙ rw (A.shows, locations-shift k B.entries, B.shows);
    }

-- its entries: the first table's, then the second's behind them
pub join-entries : {a b : List ℕ} {f n g m h : ℕ} {ls ms : List Location} (A : Spells a f n g ls) (B : Spells b g m h ms)
    → (spells_join A B).entries ≡ A.entries ++ map (shift_span (length a)) B.entries
unfolding spells_join
join-entries A B = refl

-- the empty table over no instructions
pub spells_none : (f : ℕ) → Spells [] f 0 f []
spells_none f = record { entries = []; chain = tt; ends = refl; sum = refl; line = refl; shows = refl }

-- ---- what is spelt is the row
pub spells_row : {s : List ℕ} {f n g : ℕ} {ls : List Location} (S : Spells s f n g ls) → row s f 0 n ≡ record { entries = S.entries; ending = placed_all }
spells_row {s} {f} {n} S = row_is s f 0 n _ (record { chain = S.chain; within = omega (arith, S.sum); ends = omega (arith, S.sum) })

-- ---- Complete
pub chain_complete : (s : List ℕ) (line p : ℕ) (es : List Span) → Chain s line p es → place_after p es ≡ length s → Complete s line p (total es)
chain_complete s line p [] c h = here h
chain_complete s line p (e ∷ es) c h = entry e c.0 c.1 (chain_complete s e.line e.next es c.2 h)

pub spells_complete : {s : List ℕ} {f n g : ℕ} {ls : List Location} → Spells s f n g ls → Complete s f 0 n
spells_complete {s} {f} S = subst (Complete s f 0) S.sum (chain_complete s f 0 S.entries S.chain S.ends)

record Chained (s : List ℕ) (line p n : ℕ) : Type 0 where
  es : List Span
  chain : Chain s line p es
  ends : place_after p es ≡ length s
  sum : total es ≡ n

complete_chain : {s : List ℕ} {line p n : ℕ} → Complete s line p n → Chained s line p n
complete_chain (here h) = record { es = []; chain = tt; ends = h; sum = refl }
complete_chain (entry e q m c) =
    let r = complete_chain c in
    record { es = e ∷ r.es; chain = (q, m, r.chain); ends = r.ends; sum = ap (λ k. e.instructions + k) r.sum }

pub complete_spells : {s : List ℕ} {f n : ℕ} → Complete s f 0 n → (g : ℕ) × (ls : List Location) × Spells s f n g ls
complete_spells {s} {f} c =
    let r = complete_chain c in
    (line_after f r.es, locations r.es, record { entries = r.es; chain = r.chain; ends = r.ends; sum = r.sum; line = refl; shows = refl })
