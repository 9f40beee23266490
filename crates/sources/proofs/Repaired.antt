-- THEOREM: after 02's K9 the instructions covered have byte 1. The bytes of a whole table are those of its entries, one behind another; every
-- byte that the repair adds starts an entry of code 15. Assumes nothing.
use mathlib.Core.Path.{◌≡◌, refl, sym, ap, subst, ◌∙◌}
use mathlib.Core.Bool.{Bool, true, false, cond}
use mathlib.Core.List.{List, [], ◌∷◌, ◌++◌, append_assoc, append-nil}
use Prim.Native.Nat.{ℕ, zero, suc, ◌+◌, ◌-◌, ◌/◌, ◌%◌, ◌≤◌, ◌<◌, min}
use native.Mathlib.Omega.{arith}
use lib.ListN.{length, replicate, get_or, drop, length-append, length-replicate, length-drop, replicate-append-replicate}
use lib.Seq.{get_or-drop}
use lib.Dec.{eqb}
use borrow.Author.Tests.{lt-ltb, eqb-false}
use Rattle.refusals.specs.Limits.{most_bytes}
use Rattle.lineentry.specs.declared.Span.{Span}
use Rattle.lineentry.proofs.Entries.{entry-places, covers-inside}
use Rattle.rows.specs.Row.{Chain, line_after, place_after, total}
use Rattle.rows.proofs.Chains.{total-append}
use Rattle.rows.proofs.Extent.{entry_runs}
use Rattle.salvage.specs.Salvage.{fill, salvaged, Account, salvage}
use Rattle.salvage.specs.Promised.{for_fewer, Says, covers, shortens}
use Rattle.salvage.proofs.Listed.{salvage-says}
use Rattle.sources.specs.Source.{code_at, source_of}
use Rattle.sources.specs.Marks.{marked, behind, from_entry, marks, has}
use Rattle.sources.specs.Beside.{Each}
use Rattle.sources.specs.Repaired.{RepairedBytes, Repaired}
use Rattle.sources.proofs.Going.{marks-ended, marks-entry, sources_walks}
use Rattle.sources.proofs.Bits.{source_missing}
use Rattle.sources.proofs.Beside.{each-replicate, each_append}

-- ---- the bytes of complete entries
abbrev chain_bytes : List ℕ → ℕ → List Span → List ℕ
chain_bytes s p [] = []
chain_bytes s p (e ∷ es) = replicate e.instructions (source_of s p e.line e.missing) ++ chain_bytes s e.next es

-- a table of which every instruction has a complete entry
marks-chain : (turns : ℕ) (s : List ℕ) (line p left : ℕ) (es : List Span) → Chain s line p es → total es ≡ left → left ≤ turns
    → marks turns s line p left ≡ marked (chain_bytes s p es)
marks-chain turns s line p left [] c h k = marks-ended turns s line p left (sym h)
marks-chain turns s line p left (e ∷ es) c h k =
    let z = entry-places s line p e c.0 in
    let m : min e.instructions left ≡ e.instructions = omega arith in
    let byte = source_of s p e.line e.missing in
    marks-entry turns s line p left (omega arith) k ∙ ap (from_entry (marks (turns - 1) s) s p left) c.0
    ∙ ap (λ n. behind (replicate n byte) (marks (turns - 1) s e.line e.next (left - e.instructions))) m
    ∙ ap (behind (replicate e.instructions byte)) (marks-chain (turns - 1) s e.line e.next (left - e.instructions) es c.2 (omega arith) (omega arith))

bytes-append : (s : List ℕ) (p : ℕ) (es fs : List Span) → chain_bytes s p (es ++ fs) ≡ chain_bytes s p es ++ chain_bytes s (place_after p es) fs
bytes-append s p [] fs = refl
bytes-append s p (e ∷ es) fs =
    let these = replicate e.instructions (source_of s p e.line e.missing) in
    ap (λ bs. these ++ bs) (bytes-append s e.next es fs) ∙ sym (append_assoc these (chain_bytes s e.next es) (chain_bytes s (place_after e.next es) fs))

bytes-many : (s : List ℕ) (p : ℕ) (es : List Span) → length (chain_bytes s p es) ≡ total es
bytes-many s p [] = refl
bytes-many s p (e ∷ es) =
    let byte = source_of s p e.line e.missing in
    length-append (replicate e.instructions byte) (chain_bytes s e.next es) ∙ omega (arith, length-replicate e.instructions byte, bytes-many s e.next es)

bytes_uncut : (s : List ℕ) (line p : ℕ) (es : List Span) → Chain s line p es → Each (λ b. has 32 b ≡ false) (chain_bytes s p es)
bytes_uncut s line p [] c = tt
bytes_uncut s line p (e ∷ es) c =
    let byte = source_of s p e.line e.missing in
    each_append _ (replicate e.instructions byte) (chain_bytes s e.next es)
    (each-replicate _ e.instructions byte (source_missing s p e.line e.missing ∙ c.1)) (bytes_uncut s e.line e.next es c.2)

-- a chain without its first entries
chain-behind : (s : List ℕ) (line p : ℕ) (es fs : List Span) → Chain s line p (es ++ fs) → Chain s (line_after line es) (place_after p es) fs
chain-behind s line p [] fs c = c
chain-behind s line p (e ∷ es) fs c = chain-behind s e.line e.next es fs c.2

chain-front : (s : List ℕ) (line p : ℕ) (es fs : List Span) → Chain s line p (es ++ fs) → Chain s line p es
chain-front s line p [] fs c = tt
chain-front s line p (e ∷ es) fs c = (c.0, c.1, chain-front s e.line e.next es fs c.2)

-- ---- entries of code 15
placeless_byte : (s : List ℕ) (p line : ℕ) → code_at s p ≡ 15 → source_of s p line false ≡ 1
unfolding source_of
placeless_byte s p line h = rw h

-- where every byte from k on is the first of such an entry, every instruction's byte is 1
placeless_bytes : (s : List ℕ) (line p k : ℕ) (es : List Span) → Chain s line p es → k ≤ p → ((q : ℕ) → k ≤ q → q < length s → get_or s q 0 / 8 % 16 ≡ 15)
    → chain_bytes s p es ≡ replicate (total es) 1
placeless_bytes s line p k [] c h f = refl
placeless_bytes s line p k (e ∷ es) c h f =
    let i = covers-inside s line p e c.0 in
    let code : code_at s p ≡ 15 = rw (lt-ltb p (length s) i) (f p h i) in
    let r = (entry_runs s line p e c.0).from in
    ap (λ b. replicate e.instructions b ++ chain_bytes s e.next es) (ap (source_of s p e.line) c.1 ∙ placeless_byte s p e.line code)
    ∙ ap (λ bs. replicate e.instructions 1 ++ bs) (placeless_bytes s e.line e.next k es c.2 (omega (arith, r)) f)
    ∙ replicate-append-replicate e.instructions (total es) 1

-- every byte that the repair adds
each_at : (P : ℕ → Type 0) (xs : List ℕ) (i : ℕ) → Each P xs → i < length xs → P (get_or xs i 0)
each_at P [] i a h = absurd (omega arith)
each_at P (x ∷ xs) zero a h = a.0
each_at P (x ∷ xs) (suc i) a h = each_at P xs i a.1 (omega arith)

fill-codes : (n : ℕ) → Each (λ b. b / 8 % 16 ≡ 15) (fill n)
fill-codes n = each_append (λ b. b / 8 % 16 ≡ 15) (replicate (n / 8) 255) _ (each-replicate _ (n / 8) 255 refl) (rest (eqb (n % 8) 0) refl) where
  rest : (t : Bool) → eqb (n % 8) 0 ≡ t → Each (λ b. b / 8 % 16 ≡ 15) (cond t [] ((247 + n % 8) ∷ []))
  rest true e = tt
  rest false e = (omega (arith, eqb-false (n % 8) 0 e), tt)

filled_codes : (t : List ℕ) (k n : ℕ) → drop k t ≡ fill n → (q : ℕ) → k ≤ q → q < length t → get_or t q 0 / 8 % 16 ≡ 15
filled_codes t k n d q h i =
    let l = length-drop k t in
    let j : k + (q - k) ≡ q = omega arith in
    let e : get_or t q 0 ≡ get_or (fill n) (q - k) 0 = ap (λ x. get_or t x 0) (sym j) ∙ sym (get_or-drop k t (q - k) 0) ∙ ap (λ xs. get_or xs (q - k) 0) d in
    subst (λ b. b / 8 % 16 ≡ 15) (sym e) (each_at (λ b. b / 8 % 16 ≡ 15) (fill n) (q - k) (fill-codes n) (omega (arith, ap length d)))

-- ---- the theorem, by what the list says of the repaired table
record Ones (s : List ℕ) (first count : ℕ) (a : Account) : Type 0 where
  kept : List ℕ
  many : length kept ≡ count - a.covered
  unbroken : Each (λ b. has 32 b ≡ false) kept
  all : marks count (salvaged s first count) first 0 count ≡ marked (kept ++ replicate a.covered 1)

ones : (s : List ℕ) (first count : ℕ) (a : Account) → Says s first count a → Ones s first count a
ones s first count a (covers es added why other sum chain ends whole front behind shows) =
    let t = salvaged s first count in
    let p = place_after 0 es in
    record {
      kept = chain_bytes t 0 es;
      many = bytes-many t 0 es ∙ omega (arith, sum);
      unbroken = bytes_uncut t first 0 es (chain-front t first 0 es added whole);
      all =
          marks-chain count t first 0 count (es ++ added) whole (total-append es added ∙ sum) (omega arith)
          ∙ ap marked (bytes-append t 0 es added ∙ ap (λ bs. chain_bytes t 0 es ++ bs) (placeless_bytes t (line_after first es) p p added (chain-behind t first 0 es added whole) (omega arith) (filled_codes t p (total added) behind)));
    }
ones s first count a (shortens es e n some fewer sum chain whole shows) =
    let t = salvaged s first count in
    let fs = es ++ for_fewer n e ∷ [] in
    let all : total fs ≡ count = total-append es (for_fewer n e ∷ []) ∙ omega (arith, sum) in
    record {
      kept = chain_bytes t 0 fs;
      many = bytes-many t 0 fs ∙ omega (arith, all);
      unbroken = bytes_uncut t first 0 fs whole;
      all = marks-chain count t first 0 count fs whole all (omega arith) ∙ ap marked (sym (append-nil (chain_bytes t 0 fs)));
    }

repaired_bytes : (s : List ℕ) (first count capacity : ℕ) → length (salvaged s first count) ≤ most_bytes → count ≤ capacity → RepairedBytes s first count capacity
repaired_bytes s first count capacity h k =
    let o = ones s first count (salvage s first count) (salvage-says s first count) in
    record { kept = o.kept; many = o.many; unbroken = o.unbroken; all = sources_walks (salvaged s first count) first count capacity h k ∙ o.all }

pub repaired_told : Repaired
repaired_told = record { covered = repaired_bytes }
