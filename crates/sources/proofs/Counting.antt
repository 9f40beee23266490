-- Laws on the counts of bytes: of some behind others, of one byte n times; and on the store of bytes, filled from the front.
-- Assumes nothing.
use mathlib.Core.Path.{◌≡◌, refl, sym, ap, ◌∙◌}
use mathlib.Core.Bool.{Bool, true, false, not}
use mathlib.Core.List.{List, [], ◌∷◌, ◌++◌, append_assoc}
use Prim.Native.Nat.{ℕ, zero, suc, ◌+◌, ◌-◌, ◌≤◌, ◌<◌}
use native.Mathlib.Nat.{zero-add}
use native.Mathlib.Omega.{arith}
use lib.ListN.{length, replicate, set, length-append, length-replicate}
use lib.Seq.{sets}
use Rattle.clearing.specs.Lent.{zeros, padded}
use Rattle.sources.specs.declared.Counts.{Counts}
use Rattle.sources.specs.declared.Lacks.{Lacks}
use Rattle.sources.specs.Marks.{is_placed, is_lined, is_spanned, is_sure, counts, share, times, plus, counts_of}
use Rattle.sources.specs.Turns.{lacks, lacking, Few, having}

-- ---- counts
pub counts_eq : {a b c d a' b' c' d' : ℕ} → a ≡ a' → b ≡ b' → c ≡ c' → d ≡ d' → counts a b c d ≡ counts a' b' c' d'
counts_eq p q r t = cc

lacks_eq : {a b c a' b' c' : ℕ} → a ≡ a' → b ≡ b' → c ≡ c' → lacks a b c ≡ lacks a' b' c'
lacks_eq p q r = cc

pub plus_none : (c : Counts) → plus c (counts 0 0 0 0) ≡ c
plus_none c = counts_eq (omega arith) (omega arith) (omega arith) (omega arith)

none_plus : (c : Counts) → plus (counts 0 0 0 0) c ≡ c
none_plus c = counts_eq (omega arith) (omega arith) (omega arith) (omega arith)

plus_assoc : (a b c : Counts) → plus a (plus b c) ≡ plus (plus a b) c
plus_assoc a b c = counts_eq (omega arith) (omega arith) (omega arith) (omega arith)

share_none : (t : Bool) → share 0 t ≡ 0
share_none true = refl
share_none false = refl

share_more : (n : ℕ) (t : Bool) → share 1 t + share n t ≡ share (suc n) t
share_more n true = omega arith
share_more n false = refl

pub share-most : (n : ℕ) (t : Bool) → share n t ≤ n
share-most n true = omega arith
share-most n false = omega arith

-- bytes behind others
pub counts-append : (xs ys : List ℕ) → counts_of (xs ++ ys) ≡ plus (counts_of xs) (counts_of ys)
counts-append [] ys = sym (none_plus (counts_of ys))
counts-append (x ∷ xs) ys = ap (plus (times 1 x)) (counts-append xs ys) ∙ plus_assoc (times 1 x) (counts_of xs) (counts_of ys)

-- one byte n times
pub times_none : (byte : ℕ) → times 0 byte ≡ counts 0 0 0 0
times_none byte = counts_eq (share_none (is_placed byte)) (share_none (is_lined byte)) (share_none (is_spanned byte)) (share_none (is_sure byte))

times_more : (n byte : ℕ) → plus (times 1 byte) (times n byte) ≡ times (suc n) byte
times_more n byte = counts_eq (share_more n (is_placed byte)) (share_more n (is_lined byte)) (share_more n (is_spanned byte)) (share_more n (is_sure byte))

pub counts-replicate : (n byte : ℕ) → counts_of (replicate n byte) ≡ times n byte
counts-replicate zero byte = sym (times_none byte)
counts-replicate (suc n) byte = ap (plus (times 1 byte)) (counts-replicate n byte) ∙ times_more n byte

-- ---- counts by what is lacking
lack_share : (i x m : ℕ) (t : Bool) → x ≤ i → i - x + share m t ≡ i + m - (x + share m (not t))
lack_share i x m true h = omega arith
lack_share i x m false h = omega arith

placed-share : (i m : ℕ) (t : Bool) → t ≡ true → i + share m t ≡ i + m
placed-share i m t e = rw e

-- m more instructions of a byte that an entry gives
pub having_more : (i m byte : ℕ) (l : Lacks) → Few l i → is_placed byte ≡ true → plus (having i l) (times m byte) ≡ having (i + m) (lacking l m byte)
having_more i m byte l f e =
    counts_eq (placed-share i m (is_placed byte) e) (lack_share i l.line m (is_lined byte) f.few-lines)
    (lack_share i l.columns m (is_spanned byte) f.few-columns) (lack_share i l.sure m (is_sure byte) f.few_sure)

pub few_more : (i m byte : ℕ) (l : Lacks) → Few l i → Few (lacking l m byte) (i + m)
few_more i m byte l f =
    record {
      few-lines = omega (arith, f.few-lines, share-most m (not (is_lined byte)));
      few-columns = omega (arith, f.few-columns, share-most m (not (is_spanned byte)));
      few_sure = omega (arith, f.few_sure, share-most m (not (is_sure byte)));
    }

-- a byte that has all that is counted lacks nothing
pub lacks-nothing : (m byte : ℕ) (l : Lacks) → byte ≡ 31 → l ≡ lacking l m byte
lacks-nothing m byte l e = rw e (lacks_eq (omega arith) (omega arith) (omega arith))

-- ---- the store
-- one byte is stored of n that go from a place on, behind j that are stored
pub fill-turn : (xs : List ℕ) (from n j byte : ℕ) → j < n → sets xs (from + j) (replicate (n - j) byte) ≡ sets (set xs (from + j) byte) (from + (j + 1)) (replicate (n - (j + 1)) byte)
fill-turn xs from n j byte h =
    let a : n - j ≡ suc (n - (j + 1)) = omega arith in
    let b : from + (j + 1) ≡ suc (from + j) = omega arith in
    rw (a, b)

pub fill_done : (xs : List ℕ) (at left byte : ℕ) → left ≡ 0 → sets xs at (replicate left byte) ≡ xs
fill_done xs at left byte e = rw e

zeros_more : (k m : ℕ) → zeros k ++ zeros m ≡ zeros (k + m)
zeros_more zero m = rw zero-add
zeros_more (suc k) m =
    let e : suc k + m ≡ suc (k + m) = omega arith in
    rw e (ap (λ t. 0 ∷ t) (zeros_more k m))

-- zeros behind what was written are as good as the store's own
pub padded-zeros : (n k : ℕ) (xs : List ℕ) → length xs + k ≤ n → padded n xs ≡ padded n (xs ++ zeros k)
unfolding padded
padded-zeros n k xs h =
    let l : length (xs ++ zeros k) ≡ length xs + k = length-append xs (zeros k) ∙ ap (λ t. length xs + t) (length-replicate k 0) in
    let m : k + (n - length (xs ++ zeros k)) ≡ n - length xs = omega (arith, l) in
    sym (append_assoc xs (zeros k) (zeros (n - length (xs ++ zeros k))) ∙ ap (λ t. xs ++ t) (zeros_more k (n - length (xs ++ zeros k)) ∙ ap zeros m))
