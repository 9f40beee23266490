-- What the puts share, said of plain lists: bytes stored one after another are the writing that was asked for, if there is room; bytes
-- stored at once, or as blocks that may overlap. Assumes nothing.
use mathlib.Core.Path.{◌≡◌, refl, sym, ap, ◌∙◌}
use Prim.Native.Nat.{ℕ, suc, ◌+◌, ◌-◌, ◌≤◌, ◌<◌}
use native.Mathlib.Omega.{arith}
use native.Mathlib.Numerals.{add-one, add-two}
use mathlib.Core.List.{List, [], ◌∷◌, ◌++◌, append_assoc}
use lib.ListN.{length, set, take, drop, length-append, length-drop, take-append-drop}
use lib.Seq.{length-take-le, sets, sets-eq, length-sets, take_at, drop_at, take-set-le}
use borrow.Rule.Slice.PartMut.{put_mid, Post-is}
use Rattle.std.proofs.lemmas.List.{drop-append-le, take_all}
use borrow.Author.Tests.{le-leb, lt-leb}
use Rattle.refusals.specs.Faults.{fault}
use Rattle.refusals.specs.declared.Fault.{Fault}
use Rattle.refusals.specs.declared.Refusal.TheVariants.{NoRoom}
use Rattle.grammar.specs.Reading.{gives}
use Rattle.writing.specs.Writing.{ended, emit, into}
use Rattle.writing.specs.Canonical.{bytes32, sized}
use Rattle.output.specs.Puts.{Wrote, Puts}
use Rattle.std.specs.Prelude.{Ok, Err}

-- Room, or none.

pub full : {bs o : List ℕ} {at n : ℕ} → at ≤ length o → length o < at + length bs → n ≡ length o → {stop : Fault} → stop ≡ fault NoRoom n
    → Puts (emit bs ended) at o (Err stop) o
unfolding into
full {bs} {o} {at} {n} h l e is =
    record {
      same = refl;
      exact = rw (lt-leb (length (take at o) + length bs) (length o) (omega (arith, length-take-le at o h)), is, e) refl;
    }

pub placed : {bs o o' : List ℕ} {at a : ℕ} → at + length bs ≤ length o → a ≡ at + length bs → o' ≡ sets o at bs
    → Puts (emit bs ended) at o (Ok a) o'
unfolding into
placed {bs} {o} {o'} {at} {a} h k e =
    let t = length-take-le at o (omega arith) in
    let q : o' ≡ (take at o ++ bs) ++ drop (at + length bs) o = e ∙ sets-eq bs o at h in
    let n : length (take at o ++ bs) ≡ at + length bs = length-append (take at o) bs ∙ omega (arith, t) in
    record {
      same = ap length e ∙ length-sets o at bs;
      exact = rw k (
        rw (le-leb (length (take at o) + length bs) (length o) (omega (arith, t)), q)
            (ap gives (sym (take_at (take at o ++ bs) (drop (at + length bs) o) (at + length bs) n))),
        omega arith,
        h,
        ap (drop (at + length bs)) q ∙ drop_at (take at o ++ bs) (drop (at + length bs) o) (at + length bs) n,
      );
    }

-- Stores in a row.

pub sets-append : (o : List ℕ) (at : ℕ) (xs ys : List ℕ) → sets (sets o at xs) (at + length xs) ys ≡ sets o at (xs ++ ys)
sets-append o at [] ys = let e : at + 0 ≡ at = omega arith in ap (λ k. sets o k ys) e
sets-append o at (x ∷ xs) ys =
    let e : at + suc (length xs) ≡ suc at + length xs = omega arith in
    ap (λ k. sets (sets (set o at x) (suc at) xs) k ys) e ∙ sets-append (set o at x) (suc at) xs ys

-- a run, and another behind it
pub sets_behind : (o : List ℕ) (at : ℕ) (xs ys : List ℕ) {o₁ o₂ : List ℕ} → o₁ ≡ sets o at xs → o₂ ≡ sets o₁ (at + length xs) ys → o₂ ≡ sets o at (xs ++ ys)
sets_behind o at xs ys e f = f ∙ ap (λ l. sets l (at + length xs) ys) e ∙ sets-append o at xs ys

-- a run leaves what is before it
take-sets : (n : ℕ) (o : List ℕ) (at : ℕ) (vs : List ℕ) → n ≤ at → take n (sets o at vs) ≡ take n o
take-sets n o at [] h = refl
take-sets n o at (v ∷ vs) h = take-sets n (set o at v) (suc at) vs (omega arith) ∙ take-set-le n o at v h

-- a run over the front of another, whose rest stays
sets_over : (o : List ℕ) (at n : ℕ) (xs ys zs : List ℕ) → n + length ys ≡ length xs → at + length (xs ++ zs) ≤ length o
    → sets (sets o (at + n) (ys ++ zs)) at xs ≡ sets o at (xs ++ zs)
sets_over o at n xs ys zs e h =
    let p = take (at + n) o in
    let d = drop (at + n + length (ys ++ zs)) o in
    let o₁ = sets o (at + n) (ys ++ zs) in
    let u = length-append xs zs in
    let v = length-append ys zs in
    let parts : o₁ ≡ (p ++ ys) ++ (zs ++ d) = sets-eq (ys ++ zs) o (at + n) (omega (arith, u, v)) ∙ simp append_assoc in
    let m : length (p ++ ys) ≡ at + length xs = length-append p ys ∙ omega (arith, u, length-take-le (at + n) o (omega (arith, u))) in
    let behind : drop (at + length xs) o₁ ≡ zs ++ d = ap (drop (at + length xs)) parts ∙ drop_at (p ++ ys) (zs ++ d) (at + length xs) m in
    let joined : take at o ++ xs ++ (zs ++ d) ≡ take at o ++ (xs ++ zs) ++ d = simp append_assoc in
    let k : at + n + length (ys ++ zs) ≡ at + length (xs ++ zs) = omega (arith, u, v) in
    sets-eq xs o₁ at (omega (arith, u, length-sets o (at + n) (ys ++ zs)))
    ∙ ap (λ l. take at o₁ ++ xs ++ l) behind
    ∙ ap (λ l. l ++ xs ++ (zs ++ d)) (take-sets at o (at + n) (ys ++ zs) (omega arith))
    ∙ joined
    ∙ ap (λ i. take at o ++ (xs ++ zs) ++ drop i o) k
    ∙ sym (sets-eq (xs ++ zs) o at h)

-- a first byte, then others
pub sets_first : (o : List ℕ) (at b : ℕ) (bs : List ℕ) → sets (set o at b) (at + 1) bs ≡ sets o at (b ∷ bs)
sets_first o at b bs = ap (λ k. sets (set o at b) k bs) (add-one at)

-- two bytes, then others
pub sets-second : (o : List ℕ) (at a b : ℕ) (bs : List ℕ) → sets (set (set o at a) (at + 1) b) (at + 2) bs ≡ sets o at (a ∷ b ∷ bs)
sets-second o at a b bs = rw (add-one at, add-two at) refl

-- a letter and a number, then others
pub sets-sized : (o : List ℕ) (at letter len : ℕ) (bs : List ℕ) {o₁ o₂ : List ℕ} → o₁ ≡ sets (set o at letter) (at + 1) (bytes32 len) → o₂ ≡ sets o₁ (at + 5) bs
    → o₂ ≡ sets o at ((letter ∷ bytes32 len) ++ bs)
sets-sized o at letter len bs e f = sets_behind o at (letter ∷ bytes32 len) bs (e ∙ sets_first o at letter (bytes32 len)) f

-- Bytes stored at once, and as blocks.

-- a part of the output that is copied over
pub copied : (o : List ℕ) (at : ℕ) (bytes : List ℕ) {part : List ℕ} → at + length bytes ≤ length o → part ≡ bytes
    → put_mid at (at + length bytes - at) o part ≡ sets o at bytes
copied o at bytes {part} h is =
    let rest = drop (at + length bytes) o in
    rw (is, Post-is at (at + length bytes) o (omega arith)) (sym (append_assoc (take at o) bytes rest) ∙ sym (sets-eq bytes o at h))

-- the two ends of some bytes, where they meet or overlap, come to the whole of them
pub ends-stored : (o : List ℕ) (at : ℕ) (bytes : List ℕ) (rest block : ℕ) {o₁ o₂ : List ℕ} → at + length bytes ≤ length o
    → rest + block ≡ length bytes → rest ≤ block → o₁ ≡ sets o (at + rest) (take (rest + block - rest) (drop rest bytes))
    → o₂ ≡ sets o₁ at (take block bytes) → o₂ ≡ sets o at bytes
ends-stored o at bytes rest block h e l f g =
    let front = take block bytes in
    let tail = drop block bytes in
    let n = length-take-le block bytes (omega arith) in
    let m = length-drop block bytes in
    let last : take (rest + block - rest) (drop rest bytes) ≡ drop rest bytes = take_all (rest + block - rest) (drop rest bytes) (omega (arith, length-drop rest bytes)) in
    let whole : front ++ tail ≡ bytes = take-append-drop block bytes in
    let behind : drop rest bytes ≡ drop rest front ++ tail = ap (drop rest) (sym whole) ∙ drop-append-le rest front tail (omega (arith, n)) in
    g
    ∙ ap (λ x. sets x at front) (f ∙ ap (sets o (at + rest)) (last ∙ behind))
    ∙ sets_over o at rest front (drop rest front) tail (omega (arith, n, length-drop rest front)) (omega (arith, n, ap length whole))
    ∙ ap (sets o at) whole

-- a put of the same bytes
pub puts_as : {bs cs o o' : List ℕ} {at : ℕ} {r : Wrote} → Puts (emit bs ended) at o r o' → cs ≡ bs → Puts (emit cs ended) at o r o'
puts_as {bs} {cs} {o} {o'} {at} {r} k e = rw e k

-- a put of bytes that are known by another name
pub slice_puts : {letter : ℕ} {bytes named o o' : List ℕ} {at : ℕ} {r : Wrote} → Puts (emit (letter ∷ bytes) ended) at o r o' → bytes ≡ named
    → Puts (emit (letter ∷ named) ended) at o r o'
slice_puts {letter} k e = puts_as k (ap (λ bytes. letter ∷ bytes) (sym e))

pub vec_puts : {letter : ℕ} {bytes named o o' : List ℕ} {at : ℕ} {r : Wrote} → Puts (emit (sized letter bytes) ended) at o r o' → bytes ≡ named
    → Puts (emit (sized letter named) ended) at o r o'
vec_puts {letter} k e = puts_as k (ap (sized letter) (sym e))
