-- Bytes that are copied into a part of a slice, for the files that are put together of parts of others. Assumes nothing.
use mathlib.Core.Path.{◌≡◌, refl, sym, ap, ◌∙◌}
use mathlib.Core.List.{List, [], ◌∷◌, ◌++◌}
use Prim.Native.Nat.{ℕ, suc, ◌+◌, ◌≤◌}
use native.Mathlib.Omega.{arith}
use lib.ListN.{length, set, take, drop}
use lib.Seq.{sets, take-length}
use borrow.Rule.Slice.PartMut.{put_mid}
use Rattle.std.proofs.lemmas.List.Edits.{sets-eq}
use Rattle.std.proofs.lemmas.Slice.{put_mid-paste}

-- a part of a slice that bytes are copied into
pub put_mid-sets : (out bytes : List ℕ) (at k : ℕ) → at + k ≤ length out → length bytes ≡ k → put_mid at k out bytes ≡ sets out at bytes
put_mid-sets out bytes at k h e =
    put_mid-paste at k out bytes bytes (length bytes) refl e refl ∙ ap (λ l. take at out ++ l ++ drop (at + length bytes) out) (take-length bytes)
    ∙ sym (sets-eq bytes out at (omega arith))

-- bytes behind others
pub sets-append : (out : List ℕ) (at : ℕ) (xs ys : List ℕ) → sets out at (xs ++ ys) ≡ sets (sets out at xs) (at + length xs) ys
sets-append out at [] ys = let e : at + 0 ≡ at = omega arith in rw e
sets-append out at (x ∷ xs) ys =
    let e : suc at + length xs ≡ at + suc (length xs) = omega arith in
    rw (sets-append (set out at x) (suc at) xs ys, e)
