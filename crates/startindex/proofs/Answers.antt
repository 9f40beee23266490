-- The answers of `index_starts`, each with what the index then holds. Assumes nothing.
use mathlib.Core.Path.{◌≡◌, ap, ◌∙◌}
use mathlib.Core.List.{List}
use Prim.Native.Nat.{ℕ, ◌/◌, ◌≤◌, ◌<◌}
use native.Mathlib.Omega.{arith}
use lib.ListN.{length, length-replicate}
use lib.Seq.{sets}
use borrow.Author.Tests.{lt-ltb, le-ltb}
use Rattle.std.specs.Prelude.{Result, Ok, Err}
use Rattle.refusals.specs.Faults.{fault}
use Rattle.refusals.specs.declared.Fault.{Fault}
use Rattle.refusals.specs.declared.Refusal.TheVariants.{NoRoom}
use Rattle.clearing.specs.Lent.{zeros}
use Rattle.clearing.proofs.Laws.{sets-padded}
use Rattle.startindex.specs.Starts.{starts_in}
use Rattle.startindex.specs.Index.{blocks, blocks_of, need, built, indexed}
use Rattle.startindex.proofs.Blocks.{length-blocks}

abbrev pub Answers : List ℕ → ℕ → ℕ → Result ℕ Fault → List ℕ → Type 0
Answers rs count room r xs = (r ≡ (indexed rs count room).0) × (xs ≡ (indexed rs count room).1)

pub few-records : (rs : List ℕ) (count room : ℕ) {f : Fault} {xs : List ℕ} → length rs / 4 < count → f ≡ fault NoRoom (length rs / 4) → xs ≡ zeros room
    → Answers rs count room (Err f) xs
unfolding indexed
few-records rs count room h e z = (rw (e, lt-ltb (length rs / 4) count h), z ∙ rw (lt-ltb (length rs / 4) count h))

-- `cleared` is the lent index behind the call that clears it
pub few_words : (rs : List ℕ) (count room : ℕ) {wanted : ℕ} {f : Fault} {cleared : List ℕ} → cleared ≡ zeros room → count ≤ length rs / 4 → length cleared < wanted
    → wanted ≡ need count → f ≡ fault NoRoom (length cleared) → Answers rs count room (Err f) cleared
unfolding indexed
few_words rs count room {cleared = cleared} z k h w e =
    let l : length cleared ≡ room = ap length z ∙ length-replicate room 0 in
    let short : room < need count = omega (arith, l, h, w) in
    (rw (e, l, le-ltb (length rs / 4) count k, lt-ltb room (need count) short), z ∙ rw (le-ltb (length rs / 4) count k, lt-ltb room (need count) short))

pub all_stored : (rs : List ℕ) (count room : ℕ) {wanted n starts : ℕ} {cleared xs : List ℕ} → cleared ≡ zeros room → count ≤ length rs / 4 → wanted ≤ length cleared
    → wanted ≡ need count → n ≡ blocks_of count → starts ≡ starts_in rs 0 count → xs ≡ sets cleared 0 (blocks rs count 0 n) → Answers rs count room (Ok starts) xs
unfolding indexed built
all_stored rs count room {n = n} {cleared = cleared} z k h w m s x =
    let l : length cleared ≡ room = ap length z ∙ length-replicate room 0 in
    let enough : need count ≤ room = omega (arith, l, h, w) in
    let fits = sets-padded room (built rs count) (omega (arith, enough, length-blocks rs count 0 (blocks_of count))) in (
      rw (s, le-ltb (length rs / 4) count k, le-ltb room (need count) enough),
      x ∙ ap (λ t. sets t 0 (blocks rs count 0 n)) z ∙ ap (λ t. sets (zeros room) 0 (blocks rs count 0 t)) m ∙ fits ∙ rw (le-ltb (length rs / 4) count k, le-ltb room (need count) enough),
    )
