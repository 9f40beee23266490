-- The whole rewriting: all fields are put and fit, or they do not; and the faults of the two files. Assumes nothing.
use mathlib.Core.Path.{◌≡◌, refl, sym, ap, ◌∙◌, subst}
use mathlib.Core.Bool.{Bool, true, false, cond}
use mathlib.Core.List.{List, [], ◌++◌, append-nil}
use mathlib.Core.Option.{Option, none, some}
use Prim.Native.Nat.{ℕ, ◌+◌, ◌≤◌, ◌<◌, min}
use native.Mathlib.Omega.{arith}
use lib.Dec.{ltb}
use lib.ListN.{length}
use lib.Seq.{sets}
use borrow.Author.Tests.{lt-ltb, le-ltb, ltb-false}
use Rattle.std.specs.Prelude.{Result, Ok, Err}
use Rattle.std.specs.Prelude as rust
use Rattle.refusals.specs.declared.Fault.{Fault}
use Rattle.refusals.specs.declared.Refusal.TheVariants.{NoRoom}
use Rattle.refusals.specs.Faults.{fault, refused}
use Rattle.refusals.specs.Limits.{nothing}
use Rattle.clearing.specs.Lent.{zeros, padded}
use Rattle.clearing.proofs.Laws.{sets-padded}
use Rattle.taggedfields.specs.Fields.{reading, spelt}
use Rattle.taggedfields.specs.Looking.{fault_of}
use Rattle.taggedfields.proofs.Parts.{none-some}
use Rattle.taggedfields.proofs.Looks.{no_fault, its_fault}
use Rattle.settings.specs.Rewriting.{changed, added, rewritten, refused_as, in_room, rewrite_from, rewrite_of}
use Rattle.settings.specs.Putting.{after, after_count, Puts}
use Rattle.settings.proofs.Puts.{puts_then, puts_no_more}

-- what an output comes to, from nothing
from_none : (room : ℕ) (out bytes : List ℕ) → after room 0 out (bytes ++ []) ≡ cond {A = Option (ℕ × List ℕ)} (ltb room (length bytes)) none (some (length bytes, sets out 0 bytes))
unfolding after
from_none room out bytes =
    let n : 0 + length bytes ≡ length bytes = omega arith in
    ap (after room 0 out) (append-nil bytes) ∙ ap (λ i. cond (ltb room i) none (some (i, sets out 0 bytes))) n

no_more : (room used : ℕ) (out : List ℕ) → after room used out [] ≡ cond {A = Option (ℕ × List ℕ)} (ltb room used) none (some (used, out))
unfolding after
no_more room used out = let n : used + 0 ≡ used = omega arith in ap (λ i. cond (ltb room i) none (some (i, out))) n

module _ {room len : ℕ} {r : rust.Option ℕ} {out : List ℕ} (bytes : List ℕ) (p : Puts room 0 (zeros len) bytes r out) (m : room ≡ min len nothing) (l : room ≤ len) where
  pub all_fit : {used : ℕ} → r ≡ rust.Some used → ◌≡◌ {A = Result ℕ Fault × List ℕ} (Ok used, out) (in_room bytes len)
  all_fit {used} z = go (ltb room (length bytes)) refl
    where
      both : some (used, out) ≡ cond {A = Option (ℕ × List ℕ)} (ltb room (length bytes)) none (some (length bytes, sets (zeros len) 0 bytes))
      both = sym (no_more room used out ∙ ap (λ t. cond {A = Option (ℕ × List ℕ)} t none (some (used, out))) (le-ltb room used (p.upto z)))
          ∙ sym (ap (λ n. after_count room n out []) z) ∙ p.comes [] ∙ from_none room (zeros len) bytes

      got : (c : Bool) → ltb room (length bytes) ≡ c → some (used, out) ≡ cond {A = Option (ℕ × List ℕ)} c none (some (length bytes, sets (zeros len) 0 bytes))
      got c e = both ∙ ap (λ t. cond {A = Option (ℕ × List ℕ)} t none (some (length bytes, sets (zeros len) 0 bytes))) e

      pair : Option (ℕ × List ℕ) → Result ℕ Fault × List ℕ
      pair none = (Ok 0, [])
      pair (some x) = (Ok x.0, x.1)

      go : (c : Bool) → ltb room (length bytes) ≡ c → ◌≡◌ {A = Result ℕ Fault × List ℕ} (Ok used, out) (in_room bytes len)
      go true e = absurd (none-some (sym (got true e)))
      go false e =
          let w = ltb-false room (length bytes) e in
          ap pair (got false e) ∙ ap {B = Result ℕ Fault × List ℕ} (λ (o : List ℕ). (Ok (length bytes), o)) (sets-padded len bytes (omega arith))
          ∙ ap (λ t. cond {A = Result ℕ Fault × List ℕ} t (refused_as (fault NoRoom (min len nothing)) len) (Ok (length bytes), padded len bytes))
          (sym (ap (λ i. ltb i (length bytes)) (sym m) ∙ e))

  pub all_short : r ≡ rust.None → ◌≡◌ {A = Result ℕ Fault × List ℕ} (refused NoRoom room, zeros len) (in_room bytes len)
  all_short z = go (ltb room (length bytes)) refl
    where
      go : (c : Bool) → ltb room (length bytes) ≡ c → ◌≡◌ {A = Result ℕ Fault × List ℕ} (refused NoRoom room, zeros len) (in_room bytes len)
      go false e = absurd (none-some (sym (ap (λ n. after_count room n out []) z) ∙ p.comes [] ∙ from_none room (zeros len) bytes
          ∙ ap (λ t. cond {A = Option (ℕ × List ℕ)} t none (some (length bytes, sets (zeros len) 0 bytes))) e))
      go true e =
          ap (λ (i : ℕ). refused_as (fault NoRoom i) len) m
          ∙ ap (λ t. cond {A = Result ℕ Fault × List ℕ} t (refused_as (fault NoRoom (min len nothing)) len) (Ok (length bytes), padded len bytes))
          (sym (ap (λ i. ltb i (length bytes)) (sym m) ∙ e))

-- the changed fields and the added ones are the rewritten file
module _ (file changes : List ℕ) {room : ℕ} {out₀ out₁ : List ℕ} where
  pub both-put : {r : ℕ} {used : rust.Option ℕ} {out₂ : List ℕ} → Puts room 0 out₀ (spelt (changed (reading changes).fields (reading file).fields)) (rust.Some r) out₁
      → Puts room r out₁ (spelt (added (reading file).fields (reading changes).fields)) used out₂ → Puts room 0 out₀ (rewritten file changes) used out₂
  unfolding rewritten
  both-put p q = puts_then (spelt (changed (reading changes).fields (reading file).fields)) (spelt (added (reading file).fields (reading changes).fields)) p q

  pub one-short : {out₂ : List ℕ} → Puts room 0 out₀ (spelt (changed (reading changes).fields (reading file).fields)) rust.None out₁ → Puts room 0 out₀ (rewritten file changes) rust.None out₂
  unfolding rewritten
  one-short p = puts_no_more (spelt (changed (reading changes).fields (reading file).fields)) (spelt (added (reading file).fields (reading changes).fields)) p

-- ---- the faults of the two files
module _ (file changes : List ℕ) (len : ℕ) where
  pub first_fault : {x : Fault} → Err x ≡ fault_of file → (Err x, zeros len) ≡ rewrite_of file changes len
  unfolding rewrite_of
  first_fault e = rw (its_fault file e) refl

  pub second-fault : {x : Fault} → Ok tt ≡ fault_of file → Err x ≡ fault_of changes → (Err x, zeros len) ≡ rewrite_of file changes len
  unfolding rewrite_of
  second-fault d e = rw (no_fault file d, its_fault changes e) refl

  pub no_faults : Ok tt ≡ fault_of file → Ok tt ≡ fault_of changes → in_room (rewritten file changes) len ≡ rewrite_of file changes len
  unfolding rewrite_of
  no_faults d e = rw (no_fault file d, no_fault changes e) refl
