-- A second walk over a file that has no fault: at each place that the walk comes to, a whole field stands there. Assumes nothing.
use mathlib.Core.Path.{◌≡◌, refl, sym, ap, ◌∙◌}
use mathlib.Core.List.{List, [], ◌∷◌}
use mathlib.Core.Option.{none}
use Prim.Native.Nat.{ℕ, zero, suc, ◌+◌, ◌≤◌, ◌<◌}
use native.Mathlib.Omega.{arith}
use lib.ListN.{length, get_or}
use Rattle.taggedfields.specs.Fields.{Field, reading}
use Rattle.taggedfields.specs.Looking.{size_in, field_at}
use Rattle.taggedfields.proofs.Steps.{from, from_end, Step, ends, stops, goes, step}
use Rattle.taggedfields.proofs.Parts.{none-some}

pub record Unread (file : List ℕ) (at : ℕ) : Type 0 where
  pub bound : ℕ
  pub tags : List ℕ
  pub enough : length file ≤ at + bound
  pub within : at ≤ length file
  pub clean : (from bound file tags at).fault ≡ none

-- the fields that are still to come
abbrev pub rest : {file : List ℕ} {at : ℕ} → Unread file at → List Field
rest {file} {at} u = (from u.bound file u.tags at).fields

pub unread_start : (file : List ℕ) → (reading file).fault ≡ none → (u : Unread file 0) × (rest u ≡ (reading file).fields)
unfolding reading
unread_start file e = (record { bound = length file; tags = []; enough = omega arith; within = omega arith; clean = e }, refl)

pub unread_end : {file : List ℕ} {at : ℕ} (u : Unread file at) → length file ≤ at → rest u ≡ []
unread_end {file} {at} u h = ap (λ r. r.fields) (from_end file u.tags at u.bound h)

-- the field that comes next, and what is behind it
pub record Next {file : List ℕ} {at : ℕ} (u : Unread file at) : Type 0 where
  pub whole : at + 3 + size_in file at ≤ length file
  pub behind : Unread file (at + 3 + size_in file at)
  pub splits : rest u ≡ field_at file at ∷ rest behind

pub unread_next : {file : List ℕ} {at : ℕ} (u : Unread file at) → at < length file → Next u
unread_next {file} {at} u h = go u.bound refl
  where
    with : (b : ℕ) → u.bound ≡ suc b → Step file u.tags at b → Next u
    with b e (ends k q) = absurd (omega arith)
    with b e (stops why k q) = absurd (none-some (sym u.clean ∙ ap (λ n. (from n file u.tags at).fault) e ∙ ap (λ r. r.fault) q))
    with b e (goes k z q) =
        let same : from u.bound file u.tags at ≡ _ = ap (λ n. from n file u.tags at) e ∙ q in
        record {
          whole = k;
          behind = record { bound = b; tags = get_or file at 0 ∷ u.tags; enough = omega (arith, u.enough, e); within = k; clean = sym (ap (λ r. r.fault) same) ∙ u.clean };
          splits = ap (λ r. r.fields) same;
        }

    go : (n : ℕ) → u.bound ≡ n → Next u
    go zero e = absurd (omega (arith, u.enough))
    go (suc b) e = with b e (step file u.tags at b)
