-- One answer for each call of the functions of `taggedfields`; the places that are noted are the same at each of the 256 tags. Of `Span::of`,
-- which returns a part of the file, one content.
use mathlib.Core.Path.{◌≡◌, refl}
use mathlib.Core.List.{List}
use Prim.Native.Nat.{ℕ, ◌<◌}
use native.Mathlib.Omega.{arith}
use lib.ListN.{length, get_or}
use lib.Seq.{ext_get_or}
use Rattle.taggedfields.proofs as taggedfields
use Rattle.taggedfields.specs.contracts as taggedfields_contracts
use Rattle.agreement.specs.Agreement.{Agree, AgreeAs}
use Rattle.agreement.proofs.Same.{one}

pub of_agrees : AgreeAs taggedfields_contracts.Span.of.ended (λ κs a r r' ws ws'. (r.now ≡ r'.now) × (ws ≡ ws')) taggedfields.Span.of.Reads.Asked taggedfields.Span.of.Reads.Learnt
of_agrees κs a asked r r' ws ws' p p' = (one p p', refl)

pub size_at_agrees : Agree taggedfields_contracts.size_at.ended taggedfields.size_at.Reads.Asked taggedfields.size_at.Reads.Learnt
size_at_agrees κs a asked r r' ws ws' p p' = (one p.0 p'.0, refl)

-- two lists of 256 numbers that are the same at each place
same_places : {f : ℕ → ℕ} (xs ys : List ℕ) → length xs ≡ 256 → length ys ≡ 256 → ((t : ℕ) → t < 256 → get_or xs t 0 ≡ f t) → ((t : ℕ) → t < 256 → get_or ys t 0 ≡ f t) → xs ≡ ys
same_places xs ys p q e d = ext_get_or 0 xs ys (one p q) (λ t h. one (e t (omega arith)) (d t (omega arith)))

pub index-fields-agrees : Agree taggedfields_contracts.index_fields.ended taggedfields.index_fields.Reads.Asked taggedfields.index_fields.Reads.Learnt
index-fields-agrees κs a asked r r' ws ws' p p' =
    let places = same_places ws.1.0 ws'.1.0 p.3 p'.3 p.1 p'.1 in
    (one p.0 p'.0, λ i. (tt, (places i, tt)))

pub look-agrees : Agree taggedfields_contracts.look.ended taggedfields.look.Reads.Asked taggedfields.look.Reads.Learnt
look-agrees κs a asked r r' ws ws' p p' = (one p p', refl)

pub fitting_agrees : Agree taggedfields_contracts.fitting.ended taggedfields.fitting.Reads.Asked taggedfields.fitting.Reads.Learnt
fitting_agrees κs a asked r r' ws ws' p p' = (one p p', refl)
