-- One answer for each call of the functions of `output`: the answer, and where it accepts the output. Refused, nothing is said of
-- the output: the writer's entry clears it (docs/EXCEPTIONS.md).
use mathlib.Core.Path.{◌≡◌, refl, sym, ◌∙◌, ap}
use Prim.Native.Nat.{ℕ, ◌≤◌}
use mathlib.Core.List.{List, [], ◌++◌}
use lib.ListN.{length, take, drop, take-append-drop}
use lib.Seq.{length-take-le}
use native.Mathlib.Omega.{arith}
use Rattle.grammar.specs.Reading.{Answer, gives, stops}
use Rattle.writing.specs.Writing.{Writing}
use Rattle.output.specs.Puts.{Wrote, Puts}
use Rattle.grammar.proofs.Numbered.{numbered_injective}
use Rattle.output.proofs as output
use Rattle.output.specs.contracts as output_contracts
use Rattle.agreement.specs.Agreement.{Agree, AgreeAs}
use Rattle.agreement.specs.Partly.{WhereDone}
use Rattle.agreement.proofs.Same.{one}
use Rattle.std.specs.Prelude.{Result, Ok, Err}
use Rattle.refusals.specs.declared.Fault.{Fault}

-- an answer gives bytes, or stops with number and place, and not both
abbrev bytes_in : Answer (List ℕ) → List ℕ
bytes_in (gives bytes) = bytes
bytes_in (stops number place) = []

abbrev accepts : Answer (List ℕ) → ℕ
accepts (gives bytes) = 1
accepts (stops number place) = 0

-- a put's refusal, from the same numbers of an answer that gives bytes
abbrev fault_in : Fault → Result (List ℕ) Fault → Fault
fault_in other (Ok bytes) = other
fault_in other (Err why) = why

gives_or_stops : {x : Answer (List ℕ)} {bytes : List ℕ} {n p : ℕ} → x ≡ gives bytes → x ≡ stops n p → ⊥
gives_or_stops e e' = let z : ◌≡◌ {A = ℕ} 1 0 = ap accepts (one (sym e) (sym e')) in omega (arith, z)

-- so many bytes written, and the rest untouched: how many, and which
done_one : (o o₁ o₂ : List ℕ) (a b : ℕ) → length o₁ ≡ length o → length o₂ ≡ length o → a ≤ length o → b ≤ length o
    → take a o₁ ≡ take b o₂ → drop a o₁ ≡ drop a o → drop b o₂ ≡ drop b o → (a ≡ b) × (o₁ ≡ o₂)
done_one o o₁ o₂ a b l₁ l₂ ha hb t d₁ d₂ =
    let e : a ≡ b = sym (length-take-le a o₁ (omega (arith, l₁, ha))) ∙ (ap length t ∙ length-take-le b o₂ (omega (arith, l₂, hb))) in
    (e, sym (take-append-drop a o₁) ∙ (ap (λ xs. xs ++ drop a o₁) t ∙ (ap (λ xs. take b o₂ ++ xs) (d₁ ∙ (ap (λ n. drop n o) e ∙ sym d₂)) ∙ take-append-drop b o₂)))

pub puts_one : {w : Writing} {at : ℕ} {o o₁ o₂ : List ℕ} (r r' : Wrote) → Puts w at o r o₁ → Puts w at o r' o₂ → WhereDone r r' o₁ o₂
puts_one {w} {at} {o} {o₁} {o₂} (Ok a) (Ok b) p q =
    let x = p.exact in
    let y = q.exact in
    let e = done_one o o₁ o₂ a b p.same q.same x.2 y.2 (ap bytes_in (one (sym x.0) (sym y.0))) x.3 y.3 in
    (ap Ok e.0, λ done. e.1)
puts_one (Ok a) (Err y) p q = absurd (gives_or_stops p.exact.0 q.exact)
puts_one (Err x) (Ok b) p q = absurd (gives_or_stops q.exact.0 p.exact)
puts_one (Err x) (Err y) p q =
    let same : ◌≡◌ {A = Result (List ℕ) Fault} (Err x) (Err y) = numbered_injective (Err x) (Err y) (one (sym p.exact) (sym q.exact)) in
    (ap (λ r. Err (fault_in x r)) same, λ none. absurd none)

-- the bytes that are given, whatever reference leads to them
pub contents_agrees : AgreeAs output_contracts.contents.ended (λ κs a r r' ws ws'. (r.now ≡ r'.now) × (ws ≡ ws')) output.contents.Reads.Asked output.contents.Reads.Learnt
contents_agrees κs a asked r r' ws ws' p p' = (one p p', refl)

pub store_bytes_agrees : Agree output_contracts.store_bytes.ended output.store_bytes.Reads.Asked output.store_bytes.Reads.Learnt
store_bytes_agrees κs a asked r r' ws ws' p p' = (refl, λ i. (one p p' i, (tt, (tt, tt))))

pub store_u32_agrees : Agree output_contracts.store_u32.ended output.store_u32.Reads.Asked output.store_u32.Reads.Learnt
store_u32_agrees κs a asked r r' ws ws' p p' = (refl, λ i. (one p p' i, (tt, (tt, tt))))

pub store_slice-agrees : Agree output_contracts.store_slice.ended output.store_slice.Reads.Asked output.store_slice.Reads.Learnt
store_slice-agrees κs a asked r r' ws ws' p p' = (refl, λ i. (one p p' i, (tt, (tt, tt))))

pub write_u8_agrees : AgreeAs output_contracts.write_u8.ended (λ κs a. WhereDone) output.write_u8.Reads.Asked output.write_u8.Reads.Learnt
write_u8_agrees κs a asked r r' ws ws' p p' = ((puts_one r r' p p').0, λ done i. ((puts_one r r' p p').1 done i, (tt, (tt, tt))))

pub write_u32_agrees : AgreeAs output_contracts.write_u32.ended (λ κs a. WhereDone) output.write_u32.Reads.Asked output.write_u32.Reads.Learnt
write_u32_agrees κs a asked r r' ws ws' p p' = ((puts_one r r' p p').0, λ done i. ((puts_one r r' p p').1 done i, (tt, (tt, tt))))

pub write_len_agrees : AgreeAs output_contracts.write_len.ended (λ κs a. WhereDone) output.write_len.Reads.Asked output.write_len.Reads.Learnt
write_len_agrees κs a asked r r' ws ws' p p' = ((puts_one r r' p p').0, λ done i. ((puts_one r r' p p').1 done i, (tt, (tt, (tt, tt)))))

pub write_slice-agrees : AgreeAs output_contracts.write_slice.ended (λ κs a. WhereDone) output.write_slice.Reads.Asked output.write_slice.Reads.Learnt
write_slice-agrees κs a asked r r' ws ws' p p' = ((puts_one r r' p p').0, λ done i. ((puts_one r r' p p').1 done i, (tt, (tt, (tt, tt)))))

pub write_vec_agrees : AgreeAs output_contracts.write_vec.ended (λ κs a. WhereDone) output.write_vec.Reads.Asked output.write_vec.Reads.Learnt
write_vec_agrees κs a asked r r' ws ws' p p' = ((puts_one r r' p p').0, λ done i. ((puts_one r r' p p').1 done i, (tt, (tt, (tt, tt)))))
