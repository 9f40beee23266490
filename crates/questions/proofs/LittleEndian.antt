-- THEOREM: what `write_varint` and `write_signed_varint` write is what `lt_read_varint` and `lt_read_signed_varint` read, with anything before
-- and behind it. From varint's law over the one definition of a line table's numbers. Assumes nothing.
use mathlib.Core.Path.{◌≡◌, refl, sym, ap, ◌∙◌}
use mathlib.Core.Bool.{Bool, true, false, cond}
use mathlib.Core.List.{List, ◌++◌}
use Prim.Native.Nat.{ℕ, suc, ◌+◌, ◌-◌, ◌^◌, ◌<◌, ◌≤◌}
use native.Mathlib.Omega.{arith}
use lib.IntN.{ℤ, pos, negsuc}
use lib.Dec.{leb, eqb}
use lib.ListN.{length, take}
use lib.Seq.{take-append_seam}
use borrow.Author.Tests.{eqb-false}
use mir.Syntax.{w32}
use mir.Val.{SFits, of_z}
use Rattle.clearing.specs.Lent.{zeros, padded}
use Rattle.lineentry.specs.Line.{as_signed}
use Rattle.lineentry.specs.Varint.{read_as, varint_at, signed_at}
use Rattle.linetable.specs.Answer.{first_line_of}
use Rattle.std.specs.Prelude.{Result, Ok, Err}
use Rattle.refusals.specs.Faults.{refused}
use Rattle.refusals.specs.declared.Refusal.TheVariants.{NoRoom, NumberRange}
use Rattle.refusals.specs.declared.Fault.{Fault}
use Rattle.varint.specs.Writing.{little_endian, signed_code}
use Rattle.varint.specs.Answers.{stored, stored_signed}
use Rattle.varint.proofs.ReadsBack.{little_endian-reads_back, signed-reads_back}
use Rattle.questions.specs.LittleEndian.{Stand, ReadsBack}

-- a writer that wrote: so many bytes, and they stand at the store's start
record Wrote (bytes : List ℕ) (count : ℕ) (store : List ℕ) : Type 0 where
  pub many : length bytes ≡ count
  pub front : take count store ≡ bytes

not_done : (why : Fault) (count : ℕ) → ◌≡◌ {A = Result ℕ Fault} (Err why) (Ok count) → ⊥
not_done why count e = let q : ◌≡◌ {A = ℕ} 0 1 = cc in absurd (omega (arith, q))

wrote : (room : ℕ) (bytes : List ℕ) (count : ℕ) (result : Result ℕ Fault) (store : List ℕ) → (result, store) ≡ stored room bytes → result ≡ Ok count → Wrote bytes count store
unfolding stored padded
wrote room bytes count result store h d = go (leb (length bytes) room) refl h
  where
    go : (t : Bool) → leb (length bytes) room ≡ t → (result, store) ≡ stored room bytes → Wrote bytes count store
    go true e k =
        let q : ◌≡◌ {A = Result ℕ Fault × List ℕ} (result, store) (Ok (length bytes), bytes ++ zeros (room - length bytes)) = rw e at k in
        let a : ◌≡◌ {A = Result ℕ Fault} (Ok count) (Ok (length bytes)) = sym d ∙ ap (λ x. x.0) q in
        let n : count ≡ length bytes = cc in
        record { many = sym n; front = rw n (ap (take (length bytes)) (ap (λ x. x.1) q) ∙ take-append_seam bytes (zeros (room - length bytes))) }
    go false e k =
        let q : ◌≡◌ {A = Result ℕ Fault × List ℕ} (result, store) (refused NoRoom room, zeros room) = rw e at k in
        absurd (not_done _ count (sym (ap (λ x. x.0) q) ∙ d))

wrote_signed : (room bits count : ℕ) (result : Result ℕ Fault) (store : List ℕ) → (result, store) ≡ stored_signed room bits → result ≡ Ok count
    → (bits ≡ 2 ^ 31 → ⊥) × Wrote (little_endian (signed_code bits)) count store
unfolding stored_signed
wrote_signed room bits count result store h d = go (eqb bits (2 ^ 31)) refl h
  where
    go : (t : Bool) → eqb bits (2 ^ 31) ≡ t → (result, store) ≡ stored_signed room bits → (bits ≡ 2 ^ 31 → ⊥) × Wrote (little_endian (signed_code bits)) count store
    go true e k =
        let q : ◌≡◌ {A = Result ℕ Fault × List ℕ} (result, store) (refused NumberRange 0, zeros room) = rw e at k in
        absurd (not_done _ count (sym (ap (λ x. x.0) q) ∙ d))
    go false e k = (eqb-false bits (2 ^ 31) e, wrote room (little_endian (signed_code bits)) count result store (rw e at k) d)

bits_fit : (z : ℤ) → SFits w32 z → of_z w32 z < 2 ^ 32
bits_fit (pos n) f = omega (arith, f.sfits)
bits_fit (negsuc n) f = omega (arith, f.sfits)

-- the table with the written bytes in it, and the place after them
module _ {bytes table store : List ℕ} {count place : ℕ} (w : Wrote bytes count store) (at : Stand (take count store) table place) where
  table_is : table ≡ at.before ++ (bytes ++ at.behind)
  table_is = at.there ∙ ap (λ b. at.before ++ (b ++ at.behind)) w.front

  behind_is : length at.before + length bytes ≡ place + count
  behind_is = omega (arith, at.here, w.many)

pub little_endian-reads_back_in_tables : ReadsBack
little_endian-reads_back_in_tables =
    record {
      unsigned =
          λ w r count f d at.
          let x = wrote (length w.args.0.now) (little_endian w.args.1.0) count w.result w.last.0 w.meets d in
          r.meets
          ∙ ap (λ t. varint_at t r.args.1.0) (table_is x at)
          ∙ ap (varint_at (at.before ++ (little_endian w.args.1.0 ++ at.behind))) at.here
          ∙ little_endian-reads_back at.before w.args.1.0 at.behind f
          ∙ ap (λ p. read_as w.args.1.0 p false) (behind_is x at);
      signed =
          λ w r count f d at.
          let bits = of_z w32 w.args.1.0 in
          let x = wrote_signed (length w.args.0.now) bits count w.result w.last.0 w.meets d in
          r.meets
          ∙ ap (λ t. signed_at t r.args.1.0) (table_is x.1 at)
          ∙ ap (signed_at (at.before ++ (little_endian (signed_code bits) ++ at.behind))) at.here
          ∙ signed-reads_back at.before bits at.behind (bits_fit w.args.1.0 f) x.0
          ∙ ap (λ p. read_as (as_signed bits) p false) (behind_is x.1 at);
    }
