-- Two calls of `serialize_value` whose inputs and stores differ only in what the writer does not read answer the same and leave the same
-- output: by its contract, as the kit makes it of the source, and the theorem on the definitions. Assumes nothing.
use mathlib.Core.Path.{◌≡◌, sym, ap, ap₂, ◌∙◌}
use Prim.Native.Nat.{ℕ}
use mathlib.Core.List.{List}
use lib.ListN.{length}
use contract.Lifetimes.{Lfts}
use denote.Triple.Entry.{Args, Res}
use denote.Triple.Clauses.{Lasts, at_exit}
use Rattle.grammar.specs.Record.{Tables, tables_of}
use Rattle.writing.specs.Answer.{output_held, written}
use Rattle.writing.specs.Unread.{SameRead}
use Rattle.writing.proofs.Unread.{links_and_bytes_unread}
use Rattle.grammar.proofs.Numbered.{numbered_injective}
use Rattle.writer.specs.Entry.{length_in}
use Rattle.writer.specs.contracts.serialize_value.{ended}
use Rattle.writer.proofs.serialize_value.Reads.{Learnt}

-- arguments, a result and the last contents of what was lent, which meet the contract
pub record Call : Type 0 where
  pub κs : Lfts ended.signature.lifetimes
  pub args : Args ended.signature κs
  pub result : Res ended.signature κs
  pub last : Lasts ended κs args
  pub meets : Learnt κs args result (at_exit ended κs args last)

-- in the order of the parameters
abbrev pub tables_in : Call → Tables
tables_in c = tables_of c.args.0.now c.args.1.0.now c.args.1.1.0.now c.args.1.1.1.0 c.args.1.1.1.1.0

abbrev pub root_in : Call → ℕ
root_in c = c.args.1.1.1.1.1.0

abbrev pub nesting_in : Call → ℕ
nesting_in c = c.args.1.1.1.1.1.1.0

abbrev pub room_in : Call → ℕ
room_in c = length c.args.1.1.1.1.1.1.1.0.now

abbrev pub output_in : Call → List ℕ
output_in c = c.last.1.1.1.1.1.1.1.0

pub serialize_value_unread : (c c' : Call) → SameRead (tables_in c) (tables_in c') → root_in c ≡ root_in c' → nesting_in c ≡ nesting_in c' → room_in c ≡ room_in c'
    → (c.result ≡ c'.result) × (output_in c ≡ output_in c')
serialize_value_unread c c' same root nesting room =
    let t = tables_in c' in
    let e =
    links_and_bytes_unread (tables_in c) t same (root_in c) (nesting_in c) (room_in c) ∙ ap (λ n. written t n (nesting_in c) (room_in c)) root
    ∙ ap (λ n. written t (root_in c') n (room_in c)) nesting ∙ ap (written t (root_in c') (nesting_in c')) room
    in
    (numbered_injective c.result c'.result (c.meets.answers ∙ ap length_in e ∙ sym c'.meets.answers), c.meets.holds ∙ ap₂ output_held room e ∙ sym c'.meets.holds)
