-- Little-endian numbers, over the calls of `varint`'s two writers and of `lineentry`'s two readers: what the one wrote the other reads, wherever
-- it stands in a table. 01: "Little-endian serves line tables". That a number has 32 bits is what its type says.
use Rattle.std.specs.Prelude.{◌≡◌, false, List, ◌++◌, ℕ, ◌+◌, ◌^◌, ◌<◌, length, take, Ok}
use Rattle.std.specs.Int.{w32}
use Rattle.std.proofs.Common.{SFits}
use Rattle.lineentry.specs.Varint.{read_as}
use Rattle.lineentry.proofs as lineentry
use Rattle.lineentry.specs.contracts as lineentry_contracts
use Rattle.linetable.specs.Answer.{first_line_of}
use Rattle.varint.proofs as varint
use Rattle.varint.specs.contracts as varint_contracts
use Rattle.promises.specs.Calls.{Call}

abbrev pub WriteVarint : Type 0
WriteVarint = Call varint_contracts.write_varint.ended varint.write_varint.Reads.Asked varint.write_varint.Reads.Learnt

abbrev pub WriteSigned : Type 0
WriteSigned = Call varint_contracts.write_signed_varint.ended varint.write_signed_varint.Reads.Asked varint.write_signed_varint.Reads.Learnt

abbrev pub ReadVarint : Type 0
ReadVarint = Call lineentry_contracts.lt_read_varint.ended lineentry.lt_read_varint.Reads.Asked lineentry.lt_read_varint.Reads.Learnt

abbrev pub ReadSigned : Type 0
ReadSigned = Call lineentry_contracts.lt_read_signed_varint.ended lineentry.lt_read_signed_varint.Reads.Asked lineentry.lt_read_signed_varint.Reads.Learnt

-- the bytes stand in the table at this place, with anything before and behind them
pub record Stand (bytes table : List ℕ) (place : ℕ) : Type 0 where
  pub before : List ℕ
  pub behind : List ℕ
  pub there : table ≡ before ++ (bytes ++ behind)
  pub here : place ≡ length before

-- Written in so many bytes, a number is read there: itself, the place after it, and no byte missing. A signed one is read as every line step is
-- kept, plus 2^31.
pub record ReadsBack : Type 0 where
  pub unsigned : (w : WriteVarint) (r : ReadVarint) (count : ℕ) → w.args.1.0 < 2 ^ 32 → w.result ≡ Ok count
      → Stand (take count w.last.0) r.args.0.now r.args.1.0 → r.result ≡ read_as w.args.1.0 (r.args.1.0 + count) false
  pub signed : (w : WriteSigned) (r : ReadSigned) (count : ℕ) → SFits w32 w.args.1.0 → w.result ≡ Ok count
      → Stand (take count w.last.0) r.args.0.now r.args.1.0 → r.result ≡ read_as (first_line_of w.args.1.0) (r.args.1.0 + count) false
