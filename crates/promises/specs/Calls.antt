-- A call of a function as its contract describes it, and the calls of the readers and writers in the words of the definitions. 01: "Where an
-- answer is an enum, a definition provides this paper's number and values for each case, and the promises use that definition."
use Rattle.std.specs.Prelude.{ℕ, cond, List, length, eqb}
use contract.Lifetimes.{Lfts}
use denote.Triple.Entry.{Args, Res}
use denote.Triple.Clauses.{Ended, Lasts, at_exit}
use Rattle.refusals.specs.Numbers.{accepted}
use Rattle.grammar.specs.Input.{Bytes}
use Rattle.grammar.specs.Numbered.{numbered}
use Rattle.grammar.specs.Reading.{Answer, gives, stops}
use Rattle.grammar.specs.Answer.{Counts, Outcome}
use Rattle.grammar.specs.Record.{Tables, tables_of}
use Rattle.reader.specs.Delivered.{answer_of}
use Rattle.reader.proofs as reader
use Rattle.reader.specs.contracts as reader_contracts
use Rattle.writer.proofs as writer
use Rattle.writer.specs.contracts as writer_contracts
use Rattle.sillgarland.specs.declared.values.SillRead.{SillRead}
use Rattle.sillgarland.specs.declared.varints.SillWritten.{SillWritten}
use Rattle.sillgarland.proofs as sillgarland
use Rattle.sillgarland.specs.contracts as sillgarland_contracts
use Rattle.agreement.specs.Agreement.{Asks, Tells}

-- Arguments that meet what is asked; a result and the last contents of what was lent for writing; and the contract, which they meet.
pub record Call (f : Ended) (asked : Asks f) (learnt : Tells f) : Type 0 where
  pub κs : Lfts f.signature.lifetimes
  pub args : Args f.signature κs
  pub meant : asked κs args
  pub result : Res f.signature κs
  pub last : Lasts f κs args
  pub meets : learnt κs args result (at_exit f κs args last)

-- A reader, by its calls: the input, how long the three stores are, the nesting; and the end, which is the answer and the three contents.
pub record Reader : Type 1 where
  pub Calls : Type 0
  pub input : Calls → List ℕ
  pub nodes : Calls → ℕ
  pub entries : Calls → ℕ
  pub slots : Calls → ℕ
  pub nesting : Calls → ℕ
  pub ends : Calls → Outcome

-- A writer, by its calls: the stores with what is used of them, the root, the nesting, how long the output is; and the end, which is how
-- many bytes are written, or the refusal, and what the output holds.
pub record Writer : Type 1 where
  pub Calls : Type 0
  pub tables : Calls → Tables
  pub root : Calls → ℕ
  pub nesting : Calls → ℕ
  pub room : Calls → ℕ
  pub answer : Calls → Answer ℕ
  pub output : Calls → List ℕ

-- Calls with bytes, each below 256, as the type of the input says; and a reader of these calls alone. Demand 2 is of such a reader: a number is
-- the same once it is written back only if the four or eight numbers that it was read from are bytes. Demands 1 and 3 do not ask it.
pub record OfBytes (C : Type 0) (input : C → List ℕ) : Type 0 where
  pub call : C
  pub bytes : Bytes (input call)

abbrev pub on_bytes : Reader → Reader
on_bytes R =
    record {
      Calls = OfBytes R.Calls R.input;
      input = λ c. R.input c.call;
      nodes = λ c. R.nodes c.call;
      entries = λ c. R.entries c.call;
      slots = λ c. R.slots c.call;
      nesting = λ c. R.nesting c.call;
      ends = λ c. R.ends c.call;
    }

-- `deserialize_value`
abbrev pub Deserialize : Type 0
Deserialize = Call reader_contracts.deserialize_value.ended reader.deserialize_value.Reads.Asked reader.deserialize_value.Reads.Learnt

abbrev pub deserialize_value : Reader
deserialize_value =
    record {
      Calls = Deserialize;
      input = λ c. c.args.0.now;
      nodes = λ c. length c.args.1.0.now;
      entries = λ c. length c.args.1.1.0.now;
      slots = λ c. length c.args.1.1.1.0.now;
      nesting = λ c. c.args.1.1.1.1.0;
      ends = λ c. record { answer = answer_of c.result; nodes = c.last.1.0; entries = c.last.1.1.0; slots = c.last.1.1.1.0 };
    }

-- `sill_read`: refusal 0 means accepted, and any other number is the refusal's
abbrev pub answer_in : SillRead → Answer Counts
answer_in r =
    cond (eqb r.refusal accepted)
    (gives (record { consumed = r.consumed; nodes = r.nodes; entries = r.entries; slots = r.slots }))
    (stops r.refusal r.place)

abbrev pub Read : Type 0
Read = Call sillgarland_contracts.values.sill_read.ended sillgarland.values.sill_read.Reads.Asked sillgarland.values.sill_read.Reads.Learnt

abbrev pub sill_read : Reader
sill_read =
    record {
      Calls = Read;
      input = λ c. c.args.0.now;
      nodes = λ c. length c.args.1.0.now;
      entries = λ c. length c.args.1.1.0.now;
      slots = λ c. length c.args.1.1.1.0.now;
      nesting = λ c. c.args.1.1.1.1.0;
      ends = λ c. record { answer = answer_in c.result; nodes = c.last.1.0; entries = c.last.1.1.0; slots = c.last.1.1.1.0 };
    }

-- `serialize_value`
abbrev pub Serialize : Type 0
Serialize = Call writer_contracts.serialize_value.ended writer.serialize_value.Reads.Asked writer.serialize_value.Reads.Learnt

abbrev pub serialize_value : Writer
serialize_value =
    record {
      Calls = Serialize;
      tables = λ c. tables_of c.args.0.now c.args.1.0.now c.args.1.1.0.now c.args.1.1.1.0 c.args.1.1.1.1.0;
      root = λ c. c.args.1.1.1.1.1.0;
      nesting = λ c. c.args.1.1.1.1.1.1.0;
      room = λ c. length c.args.1.1.1.1.1.1.1.0.now;
      answer = λ c. numbered c.result;
      output = λ c. c.last.1.1.1.1.1.1.1.0;
    }

-- `sill_write`
abbrev pub wrote_in : SillWritten → Answer ℕ
wrote_in r = cond (eqb r.refusal accepted) (gives r.written) (stops r.refusal r.place)

abbrev pub Write : Type 0
Write = Call sillgarland_contracts.values.sill_write.ended sillgarland.values.sill_write.Reads.Asked sillgarland.values.sill_write.Reads.Learnt

abbrev pub sill_write : Writer
sill_write =
    record {
      Calls = Write;
      tables = λ c. tables_of c.args.0.now c.args.1.0.now c.args.1.1.0.now c.args.1.1.1.0 c.args.1.1.1.1.0;
      root = λ c. c.args.1.1.1.1.1.0;
      nesting = λ c. c.args.1.1.1.1.1.1.0;
      room = λ c. length c.args.1.1.1.1.1.1.1.0.now;
      answer = λ c. wrote_in c.result;
      output = λ c. c.last.1.1.1.1.1.1.1.0;
    }
