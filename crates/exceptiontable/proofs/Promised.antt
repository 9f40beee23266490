-- What K1 promises of exception tables: the laws of ReadsBack, in the words of specs/Promised. Assumes nothing.
use native.Mathlib.Nat.{zero-add}
use native.Mathlib.Omega.{arith}
use lib.ListN.{length}
use Rattle.exceptiontable.specs.Promised.{Promised}
use Rattle.exceptiontable.proofs.ReadsBack.{table_reads_back, run-told, table_shortest, written-again, fit_written}

pub exception_tables_keep_their_promises : Promised
exception_tables_keep_their_promises =
    record {
      reads_back = table_reads_back;
      shortest = table_shortest;
      again = λ table es e. ((run-told table (length table) 0 es (omega arith) e).1, (written-again table es e).1);
      written = λ room es f h. rw zero-add at (fit_written room 0 es f (omega (arith, h)));
    }
