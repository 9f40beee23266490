-- `by_tables` makes the tables as the definitions have them, and reads by them.
use mathlib.Core.Path.{refl}
use Rattle.wtf8.specs.Leads.{lead_table}
use Rattle.fields.specs.Headers.{header_table}
use Rattle.reader.proofs.by_tables.Goals as goal

pub invariant_of-tables : goal.invariant_of-tables
unfolding header_table
invariant_of-tables c = record { right = refl }

pub invariant_of-tables-2 : goal.invariant_of-tables-2
unfolding lead_table
invariant_of-tables-2 c = record { right = refl }
