-- What document 02's requests, and the sources of rows beside them, promise, each on a page of its own crate, over the definitions that the
-- exports' contracts cite.
use Rattle.exceptiontable.specs.Promised.{Promised as ExceptionTablesPromised}
use Rattle.totals.specs.Promised.{Promised as TotalsPromised}
use Rattle.printedtotals.specs.Promised.{Promised as PrintedTotalsPromised}
use Rattle.salvage.specs.Promised.{Promised as RepairPromised}
use Rattle.cuttings.specs.Promised.{Promised as PiecesPromised}
use Rattle.join.specs.Promised.{Promised as JoinPromised, LinePromised}
use Rattle.taggedfields.specs.Promised.{Promised as FieldsPromised}
use Rattle.settings.specs.Promised.{Promised as SettingsPromised}
use Rattle.editions.specs.Promised.{Promised as EditionsPromised}
use Rattle.goldentrips.specs.Promised.{Promised as GoldensPromised}
use Rattle.sources.specs.Beside.{BesideLocated}
use Rattle.sources.specs.Repaired.{Repaired}
use Rattle.starts.specs.Promised.{Promised as StartsPromised}
use Rattle.alone.specs.Promised.{Promised as SpansPromised}
use Rattle.carried.specs.Promised.{Promised as MovesPromised}
use Rattle.appended.specs.Promised.{Promised as AppendsPromised}
use Rattle.oneinput.specs.Promised.{Promised as InputsPromised}

pub record Requests : Type 0 where
  -- K1: "Write the same entries back in shortest form .. a written table reads as the same entries."
  pub exception_tables : ExceptionTablesPromised
  -- K6: "Locations, totals and "whole" equal those of the joined table"
  pub pieces : PiecesPromised
  -- K9: "a repair that takes a table, first line and instruction count and makes a whole one"
  pub repair : RepairPromised
  -- K12: "A followed by B must then give A's locations followed by B's, and be whole for a + b."
  pub join : JoinPromised
  -- K12: "leaving the running line at g"
  pub line : LinePromised
  -- K4: "how many starts lie before instruction n, and where is the k-th start .. Both equal a count over the locations themselves."
  pub row-starts : StartsPromised
  -- K7: "On yes, the span read alone gives the same value once each index in it is lowered by the slots reserved before the node."
  pub spans : SpansPromised
  -- K11: "The kept value is the same, shared nodes stay shared, slots are cleared, and the reported room freed is what a new read can claim."
  pub moves : MovesPromised
  -- K11: "New reads append to the kept nodes from these counts; demand 3 then counts kept plus new"
  pub appends : AppendsPromised
  -- K11: "Kept nodes keep the input they name; appended nodes take an input number"
  pub inputs : InputsPromised
  -- K14: "Accepted plus refused is inputs", and totals of parts add up
  pub totals : TotalsPromised
  -- K14: "print exact counts in this form and order"
  pub printed_totals : PrintedTotalsPromised
  -- K8: "Fields have a one-byte tag and two-byte little-endian length .. and a tag occurs once."
  pub tagged_fields : FieldsPromised
  -- K8: "An older harness keeps tags it does not know byte for byte when rewriting."
  pub settings : SettingsPromised
  -- K8: "Each saved file is kept whole; rolling back to an edition gives exactly that file's fields."
  pub editions : EditionsPromised
  -- K13: "Move old to new and back; the old bytes return exactly, since references never cross the two values."
  pub goldens : GoldensPromised
  -- the bytes of `sill_sources` beside the places of `sill_locate`
  pub sources : BesideLocated
  -- and of a table that was repaired
  pub sources_repaired : Repaired
