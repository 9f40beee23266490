-- `bypiece::end_held` meets its contract: the held bytes stand at the front, and their entry decides.
use mathlib.Core.Path.{refl, sym, ap}
use lib.ListN.{replicate}
use Rattle.piecestate.specs.Answers.{stuck}
use Rattle.bypiece.proofs.Entering.{leaves_same}
use Rattle.bypiece.proofs.Ends.{read_held, by_entry}
use Rattle.bypiece.proofs.end_held.Goals as goal

pub returns-in-OutOfRange : goal.returns-in-OutOfRange
returns-in-OutOfRange c =
    let a = c.args in
    let p = c.requires in
    by_entry a.state.now a.records.now a.k _ (read_held a.state.now a.records.now p.0 p.1 (replicate 25 0) refl c.fetch.ensures c.read_entry.ensures) c.in-OutOfRange.is (leaves_same (ap (stuck a.state.now a.records.now) (sym c.at.ensures)) c.stick_fault.ensures)

pub returns-in-Stop : goal.returns-in-Stop
returns-in-Stop c =
    let a = c.args in
    let p = c.requires in
    by_entry a.state.now a.records.now a.k _ (read_held a.state.now a.records.now p.0 p.1 (replicate 25 0) refl c.fetch.ensures c.read_entry.ensures) c.in-Stop.is c.end_bare.ensures

pub returns-in-Covers : goal.returns-in-Covers
returns-in-Covers c =
    let a = c.args in
    let p = c.requires in
    by_entry a.state.now a.records.now a.k _ (read_held a.state.now a.records.now p.0 p.1 (replicate 25 0) refl c.fetch.ensures c.read_entry.ensures) c.in-Covers.is c.end_cut.ensures
