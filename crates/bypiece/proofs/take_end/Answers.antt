-- `bypiece::take_end` meets its contract: the tests decide which way of the definition holds.
use mathlib.Core.Path.{refl, ap}
use Rattle.std.specs.Prelude.{Ok}
use Rattle.pieces.proofs.Closes.{end_over, end_placed, end_held_by}
use Rattle.bypiece.proofs.Entering.{leaves_same}
use Rattle.bypiece.proofs.Ends.{ending, held_few}
use Rattle.bypiece.proofs.take_end.Goals as goal

pub end_bare-requires : goal.end_bare-requires
end_bare-requires c =
    let a = c.args in
    ending a.state.now a.records.now a.k c.requires

pub returns-then-k : goal.returns-then-k
returns-then-k c =
    let a = c.args in
    leaves_same (end_over a.state.now a.records.now a.k c.if-k.true) c.end_bare.ensures

pub returns-then-k-2 : goal.returns-then-k-2
returns-then-k-2 c =
    let a = c.args in
    leaves_same (end_placed a.state.now a.records.now a.k c.if-k.false c.if-k-2.true)
    (record { answers = ap Ok c.finish.ensures.0; states = c.finish.ensures.1; fills = refl })

pub end_held-requires : goal.end_held-requires
end_held-requires c =
    let a = c.args in
    (ending a.state.now a.records.now a.k c.requires, held_few a.state.now a.records.now a.k c.requires c.if-k.false)

pub returns : goal.returns
returns c =
    let a = c.args in
    leaves_same (end_held_by a.state.now a.records.now a.k c.if-k.false c.if-k-2.false) c.end_held.ensures
