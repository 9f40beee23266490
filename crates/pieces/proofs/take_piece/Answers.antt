-- `pieces::take_piece` meets its contract: the tests decide which way of the definition holds.
use mathlib.Core.Path.{refl, sym, ap}
use native.Mathlib.Omega.{arith}
use Rattle.pieces.proofs.Settles.{leaves_same}
use Rattle.pieces.proofs.Enters.{bytes-upto, opened, piece-long, piece-over, piece_on}
use Rattle.pieces.proofs.take_piece.Goals as goal
use Rattle.piecestate.specs.Answers.{stuck}

pub overflow_sub-k : goal.overflow_sub-k
overflow_sub-k c = omega (arith, bytes-upto c.args.k c.args.state.now c.args.records.now c.requires)

pub returns-then-k-piece : goal.returns-then-k-piece
returns-then-k-piece c =
    let a = c.args in
    let p = c.requires in
    leaves_same (piece-long a.k a.state.now a.records.now p a.piece.now (omega (arith, bytes-upto a.k a.state.now a.records.now p)))
    (leaves_same (ap (stuck a.state.now a.records.now) (sym c.at.ensures)) c.stick_fault.ensures)

pub returns-then-k : goal.returns-then-k
returns-then-k c =
    let a = c.args in
    let p = c.requires in
    leaves_same (piece-over a.k a.state.now a.records.now p a.piece.now (omega (arith, bytes-upto a.k a.state.now a.records.now p)) c.if-k.true)
    (record { answers = refl; states = refl; fills = refl })

pub take_going-requires : goal.take_going-requires
take_going-requires c =
    let a = c.args in
    let p = c.requires in
    opened a.k a.state.now a.records.now p a.piece.now (omega (arith, bytes-upto a.k a.state.now a.records.now p)) c.if-k.false

pub returns : goal.returns
returns c =
    let a = c.args in
    let p = c.requires in
    leaves_same
    (piece_on a.k a.state.now a.records.now p a.piece.now (omega (arith, bytes-upto a.k a.state.now a.records.now p)) c.if-k.false)
    c.take_going.ensures
