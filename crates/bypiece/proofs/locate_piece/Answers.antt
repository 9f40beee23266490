-- `bypiece::locate_piece` meets its contract: numbers that are a state let any piece in.
use Rattle.bypiece.proofs.Entering.{piece_none}
use Rattle.bypiece.proofs.locate_piece.Goals as goal

pub returns-then-state-lt-STATE_NUMBERS : goal.returns-then-state-lt-STATE_NUMBERS
returns-then-state-lt-STATE_NUMBERS c =
    let a = c.args in
    piece_none a.bytes.now a.state.now a.records.now c.if-state-lt-STATE_NUMBERS.true c.no_state.ensures
