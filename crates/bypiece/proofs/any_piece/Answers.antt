-- `bypiece::any_piece` meets its contract: what is looked at first decides.
use Rattle.pieces.proofs.Gates.{entered}
use Rattle.bypiece.proofs.Entering.{piece-shut, piece-stuck, piece_open}
use Rattle.bypiece.proofs.any_piece.Goals as goal

pub take_piece-requires : goal.take_piece-requires
take_piece-requires c = entered _ _ c.requires.0 c.requires.1 c.look.ensures c.in-Open.is

pub returns-in-Shut : goal.returns-in-Shut
returns-in-Shut c = piece-shut _ _ _ c.requires.0 c.requires.1 c.look.ensures c.in-Shut.is c.refuse.ensures

pub returns-in-Stuck : goal.returns-in-Stuck
returns-in-Stuck c = piece-stuck _ _ _ c.requires.0 c.requires.1 c.look.ensures c.in-Stuck.is c.stick_fault.ensures

pub returns-in-Open : goal.returns-in-Open
returns-in-Open c = piece_open _ _ _ c.requires.0 c.requires.1 c.look.ensures c.in-Open.is c.take_piece.ensures
