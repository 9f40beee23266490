-- `sillgarland::joins::line_number` meets its contract: the signed number that the kept line stands for.
-- Assumes nothing.
use mir.Syntax.{w32}
use mir.Facts.{of_z-to_z}
use borrow.Author.Rules.{rules}
use Rattle.sillgarland.proofs.joins.line_number.Goals as goal

pub returns : goal.returns
returns c = rw (c.signed32.ensures, of_z-to_z {w = w32} {n = c.as_signed.result} (search rules), c.as_signed.ensures)
