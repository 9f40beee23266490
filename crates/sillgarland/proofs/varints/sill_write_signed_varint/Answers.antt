-- `sillgarland::varints::sill_write_signed_varint` meets its contract: the answer of `varint::write_signed_varint`, handed on as numbers.
-- Assumes nothing.
use mir.Facts.{to_z-of_z}
use Rattle.sillgarland.specs.Varints.{written_struct}
use Rattle.sillgarland.proofs.Handing.{handed}
use Rattle.sillgarland.proofs.varints.sill_write_signed_varint.Goals as goal

pub returns : goal.returns
returns c = handed written_struct c.from.ensures (simp (to_z-of_z c.ranges.value) at c.write_signed_varint.ensures)
