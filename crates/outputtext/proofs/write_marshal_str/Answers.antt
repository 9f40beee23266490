-- Carried by the laws of short strings. Assumes nothing.
use Rattle.output.proofs.Laws.{puts_as}
use Rattle.outputtext.proofs.Strings.{string-short, string-long}
use Rattle.outputtext.proofs.write_marshal_str.Goals as goal

pub write_short-requires : goal.write_short-requires
write_short-requires c = (c.requires, c.is_short.ensures.small c.if-is_short.true)

pub returns-then-is_short : goal.returns-then-is_short
returns-then-is_short c = puts_as c.write_short.ensures (string-short c.is_short.ensures c.if-is_short.true)

pub returns : goal.returns
returns c = puts_as c.write_vec.ensures (string-long c.is_short.ensures c.if-is_short.false)
