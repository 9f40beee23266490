-- `sources::turn_here` meets its contract by what its callees ensure, each asked for where its test holds. Assumes nothing.
use mathlib.Core.Path.{sym, ◌∙◌}
use Rattle.lineentry.proofs.Bytes.{plain-told}
use Rattle.lineentry.proofs.Shorts.{long_is, read-numbers}
use Rattle.sources.proofs.turn_here.Goals as goal

pub plain_turn-requires : goal.plain_turn-requires
plain_turn-requires c = plain-told _ _ (sym c.is_plain.ensures ∙ c.if-is_plain.true)

pub short_numbers-numbers-requires : goal.short_numbers-numbers-requires
short_numbers-numbers-requires c = long_is _ _ (sym c.is_long.ensures ∙ c.if-is_long.true)

pub long_turn-requires : goal.long_turn-requires
long_turn-requires c = let long = long_is _ _ (sym c.is_long.ensures ∙ c.if-is_long.true) in (long, read-numbers _ _ long c.short_numbers-numbers.ensures c.if-numbers.true)
