-- `pieces::entry_here` meets its contract by what its callees ensure, each asked for where its test holds.
use mathlib.Core.Path.{sym, ◌∙◌}
use Rattle.lineentry.proofs.Bytes.{plain-told}
use Rattle.lineentry.proofs.Shorts.{long_is, read-numbers}
use Rattle.pieces.proofs.entry_here.Goals as goal

pub plain_entry-requires : goal.plain_entry-requires
plain_entry-requires c = plain-told _ _ (sym c.is_plain.ensures ∙ c.if-is_plain.true)

pub short_numbers-numbers-requires : goal.short_numbers-numbers-requires
short_numbers-numbers-requires c = long_is _ _ (sym c.is_long.ensures ∙ c.if-is_long.true)

pub long_entry-requires : goal.long_entry-requires
long_entry-requires c =
    let long = long_is _ _ (sym c.is_long.ensures ∙ c.if-is_long.true) in
    (long, read-numbers _ _ long c.short_numbers-numbers.ensures c.if-numbers.true)
