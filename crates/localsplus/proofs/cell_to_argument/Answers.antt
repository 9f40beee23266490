-- `localsplus::cell_to_argument` meets its contract: either arm goes by whether an argument cell was found.
-- Assumes nothing.
use mathlib.Core.Path.{sym, ◌∙◌}
use Rattle.clearing.proofs.Laws.{padded_none}
use Rattle.localsplus.proofs.cell_to_argument.Goals as goal

pub returns-then-any_argument : goal.returns-then-any_argument
returns-then-any_argument c =
    let t = sym c.any_argument.ensures ∙ c.if-any_argument.true in
    (sym t, rw t c.write_arguments.ensures)

pub returns : goal.returns
returns c =
    let t = sym c.any_argument.ensures ∙ c.if-any_argument.false in
    (sym t, rw (t, padded_none) c.clear_words.ensures)
