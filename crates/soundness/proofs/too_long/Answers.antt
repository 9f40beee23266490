-- `soundness::too_long` meets its contract: the size, then the letter.
-- Assumes nothing.
use mathlib.Core.Path.{sym, ap}
use mathlib.Core.List.{[], ◌∷◌}
use borrow.Author.Tests.{lt-leb, le-leb}
use Rattle.grammar.specs.Letters.{among}
use Rattle.soundness.proofs.too_long.Goals as goal

pub returns-then-size-le255 : goal.returns-then-size-le255
returns-then-size-le255 c = rw (le-leb _ 255 c.if-size-le255.true)

pub returns-in-122 : goal.returns-in-122
returns-in-122 c = rw (lt-leb _ 255 c.if-size-le255.false) (sym (ap (λ l. among l (0x7A ∷ 0x5A ∷ [])) c.in-122.is))

pub returns-in-90 : goal.returns-in-90
returns-in-90 c = rw (lt-leb _ 255 c.if-size-le255.false) (sym (ap (λ l. among l (0x7A ∷ 0x5A ∷ [])) c.in-90.is))
