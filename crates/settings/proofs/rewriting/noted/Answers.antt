-- `settings::rewriting::noted` meets its contract, by the laws of this crate that it names.
-- Assumes nothing.
use mathlib.Core.Path.{ap, ◌∙◌}
use native.Mathlib.Omega.{arith}
use lib.ListN.{get_or}
use Rattle.settings.proofs.rewriting.noted.Goals as goal

pub returns : goal.returns
returns c = ap (λ i. get_or c.args.own.places.now i 0) c.from.ensures ∙ c.args.own.noted _ (omega (arith, c.type_inv.other c.args.at))
