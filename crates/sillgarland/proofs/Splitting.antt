-- The split handed on as numbers: the export's promise is `split_localplus`'s.
-- Assumes nothing.
use mathlib.Core.Path.{◌≡◌, ap, subst, ◌∙◌}
use Prim.Native.Nat.{ℕ}
use mathlib.Core.List.{List}
use Rattle.std.specs.Prelude.{Result}
use Rattle.refusals.specs.declared.Fault.{Fault}
use Rattle.localsplus.specs.declared.Split.{Split}
use Rattle.localsplus.specs.Answer.{IsSplit}
use Rattle.sillgarland.specs.declared.locals.SillSplit.{SillSplit}
use Rattle.sillgarland.specs.Locals.{split_struct, SplitAs}

pub split_handed :
    {kinds : List ℕ} {names args kwonly flags : ℕ} {locals cells frees map arguments locals' cells' frees' map' arguments' : List ℕ}
    {answer : Result Split Fault} {r : SillSplit}
    → r ≡ split_struct answer
    → IsSplit kinds names args kwonly flags locals cells frees map arguments answer locals' cells' frees' map' arguments'
    → SplitAs kinds names args kwonly flags locals cells frees map arguments r locals' cells' frees' map' arguments'
split_handed {kinds} {names} {args} {kwonly} {flags} {locals} {cells} {frees} {map} {arguments} {locals'} {cells'} {frees'} {map'} {arguments'} is split =
    record {
      numbers = is ∙ ap split_struct split.answer;
      stores =
          subst (λ a. IsSplit kinds names args kwonly flags locals cells frees map arguments a locals' cells' frees' map' arguments') split.answer split;
    }
