-- `totals::add_over` meets its contract: the second totals over zeros, then the first added to them.
-- Assumes nothing.
use Rattle.std.proofs.Common.{◌≡◌, ◌∙◌, refl, Err, length, rules}
use Rattle.totals.proofs.Adding.{added-short, fresh-alone, added-both, added-refused}
use Rattle.totals.proofs.add_over.Goals as goal

pub returns-in_err-hold_counters : goal.returns-in_err-hold_counters
returns-in_err-hold_counters c =
    let passed : c.from_residual.result ≡ Err c.in_err-hold_counters.field-0.0 = search rules in
    added-short _ _ _ _ refl passed c.in_err-hold_counters.ensures

pub returns-in_err-add_to : goal.returns-in_err-add_to
returns-in_err-add_to c =
    let passed : c.from_residual-in_err-add_to.result ≡ Err c.in_err-add_to.field-0.0 = search rules in
    rw passed (added-refused _ _ _ c.requires c.in_ok-hold_counters.ensures c.in_err-add_to.ensures refl)

pub add_to-requires-2 : goal.add_to-requires-2
add_to-requires-2 c = fresh-alone c.args.a.now c.args.b.now (length c.args.sum.now) c.requires c.in_ok-hold_counters.ensures c.in_ok-add_to.ensures refl

pub returns : goal.returns
returns c = c.add_to-2.ensures ∙ added-both _ _ _ c.requires c.in_ok-hold_counters.ensures c.in_ok-add_to.ensures refl
