-- `totals::count_over` meets its contract: the counts alone, then `before` added to them.
-- Assumes nothing.
use Rattle.std.proofs.Common.{◌≡◌, ◌∙◌, refl, Err, arith, rules}
use Rattle.totals.proofs.Adding.{totals-short, fresh_tallied, totals_summed, totals_unknown}
use Rattle.totals.proofs.count_over.Goals as goal

pub returns-in_err-hold_counters : goal.returns-in_err-hold_counters
returns-in_err-hold_counters c =
    let passed : c.from_residual.result ≡ Err c.in_err-hold_counters.field-0.0 = search rules in
    totals-short _ _ _ _ refl passed c.in_err-hold_counters.ensures

pub returns-in_err-tally : goal.returns-in_err-tally
returns-in_err-tally c =
    let passed : c.from_residual-in_err-tally.result ≡ Err c.in_err-tally.field-0.0 = search rules in
    totals_unknown _ _ _ c.in_ok-hold_counters.ensures c.tally.auto.after c.in_err-tally.ensures.counted passed c.in_err-tally.ensures.refused

pub add_to-requires : goal.add_to-requires
add_to-requires c = fresh_tallied (omega (arith, c.in_ok-hold_counters.ensures, c.tally.auto.after)) c.in_ok-tally.ensures.counted refl

pub returns : goal.returns
returns c =
    c.add_to.ensures
    ∙ totals_summed _ _ _ c.in_ok-hold_counters.ensures c.tally.auto.after c.in_ok-tally.ensures.counted refl
