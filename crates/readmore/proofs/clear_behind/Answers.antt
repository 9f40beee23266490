-- `readmore::clear_behind` meets its contract: the tail is lent and comes back zero. Assumes nothing.
use Rattle.readmore.proofs.Laying.{cleared-behind, nothing_behind_lem}
use native.Mathlib.Omega.{arith}
use Rattle.readmore.proofs.clear_behind.Goals as goal

pub returns-then-stay-store : goal.returns-then-stay-store
returns-then-stay-store c =
    let b = c.args in
    cleared-behind b.stay b.store.now (omega arith) c.clear_words.ensures

pub returns-else-stay-store : goal.returns-else-stay-store
returns-else-stay-store c = let b = c.args in nothing_behind_lem b.stay b.store.now c.if-stay-store.false
