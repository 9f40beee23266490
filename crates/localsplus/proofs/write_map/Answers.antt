-- `localsplus::write_map` meets its contract: the laws of a walk carry the loop; the ranks stay below the names passed.
-- Assumes nothing.
use mathlib.Core.Path.{refl, sym, ap, ◌∙◌}
use borrow.Author.Rules.{rules}
use Rattle.clearing.specs.Lent.{zeros}
use Rattle.localsplus.proofs.Turns.{map-one, map_end}
use Rattle.localsplus.proofs.Walk.{walk_start, walk_put, walk-done}
use Rattle.localsplus.proofs.write_map.Goals as goal

pub loop-i-init : goal.loop-i-init
loop-i-init c = (walk_start (c.clear_words.ensures ∙ ap zeros (sym c.clear_words.auto.words)) (search rules) (search rules), search rules, search rules)

pub loop-i-preserved : goal.loop-i-preserved
loop-i-preserved c =
    let h = c.loop-i-test.true in
    let k = c.loop-i.invariant in
    (walk_put k.0 h (map-one _ _ h _ _ ∙ rw (← c.map_number.ensures, ← c.count_bit-cell.ensures.0, ← c.count_bit-free.ensures.0)) refl refl, search rules, search rules)

pub returns : goal.returns
returns c = (walk-done c.loop-i.invariant.0 c.loop-i-test.false (map_end _ _ c.loop-i-test.false _ _) c.clear_words.auto.words).2
