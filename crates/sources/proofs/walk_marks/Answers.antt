-- `sources::walk_marks` meets its contract: the loop's invariant is that what is left still comes to the same bytes, and each way out of a
-- turn is a law of proofs/Going. Assumes nothing.
use mathlib.Core.Path.{sym, ◌∙◌}
use native.Mathlib.Omega.{arith}
use Rattle.lineentry.proofs.Entries.{entry-places, refused-inside}
use Rattle.linetable.proofs.Stores.{cleared_behind}
use Rattle.salvage.proofs.Salvages.{entry-most}
use Rattle.sources.proofs.Turning.{given, stopped, refused}
use Rattle.sources.proofs.Going.{going_start, ends-stop, ends-refused, ends_all, goes_on}
use borrow.Author.Rules.{rules}
use Rattle.sources.proofs.walk_marks.Goals as goal

pub loop-i-init : goal.loop-i-init
loop-i-init c = going_start _ _ _ _ c.requires.1

pub overflow_cast-at : goal.overflow_cast-at
overflow_cast-at c = omega (arith, refused-inside _ _ _ (refused _ _ _ (sym c.in-Refuses.is ∙ c.turn_here.ensures)))

pub returns-in-Refuses : goal.returns-in-Refuses
returns-in-Refuses c = ends-refused c.loop-i.invariant (omega arith) (refused _ _ _ (sym c.in-Refuses.is ∙ c.turn_here.ensures)) c.refuse.ensures

pub overflow_cast-i : goal.overflow_cast-i
overflow_cast-i c = omega (arith, c.loop-i.invariant.upto, c.ranges.count)

pub have-requires : goal.have-requires
have-requires c = c.loop-i.invariant.few

pub returns-in-Stops : goal.returns-in-Stops
returns-in-Stops c = ends-stop c.loop-i.invariant (omega arith) (stopped _ _ _ (sym c.in-Stops.is ∙ c.turn_here.ensures)) (cleared_behind _ _ (omega arith) c.clear_bytes.ensures) c.have.ensures

pub fill_up-requires : goal.fill_up-requires
fill_up-requires c =
    let taken = given _ _ _ _ (sym c.in-Gives.is ∙ c.turn_here.ensures) in
    (search rules, omega (arith, entry-most _ _ _ _ taken.stands, taken.instructions_same, c.min-n.ensures))

pub overflow_cast-n : goal.overflow_cast-n
overflow_cast-n c = omega (arith, c.min-n.ensures, c.ranges.count)

pub lack_more-lacks-requires : goal.lack_more-lacks-requires
lack_more-lacks-requires c = (omega (arith, c.min-n.ensures, c.loop-i.invariant.upto, c.ranges.count), c.loop-i.invariant.few)

pub overflow_add-i : goal.overflow_add-i
overflow_add-i c = omega (arith, c.min-n.ensures, c.loop-i.invariant.upto, c.ranges.count)

pub loop-i-smaller : goal.loop-i-smaller
loop-i-smaller c =
    let taken = given _ _ _ _ (sym c.in-Gives.is ∙ c.turn_here.ensures) in
    omega (arith, entry-places _ _ _ _ taken.stands, taken.instructions_same, c.min-n.ensures)

pub loop-i-preserved : goal.loop-i-preserved
loop-i-preserved c =
    let taken = given _ _ _ _ (sym c.in-Gives.is ∙ c.turn_here.ensures) in
    goes_on c.loop-i.invariant _ _ _ _ (omega arith) taken c.min-n.ensures (omega (arith, entry-most _ _ _ _ taken.stands, taken.instructions_same, c.min-n.ensures)) c.fill_up.ensures c.lack_more-lacks.ensures

pub overflow_cast-i-2 : goal.overflow_cast-i-2
overflow_cast-i-2 c = omega (arith, c.loop-i.invariant.upto, c.ranges.count)

pub have-requires-2 : goal.have-requires-2
have-requires-2 c = c.loop-i.invariant.few

pub returns : goal.returns
returns c = ends_all c.loop-i.invariant (omega arith) (cleared_behind _ _ (omega arith) c.clear_bytes-2.ensures) c.have-2.ensures
