-- `all_links` meets its contract by the laws cited here. Assumes nothing.
use mathlib.Core.Path.{refl}
use native.Mathlib.Omega.{arith}
use Rattle.keepmove.proofs.Containers.{all_links-room, all_links_more, all_links-done}
use Rattle.keepmove.proofs.all_links.Goals as goal

pub loop-i-init : goal.loop-i-init
loop-i-init c = record { comes = refl; same = refl; left = omega arith }

pub gather_links-requires : goal.gather_links-requires
gather_links-requires c = omega (arith, c.requires, all_links-room c.loop-i.invariant c.loop-i-test.true c.requires.0 c.count_of-count.ensures)

pub overflow_add-number : goal.overflow_add-number
overflow_add-number c = omega (arith, c.requires, all_links-room c.loop-i.invariant c.loop-i-test.true c.requires.0 c.count_of-count.ensures)

pub loop-i-preserved : goal.loop-i-preserved
loop-i-preserved c = all_links_more c.loop-i.invariant c.loop-i-test.true c.count_of-count.ensures c.gather_links.ensures

pub returns : goal.returns
returns c = all_links-done c.loop-i.invariant c.loop-i-test.false
