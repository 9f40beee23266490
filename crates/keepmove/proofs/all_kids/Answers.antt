-- `all_kids` meets its contract by the laws cited here. Assumes nothing.
use mathlib.Core.Path.{refl, sym, ap, ◌∙◌}
use native.Mathlib.Omega.{arith}
use lib.Seq.{get_or-take, length-take-le}
use Rattle.grammar.specs.State.{node_at}
use Rattle.keepmove.proofs.Containers.{all_kids-room, all_kids_more, all_kids-done}
use Rattle.keepmove.proofs.all_kids.Goals as goal

pub loop-i-init : goal.loop-i-init
loop-i-init c = record { comes = refl; same = refl; left = omega arith }

pub gather_kids-requires : goal.gather_kids-requires
gather_kids-requires c =
    let a = c.args in
    let size = length-take-le a.kept a.visited.now c.requires.1 in
    let read = get_or-take a.kept a.visited.now c.loop-i.i 0 c.loop-i-test.true in
    (c.requires.0, all_kids-room c.loop-i.invariant (omega (arith, size)) c.requires.2 (c.count_of-count.ensures ∙ ap (λ n. (node_at a.nodes.now n).count) (sym read)))

pub loop-i-preserved : goal.loop-i-preserved
loop-i-preserved c =
    let a = c.args in
    let size = length-take-le a.kept a.visited.now c.requires.1 in
    let read = get_or-take a.kept a.visited.now c.loop-i.i 0 c.loop-i-test.true in
    all_kids_more c.loop-i.invariant (omega (arith, size)) (c.count_of-count.ensures ∙ ap (λ n. (node_at a.nodes.now n).count) (sym read))
    (c.first_of-first.ensures ∙ ap (λ n. (node_at a.nodes.now n).first) (sym read)) c.gather_kids.ensures

pub returns : goal.returns
returns c = all_kids-done c.loop-i.invariant (omega (arith, length-take-le c.args.kept c.args.visited.now c.requires.1))
